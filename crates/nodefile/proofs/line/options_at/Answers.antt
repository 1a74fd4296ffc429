-- `nodefile::line::options_at` meets its contract: the line ends at the first newline. Assumes nothing.
use mathlib.Core.Path.{sym, ◌∙◌, subst⁻¹}
use Rattle.nodefile.specs.Files.{option_line}
use Rattle.nodefile.specs.Inner.Steps.{OptionsFound}
use Rattle.nodefile.proofs.Laws.Lines.{next-open, options_fail, options-are}
use Rattle.nodefile.proofs.line.options_at.Goals as goal

-- no newline
pub returns-then-newline-text : goal.returns-then-newline-text
returns-then-newline-text c =
    let text = c.args.text.now in
    next-open option_line text 0 c.find-newline.result c.find-newline.ensures c.if-newline-text.true

-- a wrong line
pub returns-in_err-says : goal.returns-in_err-says
returns-in_err-says c =
    let text = c.args.text.now in
    subst⁻¹ (OptionsFound text) c.from_residual.ensures
    (options_fail text c.find-newline.result c.find-newline.ensures c.if-newline-text.false (sym c.in_err-says.was ∙ c.options_of.ensures))

pub returns : goal.returns
returns c =
    options-are c.args.text.now c.find-newline.result c.find-newline.ensures c.if-newline-text.false _
    (sym c.in_ok-says.was ∙ c.options_of.ensures)
