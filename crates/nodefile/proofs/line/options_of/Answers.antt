-- `nodefile::line::options_of` meets its contract: the word, a number, and no field more. Assumes nothing.
use mathlib.Core.Path.{◌≡◌, sym, ◌∙◌}
use mathlib.Core.Bool.{true}
use lib.ListN.{take}
use Rattle.text.specs.Texts.{same}
use Rattle.text.proofs.Laws.Pieces.{field_told}
use Rattle.nodefile.specs.Files.{tab, most_number, options_word}
use Rattle.nodefile.proofs.Laws.Options.{options-word, options-number, options-more, options-right}
use Rattle.nodefile.proofs.line.options_of.Goals.{Else-not-is_same}
use Rattle.nodefile.proofs.line.options_of.Goals as goal

-- the first field is the word
worded : (c : Else-not-is_same)
    → true ≡ same (take c.find-end.result c.args.line.now) options_word
worded c = sym c.if-not-is_same.false ∙ c.is_same.ensures

-- another word
pub returns-then-not-is_same : goal.returns-then-not-is_same
returns-then-not-is_same c =
    options-word c.args.line.now c.find-end.result c.find-end.ensures (sym c.if-not-is_same.true ∙ c.is_same.ensures)

-- no number
pub returns-in_err-count : goal.returns-in_err-count
returns-in_err-count c =
    let line = c.args.line.now in
    c.from_residual.ensures
    ∙ options-number line c.find-end.result c.find-end.ensures (worded (goal.at.returns-in_err-count c).Else-not-is_same)
    (field_told tab most_number line _ c.number_at.ensures c.in_err-count.was)

-- a field more
pub returns-then-count-line : goal.returns-then-count-line
returns-then-count-line c =
    let line = c.args.line.now in
    options-more line c.find-end.result c.find-end.ensures (worded (goal.at.returns-then-count-line c).Else-not-is_same)
    (field_told tab most_number line _ c.number_at.ensures c.in_ok-count.was) c.if-count-line.true

-- the option count
pub returns : goal.returns
returns c =
    let line = c.args.line.now in
    options-right line c.find-end.result c.find-end.ensures (worded (goal.at.returns c).Else-not-is_same)
    (field_told tab most_number line _ c.number_at.ensures c.in_ok-count.was) c.if-count-line.false
