-- `totals::measure::measure` meets its contract: the table is checked first. Assumes nothing.
use mathlib.Core.Path.{ap, ◌∙◌}
use Rattle.answer.specs.Answers.{accepted_with, after}
use Rattle.answer.proofs.Laws.Order.{accepted-first}
use Rattle.formula.specs.Tables.{nodes_of}
use Rattle.marks.specs.Sets.{set_checked}
use Rattle.clausal.specs.Clauses.{renaming}
use Rattle.clausal.specs.Totals.{Size}
use Rattle.clausal.proofs.Options.{totals-options}
use Rattle.totals.proofs.measure.measure.Goals as goal

-- no total depends on what is taken
pub returns : goal.returns
returns c =
    let s = c.args.set.now in
    let ns = nodes_of c.args.table.now in
    accepted-first _ _ c.check.ensures _ _ _ c.in_ok-check.was
    (c.measure_under.ensures
    ∙ ap (λ (x : Size). after (set_checked ns s) (accepted_with x.clauses x.literals))
    (totals-options (renaming 0 s) c.args.options ns))
