-- `choose::pass::visit` meets its contract: a node that is tried is attempted, another stays as it is. Assumes nothing.
use mathlib.Core.Path.{sym, ◌∙◌}
use native.Mathlib.Omega.{arith}
use Rattle.formula.specs.Tables.{nodes_of}
use Rattle.formula.proofs.Laws.Tables.{length-nodes_of}
use Rattle.choose.proofs.Laws.Visits.{untried, skipped, visited-by}
use Rattle.choose.proofs.pass.visit.Goals as goal

pub attempt-requires : goal.attempt-requires
attempt-requires c =
    let a = c.args in
    record {
      visitable = c.requires;
      other = untried a.way (nodes_of a.table.now) a.i _ _ _ _ c.requires.stands
          (omega (arith, c.requires.inside, length-nodes_of a.table.now)) (sym c.is_tried.ensures ∙ c.if-is_tried.true);
    }

pub returns-then-is_tried : goal.returns-then-is_tried
returns-then-is_tried c =
    visited-by _ _ _ _ _ _ _ _ _ (sym c.is_tried.ensures ∙ c.if-is_tried.true) c.attempt.ensures

pub returns : goal.returns
returns c =
    let a = c.args in
    skipped a.way (nodes_of a.table.now) a.i _ _ _ _ c.requires.stands c.requires.below
    (omega (arith, c.requires.inside, length-nodes_of a.table.now)) (sym c.is_tried.ensures ∙ c.if-is_tried.false)
