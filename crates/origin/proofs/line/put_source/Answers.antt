-- `origin::line::put_source` meets its contract: six runs, one behind the other. Assumes nothing.
use native.Mathlib.Omega.{arith}
use Rattle.origin.proofs.Laws.Pens.{drawn-both}
use Rattle.origin.proofs.line.put_source.Goals as goal

pub overflow_cast-spot-2 : goal.overflow_cast-spot-2
overflow_cast-spot-2 c =
    record { fits = omega (arith, c.requires.node_bound.1) }

pub returns : goal.returns
returns c =
    drawn-both _ _ _ _ _ _ _ _ c.put_field-clause.ensures
    (drawn-both _ _ _ _ _ _ _ _ c.put_field-node.ensures
    (drawn-both _ _ _ _ _ _ _ _ c.put_field-named.ensures
    (drawn-both _ _ _ _ _ _ _ _ c.put_direction-word.ensures
    (drawn-both _ _ _ _ _ _ _ _ c.put-tab.ensures c.put_decimal.ensures))))

pub shape_of-out : goal.shape_of-out
shape_of-out c =
    (returns c).size
