-- `parts::part::write_definitions` meets its contract. The loop's invariant: the definitions of the nodes below i are written.
-- Assumes nothing.
use native.Mathlib.Omega.{arith}
use Rattle.formula.proofs.Laws.Tables.{length-nodes_of}
use Rattle.parts.proofs.Laws.Loops.{defining_start, defining_next, defining_step, defining_end}
use Rattle.parts.proofs.part.write_definitions.Goals as goal

pub loop-i-init : goal.loop-i-init
loop-i-init c = defining_start _ _ c.args.out.now c.args.at c.requires

pub write_definition-next-requires : goal.write_definition-next-requires
write_definition-next-requires c =
    defining_next _ _ _ _ _ _ _ c.loop-i.invariant (omega (arith, length-nodes_of c.args.nodes.now.table.now))

pub loop-i-preserved : goal.loop-i-preserved
loop-i-preserved c =
    defining_step _ _ _ _ _ _ _ c.loop-i.invariant _ _ (omega (arith, length-nodes_of c.args.nodes.now.table.now))
    c.write_definition-next.ensures

pub returns : goal.returns
returns c = defining_end _ _ _ _ _ _ _ c.loop-i.invariant (omega (arith, length-nodes_of c.args.nodes.now.table.now))
