-- `parts::part::write_definitions` meets its contract. The loop's invariant: the definitions of the nodes below i are written.
-- Assumes nothing.
use Rattle.parts.proofs.Laws.Loops.{Defining}
use Rattle.parts.proofs.part.write_definitions.Given as goal

abbrev pub invariant-loop-i : goal.invariant-loop-i
invariant-loop-i l = Defining l.nodes l.marks l.initial.out l.at l.i l.next l.out
