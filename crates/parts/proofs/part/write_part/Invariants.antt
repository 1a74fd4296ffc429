-- `parts::part::write_part` meets its contract. The loop's invariant: k clauses are written. Assumes nothing.
use Rattle.parts.proofs.Laws.Loops.{Writing}
use Rattle.parts.proofs.part.write_part.Given as goal

abbrev pub invariant-loop-k : goal.invariant-loop-k
invariant-loop-k l = Writing l.nodes l.has l.node l.sign l.initial.out l.at l.next l.k l.out
