-- `marks::mark::mark_all` meets its contract. The loop's invariant: what is left to do gives the marks of all nodes.
-- Assumes nothing.
use Rattle.marks.proofs.Laws.Passing.{Passing}
use Rattle.marks.proofs.mark.mark_all.Given as goal

abbrev pub invariant-loop-i : goal.invariant-loop-i
invariant-loop-i l = Passing l.table l.i l.marks
