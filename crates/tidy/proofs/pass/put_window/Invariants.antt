-- `tidy::pass::put_window` meets its contract: clause after clause is put, each at its place and by its first clause.
-- Assumes nothing.
use lib.ListN.{length}
use Rattle.tidy.proofs.Laws.Passing.{Passing}
use Rattle.tidy.proofs.pass.put_window.Given as goal

abbrev pub invariant-loop-i : goal.invariant-loop-i
invariant-loop-i l = Passing l.bytes l.start (length l.firsts) l.initial.out l.initial.lines l.initial.drawn l.out l.lines l.drawn l.at l.i
