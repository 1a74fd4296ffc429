-- `choose::pass::pass` meets its contract. The loop's invariant: what is left to do gives the whole choice. Assumes nothing.
use Rattle.choose.proofs.Laws.Pass.{Passing}
use Rattle.choose.proofs.pass.pass.Given as goal

abbrev pub invariant-loop-i : goal.invariant-loop-i
invariant-loop-i l =
    Passing l.table l.marks l.way l.picks l.initial.set l.i l.picked.picks l.picked.total.n l.set l.columns.clauses l.columns.literals
