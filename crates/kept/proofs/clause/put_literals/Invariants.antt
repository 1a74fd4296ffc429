-- `kept::clause::put_literals` meets its contract: each literal is put or told, and marked. Assumes nothing.
use Rattle.kept.proofs.Laws.Literals.{Spelling}
use Rattle.kept.proofs.clause.put_literals.Given as goal

abbrev pub invariant-loop-i : goal.invariant-loop-i
invariant-loop-i l = Spelling l.bytes l.clause l.from l.i l.initial.out l.initial.lines l.initial.drawn l.out l.lines l.row l.drawn
