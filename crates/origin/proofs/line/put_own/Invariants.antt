-- `origin::line::put_own` meets its contract. The loop's invariant: the literals before the one that is found are put.
-- The measure is the number of literals that are left. Assumes nothing.
use Rattle.walk.specs.Inner.Lists.{own_clause}
use Rattle.origin.specs.Inner.Lines.{lists_of}
use Rattle.origin.proofs.Laws.Clauses.{literals_left, Saying}
use Rattle.origin.proofs.line.put_own.Given as goal

abbrev pub invariant-loop-found : goal.invariant-loop-found
invariant-loop-found l =
    Saying l.nodes (lists_of l.initial.voices) (own_clause l.nodes l.fn.way) l.initial.out l.initial.next_pen l.voices l.out l.ways l.next_pen
    l.found

abbrev pub decreases-loop-found : goal.decreases-loop-found
decreases-loop-found l = literals_left l.nodes l.found l.ways
