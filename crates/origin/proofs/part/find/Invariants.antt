-- `origin::part::find` meets its contract. The loop's invariant: the clause stands as many clauses behind the part as `number` says.
-- The measure is the number of parts that are left. Assumes nothing.
use lib.ListN.{length}
use Rattle.origin.proofs.Laws.Spots.{parts_left, Seeking}
use Rattle.origin.proofs.part.find.Given as goal

abbrev pub invariant-loop-spot : goal.invariant-loop-spot
invariant-loop-spot l = Seeking l.set l.marks l.columns.clauses l.initial.spot l.spot

abbrev pub decreases-loop-spot : goal.decreases-loop-spot
decreases-loop-spot l = parts_left (length l.set) l.spot.direction l.spot.node
