-- `header::read` meets its contract: what is still to be read leads from the present state to where the whole text leads.
-- Both loops go on by one law. Assumes nothing.
use Rattle.header.proofs.Laws.Reading.{Reading, Nearer, left}
use Rattle.header.proofs.read.Given as goal

-- in a comment: past the place of this turn
abbrev pub invariant-loop-head-2 : goal.invariant-loop-head-2
invariant-loop-head-2 l = Nearer l.form l.text l.place l.head

abbrev pub decreases-loop-head-2 : goal.decreases-loop-head-2
decreases-loop-head-2 l = left l.text l.head

abbrev pub invariant-loop-head : goal.invariant-loop-head
invariant-loop-head l = Reading l.form l.text l.head

abbrev pub decreases-loop-head : goal.decreases-loop-head
decreases-loop-head l = left l.text l.head
