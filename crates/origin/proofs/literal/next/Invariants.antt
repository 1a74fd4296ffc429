-- `origin::literal::next` meets its contract. The loop's invariant: the ways that wait now have the literals of those that
-- waited at first. What falls is what they weigh. Assumes nothing.
use mathlib.Core.Path.{◌≡◌}
use Rattle.origin.specs.Inner.Ways.{waiting_of, load_of, Waiting}
use Rattle.origin.proofs.literal.next.Given as goal

abbrev pub invariant-loop-way : goal.invariant-loop-way
invariant-loop-way l = record { waiting : Waiting l.nodes l.ways; same : waiting_of l.nodes l.initial.ways ≡ waiting_of l.nodes l.ways }

abbrev pub decreases-loop-way : goal.decreases-loop-way
decreases-loop-way l = load_of l.ways
