-- `dimacs::reader::check` meets its contract: white space, zeros and literals lead on from each other. Assumes nothing.
use Prim.Native.Nat.{◌-◌}
use lib.ListN.{length}
use Rattle.dimacs.proofs.Laws.Walks.{OnWay}
use Rattle.dimacs.proofs.reader.check.Given as goal

abbrev pub invariant-loop-state : goal.invariant-loop-state
invariant-loop-state l = OnWay l.text l.initial.state l.state

abbrev pub decreases-loop-state : goal.decreases-loop-state
decreases-loop-state l = length l.text - l.state.place
