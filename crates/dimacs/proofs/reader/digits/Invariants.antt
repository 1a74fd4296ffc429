-- `dimacs::reader::digits` meets its contract: each further digit leads on, up to a byte that is none, or to the end of the reading.
-- Assumes nothing.
use mathlib.Core.Path.{◌≡◌}
use mathlib.Core.Bool.{true}
use Prim.Native.Nat.{◌-◌}
use lib.ListN.{length}
use Rattle.body.specs.Inner.Table.{is_number}
use Rattle.dimacs.specs.Inner.Walks.{Leads}
use Rattle.dimacs.proofs.reader.digits.Given as goal

abbrev pub invariant-loop-state : goal.invariant-loop-state
invariant-loop-state l = Leads l.text l.initial.state l.state × (is_number l.state.phase ≡ true)

abbrev pub decreases-loop-state : goal.decreases-loop-state
decreases-loop-state l = length l.text - l.state.place
