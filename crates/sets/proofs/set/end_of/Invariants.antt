-- `sets::set::end_of` meets its contract: the words before a zero are passed one by one. Assumes nothing.
use mathlib.Core.Path.{◌≡◌}
use Rattle.std.specs.Prelude.{max, ◌≤◌}
use Prim.Native.Nat.{◌/◌}
use lib.ListN.{length}
use Rattle.sets.specs.Inner.Sets.{end_from}
use Rattle.sets.proofs.set.end_of.Given as goal

abbrev pub invariant-loop-i : goal.invariant-loop-i
invariant-loop-i l = (l.i ≤ max l.from (length l.bytes / 4)) × (end_from l.bytes l.i ≡ end_from l.bytes l.from)
