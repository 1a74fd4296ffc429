-- `choose::bytes::put_all` meets its contract. The loop's invariant: the bytes that are passed are those of the set. Assumes nothing.
use mathlib.Core.Path.{◌≡◌}
use Prim.Native.Nat.{ℕ, ◌<◌}
use lib.ListN.{get_or}
use Rattle.formula.specs.Tables.{nodes_of}
use Rattle.clausal.specs.Choosing.{all_of}
use Rattle.choose.proofs.bytes.put_all.Given as goal

abbrev pub invariant-loop-i : goal.invariant-loop-i
invariant-loop-i l = (j : ℕ) → j < l.i → get_or l.set j 0 ≡ get_or (all_of (nodes_of l.table)) j 0
