-- `origin::pen::put_each` meets its contract: with each turn a byte more is stored. Assumes nothing.
use Prim.Native.Nat.{◌+◌, ◌≤◌}
use lib.ListN.{length, drop}
use Rattle.laws.proofs.Stored.{Storing}
use Rattle.origin.proofs.pen.put_each.Given as goal

abbrev pub invariant-loop-i : goal.invariant-loop-i
invariant-loop-i l = (l.i ≤ length l.bytes) × Storing l.bytes l.initial.out l.at (drop l.i l.bytes) l.out (l.at + l.i)
