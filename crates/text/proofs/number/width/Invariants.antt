-- `text::number::width` meets its contract: each turn looks at one power of ten. Assumes nothing.
use Prim.Native.Nat.{◌≤◌, ◌<◌}
use Rattle.text.proofs.Laws.Decimals.{Widening}
use Rattle.text.proofs.number.width.Given as goal

abbrev pub invariant-loop-i : goal.invariant-loop-i
invariant-loop-i l = (0 < l.i) × (l.i ≤ 10) × (l.digits ≤ l.i) × Widening l.number l.i l.power l.digits
