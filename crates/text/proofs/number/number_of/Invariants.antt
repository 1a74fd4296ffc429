-- `text::number::number_of` meets its contract: each turn takes a digit in; the first fault decides. Assumes nothing.
use Prim.Native.Nat.{◌<◌}
use lib.ListN.{length}
use Rattle.text.proofs.Laws.Fields.{Reading}
use Rattle.text.proofs.number.number_of.Given as goal

abbrev pub invariant-loop-i : goal.invariant-loop-i
invariant-loop-i l = (0 < length l.bytes) × Reading l.most l.bytes l.value l.i
