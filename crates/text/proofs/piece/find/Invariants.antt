-- `text::piece::find` meets its contract: from every place before it the mark is the same. Assumes nothing.
use mathlib.Core.Path.{◌≡◌}
use Prim.Native.Nat.{◌+◌}
use lib.ListN.{drop}
use Rattle.text.specs.Inner.Pieces.{spot}
use Rattle.text.proofs.piece.find.Given as goal

abbrev pub invariant-loop-i : goal.invariant-loop-i
invariant-loop-i l = (l.i + spot l.mark (drop l.i l.text) ≡ l.at + spot l.mark (drop l.at l.text))
