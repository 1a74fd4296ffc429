-- `satfile::lead::Reader::digits` meets its contract: digits are taken in one by one. The invariant: what is left, behind the digits
-- so far, is read as the whole is. Assumes nothing.
use mathlib.Core.Path.{◌≡◌}
use Prim.Native.Nat.{◌≤◌}
use Rattle.satfile.specs.Inner.Reads.{digits_from}
use Rattle.satfile.specs.Inner.Parts.{text_from, Inside}
use Rattle.satfile.proofs.lead.Reader.digits.Given as goal

abbrev pub invariant-loop-i : goal.invariant-loop-i
invariant-loop-i l =
    (l.at ≤ l.i) × (Inside l.self l.i)
    × (digits_from l.self.options l.value (text_from l.self l.i) ≡ digits_from l.self.options l.first (text_from l.self l.at))
