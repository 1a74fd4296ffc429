-- `satfile::lead::Reader::skip` meets its contract: white space is passed byte by byte. The invariant: what is left has the same text
-- behind its white space. Assumes nothing.
use mathlib.Core.Path.{◌≡◌}
use Prim.Native.Nat.{◌≤◌}
use Rattle.satfile.specs.Inner.Reads.{skipped}
use Rattle.satfile.specs.Inner.Parts.{text_from, Inside}
use Rattle.satfile.proofs.lead.Reader.skip.Given as goal

abbrev pub invariant-loop-i : goal.invariant-loop-i
invariant-loop-i l = (l.at ≤ l.i) × (Inside l.self l.i) × (skipped (text_from l.self l.i) ≡ skipped (text_from l.self l.at))
