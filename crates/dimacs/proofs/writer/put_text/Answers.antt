-- `dimacs::writer::put_text` meets its contract: the header line, and the lines behind it. Assumes nothing.
use mathlib.Core.Path.{refl}
use mathlib.Core.List.{List, ◌++◌}
use Prim.Native.Nat.{ℕ, ◌+◌, ◌≤◌}
use native.Mathlib.Omega.{arith}
use lib.ListN.{length}
use Rattle.laws.specs.Inner.Stores.{Stored}
use Rattle.laws.proofs.Stored.{stored-both}
use Rattle.clausebytes.specs.Words.{words_of}
use Rattle.dimacs.specs.Texts.{header_line}
use Rattle.dimacs.specs.Inner.Words.{words_text}
use Rattle.dimacs.proofs.writer.put_text.Goals.{Start}
use Rattle.dimacs.proofs.writer.put_text.Goals as goal

abbrev head : Start → List ℕ
head s = header_line s.args.variables s.args.clauses

abbrev lines : Start → List ℕ
lines s = words_text (words_of s.args.bytes.now)

room : (s : Start) → 0 + length (head s ++ lines s) ≤ length s.args.text.now
room s = omega (arith, s.requires)

pub returns : goal.returns
returns c =
    let w : Stored (lines (goal.at.returns c).Start) c.put_header-at.new.text c.put_header-at.result _ c.put_words.new.text =
    record { place = refl; list = c.put_words.ensures } in
    (stored-both (head (goal.at.returns c).Start) (lines (goal.at.returns c).Start) c.args.text.now 0 (room (goal.at.returns c).Start) c.put_header-at.ensures w).list
