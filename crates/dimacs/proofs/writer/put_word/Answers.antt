-- `dimacs::writer::put_word` meets its contract: a zero, a literal, or a literal with its minus. Assumes nothing.
use mathlib.Core.Path.{subst}
use mathlib.Core.List.{List, [], ◌∷◌, ◌++◌}
use Prim.Native.Nat.{ℕ, ◌+◌, ◌≤◌}
use lib.ListN.{length}
use Rattle.laws.specs.Inner.Stores.{Stored}
use Rattle.laws.proofs.Stored.{stored-both, stored_as}
use Rattle.text.specs.Texts.{decimal}
use Rattle.clausebytes.specs.Words.{literal_of}
use Rattle.dimacs.proofs.Laws.Written.{zero_text, plain_text, negated_text}
use Rattle.dimacs.proofs.writer.put_word.Goals.{Else-word-lt-SIGN, Start, Then-word-eq0, Then-word-lt-SIGN}
use Rattle.dimacs.proofs.writer.put_word.Goals as goal

-- the magnitude and a space
abbrev field : Start → List ℕ
field s = decimal (literal_of s.args.word).variable ++ (32 ∷ [])

-- the room that was asked for, in each case
abbrev Room : Start → List ℕ → Type 0
Room s xs = s.args.at + length xs ≤ length s.args.text.now

zero_room : (c : Then-word-eq0) → Room (goal.at.Then-word-eq0 c).Start (48 ∷ 10 ∷ [])
zero_room c = subst (Room (goal.at.Then-word-eq0 c).Start) (zero_text c.args.word c.if-word-eq0.true) c.requires

plain-room : (c : Then-word-lt-SIGN) → Room (goal.at.Then-word-lt-SIGN c).Start (field (goal.at.Then-word-lt-SIGN c).Start)
plain-room c =
    subst (Room (goal.at.Then-word-lt-SIGN c).Start) (plain_text c.args.word c.if-word-eq0.false c.if-word-lt-SIGN.true) c.requires

negated-room : (c : Else-word-lt-SIGN) → Room (goal.at.Else-word-lt-SIGN c).Start (45 ∷ field (goal.at.Else-word-lt-SIGN c).Start)
negated-room c =
    subst (Room (goal.at.Else-word-lt-SIGN c).Start) (negated_text c.args.word c.if-word-eq0.false c.if-word-lt-SIGN.false) c.requires

pub returns-then-word-eq0 : goal.returns-then-word-eq0
returns-then-word-eq0 c =
    let x = c.args in
    stored_as (zero_text x.word c.if-word-eq0.true)
    (stored-both (48 ∷ []) (10 ∷ []) x.text.now x.at (zero_room (goal.at.returns-then-word-eq0 c).Then-word-eq0) c.put_byte-next.ensures c.put_byte.ensures)

pub returns : goal.returns
returns c =
    let w = subst (λ (n : ℕ). Stored (decimal n ++ (32 ∷ [])) c.put_byte-next-2.new.text c.put_byte-next-2.result c.put_field-2.result
    c.put_field-2.new.text) c.magnitude-2.ensures c.put_field-2.ensures in
    stored_as (negated_text c.args.word c.if-word-eq0.false c.if-word-lt-SIGN.false)
    (stored-both (45 ∷ []) (field (goal.at.returns c).Start) c.args.text.now c.args.at (negated-room (goal.at.returns c).Else-word-lt-SIGN) c.put_byte-next-2.ensures w)
