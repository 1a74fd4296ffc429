-- `dimacs::copier::copy` meets its contract: byte by byte the pen follows the reader, and each word is written behind the last.
-- Assumes nothing.
use mathlib.Core.Path.{◌≡◌, sym, ap, ◌∙◌, subst}
use mathlib.Core.Bool.{true, false}
use mathlib.Core.List.{List}
use Prim.Native.Nat.{ℕ, ◌+◌, ◌≤◌, ◌<◌}
use lib.ListN.{length, get_or}
use Rattle.laws.specs.Inner.Stores.{Stored}
use Rattle.laws.specs.Numbers.{little}
use Rattle.laws.proofs.Stored.{stored_as}
use Rattle.classes.specs.Inner.Classes.{class_of, is_white, is_digit}
use Rattle.body.specs.Inner.States.{start_of}
use Rattle.body.specs.declared.state.State.{State}
use Rattle.dimacs.specs.Inner.Copies.{pen_bytes, pen_of, ends_word, written}
use Rattle.dimacs.specs.declared.copier.Pen.{Pen}
use Rattle.dimacs.proofs.Laws.Bytes.{digit_no_white}
use Rattle.dimacs.proofs.Laws.Copies.{Copied, copied_length, copied_fits, copied_room, copied_next}
use Rattle.dimacs.proofs.Laws.Copies.{copied_last, copied_end}
use Rattle.dimacs.proofs.Laws.Copies.{pen_digit, pen_none, pen_minus, not-ended, ended}
use Rattle.dimacs.proofs.copier.copy.Goals.{After-is_digit, After-word, After-word-2, At-loop-i, Else-is_digit, Then-is_digit, Then-is_white}
use Rattle.dimacs.proofs.copier.copy.Goals.{then-is_digit, else-is_digit+then-is_white, else-is_digit+else-is_white}
use Rattle.dimacs.proofs.copier.copy.Goals as goal

-- what comes next, from where the loop is
abbrev text : At-loop-i → List ℕ
text c = c.args.text.now

abbrev begin : At-loop-i → State
begin c = start_of c.args.from c.args.variables c.args.declared

abbrev pen : At-loop-i → Pen
pen c = c.loop-i.pen

abbrev byte : At-loop-i → ℕ
byte c = get_or (text c) c.loop-i.i 0

same : (c : At-loop-i) → length c.loop-i.out ≡ length c.args.out.now
same c = copied_length (text c) (begin c) c.args.out.now c.requires.room (pen c) c.loop-i.i c.loop-i.at c.loop-i.out
    c.loop-i.invariant

room : (c : At-loop-i) → c.loop-i.i < length (text c) → c.loop-i.at + length (written (ends_word (pen c) (byte c)) (pen_bytes (pen c))) ≤ length c.loop-i.out
room c = copied_room (text c) (begin c) c.args.out.now c.requires.room (pen c) c.loop-i.i c.loop-i.at c.loop-i.out
    c.loop-i.invariant

more : (c : At-loop-i) → c.loop-i.i < length (text c) → (p : Pen) (n : ℕ) (m : List ℕ) → p ≡ pen_of (pen c) (byte c)
    → Stored (written (ends_word (pen c) (byte c)) (pen_bytes (pen c))) c.loop-i.out c.loop-i.at n m
    → Copied (text c) (begin c) c.args.out.now p (c.loop-i.i + 1) n m
more c = copied_next (text c) (begin c) c.args.out.now c.requires.room (pen c) c.loop-i.i c.loop-i.at c.loop-i.out
    c.loop-i.invariant

inside : (c : After-is_digit) → c.loop-i.i < length (text (goal.at.After-is_digit c).At-loop-i)
inside c = c.loop-i-test.true

-- a digit
is : (c : Then-is_digit) → is_digit (class_of (byte (goal.at.Then-is_digit c).At-loop-i)) ≡ true
is c = sym c.is_digit.ensures ∙ c.if-is_digit.true

pub digit-pen-requires : goal.digit-pen-requires
digit-pen-requires c =
    copied_fits (text (goal.at.digit-pen-requires c).At-loop-i) (begin (goal.at.digit-pen-requires c).At-loop-i) c.args.out.now c.requires.room (pen (goal.at.digit-pen-requires c).At-loop-i) c.loop-i.i c.loop-i.at c.loop-i.out
    c.loop-i.invariant
    (inside (goal.at.digit-pen-requires c).After-is_digit) c.ranges.variables.fits (is c)

-- white space
no_digit : (c : Else-is_digit) → is_digit (class_of (byte (goal.at.Else-is_digit c).At-loop-i)) ≡ false
no_digit c = sym c.is_digit.ensures ∙ c.if-is_digit.false

white : (c : Then-is_white) → is_white (class_of (byte (goal.at.Then-is_white c).At-loop-i)) ≡ true
white c = sym c.is_white.ensures ∙ c.if-is_white.true

word_bytes : (c : After-word) → written (ends_word (pen (goal.at.After-word c).At-loop-i) (byte (goal.at.After-word c).At-loop-i)) (pen_bytes (pen (goal.at.After-word c).At-loop-i)) ≡ written (pen (goal.at.After-word c).At-loop-i).begun (little 4 c.word.result)
word_bytes c =
    ended (pen (goal.at.After-word c).At-loop-i) (byte (goal.at.After-word c).At-loop-i) c.word.result (white (goal.at.After-word c).Then-is_white) c.word.ensures

pub put_word-at-requires : goal.put_word-at-requires
put_word-at-requires c =
    subst (λ (xs : List ℕ). c.loop-i.at + length xs ≤ length c.loop-i.out) (word_bytes c) (room (goal.at.put_word-at-requires c).At-loop-i (inside (goal.at.put_word-at-requires c).After-is_digit))

-- what each of the three writes
pub loop-i-preserved : goal.loop-i-preserved
loop-i-preserved c =
    let at = (goal.at.loop-i-preserved c).At-loop-i in
    let h = inside (goal.at.loop-i-preserved c).After-is_digit in
    let p = pen at in
    let b = byte at in
    elim c.if-is_digit.branch [
      | then-is_digit w ↦
          let yes = sym c.is_digit.ensures ∙ w.if-is_digit.true in
          rw (w.out-is, w.pen-is, w.at-is)
          (more at h _ _ _ (w.digit-pen.ensures ∙ sym (pen_digit p b yes)) (not-ended p b c.loop-i.out c.loop-i.at (digit_no_white (class_of b) yes)))
      | else-is_digit+then-is_white w ↦
          let no = sym c.is_digit.ensures ∙ w.if-is_digit.false in
          let space = sym w.is_white.ensures ∙ w.if-is_white.true in
          rw (w.out-is, w.pen-is, w.at-is)
          (more at h _ _ _ (w.start-pen-then-is_white.ensures ∙ sym (pen_none p b no space)) (stored_as (ended p b w.word.result space w.word.ensures) w.put_word-at.ensures))
      | else-is_digit+else-is_white w ↦
          let no = sym c.is_digit.ensures ∙ w.if-is_digit.false in
          let none = sym w.is_white.ensures ∙ w.if-is_white.false in
          rw (w.out-is, w.pen-is, w.at-is)
          (more at h _ _ _ (w.minus-pen.ensures ∙ sym (pen_minus p b no none)) (not-ended p b c.loop-i.out c.loop-i.at none))
    ]

last-room : (c : After-word-2) → c.loop-i.at + length (written (pen (goal.at.After-word-2 c).At-loop-i).begun (little 4 c.word-2.result)) ≤ length c.loop-i.out
last-room c =
    subst (λ (xs : List ℕ). c.loop-i.at + length (written (pen (goal.at.After-word-2 c).At-loop-i).begun xs) ≤ length c.loop-i.out) (sym c.word-2.ensures)
    (copied_last (text (goal.at.After-word-2 c).At-loop-i) (begin (goal.at.After-word-2 c).At-loop-i) c.args.out.now c.requires.room (pen (goal.at.After-word-2 c).At-loop-i) c.loop-i.i c.loop-i.at c.loop-i.out
    c.loop-i.invariant
    c.loop-i-test.false)

pub returns : goal.returns
returns c =
    copied_end (text (goal.at.returns c).At-loop-i) (begin (goal.at.returns c).At-loop-i) c.args.out.now c.requires.room (pen (goal.at.returns c).At-loop-i) c.loop-i.i c.loop-i.at c.loop-i.out
    c.loop-i.invariant
    c.loop-i-test.false c.put_word.result c.put_word.new.out
    (stored_as (ap (written (pen (goal.at.returns c).At-loop-i).begun) (sym c.word-2.ensures)) c.put_word.ensures)
