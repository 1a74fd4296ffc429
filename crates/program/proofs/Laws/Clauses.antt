-- Printing clause bytes: what writing them answers.
-- Assumes nothing.
use mathlib.Core.Path.{◌≡◌, refl, sym, ap, ◌∙◌}
use mathlib.Core.Bool.{Bool, true, false, cond}
use mathlib.Core.List.{List}
use Prim.Native.Nat.{ℕ}
use native.Mathlib.Omega.{arith}
use lib.Dec.{ltb}
use lib.ListN.{length, replicate, length-replicate}
use Rattle.laws.specs.Lists.{splice}
use Rattle.answer.specs.Answers.{refuses, Wrote, stored}
use Rattle.answer.specs.Answers.{Answer}
use Rattle.answer.specs.Answers.{accepted_with}
use Rattle.std.specs.Prelude.{Err}
use Rattle.answer.specs.declared.Refusal.TheVariants.{Room, ClauseBytes}
use Rattle.answer.proofs.Laws.Order.{Kept, kept-stored, accepted-stored}
use Rattle.clausebytes.specs.Words.{wrong_bytes, clauses_of}
use Rattle.dimacs.specs.Texts.{write_call, written_text}
use Rattle.dimacs.specs.Inner.Calls.{text_length}
use Rattle.program.specs.Printed.{buffer_bytes, blank, Shows}
use Rattle.program.proofs.Laws.Shows.{shows_stored}

-- a buffer as the code makes it
pub new_blank : replicate buffer_bytes 0 ≡ blank
unfolding blank
new_blank = refl

pub length-blank : length blank ≡ buffer_bytes
unfolding blank
length-blank = length-replicate {A = ℕ} buffer_bytes 0

module _ (bytes : List ℕ) (v : ℕ) where
  abbrev text : List ℕ
  text = written_text v (clauses_of bytes)

  abbrev said : Answer
  said = accepted_with v (length (clauses_of bytes))

  -- of a buffer only its length counts
  answer-is : (l : List ℕ)
      → (write_call bytes v l).answer ≡ cond (wrong_bytes bytes v) (Err ClauseBytes) (cond (ltb (length l) (length text)) (Err Room) said)
  answer-is l = go (wrong_bytes bytes v) (ltb (length l) (length text))
    where
      wrote : Bool → Bool → Wrote (List ℕ)
      wrote wrong short =
          cond wrong (record { answer = Err ClauseBytes; output = l })
          (cond short (record { answer = Err Room; output = l }) (record { answer = said; output = splice l 0 text }))

      go : (wrong short : Bool) → (wrote wrong short).answer ≡ cond wrong (Err ClauseBytes) (cond short (Err Room) said)
      go true short = refl
      go false true = refl
      go false false = refl

  module _ (before : List ℕ) where
    kept : Kept before (write_call bytes v before)
    kept = go (wrong_bytes bytes v)
      where
        go : (b : Bool) → Kept before (cond b (record { answer = Err ClauseBytes; output = before }) (stored said text before))
        go true e = refl
        go false e = kept-stored said text before refl e

    module _ (a : Answer) (o : List ℕ) (e : record { answer = a; output = o } ≡ write_call bytes v before) where
      pub write-answer : length before ≡ buffer_bytes → a ≡ (write_call bytes v blank).answer
      write-answer size =
          ap (λ (w : Wrote (List ℕ)). w.answer) e ∙ answer-is before
          ∙ ap (λ (n : ℕ). cond (wrong_bytes bytes v) (Err ClauseBytes) (cond (ltb n (length text)) (Err Room) said)) (size ∙ sym length-blank)
          ∙ sym (answer-is blank)

      -- a refusal leaves the buffer
      pub write_kept : refuses a ≡ true → o ≡ before
      write_kept r =
          ap (λ (w : Wrote (List ℕ)). w.output) e
          ∙ kept (sym (ap (λ (w : Wrote (List ℕ)). refuses w.answer) e) ∙ r)

      -- a text that is written is shown
      pub write_shows : refuses a ≡ false → (n : ℕ) → n ≡ text_length bytes v → Shows text before n o
      write_shows r n q = go (wrong_bytes bytes v) e q (sym (ap (λ (w : Wrote (List ℕ)). refuses w.answer) e) ∙ r)
        where
          go : (b : Bool) → let w = cond b (record { answer = Err ClauseBytes; output = before }) (stored said text before) in
              record { answer = a; output = o } ≡ w → n ≡ cond b 0 (length text) → refuses w.answer ≡ false → Shows text before n o
          go true f q r = let z : ◌≡◌ {A = ℕ} 0 1 = cc in absurd (omega arith)
          go false f q r =
              let s = accepted-stored said text before r in
              shows_stored s.0 (record { place = omega arith; list = ap (λ (w : Wrote (List ℕ)). w.output) (f ∙ s.1) })
