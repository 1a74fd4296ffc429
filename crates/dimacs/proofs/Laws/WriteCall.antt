-- What the writing call gives, in each of its cases.
-- Assumes nothing.
use mathlib.Core.Path.{◌≡◌, sym, ap, ◌∙◌}
use mathlib.Core.Bool.{true}
use mathlib.Core.List.{List, ◌++◌}
use Prim.Native.Nat.{ℕ, ◌+◌, ◌^◌, ◌≤◌, ◌<◌}
use native.Mathlib.Omega.{arith}
use lib.ListN.{length, length-append}
use Rattle.laws.specs.Lists.{splice}
use Rattle.answer.specs.Answers.{accepted_with}
use Rattle.std.specs.Prelude.{Err, None}
use Rattle.answer.specs.declared.Refusal.TheVariants.{Room, ClauseBytes}
use Rattle.answer.proofs.Laws.Part.{stored_short, stored-fits}
use Rattle.clausebytes.specs.Words.{words_of, clauses_of}
use Rattle.clausebytes.specs.Inner.Checks.{checked_of}
use Rattle.clausebytes.proofs.Laws.Checking.{Found, refused_of_checked}
use Rattle.clausebytes.proofs.Laws.Stand.{stand}
use Rattle.clausebytes.proofs.Laws.Words.{length_words}
use Rattle.dimacs.specs.Texts.{header_line, lines_of, written_text, write_call}
use Rattle.dimacs.specs.Inner.Words.{words_text, text_of}
use Rattle.dimacs.specs.Inner.Calls.{text_length}
use Rattle.dimacs.proofs.Laws.Written.{words_short, lines-stand}

-- what the check found: wrong ..
pub found-refused : (bytes : List ℕ) (v : ℕ) (buffer : List ℕ) → checked_of bytes v ≡ None
    → record { answer = Err ClauseBytes; output = buffer } ≡ write_call bytes v buffer
found-refused bytes v buffer e = rw (refused_of_checked bytes v e)

pub length-wrong : (bytes : List ℕ) (v : ℕ) → checked_of bytes v ≡ None → 0 ≡ text_length bytes v
length-wrong bytes v e = rw (refused_of_checked bytes v e)

-- .. or right, with k clauses and n literals
module _ {bytes : List ℕ} {v k n : ℕ} (f : Found bytes v k n) where
  pub found-small : length bytes < 2 ^ 32
  found-small =
      let r = f.right in
      omega (arith, f.words, length_words bytes, f.clauses_are, f.literals_are, r.clauses, r.literals, r.whole)

  pub found-lines : (lines : ℕ) → lines ≡ length (words_text (words_of bytes)) → lines < 2 ^ 32
  found-lines lines e =
      let r = f.right in
      let few = words_short v (words_of bytes) (omega (arith, r.variables)) r.within in
      omega (arith, e, few, f.words, f.clauses_are, f.literals_are, r.clauses, r.literals)

  -- the text is that of the words
  pub written_words : written_text v (clauses_of bytes) ≡ text_of bytes v k
  written_words =
      ap (λ (i : ℕ). header_line v i ++ lines_of (clauses_of bytes)) f.clauses_are
      ∙ ap (λ (l : List ℕ). header_line v k ++ l) (lines-stand (stand true (words_of bytes) f.right.last))

  pub length_text : (size : ℕ) → size ≡ length (header_line v k) + length (words_text (words_of bytes))
      → size ≡ length (written_text v (clauses_of bytes))
  length_text size e = e ∙ sym (ap length written_words ∙ length-append (header_line v k) (words_text (words_of bytes)))

  pub length_found : (size : ℕ) → size ≡ length (header_line v k) + length (words_text (words_of bytes)) → size ≡ text_length bytes v
  length_found size e = rw f.not_wrong (length_text size e)

  pub found_no_room : (buffer : List ℕ) (size : ℕ) → size ≡ length (header_line v k) + length (words_text (words_of bytes))
      → length buffer < size
      → record { answer = Err Room; output = buffer } ≡ write_call bytes v buffer
  found_no_room buffer size e h =
      rw f.not_wrong
      (stored_short (accepted_with v (length (clauses_of bytes))) (written_text v (clauses_of bytes)) buffer (omega (arith, length_text size e)))

  pub found-room : (buffer : List ℕ) (size : ℕ) → size ≡ length (header_line v k) + length (words_text (words_of bytes)) → size ≤ length buffer
      → length (text_of bytes v k) ≤ length buffer
  found-room buffer size e h = omega (arith, length_text size e, ap length written_words)

  pub found-written : (buffer after : List ℕ) → length (text_of bytes v k) ≤ length buffer → after ≡ splice buffer 0 (text_of bytes v k)
      → record { answer = accepted_with v k; output = after } ≡ write_call bytes v buffer
  found-written buffer after h e =
      rw f.not_wrong
      ((λ i. record { answer = accepted_with v (sym f.clauses_are i); output = after })
      ∙ stored-fits (accepted_with v (length (clauses_of bytes))) (written_text v (clauses_of bytes)) buffer after
      (omega (arith, ap length written_words))
      (e ∙ ap (splice buffer 0) (sym written_words)))
