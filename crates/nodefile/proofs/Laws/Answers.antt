-- What reading a file gives, in each of its cases.
-- Assumes nothing.
use mathlib.Core.Path.{◌≡◌, sym, ap, ◌∙◌}
use mathlib.Core.Bool.{true}
use mathlib.Core.List.{List}
use Prim.Native.Nat.{ℕ, ◌+◌, ◌*◌, ◌≤◌, ◌<◌}
use native.Mathlib.Omega.{arith}
use lib.ListN.{length}
use borrow.Author.Tests.{lt-ltb, le-ltb}
use Rattle.laws.specs.Lists.{splice}
use Rattle.answer.specs.Answers.{Wrote, afterwards, stored}
use Rattle.answer.specs.Answers.{Answer}
use Rattle.answer.specs.Answers.{accepted_with}
use Rattle.std.specs.Prelude.{Err}
use Rattle.answer.specs.declared.Refusal.TheVariants.{Room, Line}
use Rattle.answer.proofs.Laws.Part.{stored_short, stored-fits}
use Rattle.formula.specs.Tables.{node_bytes}
use Rattle.nodefile.specs.Files.{option_count, line_of, file_right, file_nodes, records_to, file_table, most_bytes, file_checked}
use Rattle.nodefile.specs.Inner.Reads.{file_read}
use Rattle.nodefile.proofs.Laws.Files.{Refused, length_records}

-- the text is too long
pub file-long : (text buffer : List ℕ) → most_bytes < length text → record { answer = Err (Line 0); output = buffer } ≡ file_read text buffer
file-long text buffer h = rw (lt-ltb most_bytes (length text) h)

module _ (text buffer : List ℕ) (short : length text ≤ most_bytes) where
  -- what follows once the answer of the check is known
  abbrev given : Answer → Wrote (List ℕ)
  given a = afterwards a buffer (stored a (file_table text) buffer)

  -- a line is wrong or missing
  pub file-refused : {i : ℕ} → Refused text i → (line : ℕ) → line ≡ i + 1
      → record { answer = Err (Line line); output = buffer } ≡ file_read text buffer
  file-refused {i} r line e =
      let c : file_checked text ≡ Err (Line (i + 1)) =
      rw (le-ltb most_bytes (length text) short, r.wrong) (ap (λ (n : ℕ). Err (Line (n + 1))) r.line) in
      ap (λ (n : ℕ). record { answer = Err (Line n); output = buffer }) e ∙ sym (ap given c)

  module _ (right : file_right text ≡ true) (v k : ℕ) (options : v ≡ option_count (line_of text 0)) (nodes : file_nodes text ≡ k) where
    checked : file_checked text ≡ accepted_with v k
    checked = rw (le-ltb most_bytes (length text) short, right) (λ i. accepted_with (sym options i) (nodes i))

    size : length (file_table text) ≡ node_bytes * k
    size = length_records text (file_nodes text) ∙ ap (λ (n : ℕ). node_bytes * n) nodes

    -- too little room
    pub file-no-room : length buffer < node_bytes * k → record { answer = Err Room; output = buffer } ≡ file_read text buffer
    file-no-room h = stored_short (accepted_with v k) (file_table text) buffer (omega (arith, size)) ∙ sym (ap given checked)

    -- the table is stored
    pub file-stored : (after : List ℕ) → node_bytes * k ≤ length buffer → after ≡ splice buffer 0 (records_to text k)
        → record { answer = accepted_with v k; output = after } ≡ file_read text buffer
    file-stored after h e =
        stored-fits (accepted_with v k) (file_table text) buffer after (omega (arith, size))
        (e ∙ ap (λ (n : ℕ). splice buffer 0 (records_to text n)) (sym nodes))
        ∙ sym (ap given checked)
