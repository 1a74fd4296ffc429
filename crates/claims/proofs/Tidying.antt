-- What a call that tidies leaves: the rows of the given clauses, what a second call leaves as it is, their order, what the lines tell,
-- which buffers are long enough, and that the kept clauses can be written. Assumes nothing.
use mathlib.Core.Path.{◌≡◌, sym, ap, ◌∙◌, subst⁻¹}
use mathlib.Core.Bool.{Bool, false}
use mathlib.Core.List.{List, [], map}
use Prim.Native.Nat.{ℕ, ◌+◌, ◌*◌, ◌≤◌}
use native.Mathlib.Omega.{arith}
use lib.ListN.{length, take, drop}
use lib.Seq.{take-append_seam}
use borrow.Author.Tests.{le-ltb}
use Rattle.answer.specs.Answers.{told_of, Wrote}
use Rattle.answer.specs.Answers.{Answer}
use Rattle.answer.specs.Answers.{accepted_with}
use Rattle.clausal.specs.Clauses.{Clause, clauses_bytes}
use Rattle.clausal.specs.Meanings.{satisfies}
use Rattle.clausebytes.specs.Words.{wrong_bytes, clauses_of, Right}
use Rattle.clausebytes.proofs.Encoded.{length-clauses, right_of_bytes, bytes_back}
use Rattle.tidied.specs.Tidying.{firsts_of, fates_of, tidied, changes_of, change_lines}
use Rattle.tidied.specs.Calls.{Outputs, stored_both, tidied_into, tidy_call}
use Rattle.tidied.specs.Orders.{Subsequence}
use Rattle.tidied.specs.Told.{positions_at}
use Rattle.tidied.proofs.Rows.{same_rows}
use Rattle.tidied.proofs.Again.{again_kept, again_silent}
use Rattle.tidied.proofs.Orders.{kept_in_order, literals_in_order}
use Rattle.tidied.proofs.Right.{tidied-right, tidied-written, tidied-read}
use Rattle.tidied.proofs.Told.{told, told_positions_lem}
use Rattle.tidy.proofs.Rooms.{kept-most, lines-most}
use Rattle.claims.specs.Calls.{second, over, Tidy, tidy_seen, tidy_bytes, tidy_variables, tidy_clauses, kept_left, lines_left}
use Rattle.claims.specs.Claims.{Gives, Tidied}
use Rattle.claims.proofs.Answered.{zero, gives, second-told}
use Rattle.claims.proofs.Demands.{tidy_answers, tidy_gives, tidy_wrote, tidy_done}

-- both outputs, the second of them empty, where there is room for the first
stored-first : (a : Answer) (kept : List ℕ) (before : Outputs) → length kept ≤ length before.kept
    → stored_both a kept [] before ≡ record { answer = a; output = record { kept = over kept before.kept; lines = before.lines } }
stored-first a kept before h =
    let k : 0 + length kept ≡ length kept = omega arith in
    rw (le-ltb (length before.kept) (length kept) h, le-ltb (length before.lines) 0 (omega arith), k)

-- kept clauses, tidied again
called_again : (v : ℕ) (cs : List Clause) → Right v cs → (before : Outputs) → length (clauses_bytes (tidied cs)) ≤ length before.kept
    → tidy_call (clauses_bytes (tidied cs)) v before
    ≡ record {
      answer = accepted_with 0 (length (tidied cs));
      output = record { kept = over (clauses_bytes (tidied cs)) before.kept; lines = before.lines };
    }
unfolding change_lines
called_again v cs r before h =
    rw (tidied-written v cs r)
    (ap (λ (ds : List Clause). tidied_into ds before) (tidied-read v cs r)
    ∙ (λ i. stored_both (accepted_with (length (again_silent cs i)) (length (again_kept cs i))) (clauses_bytes (again_kept cs i))
    (change_lines (again_silent cs i)) before)
    ∙ stored-first (accepted_with 0 (length (tidied cs))) (clauses_bytes (tidied cs)) before h)

-- a call that returned 0
module _ (c : Tidy) (z : (tidy_seen c).returned ≡ 0) where
  abbrev given : List Clause
  given = tidy_clauses c

  right : Right (tidy_variables c) given
  right = right_of_bytes (tidy_bytes c) (tidy_variables c) c.promise.1 (tidy_done c z).0

  -- what leads either buffer
  kept-is : kept_left c ≡ clauses_bytes (tidied given)
  kept-is =
      let bytes = clauses_bytes (tidied given) in
      ap (λ (o : Outputs). take (length bytes) o.kept) (tidy_gives c z).outputs
      ∙ take-append_seam bytes (drop (length bytes) (tidy_seen c).before.kept)

  lines_are : lines_left c ≡ change_lines (changes_of given)
  lines_are =
      let lines = change_lines (changes_of given) in
      ap (λ (o : Outputs). take (length lines) o.lines) (tidy_gives c z).outputs
      ∙ take-append_seam lines (drop (length lines) (tidy_seen c).before.lines)

  -- the clauses that the kept bytes stand for
  kept_read : clauses_of (kept_left c) ≡ tidied given
  kept_read = ap clauses_of kept-is ∙ tidied-read (tidy_variables c) given right

  rows : (ρ : ℕ → Bool) → satisfies ρ (clauses_of (kept_left c)) ≡ satisfies ρ given
  rows ρ = ap (satisfies ρ) kept_read ∙ same_rows ρ given

  clauses : Subsequence (clauses_of (kept_left c)) (map firsts_of given)
  clauses = subst⁻¹ (λ (ds : List Clause). Subsequence ds (map firsts_of given)) kept_read (kept_in_order given)

  writable : wrong_bytes (kept_left c) (tidy_variables c) ≡ false
  writable = ap (λ (bytes : List ℕ). wrong_bytes bytes (tidy_variables c)) kept-is ∙ tidied-written (tidy_variables c) given right

  count : second (tidy_seen c) ≡ length (tidied given)
  count = second-told (tidy_gives c z) (omega (arith, (tidied-right (tidy_variables c) given right).clauses))

  -- a second call over what is left
  module _ (d : Tidy) (same : tidy_bytes d ≡ kept_left c) (variables : tidy_variables d ≡ tidy_variables c)
      (room : length (kept_left c) ≤ length (tidy_seen d).before.kept) (part : length (tidy_seen d).part ≡ 16) where
    abbrev before : Outputs
    before = (tidy_seen d).before

    abbrev left : Wrote Outputs
    left = record {
      answer = accepted_with 0 (length (tidied given));
      output = record { kept = over (clauses_bytes (tidied given)) before.kept; lines = before.lines };
    }

    called : tidy_wrote d ≡ left
    called =
        (λ i. tidy_call ((same ∙ kept-is) i) (variables i) before)
        ∙ called_again (tidy_variables c) given right before (omega (arith, ap length kept-is))

    again : ((tidy_seen d).returned ≡ 0)
        × Gives (tidy_seen d) 0 (length (clauses_of (kept_left c))) (record { kept = over (kept_left c) before.kept; lines = before.lines })
    again =
        let zeroed : (tidy_seen d).returned ≡ 0 =
        ((tidy_answers d).right_part part).0 ∙ ap (λ (w : Wrote Outputs). (told_of w.answer).number) called in
        let words : left ≡ record {
          answer = accepted_with 0 (length (clauses_of (kept_left c)));
          output = record { kept = over (kept_left c) before.kept; lines = before.lines };
        } = λ i. record {
          answer = accepted_with 0 (length (sym kept_read i));
          output = record { kept = over (sym kept-is i) before.kept; lines = before.lines };
        } in
        (zeroed, gives (tidy_seen d) (tidy_wrote d) d.promise.0 _ _ _ (zero (tidy_seen d) (tidy_wrote d) d.promise.0 zeroed) (called ∙ words))

-- there is room where either buffer is long enough for the most that it can be asked for
room-enough : (c : Tidy) → length (tidy_seen c).part ≡ 16 → wrong_bytes (tidy_bytes c) (tidy_variables c) ≡ false
    → length (tidy_bytes c) ≤ length (tidy_seen c).before.kept → 21 * length (tidy_bytes c) ≤ 4 * length (tidy_seen c).before.lines
    → (tidy_seen c).returned ≡ 0
room-enough c part right h g =
    let cs = tidy_clauses c in
    let before = (tidy_seen c).before in
    let r = right_of_bytes (tidy_bytes c) (tidy_variables c) c.promise.1 right in
    let bytes = ap length (bytes_back (tidy_bytes c) (tidy_variables c) c.promise.1 right) in
    let kept : length (clauses_bytes (tidied cs)) ≤ length before.kept = omega (arith, bytes, kept-most cs) in
    let lines : length (change_lines (changes_of cs)) ≤ length before.lines =
    omega (arith, bytes, length-clauses cs, lines-most (tidy_variables c) cs r) in
    ((tidy_answers c).right_part part).0 ∙ rw (right, le-ltb _ _ kept, le-ltb _ _ lines)

-- two calls with the same lines and as many kept clauses
tells : (c d : Tidy) → (tidy_seen c).returned ≡ 0 → (tidy_seen d).returned ≡ 0 → lines_left c ≡ lines_left d
    → second (tidy_seen c) ≡ second (tidy_seen d)
    → (fates_of (tidy_clauses c) ≡ fates_of (tidy_clauses d)) × ((n : ℕ) → positions_at (tidy_clauses c) n ≡ positions_at (tidy_clauses d) n)
tells c d z y lines k =
    let kept = sym (count c z) ∙ k ∙ count d y in
    let same = sym (lines_are c z) ∙ lines ∙ lines_are d y in
    (told (tidy_clauses c) (tidy_clauses d) kept same, told_positions_lem (tidy_clauses c) (tidy_clauses d) kept same)

pub tidying : Tidied
tidying = record {
  answers = tidy_answers;
  gives = tidy_gives;
  rows = rows;
  again = λ c d z. again c z d;
  clauses = clauses;
  literals = literals_in_order;
  told = tells;
  enough = room-enough;
  writable = writable;
}
