-- A loop that marks the literals of a clause in a row: what it knows at each turn. Assumes nothing.
use mathlib.Core.Path.{◌≡◌, refl, sym, ap, ◌∙◌, subst}
use mathlib.Core.Bool.{Bool, true, false, ◌||◌}
use mathlib.Core.List.{List, [], ◌∷◌}
use Prim.Native.Nat.{ℕ, ◌+◌, ◌*◌, ◌/◌, ◌%◌, ◌<◌}
use lib.Dec.{eqb}
use lib.ListN.{length, get_or, length-set, length-replicate}
use Rattle.laws.specs.Numbers.{little_at}
use Rattle.clausal.specs.Clauses.{Literal, Clause}
use Rattle.clausebytes.specs.Words.{literal_of}
use Rattle.bits.specs.Inner.Rows.{has_bit, byte_to, row_to, with_bits, is_one}
use Rattle.bits.proofs.Laws.Rows.{Bytes, bytes-to, has-to, or_cond, or_swap, or_assoc, or_none, has-marked, blank-bytes}
use Rattle.laws.specs.Lists.{none}
use Rattle.sets.specs.Inner.Sets.{clause_from, code_of, codes_of, row_bytes, no_literals, mix_of, sign_of}
use Rattle.sets.proofs.Laws.Walks.{clause-more}
use Rattle.sets.proofs.Laws.Signs.{sign_ones, sign_old, sign_new}

-- the literals before word i are marked
pub record Marking (bytes : List ℕ) (from i : ℕ) (row : List ℕ) (seen : Clause) : Type 0 where
  pub rest : with_bits (codes_of (clause_from bytes i)) row ≡ with_bits (codes_of (clause_from bytes from)) no_literals
  pub has : (m : ℕ) → has_bit row m ≡ is_one m (codes_of seen)
  pub whole : (m : ℕ) → is_one m (codes_of (clause_from bytes from)) ≡ (is_one m (codes_of seen) || is_one m (codes_of (clause_from bytes i)))
  pub small : Bytes row
  pub size : length row ≡ row_bytes

pub marking_start : (bytes : List ℕ) (from : ℕ) → Marking bytes from from no_literals []
unfolding is_one with_bits
marking_start bytes from = record {
  rest = refl;
  has = has-marked row_bytes [] none;
  whole = λ m. refl;
  small = blank-bytes row_bytes;
  size = length-replicate {A = ℕ} row_bytes 0;
}

-- one literal more
module _ (bytes : List ℕ) (from i w : ℕ) (row : List ℕ) (here : i < length bytes / 4)
    (e : w ≡ little_at 4 bytes (4 * i)) (n : w ≡ 0 → ⊥) where
  pub marking_more : {seen : Clause} → Marking bytes from i row seen → code_of (literal_of w) < 8 * row_bytes
      → Marking bytes from (i + 1) (row_to row (code_of (literal_of w)) true) (literal_of w ∷ seen)
  unfolding is_one with_bits
  marking_more {seen} k inside =
      let l = literal_of w in
      let next = clause-more bytes i w here e n in
      let room : code_of l < 8 * length row = subst (λ (x : ℕ). code_of l < 8 * x) (sym k.size) inside in
      record {
        rest = ap (λ (c : Clause). with_bits (codes_of c) row) (sym next) ∙ k.rest;
        has = λ m. has-to row (code_of l) true k.small room m ∙ or_cond (eqb m (code_of l)) (has_bit row m)
            ∙ ap (λ (b : Bool). eqb m (code_of l) || b) (k.has m);
        whole = λ m. k.whole m ∙ ap (λ (c : Clause). is_one m (codes_of seen) || is_one m (codes_of c)) next
            ∙ or_swap (is_one m (codes_of seen)) (eqb m (code_of l)) (is_one m (codes_of (clause_from bytes (i + 1))))
            ∙ sym (or_assoc (eqb m (code_of l)) (is_one m (codes_of seen)) (is_one m (codes_of (clause_from bytes (i + 1)))));
        small = bytes-to row (code_of l) true k.small room;
        size = length-set row (code_of l / 8) (byte_to (get_or row (code_of l / 8) 0) (code_of l % 8) true) ∙ k.size;
      }

-- the end: all are marked
module _ {bytes : List ℕ} {from i : ℕ} {row : List ℕ} {seen : Clause} (k : Marking bytes from i row seen)
    (end : clause_from bytes i ≡ []) where
  pub marking_row : row ≡ with_bits (codes_of (clause_from bytes from)) no_literals
  unfolding with_bits
  marking_row = sym (ap (λ (c : Clause). with_bits (codes_of c) row) end) ∙ k.rest

  marking_seen : (m : ℕ) → is_one m (codes_of seen) ≡ is_one m (codes_of (clause_from bytes from))
  unfolding is_one
  marking_seen m =
      sym (k.whole m ∙ ap (λ (c : Clause). is_one m (codes_of seen) || is_one m (codes_of c)) end ∙ or_none (is_one m (codes_of seen)))

  pub marking_sign : (seed sign : ℕ) → sign ≡ sign_of seed seen → sign ≡ sign_of seed (clause_from bytes from)
  marking_sign seed sign e = e ∙ sign_ones seed seen (clause_from bytes from) marking_seen

-- the signature of what is marked, with one literal more: it is new, or was there already
module _ {bytes : List ℕ} {from i : ℕ} {row : List ℕ} {seen : Clause} (k : Marking bytes from i row seen)
    (seed sign : ℕ) (s : sign ≡ sign_of seed seen)
    (l : Literal) (n : ℕ) (code : n ≡ code_of l) (b : Bool) (has : b ≡ has_bit row n) where
  told : b ≡ is_one (code_of l) (codes_of seen)
  told = has ∙ k.has n ∙ ap (λ (m : ℕ). is_one m (codes_of seen)) code

  pub signing_new : code_of l < 80_008 → b ≡ false → sign + mix_of seed n ≡ sign_of seed (l ∷ seen)
  signing_new h e = (λ i. s i + mix_of seed (code i)) ∙ sym (sign_new seed l seen h (sym told ∙ e))

  pub signing_old : b ≡ true → sign ≡ sign_of seed (l ∷ seen)
  signing_old e = s ∙ sym (sign_old seed l seen (sym told ∙ e))
