-- Rows of bits as sets: a row with bits has these and those of before, and is empty again when their bytes are wiped.
-- Assumes nothing.
use mathlib.Core.Path.{◌≡◌, refl, sym, ap, ◌∙◌, subst}
use mathlib.Core.Bool.{Bool, true, false, false≢true, cond, ◌||◌}
use mathlib.Core.List.{List, [], ◌∷◌}
use Prim.Native.Nat.{ℕ, zero, suc, ◌*◌, ◌/◌, ◌%◌, ◌^◌, ◌<◌}
use native.Mathlib.Nat.{zero-div}
use native.Mathlib.Omega.{arith}
use lib.Dec.{eqb}
use lib.ListN.{length, get_or, set, replicate, length-set, length-replicate}
use lib.Seq.{get_or-set_same, get_or-set_other, ext_get_or}
use borrow.Author.Tests.{eqb-true, eqb-false, eq-eqb, ne_eqb}
use Rattle.laws.specs.Lists.{Every, more}
use Rattle.laws.proofs.Choices.{neither}
use Rattle.bits.specs.Inner.Rows.{bit_of, has_bit, byte_to, row_to, with_bits, wiped, is_one}
use Rattle.bits.proofs.Laws.Bytes.{bit_to, byte-to}

-- every byte is below 256
abbrev pub Bytes : List ℕ → Type 0
Bytes row = (i : ℕ) → get_or row i 0 < 256

-- numbers in one byte are the same where their bits are
bits_agree : (m n : ℕ) → m / 8 ≡ n / 8 → eqb (m % 8) (n % 8) ≡ eqb m n
bits_agree m n q = go (eqb m n) refl
  where
    go : (b : Bool) → eqb m n ≡ b → eqb (m % 8) (n % 8) ≡ b
    go true f = eq-eqb (m % 8) (n % 8) (ap (λ (k : ℕ). k % 8) (eqb-true m n f))
    go false f = ne_eqb (m % 8) (n % 8) (λ r. eqb-false m n f (omega arith))

-- the row after bit n was set
module _ (row : List ℕ) (n : ℕ) (v : Bool) (small : Bytes row) (there : n < 8 * length row) where
  byte-there : get_or (row_to row n v) (n / 8) 0 ≡ byte_to (get_or row (n / 8) 0) (n % 8) v
  byte-there = get_or-set_same row (n / 8) (byte_to (get_or row (n / 8) 0) (n % 8) v) 0 (omega arith)

  byte-other : (i : ℕ) → (i ≡ n / 8 → ⊥) → get_or (row_to row n v) i 0 ≡ get_or row i 0
  byte-other i h = get_or-set_other row (n / 8) i (byte_to (get_or row (n / 8) 0) (n % 8) v) 0 h

  pub bytes-to : Bytes (row_to row n v)
  bytes-to i = go (eqb i (n / 8)) refl
    where
      go : (b : Bool) → eqb i (n / 8) ≡ b → get_or (row_to row n v) i 0 < 256
      go true e =
          let here = ap (λ (k : ℕ). get_or (row_to row n v) k 0) (eqb-true i (n / 8) e) in
          omega (arith, here, byte-there, byte-to v (get_or row (n / 8) 0) (n % 8) (small (n / 8)) (omega arith))
      go false e = omega (arith, byte-other i (eqb-false i (n / 8) e), small i)

  pub has-to : (m : ℕ) → has_bit (row_to row n v) m ≡ cond (eqb m n) v (has_bit row m)
  has-to m = go (eqb (m / 8) (n / 8)) refl
    where
      go : (b : Bool) → eqb (m / 8) (n / 8) ≡ b → has_bit (row_to row n v) m ≡ cond (eqb m n) v (has_bit row m)
      go true e =
          let same = eqb-true (m / 8) (n / 8) e in
          ap (λ (k : ℕ). bit_of (get_or (row_to row n v) k 0) (m % 8)) same
          ∙ ap (λ (b : ℕ). bit_of b (m % 8)) byte-there
          ∙ bit_to v (get_or row (n / 8) 0) (n % 8) (small (n / 8)) (omega arith) (m % 8) (omega arith)
          ∙ (λ i. cond (bits_agree m n same i) v (bit_of (get_or row (sym same i) 0) (m % 8)))
      go false e =
          let other = eqb-false (m / 8) (n / 8) e in
          let apart : eqb m n ≡ false = ne_eqb m n (λ q. other (ap (λ (k : ℕ). k / 8) q)) in
          rw apart (ap (λ (b : ℕ). bit_of b (m % 8)) (byte-other (m / 8) other))

-- a row of length k that has no bit
abbrev pub blank : ℕ → List ℕ
blank k = replicate k 0

pub blank-at : (k i : ℕ) → get_or (blank k) i 0 ≡ 0
blank-at zero i = refl
blank-at (suc k) zero = refl
blank-at (suc k) (suc i) = blank-at k i

pub blank-bytes : (k : ℕ) → Bytes (blank k)
blank-bytes k i = omega (arith, blank-at k i)

pub length_with : (ns row : List ℕ) → length (with_bits ns row) ≡ length row
unfolding with_bits
length_with [] row = refl
length_with (n ∷ ns) row = length_with ns (row_to row n true) ∙ length-set row (n / 8) _

pub length-wiped : (ns row : List ℕ) → length (wiped ns row) ≡ length row
unfolding wiped
length-wiped [] row = refl
length-wiped (n ∷ ns) row = length-wiped ns (set row (n / 8) 0) ∙ length-set row (n / 8) 0

-- the numbers have bytes in the row
abbrev pub Inside : ℕ → List ℕ → Type 0
Inside k ns = Every (λ n. n < 8 * k) ns

pub or_cond : (a b : Bool) → cond a true b ≡ (a || b)
or_cond true b = refl
or_cond false b = refl

pub or_swap : (a b c : Bool) → (a || (b || c)) ≡ (b || (a || c))
or_swap true true c = refl
or_swap true false c = refl
or_swap false b c = refl

pub or_none : (a : Bool) → (a || false) ≡ a
or_none true = refl
or_none false = refl

pub or_assoc : (a b c : Bool) → ((a || b) || c) ≡ (a || (b || c))
or_assoc true b c = refl
or_assoc false b c = refl

pub bytes-all : (ns row : List ℕ) → Bytes row → Inside (length row) ns → Bytes (with_bits ns row)
unfolding with_bits
bytes-all [] row small inside = small
bytes-all (n ∷ ns) row small (more h inside) =
    bytes-all ns (row_to row n true) (bytes-to row n true small h)
    (subst (λ (k : ℕ). Inside k ns) (sym (length-set row (n / 8) (byte_to (get_or row (n / 8) 0) (n % 8) true))) inside)

pub has_all : (ns row : List ℕ) → Bytes row → Inside (length row) ns → (m : ℕ) → has_bit (with_bits ns row) m ≡ (is_one m ns || has_bit row m)
unfolding with_bits is_one
has_all [] row small inside m = refl
has_all (n ∷ ns) row small (more h inside) m =
    has_all ns (row_to row n true) (bytes-to row n true small h)
    (subst (λ (k : ℕ). Inside k ns) (sym (length-set row (n / 8) (byte_to (get_or row (n / 8) 0) (n % 8) true))) inside) m
    ∙ ap (λ (b : Bool). is_one m ns || b) (has-to row n true small h m ∙ or_cond (eqb m n) (has_bit row m))
    ∙ or_swap (is_one m ns) (eqb m n) (has_bit row m)
    ∙ sym (or_assoc (eqb m n) (is_one m ns) (has_bit row m))

bit_none : (k : ℕ) → bit_of 0 k ≡ false
bit_none k = ap (λ (x : ℕ). eqb (x % 2) 1) (zero-div (2 ^ k))

-- the bits of a row that was blank
pub has-marked : (k : ℕ) (ns : List ℕ) → Inside k ns → (m : ℕ) → has_bit (with_bits ns (blank k)) m ≡ is_one m ns
has-marked k ns inside m =
    has_all ns (blank k) (blank-bytes k) (subst (λ (j : ℕ). Inside j ns) (sym (length-replicate k 0)) inside) m
    ∙ ap (λ (b : ℕ). is_one m ns || bit_of b (m % 8)) (blank-at k (m / 8))
    ∙ ap (λ (b : Bool). is_one m ns || b) (bit_none (m % 8))
    ∙ or_none (is_one m ns)

-- a number of the list has its bits in byte i
unfoldable touched : ℕ → List ℕ → Bool
touched i [] = false
touched i (n ∷ ns) = eqb i (n / 8) || touched i ns

module _ (i : ℕ) where
  with_other : (ns row : List ℕ) → touched i ns ≡ false → get_or (with_bits ns row) i 0 ≡ get_or row i 0
  unfolding with_bits touched
  with_other [] row e = refl
  with_other (n ∷ ns) row e =
      let f = neither (eqb i (n / 8)) (touched i ns) e in
      with_other ns (row_to row n true) f.1 ∙ get_or-set_other row (n / 8) i _ 0 (eqb-false i (n / 8) f.0)

  wiped-other : (ns row : List ℕ) → touched i ns ≡ false → get_or (wiped ns row) i 0 ≡ get_or row i 0
  unfolding wiped touched
  wiped-other [] row e = refl
  wiped-other (n ∷ ns) row e =
      let f = neither (eqb i (n / 8)) (touched i ns) e in
      wiped-other ns (set row (n / 8) 0) f.1 ∙ get_or-set_other row (n / 8) i 0 0 (eqb-false i (n / 8) f.0)

  wiped_touched : (ns row : List ℕ) → i < length row → touched i ns ≡ true → get_or (wiped ns row) i 0 ≡ 0
  unfolding wiped touched
  wiped_touched [] row h e = absurd (false≢true e)
  wiped_touched (n ∷ ns) row h e = go (touched i ns) refl (wiped_touched ns (set row (n / 8) 0) (omega (arith, length-set row (n / 8) 0)))
    where
      go : (b : Bool) → touched i ns ≡ b → (touched i ns ≡ true → get_or (wiped ns (set row (n / 8) 0)) i 0 ≡ 0)
          → get_or (wiped ns (set row (n / 8) 0)) i 0 ≡ 0
      go true f rest = rest f
      go false f rest =
          let here : i ≡ n / 8 = eqb-true i (n / 8) (sym (or_none (eqb i (n / 8))) ∙ ap (λ (b : Bool). eqb i (n / 8) || b) (sym f) ∙ e) in
          wiped-other ns (set row (n / 8) 0) f
          ∙ ap (λ (k : ℕ). get_or (set row k 0) i 0) (sym here)
          ∙ get_or-set_same row i 0 0 h

-- what was marked in a blank row is wiped out
pub wiped-marked : (k : ℕ) (ns : List ℕ) → wiped ns (with_bits ns (blank k)) ≡ blank k
wiped-marked k ns =
    let size : length (wiped ns (with_bits ns (blank k))) ≡ length (blank k) =
    length-wiped ns (with_bits ns (blank k)) ∙ length_with ns (blank k) in
    ext_get_or 0 (wiped ns (with_bits ns (blank k))) (blank k) size (λ i h. at i h (touched i ns) refl)
  where
    at : (i : ℕ) → i < length (wiped ns (with_bits ns (blank k))) → (b : Bool) → touched i ns ≡ b
        → get_or (wiped ns (with_bits ns (blank k))) i 0 ≡ get_or (blank k) i 0
    at i h true e =
        wiped_touched i ns (with_bits ns (blank k)) (omega (arith, length-wiped ns (with_bits ns (blank k)))) e ∙ sym (blank-at k i)
    at i h false e = wiped-other i ns (with_bits ns (blank k)) e ∙ with_other i ns (blank k) e
