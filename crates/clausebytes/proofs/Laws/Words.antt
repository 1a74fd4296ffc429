-- The words of clause bytes, one after the other; and the two's complement.
-- Assumes nothing.
use mathlib.Core.Path.{◌≡◌, refl, sym, ap, ◌∙◌}
use mathlib.Core.Bool.{Bool, true, false}
use mathlib.Core.List.{List, [], ◌∷◌}
use Prim.Native.Nat.{ℕ, zero, suc, ◌+◌, ◌*◌, ◌-◌, ◌/◌, ◌%◌, ◌^◌, ◌<◌, ◌≤◌}
use native.Mathlib.Numerals.{add-one}
use native.Mathlib.Omega.{arith}
use lib.Dec.{eqb}
use lib.ListN.{length, get_or, drop, drop_of_length-le}
use lib.Seq.{drop-cons}
use borrow.Author.Tests.{eqb-true, eqb-false}
use Rattle.laws.specs.Numbers.{little_at, little}
use Rattle.laws.proofs.Bytes.{little_at-cons}
use Rattle.clausal.specs.Clauses.{word_of}
use Rattle.clausebytes.specs.Words.{words_of}

pub length_words : (l : List ℕ) → length (words_of l) ≡ length l / 4
unfolding words_of
length_words [] = refl
length_words (a ∷ []) = refl
length_words (a ∷ b ∷ []) = refl
length_words (a ∷ b ∷ c ∷ []) = refl
length_words (a ∷ b ∷ c ∷ d ∷ t) = omega (arith, length_words t)

get_d_words : (l : List ℕ) (i : ℕ) → i < length l / 4 → get_or (words_of l) i 0 ≡ little_at 4 l (4 * i)
unfolding words_of
get_d_words [] i h = absurd (omega arith)
get_d_words (a ∷ []) i h = absurd (omega arith)
get_d_words (a ∷ b ∷ []) i h = absurd (omega arith)
get_d_words (a ∷ b ∷ c ∷ []) i h = absurd (omega arith)
get_d_words (a ∷ b ∷ c ∷ d ∷ t) zero h = refl
get_d_words (a ∷ b ∷ c ∷ d ∷ t) (suc i) h =
    let e : 4 * suc i ≡ suc (suc (suc (suc (4 * i)))) = omega arith in
    get_d_words t i (omega arith)
    ∙ sym (ap (little_at 4 (a ∷ b ∷ c ∷ d ∷ t)) e
    ∙ little_at-cons 4 a (b ∷ c ∷ d ∷ t) (suc (suc (suc (4 * i))))
    ∙ little_at-cons 4 b (c ∷ d ∷ t) (suc (suc (4 * i)))
    ∙ little_at-cons 4 c (d ∷ t) (suc (4 * i))
    ∙ little_at-cons 4 d t (4 * i))

-- the words from the one with number i on
pub words_next : (l : List ℕ) (i w : ℕ) → i < length l / 4 → w ≡ little_at 4 l (4 * i) → drop i (words_of l) ≡ w ∷ drop (i + 1) (words_of l)
words_next l i w h e =
    drop-cons (words_of l) i 0 (omega (arith, length_words l))
    ∙ ap (λ (x : ℕ). x ∷ drop (suc i) (words_of l)) (get_d_words l i h ∙ sym e)
    ∙ ap (λ (n : ℕ). w ∷ drop n (words_of l)) (sym (add-one i))

pub words_end : (l : List ℕ) (i : ℕ) → length l / 4 ≤ i → drop i (words_of l) ≡ []
words_end l i h = drop_of_length-le (words_of l) {i = i} (omega (arith, length_words l))

-- the complement of a number that is not zero, and the four bytes of any
pub complement-some : (x : ℕ) → 0 < x → x < 2 ^ 32 → (2 ^ 32 - x) % 2 ^ 32 ≡ 2 ^ 32 - x
complement-some x h g = omega arith

pub complement-bytes : (x : ℕ) → x < 2 ^ 32 → little 4 ((2 ^ 32 - x) % 2 ^ 32) ≡ little 4 (word_of false x)
complement-bytes x h = go (eqb x 0) refl
  where
    go : (b : Bool) → eqb x 0 ≡ b → little 4 ((2 ^ 32 - x) % 2 ^ 32) ≡ little 4 (word_of false x)
    go true e = rw (eqb-true x 0 e)
    go false e = let n = eqb-false x 0 e in ap (little 4) (complement-some x (omega arith) h)
