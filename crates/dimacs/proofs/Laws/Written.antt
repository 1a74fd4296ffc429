-- The text of clause bytes, word by word: how long it is, and that its lines are those of the clauses.
-- Assumes nothing.
use mathlib.Core.Path.{◌≡◌, refl, sym, ap, ◌∙◌, subst⁻¹}
use mathlib.Core.Bool.{Bool, true, false, cond}
use mathlib.Core.List.{List, [], ◌∷◌, ◌++◌, append_assoc}
use Prim.Native.Nat.{ℕ, ◌+◌, ◌*◌, ◌/◌, ◌^◌, ◌≤◌, ◌<◌}
use native.Mathlib.Omega.{arith}
use lib.Dec.{eqb, ltb}
use lib.ListN.{length, length-append}
use borrow.Author.Tests.{lt-ltb, le-ltb, eq-eqb, ne_eqb, eqb-true, eqb-false, ltb-true, ltb-false}
use Rattle.text.specs.Texts.{digits, decimal}
use Rattle.text.proofs.Laws.Decimals.{width-least}
use Rattle.clausal.specs.Clauses.{Clause}
use Rattle.clausebytes.specs.Words.{literal_of, all_within}
use Rattle.clausebytes.proofs.Laws.Stand.{Stand, no_word, a_zero, a_literal, kept-within}
use Rattle.dimacs.specs.Texts.{header_line, literal_text, clause_line, lines_of}
use Rattle.dimacs.specs.Inner.Words.{word_text, words_text}

-- the text of each kind of word
pub zero_text : (w : ℕ) → w ≡ 0 → word_text w ≡ 48 ∷ 10 ∷ []
zero_text w e = rw (eq-eqb w 0 e)

pub plain_text : (w : ℕ) → (w ≡ 0 → ⊥) → w < 2 ^ 31 → word_text w ≡ decimal (literal_of w).variable ++ (32 ∷ [])
plain_text w n h = rw (ne_eqb w 0 n, lt-ltb w (2 ^ 31) h)

pub negated_text : (w : ℕ) → (w ≡ 0 → ⊥) → 2 ^ 31 ≤ w → word_text w ≡ 45 ∷ (decimal (literal_of w).variable ++ (32 ∷ []))
negated_text w n h = rw (ne_eqb w 0 n, le-ltb w (2 ^ 31) h)

-- the sign of a word, as a number of bytes
abbrev pub sign_of : ℕ → ℕ
sign_of w = cond (ltb w (2 ^ 31)) 0 1

pub sign_is : (w : ℕ) → w < 2 ^ 32 → w / 2 ^ 31 ≡ sign_of w
sign_is w h = go (ltb w (2 ^ 31)) refl
  where
    go : (b : Bool) → ltb w (2 ^ 31) ≡ b → w / 2 ^ 31 ≡ cond b 0 1
    go true e = let g = ltb-true w (2 ^ 31) e in omega arith
    go false e = let g = ltb-false w (2 ^ 31) e in omega arith

-- a word is as long as its number and its sign, and one byte behind it; so is a zero
pub word_size : (w : ℕ) → length (word_text w) ≡ length (decimal (literal_of w).variable) + 1 + sign_of w
unfolding digits
word_size w = go (eqb w 0) refl (ltb w (2 ^ 31)) refl
  where
    Size : ℕ → Type 0
    Size x = length (word_text x) ≡ length (decimal (literal_of x).variable) + 1 + sign_of x

    behind : length (decimal (literal_of w).variable ++ (32 ∷ [])) ≡ length (decimal (literal_of w).variable) + 1
    behind = length-append (decimal (literal_of w).variable) (32 ∷ [])

    go : (b : Bool) → eqb w 0 ≡ b → (t : Bool) → ltb w (2 ^ 31) ≡ t → Size w
    go true e t f = subst⁻¹ Size (eqb-true w 0 e) refl
    go false e true f =
        let z : sign_of w ≡ 0 = rw f in
        ap length (plain_text w (eqb-false w 0 e) (ltb-true w (2 ^ 31) f)) ∙ omega (arith, behind, z)
    go false e false f =
        let z : sign_of w ≡ 1 = rw f in
        ap length (negated_text w (eqb-false w 0 e) (ltb-false w (2 ^ 31) f)) ∙ omega (arith, behind, z)

magnitude-small : (w : ℕ) → w < 2 ^ 32 → (literal_of w).variable < 2 ^ 32
magnitude-small w h = go (ltb w (2 ^ 31)) refl
  where
    go : (b : Bool) → ltb w (2 ^ 31) ≡ b → (literal_of w).variable < 2 ^ 32
    go true e = rw e h
    go false e = rw e (let g = ltb-false w (2 ^ 31) e in omega arith)

magnitude-short : (w : ℕ) → (literal_of w).variable < 2 ^ 32 → length (word_text w) ≤ 12
magnitude-short w h = omega (arith, word_size w, sign-few (ltb w (2 ^ 31)), width-least (literal_of w).variable h)
  where
    sign-few : (b : Bool) → cond b 0 1 ≤ 1
    sign-few true = omega arith
    sign-few false = omega arith

pub word-short : (w : ℕ) → w < 2 ^ 32 → length (word_text w) ≤ 12
word-short w h = magnitude-short w (magnitude-small w h)

pub words_short : (v : ℕ) (ws : List ℕ) → v < 2 ^ 32 → all_within v ws ≡ true → length (words_text ws) ≤ 12 * length ws
unfolding all_within words_text
words_short v [] h e = omega arith
words_short v (w ∷ ws) h e =
    let k = kept-within v (literal_of w).variable (all_within v ws) e in
    omega (arith, length-append (word_text w) (words_text ws), magnitude-short w (omega (arith, k.0)), words_short v ws h k.1)

-- the text of the words is the lines of the clauses
pub lines-stand : {ws : List ℕ} {cs : List Clause} → Stand ws cs → lines_of cs ≡ words_text ws
unfolding words_text
lines-stand no_word = refl
lines-stand (a_zero {w = w} {ws = ws} e s) = rw (zero_text w e) (ap (λ (l : List ℕ). 48 ∷ 10 ∷ l) (lines-stand s))
lines-stand (a_literal {w = w} {ws = ws} {c = c} {cs = cs} n s) =
    let t = literal_text (literal_of w) in
    let e : word_text w ≡ t ++ (32 ∷ []) = rw (ne_eqb w 0 n) in
    append_assoc t (32 ∷ clause_line c) (lines_of cs)
    ∙ ap (λ (l : List ℕ). t ++ (32 ∷ l)) (lines-stand s)
    ∙ sym (ap (λ (l : List ℕ). l ++ words_text ws) e ∙ append_assoc t (32 ∷ []) (words_text ws))

pub length-header : (v k : ℕ) → length (header_line v k) ≡ 8 + length (decimal v) + length (decimal k)
length-header v k =
    let a = length-append (decimal v ++ (32 ∷ [])) (decimal k ++ (10 ∷ [])) in
    omega (arith, a, length-append (decimal v) (32 ∷ []), length-append (decimal k) (10 ∷ []))

-- A loop that adds up the sizes of words: those before `rest` are counted.
pub record Sizing (ws rest : List ℕ) (i size : ℕ) : Type 0 where
  pub sum : length (words_text ws) ≡ size + length (words_text rest)
  pub small : size ≤ 12 * i

pub sizing_start : (ws : List ℕ) → Sizing ws ws 0 0
sizing_start ws = record { sum = omega arith; small = omega arith }

pub sizing_more : {ws rest : List ℕ} {i size : ℕ} (w n : ℕ) → Sizing ws (w ∷ rest) i size → n ≡ length (word_text w) → w < 2 ^ 32
    → Sizing ws rest (i + 1) (size + n)
unfolding words_text
sizing_more {rest = rest} w n s e h = record {
  sum = s.sum ∙ omega (arith, length-append (word_text w) (words_text rest), e);
  small = omega (arith, s.small, e, word-short w h);
}

pub sizing_end : {ws : List ℕ} {i size : ℕ} → Sizing ws [] i size → size ≡ length (words_text ws)
unfolding words_text
sizing_end s = omega (arith, s.sum)
