-- A list made from its front: its length, its beginnings, its elements; two such lists related step by step; an array filled so.
-- Assumes nothing.
use mathlib.Core.Path.{◌≡◌, refl, sym, ap, ◌∙◌, subst}
use mathlib.Core.List.{List, [], ◌∷◌, ◌++◌, append-nil}
use Prim.Native.Nat.{ℕ, zero, suc, ◌+◌, ◌-◌, ◌≤◌, ◌<◌}
use native.Mathlib.Nat.{not-suc-le-zero}
use native.Mathlib.Numerals.{add-one}
use native.Mathlib.Omega.{arith}
use mathlib.Core.Bool.{Bool, true, false}
use lib.Dec.{eqb, leb}
use lib.ListN.{length, get_or, set, take, length-append}
use lib.Seq.{get_or-append_seam, take-append-le, take_all, get_or-take}
use borrow.Author.Tests.{eqb-true, eqb-false, leb-true, leb-false}
use Rattle.laws.specs.Lists.{grow, up_to}
use Rattle.laws.specs.Inner.Stores.{pad_to}
use Rattle.laws.proofs.Arrays.{pad_more}

module _ {A : Type 0} (f : List A → ℕ → A) where
  pub length-up_to : (n : ℕ) → length (up_to f n) ≡ n
  unfolding up_to
  length-up_to zero = refl
  length-up_to (suc n) = length-append (up_to f n) (f (up_to f n) n ∷ []) ∙ rw (length-up_to n) (add-one n)

  -- what was made first stays
  pub take-up_to : (i n : ℕ) → i ≤ n → take i (up_to f n) ≡ up_to f i
  unfolding up_to
  take-up_to i zero h = let e : i ≡ 0 = omega arith in rw e
  take-up_to i (suc n) h = go (leb i n) refl (take-up_to i n)
    where
      go : (b : Bool) → leb i n ≡ b → (i ≤ n → take i (up_to f n) ≡ up_to f i) → take i (up_to f (suc n)) ≡ up_to f i
      go true e ih =
          let l : i ≤ n = leb-true i n e in
          take-append-le i (up_to f n) (f (up_to f n) n ∷ []) (omega (arith, length-up_to n)) ∙ ih l
      go false e ih =
          let l : n < i = leb-false i n e in
          let s : i ≡ suc n = omega arith in
          take_all i (up_to f (suc n)) (omega (arith, length-up_to (suc n))) ∙ ap (up_to f) (sym s)

  -- each element is made of those before it
  pub get_d_up_to : (d : A) (i n : ℕ) → i < n → get_or (up_to f n) i d ≡ f (up_to f i) i
  unfolding up_to
  get_d_up_to d i n h =
      sym (get_or-take (suc i) (up_to f n) i d (omega arith))
      ∙ ap (λ (l : List A). get_or l i d) (take-up_to (suc i) n h)
      ∙ subst (λ (k : ℕ). get_or (up_to f i ++ (f (up_to f i) i ∷ [])) k d ≡ f (up_to f i) i) (length-up_to i)
      (get_or-append_seam (up_to f i) (f (up_to f i) i) [] d)

  -- an array that holds the first i elements, and the next one stored
  pub pad_up_to : (z : A) (n i : ℕ) (x : A) → i < n → x ≡ f (up_to f i) i → set (pad_to n z (up_to f i)) i x ≡ pad_to n z (up_to f (i + 1))
  unfolding up_to
  pad_up_to z n i x h e =
      rw (add-one i, e)
      (ap (λ (k : ℕ). set (pad_to n z (up_to f i)) k (f (up_to f i) i)) (sym (length-up_to i))
      ∙ pad_more z n (up_to f i) (f (up_to f i) i) (omega (arith, length-up_to i)))

-- two lists, element by element
pub data Each {A B : Type 0} (Q : A → B → Type 0) : List A → List B → Type 0 where
  none : Each Q [] []
  more : {x : A} {y : B} {xs : List A} {ys : List B} → Q x y → Each Q xs ys → Each Q (x ∷ xs) (y ∷ ys)

module _ {A B : Type 0} (Q : A → B → Type 0) where
  each_last : {x : A} {y : B} {xs : List A} {ys : List B} → Each Q xs ys → Q x y → Each Q (xs ++ (x ∷ [])) (ys ++ (y ∷ []))
  each_last none q = more q none
  each_last (more p e) q = more p (each_last e q)

  pub each_at : (d : A) (e : B) → Q d e → {xs : List A} {ys : List B} → Each Q xs ys → (i : ℕ) → Q (get_or xs i d) (get_or ys i e)
  each_at d e q none i = q
  each_at d e q (more p r) zero = p
  each_at d e q (more p r) (suc i) = each_at d e q r i

  -- what is related step by step is related as a whole
  pub each-up_to : (f : List A → ℕ → A) (g : List B → ℕ → B)
      → ((xs : List A) (ys : List B) (i : ℕ) → Each Q xs ys → Q (f xs i) (g ys i))
      → (n : ℕ) → Each Q (up_to f n) (up_to g n)
  unfolding up_to
  each-up_to f g h zero = none
  each-up_to f g h (suc n) =
      let e = each-up_to f g h n in
      each_last e (h (up_to f n) (up_to g n) n e)
