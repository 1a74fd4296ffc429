-- Runs stored side by side are one run; a run as long as the list is the list.
-- Assumes nothing.
use mathlib.Core.Path.{◌≡◌, refl, sym, ap, ◌∙◌}
use mathlib.Core.List.{List, [], ◌∷◌, ◌++◌, append_assoc, append-nil}
use Prim.Native.Nat.{ℕ, zero, suc, ◌+◌, ◌-◌, ◌≤◌, ◌<◌}
use native.Mathlib.Nat.{add_assoc}
use native.Mathlib.Numerals.{add-one, add-two, add-three}
use native.Mathlib.Omega.{arith}
use lib.ListN.{length, set, take, drop, length-append, length-take, length-drop, drop_of_length-le}
use lib.Seq.{sets-eq, take_at, drop_at, drop-append-add, drop-drop, length-take-le}
use Rattle.laws.specs.Lists.{splice}

module _ {A : Type 0} where
  pub length-splice : (l : List A) (at : ℕ) (xs : List A) → at + length xs ≤ length l → length (splice l at xs) ≡ length l
  length-splice l at xs h = simp (length-append, length-take, length-drop) (omega arith)

  -- a run behind the run before it
  pub splice-splice : (l : List A) (at : ℕ) (xs : List A) (j : ℕ) (ys : List A) → at + length xs ≤ length l → j ≡ at + length xs
      → splice (splice l at xs) j ys ≡ splice l at (xs ++ ys)
  splice-splice l at xs j ys h e =
      let p : List A = take at l ++ xs in
      let r : List A = drop (at + length xs) l in
      let s : splice l at xs ≡ p ++ r = sym (append_assoc (take at l) xs r) in
      let lp : length p ≡ j = length-append (take at l) xs ∙ omega (arith, length-take-le at l (omega arith)) in
      let f : take j (p ++ r) ≡ p = take_at p r j lp in
      let g : drop (j + length ys) (p ++ r) ≡ drop (length ys) r = ap (λ (n : ℕ). drop (n + length ys) (p ++ r)) (sym lp)
      ∙ drop-append-add p r (length ys) in
      rw (s, f, g) (simp (append_assoc, length-append, drop-drop, add_assoc))

  -- a run over the whole list
  pub splice_all : (l xs : List A) → length xs ≡ length l → splice l 0 xs ≡ xs
  splice_all l xs h = rw (drop_of_length-le l {i = 0 + length xs} (omega arith)) (append-nil xs)

  -- four stores side by side
  pub splice_four : (l : List A) (at : ℕ) (a b c d : A) → at + 4 ≤ length l → set (set (set (set l at a) (at + 1) b) (at + 2) c) (at + 3) d
      ≡ splice l at (a ∷ (b ∷ (c ∷ (d ∷ []))))
  splice_four l at a b c d h =
      rw (add-one at, add-two at, add-three at)
      (sets-eq (a ∷ (b ∷ (c ∷ (d ∷ [])))) l at h ∙ append_assoc (take at l) (a ∷ (b ∷ (c ∷ (d ∷ [])))) (drop (at + 4) l))
