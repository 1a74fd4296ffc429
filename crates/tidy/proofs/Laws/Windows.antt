-- Clauses that are compared by their signatures, and numbers that are noted. Assumes nothing.
use mathlib.Core.Path.{◌≡◌, refl, sym, ap, ◌∙◌}
use mathlib.Core.Bool.{Bool, true, false, cond, ◌&&◌}
use Prim.Native.Nat.{ℕ}
use lib.Dec.{eqb}
use borrow.Author.Tests.{eq-eqb, ne_eqb, eqb-true}
use Rattle.clausal.specs.Clauses.{Clause}
use Rattle.tidied.specs.Tidying.{same_literals}
use Rattle.sets.specs.Inner.Sets.{sign_of}
use Rattle.sets.proofs.Laws.Signs.{sign_same}
use Rattle.tidy.specs.Inner.Windows.{none, slot_of, first_after}

-- other signatures, or other slots, are those of other sets
module _ (seed : ℕ) (a b : Clause) (s t : ℕ) (e : s ≡ sign_of seed a) (f : t ≡ sign_of seed b) where
  pub signs_apart : (s ≡ t → ⊥) → same_literals a b ≡ false
  signs_apart n = go (same_literals a b) refl
    where
      go : (x : Bool) → same_literals a b ≡ x → x ≡ false
      go true h = absurd (n (e ∙ sign_same seed a b h ∙ sym f))
      go false h = refl

  pub slots_apart : (slot_of s ≡ slot_of t → ⊥) → same_literals a b ≡ false
  slots_apart n = signs_apart (λ q. n (ap slot_of q))

-- the number after a clause was looked for
module _ (first : ℕ) (same : Bool) (number : ℕ) where
  pub first-noted : (first ≡ none → ⊥) → first ≡ first_after first same number
  first-noted n = rw (ne_eqb first none n)

  pub first_found : first ≡ none → same ≡ true → number ≡ first_after first same number
  first_found e y = rw (eq-eqb first none e, y)

  pub first-other : same ≡ false → first ≡ first_after first same number
  first-other n = rw n (go (eqb first none))
    where
      go : (b : Bool) → first ≡ cond (b && false) number first
      go true = refl
      go false = refl

  -- what has no number afterwards had none
  pub first-open : first_after first same number ≡ none → first ≡ none
  first-open e = go (eqb first none) refl
    where
      go : (b : Bool) → eqb first none ≡ b → first ≡ none
      go true f = eqb-true first none f
      go false f = sym (rw f) ∙ e
