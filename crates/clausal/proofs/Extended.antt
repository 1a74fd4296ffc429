-- The row in which each helper has its node's truth: it agrees with the given row on every option, and with each node on its
-- helper.
-- Assumes nothing.
use mathlib.Core.Path.{◌≡◌, refl, sym, ◌∙◌}
use mathlib.Core.Bool.{Bool, true, false, cond}
use mathlib.Core.List.{List}
use Prim.Native.Nat.{ℕ, zero, suc, ◌≤◌, ◌<◌}
use native.Mathlib.Omega.{arith}
use lib.Dec.{eqb}
use lib.ListN.{length}
use borrow.Author.Tests.{eqb-true, eqb-false, eq-eqb}
use Rattle.formula.specs.Truths.{truth_of}
use Rattle.marks.specs.Sets.{renamed}
use Rattle.clausal.specs.Clauses.{helper_of, Renaming}
use Rattle.clausal.specs.Meanings.{Extends}
use Rattle.clausal.specs.Inner.Extended.{with_helpers, extended}
use Rattle.clausal.proofs.Helpers.{helper_above, helper_rising}
use Rattle.formula.specs.declared.node.Node.{Node}

-- what is chosen under two tests
neither : (b c x y : Bool) → (b ≡ true → c ≡ true → ⊥) → cond b (cond c x y) y ≡ y
neither true true x y n = absurd (n refl refl)
neither true false x y n = refl
neither false c x y n = refl

either : (b c x y : Bool) → b ≡ true → c ≡ true → cond b (cond c x y) y ≡ x
either b c x y p q = λ i. cond (p i) (cond (q i) x y) y

module _ (ρ : ℕ → Bool) (u : Renaming) (ns : List Node) where
  abbrev with_below : ℕ → ℕ → Bool
  with_below n x = with_helpers ρ u ns n x

  -- node n changes nothing but its helper
  with_other : (n x : ℕ) → (renamed u.set n ≡ true → x ≡ helper_of u n → ⊥) → with_below (suc n) x ≡ with_below n x
  unfolding with_helpers
  with_other n x other =
      neither (renamed u.set n) (eqb x (helper_of u n)) _ (with_below n x) (λ e f. other e (eqb-true x (helper_of u n) f))

  with_same : (n : ℕ) → renamed u.set n ≡ true → with_below (suc n) (helper_of u n) ≡ truth_of ρ ns n
  unfolding with_helpers
  with_same n e =
      let h : ℕ = helper_of u n in
      either (renamed u.set n) (eqb h h) (truth_of ρ ns n) (with_below n h) e (eq-eqb h h refl)

  with_option : (n x : ℕ) → x ≤ u.taken → with_below n x ≡ ρ x
  unfolding with_helpers
  with_option zero x h = refl
  with_option (suc n) x h = with_other n x (λ e q. omega (arith, helper_above u n)) ∙ with_option n x h

  with_helper : (n i : ℕ) → i < n → renamed u.set i ≡ true → with_below n (helper_of u i) ≡ truth_of ρ ns i
  with_helper zero i h e = absurd (omega arith)
  with_helper (suc n) i h e = go (eqb i n) refl (with_helper n i)
    where
      go : (b : Bool) → eqb i n ≡ b → (i < n → renamed u.set i ≡ true → with_below n (helper_of u i) ≡ truth_of ρ ns i)
          → with_below (suc n) (helper_of u i) ≡ truth_of ρ ns i
      go true q ih = let f : n ≡ i = sym (eqb-true i n q) in rw f (with_same i e)
      go false q ih =
          let other = eqb-false i n q in
          let l : i < n = omega arith in
          with_other n (helper_of u i) (λ f g. omega (arith, helper_rising u i n e l)) ∙ ih l e

  -- every option keeps its value
  pub extended-option : (x : ℕ) → x ≤ u.taken → extended ρ u ns x ≡ ρ x
  extended-option x h = with_option (length ns) x h

  -- every helper has its node's truth
  pub extended-helper : (i : ℕ) → i < length ns → renamed u.set i ≡ true → extended ρ u ns (helper_of u i) ≡ truth_of ρ ns i
  extended-helper i h e = with_helper (length ns) i h e

  pub extends : (v : ℕ) → v ≤ u.taken → Extends v u ns ρ (extended ρ u ns)
  extends v all = record {
    options = λ x some h. extended-option x (omega arith);
    helpers = extended-helper;
  }
