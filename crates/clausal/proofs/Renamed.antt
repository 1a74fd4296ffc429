-- The byte of a node in a set: which nodes are renamed when it is set, and how many.
-- Assumes nothing.
use mathlib.Core.Path.{◌≡◌, refl, sym, ap, ◌∙◌}
use mathlib.Core.Logic.{◌≢◌}
use mathlib.Core.Bool.{Bool, true, false, cond}
use mathlib.Core.List.{List}
use Prim.Native.Nat.{ℕ, zero, suc, ◌+◌, ◌≤◌, ◌<◌}
use native.Mathlib.Omega.{arith}
use lib.Dec.{eqb}
use lib.ListN.{length, get_or, set, length-set}
use lib.Seq.{get_or-set_same, get_or-set_other, set-set, set-get_or}
use borrow.Author.Tests.{eqb-true, eqb-false}
use Rattle.marks.specs.Sets.{renamed}
use Rattle.clausal.specs.Clauses.{renamed_below}
use Rattle.clausal.proofs.Helpers.{renamed-inside}

-- a node counts once at most, and so do the nodes below i
pub one_at_most : (b : Bool) → cond b 1 0 ≤ 1
one_at_most true = omega arith
one_at_most false = omega arith

pub below_le : (s : List ℕ) (i : ℕ) → renamed_below s i ≤ i
unfolding renamed_below
below_le s zero = omega arith
below_le s (suc i) = omega (arith, below_le s i, one_at_most (renamed s i))

-- sets that agree on the nodes below n have as many of them
pub below-same : (s t : List ℕ) (n : ℕ) → ((i : ℕ) → i < n → renamed s i ≡ renamed t i)
    → renamed_below s n ≡ renamed_below t n
unfolding renamed_below
below-same s t zero e = refl
below-same s t (suc n) e =
    let before : renamed_below s n ≡ renamed_below t n = below-same s t n (λ i h. e i (omega arith)) in
    let last : renamed s n ≡ renamed t n = e n (omega arith) in
    λ j. before j + cond (last j) 1 0

-- a set with no node below n
pub below_none : (s : List ℕ) (n : ℕ) → ((i : ℕ) → i < n → renamed s i ≡ false) → renamed_below s n ≡ 0
unfolding renamed_below
below_none s zero e = refl
below_none s (suc n) e =
    let before : renamed_below s n ≡ 0 = below_none s n (λ i h. e i (omega arith)) in
    let last : renamed s n ≡ false = e n (omega arith) in
    λ j. before j + cond (last j) 1 0

module _ (s : List ℕ) (k : ℕ) where
  pub renamed-set-same : (byte : ℕ) → k < length s → renamed (set s k byte) k ≡ eqb byte 1
  renamed-set-same byte h = ap (λ (b : ℕ). eqb b 1) (get_or-set_same s k byte 0 h)

  pub renamed-set-other : (byte i : ℕ) → i ≢ k → renamed (set s k byte) i ≡ renamed s i
  renamed-set-other byte i n = ap (λ (b : ℕ). eqb b 1) (get_or-set_other s k i byte 0 n)

  -- where a node goes in, none goes out
  pub renamed-set-kept : (i : ℕ) → renamed s i ≡ true → renamed (set s k 1) i ≡ true
  renamed-set-kept i r = go (eqb i k) refl
    where
      go : (b : Bool) → eqb i k ≡ b → renamed (set s k 1) i ≡ true
      go true e =
          let q : i ≡ k = eqb-true i k e in
          ap (renamed (set s k 1)) q ∙ renamed-set-same 1 (omega (arith, renamed-inside s i r))
      go false e = renamed-set-other 1 i (eqb-false i k e) ∙ r

  -- one node more
  pub below_set : (n : ℕ) → k < n → k < length s → renamed s k ≡ false
      → renamed_below (set s k 1) n ≡ renamed_below s n + 1
  unfolding renamed_below
  below_set zero h l r = absurd (omega arith)
  below_set (suc n) h l r = go (eqb n k) refl (λ g. below_set n g l r)
    where
      go : (b : Bool) → eqb n k ≡ b → (k < n → renamed_below (set s k 1) n ≡ renamed_below s n + 1)
          → renamed_below (set s k 1) (suc n) ≡ renamed_below s (suc n) + 1
      go true e ih =
          let q : n ≡ k = eqb-true n k e in
          let before : renamed_below (set s k 1) n ≡ renamed_below s n =
          below-same (set s k 1) s n (λ i g. renamed-set-other 1 i (omega arith)) in
          let now : renamed (set s k 1) n ≡ true = ap (renamed (set s k 1)) q ∙ renamed-set-same 1 l in
          let was : renamed s n ≡ false = ap (renamed s) q ∙ r in
          rw (before, now, was) (omega arith)
      go false e ih =
          let other = eqb-false n k e in
          rw (ih (omega arith), renamed-set-other 1 n other) (omega arith)

-- one node less
pub below_unset : (s : List ℕ) (k n : ℕ) → k < n → k < length s → renamed s k ≡ true
    → renamed_below s n ≡ renamed_below (set s k 0) n + 1
below_unset s k n h l r =
    let again : set (set s k 0) k 1 ≡ s =
    set-set s k 0 1 ∙ ap (set s k) (sym (eqb-true (get_or s k 0) 1 r)) ∙ set-get_or s k 0 in
    sym (ap (λ (t : List ℕ). renamed_below t n) again)
    ∙ below_set (set s k 0) k n h (omega (arith, length-set s k 0)) (renamed-set-same s k 0 l)
