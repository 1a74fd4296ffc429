-- The lowest number that fails a test: what a loop that looks for it knows at each turn, and what the number means.
-- Assumes nothing.
use mathlib.Core.Path.{◌≡◌, refl, sym, ap, ◌∙◌}
use mathlib.Core.Bool.{Bool, true, false, cond}
use Prim.Native.Nat.{ℕ, zero, suc, ◌+◌, ◌-◌, ◌≤◌, ◌<◌}
use native.Mathlib.Nat.{not-suc-le-zero}
use native.Mathlib.Omega.{arith}
use lib.Dec.{eqb}
use borrow.Author.Tests.{eqb-true, eqb-false}
use Rattle.laws.specs.Lists.{first_from, first}

module _ (right : ℕ → Bool) where
  -- a loop that looks for it: the numbers below i pass the test
  pub record Looking (n i : ℕ) : Type 0 where
    pub within : i ≤ n
    pub left : first right n ≡ first_from right i (n - i)

  pub looking_start : (n : ℕ) → Looking n 0
  looking_start n = record { within = omega arith; left = ap (first_from right 0) (omega arith) }

  -- the test holds at i
  pub looking_more : (n i : ℕ) → Looking n i → i < n → right i ≡ true → Looking n (i + 1)
  unfolding first_from
  looking_more n i l h e =
      let k : n - i ≡ suc (n - (i + 1)) = omega arith in
      record { within = omega arith; left = l.left ∙ rw k (rw e) }

  -- the test fails at i
  pub looking_here : (n i : ℕ) → Looking n i → i < n → right i ≡ false → i ≡ first right n
  unfolding first_from
  looking_here n i l h e =
      let k : n - i ≡ suc (n - (i + 1)) = omega arith in
      sym (l.left ∙ rw k (rw e))

  -- the end
  pub looking_end : (n i : ℕ) → Looking n i → n ≤ i → i ≡ first right n
  unfolding first_from
  looking_end n i l h =
      let k : n - i ≡ 0 = omega arith in
      sym (l.left ∙ rw k)

  -- what is found: every number before it passes the test, and it does not, unless it is the end
  record Found (i k f : ℕ) : Type 0 where
    least : i ≤ f
    most : f ≤ i + k
    before : (j : ℕ) → i ≤ j → j < f → right j ≡ true
    fails : f < i + k → right f ≡ false

  found : (i k : ℕ) → Found i k (first_from right i k)
  unfolding first_from
  found i zero = record {
    least = omega arith;
    most = omega arith;
    before = λ j l h. absurd (omega arith);
    fails = λ h. absurd (omega arith);
  }
  found i (suc k) = go (right i) refl (found (i + 1) k)
    where
      go : (b : Bool) → right i ≡ b → Found (i + 1) k (first_from right (i + 1) k) → Found i (suc k) (cond b (first_from right (i + 1) k) i)
      go false e r = record {
        least = omega arith;
        most = omega arith;
        before = λ j l h. absurd (omega arith);
        fails = λ h. e;
      }
      go true e r = record {
        least = omega (arith, r.least);
        most = omega (arith, r.most);
        before = λ j l h. at j l h (eqb i j) refl;
        fails = λ h. r.fails (omega arith);
      }
        where
          at : (j : ℕ) → i ≤ j → j < first_from right (i + 1) k → (t : Bool) → eqb i j ≡ t → right j ≡ true
          at j l h true q = ap right (sym (eqb-true i j q)) ∙ e
          at j l h false q = r.before j (let n = eqb-false i j q in omega arith) h

  pub first_le : (n : ℕ) → first right n ≤ n
  first_le n = omega (arith, (found 0 n).most)

  pub first-before : (n j : ℕ) → j < first right n → right j ≡ true
  first-before n j h = (found 0 n).before j (omega arith) h

  pub first_fails : (n : ℕ) → first right n < n → right (first right n) ≡ false
  first_fails n h = (found 0 n).fails (omega arith)
