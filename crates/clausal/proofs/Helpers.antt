-- Helpers: the renamed nodes get the numbers after those taken, one each, in rising node number.
-- Assumes nothing.
use mathlib.Core.Path.{◌≡◌, refl, sym, ap}
use mathlib.Core.Bool.{Bool, true, false, cond}
use mathlib.Core.List.{List}
use Prim.Native.Nat.{ℕ, zero, suc, ◌+◌, ◌≤◌, ◌<◌}
use native.Mathlib.Decide.{dec_lt}
use native.Mathlib.Omega.{arith}
use lib.Dec.{eqb, leb}
use lib.ListN.{length, get_or-eq_default}
use borrow.Author.Tests.{ne_eqb, eqb-true, eqb-false, leb-true, leb-false}
use Rattle.marks.specs.Sets.{renamed}
use Rattle.clausal.specs.Clauses.{renamed_below, helper_of, variables_of, Renaming, name_of}

module _ (s : List ℕ) where
  -- a renamed node is in the set
  pub renamed-inside : (i : ℕ) → renamed s i ≡ true → i < length s
  renamed-inside i e = go (dec_lt i (length s))
    where
      go : Dec (i < length s) → i < length s
      go (yes h) = h
      go (no h) =
          let f : renamed s i ≡ false = ap (λ (b : ℕ). eqb b 1) (get_or-eq_default s 0 (omega arith)) in
          let z : ◌≡◌ {A = ℕ} 0 1 = cc in
          absurd (omega arith)

  below-renamed : (i : ℕ) → renamed s i ≡ true → renamed_below s (suc i) ≡ renamed_below s i + 1
  unfolding renamed_below
  below-renamed i e = ap (λ (b : Bool). renamed_below s i + cond b 1 0) e

  below_step : (i : ℕ) → renamed_below s i ≤ renamed_below s (suc i)
  unfolding renamed_below
  below_step i = omega arith

  below_rises : (i n : ℕ) → i ≤ n → renamed_below s i ≤ renamed_below s n
  below_rises i zero h = let e : i ≡ 0 = omega arith in rw e (omega arith)
  below_rises i (suc n) h = go (leb i n) refl (below_rises i n)
    where
      go : (b : Bool) → leb i n ≡ b → (i ≤ n → renamed_below s i ≤ renamed_below s n)
          → renamed_below s i ≤ renamed_below s (suc n)
      go true e ih = omega (arith, ih (leb-true i n e), below_step n)
      go false e ih = let q : i ≡ suc n = omega (arith, leb-false i n e) in rw q (omega arith)

  -- a node that is renamed counts for every node above it
  pub below_grows : (i n : ℕ) → renamed s i ≡ true → i < n → renamed_below s i < renamed_below s n
  below_grows i n e h = omega (arith, below-renamed i e, below_rises (suc i) n h)

module _ (u : Renaming) where
  -- no helper is taken
  pub helper_above : (i : ℕ) → u.taken < helper_of u i
  helper_above i = omega arith

  pub helper_rising : (i j : ℕ) → renamed u.set i ≡ true → i < j → helper_of u i < helper_of u j
  helper_rising i j e h = omega (arith, below_grows u.set i j e h)

  pub helper-most : (i n : ℕ) → renamed u.set i ≡ true → i < n → helper_of u i ≤ variables_of u n
  helper-most i n e h = omega (arith, below_grows u.set i n e h)

  -- a helper is a number from 1 on
  pub helper-some : (i : ℕ) → eqb (helper_of u i) 0 ≡ false
  helper-some i = ne_eqb (helper_of u i) 0 (λ e. omega arith)

  -- the helper as which a node is seen
  pub name-renamed : (i : ℕ) → renamed u.set i ≡ true → name_of u i ≡ helper_of u i
  name-renamed i e = ap (λ (b : Bool). cond b (helper_of u i) 0) e

  pub name-plain : (i : ℕ) → renamed u.set i ≡ false → name_of u i ≡ 0
  name-plain i e = ap (λ (b : Bool). cond b (helper_of u i) 0) e

  -- one helper each
  pub helper-same : (i j : ℕ) → renamed u.set i ≡ true → renamed u.set j ≡ true → helper_of u i ≡ helper_of u j → i ≡ j
  helper-same i j e f q = go (dec_lt i j) (dec_lt j i)
    where
      go : Dec (i < j) → Dec (j < i) → i ≡ j
      go (yes h) d = absurd (omega (arith, helper_rising i j e h))
      go (no h) (yes g) = absurd (omega (arith, helper_rising j i f g))
      go (no h) (no g) = omega arith

  -- each number after those taken, up to the variables reported, is the helper of a renamed node
  pub record Helped (n x : ℕ) : Type 0 where
    pub node : ℕ
    pub inside : node < n
    pub renames : renamed u.set node ≡ true
    pub is : helper_of u node ≡ x

  pub helped : (n x : ℕ) → u.taken < x → x ≤ variables_of u n → Helped n x
  unfolding renamed_below
  helped zero x h g = absurd (omega arith)
  helped (suc n) x h g = go (renamed u.set n) refl (eqb x (helper_of u n)) refl (λ l. before (helped n x h l))
    where
      before : Helped n x → Helped (suc n) x
      before r = record { node = r.node; inside = omega (arith, r.inside); renames = r.renames; is = r.is }

      go : (b : Bool) → renamed u.set n ≡ b → (c : Bool) → eqb x (helper_of u n) ≡ c → (x ≤ variables_of u n → Helped (suc n) x)
          → Helped (suc n) x
      go false e c f ih =
          let same : renamed_below u.set (suc n) ≡ renamed_below u.set n + 0 = ap
          (λ (b : Bool). renamed_below u.set n + cond b 1 0) e in
          ih (omega arith)
      go true e false f ih =
          let more : renamed_below u.set (suc n) ≡ renamed_below u.set n + 1 = below-renamed u.set n e in
          let other = eqb-false x (helper_of u n) f in
          ih (omega arith)
      go true e true f ih =
          record { node = n; inside = omega arith; renames = e; is = sym (eqb-true x (helper_of u n) f) }
