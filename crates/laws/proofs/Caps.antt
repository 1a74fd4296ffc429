-- Capping at each step is capping at the end: one law for every ceiling.
-- Assumes nothing.
use mathlib.Core.Path.{◌≡◌, refl, sym, ap, ◌∙◌}
use Prim.Native.Nat.{ℕ, zero, suc, ◌+◌, ◌*◌, ◌≤◌, ◌<◌, min}
use native.Mathlib.Nat.{mul_comm, le-mul_of_pos_right, min-eq_left, mul-zero}
use native.Mathlib.Decide.{dec_le}
use native.Mathlib.Omega.{arith}
use Rattle.laws.specs.Numbers.{cap}

module _ (c : ℕ) where
  pub cap-add : (a b : ℕ) → cap c (cap c a + cap c b) ≡ cap c (a + b)
  cap-add a b = omega arith

  -- a factor may be capped, whatever the other is: zero stays zero
  pub cap_scale : (a k : ℕ) → cap c (cap c a * k) ≡ cap c (a * k)
  cap_scale a zero = simp mul-zero
  cap_scale a (suc k) = go (dec_le a c)
    where
      go : Dec (a ≤ c) → cap c (cap c a * suc k) ≡ cap c (a * suc k)
      go (yes h) = rw (min-eq_left h)
      go (no h) =
          let e : cap c a ≡ c = omega arith in
          let p : 0 < suc k = omega arith in
          rw e (omega (arith, le-mul_of_pos_right c p, le-mul_of_pos_right a p))

  pub cap_mul : (a b : ℕ) → cap c (cap c a * cap c b) ≡ cap c (a * b)
  cap_mul a b = cap_scale a (cap c b) ∙ rw mul_comm (cap_scale b a) ∙ ap (cap c) (mul_comm b a)
