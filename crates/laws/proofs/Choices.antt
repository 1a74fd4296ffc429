-- What was chosen by a test tells how the test went; and tests of two parts.
-- Assumes nothing.
use mathlib.Core.Path.{◌≡◌, refl, sym}
use mathlib.Core.Bool.{Bool, true, false, cond, ◌&&◌, ◌||◌}
use Prim.Native.Nat.{ℕ}
use native.Mathlib.Omega.{arith}

module _ {A : Type 0} (x y : A) where
  -- the second of two that differ
  pub chose_second : (x ≡ y → ⊥) → (b : Bool) → y ≡ cond b x y → b ≡ false
  chose_second d true e = absurd (d (sym e))
  chose_second d false e = refl

  -- what is not the second is the first
  pub chose_first : (z : A) → (z ≡ y → ⊥) → (b : Bool) → z ≡ cond b x y → (b ≡ true) × (z ≡ x)
  chose_first z d true e = (refl, e)
  chose_first z d false e = absurd (d e)

-- both parts of a test hold, and neither does
pub both : (a b : Bool) → (a && b) ≡ true → (a ≡ true) × (b ≡ true)
both true b e = (refl, e)
both false b e = let z : ◌≡◌ {A = ℕ} 0 1 = cc in absurd (omega arith)

pub neither : (a b : Bool) → (a || b) ≡ false → (a ≡ false) × (b ≡ false)
neither true b e = let z : ◌≡◌ {A = ℕ} 0 1 = cc in absurd (omega arith)
neither false b e = (refl, e)
