-- The fields of a line, read from its front.
-- Assumes nothing.
use mathlib.Core.Path.{◌≡◌}
use mathlib.Core.Bool.{true, false}
use mathlib.Core.List.{List, [], ◌∷◌}
use Prim.Native.Nat.{ℕ, ◌≤◌, ◌<◌}
use native.Mathlib.Omega.{arith}
use lib.ListN.{length, drop}
use Rattle.text.proofs.Laws.Pieces.{pieces_at, pieces-within, pieces-past, parted-some, NoField, missing, other, FieldIs}
use Rattle.std.specs.Prelude.{Some, None}
use Rattle.nodefile.specs.Files.{tab, are_numbers}

-- options that are right and wrong are told apart
pub number-differs : (x : ℕ) → Some x ≡ None → ⊥
number-differs x e = let z : ◌≡◌ {A = ℕ} 0 1 = cc in omega arith

pub number_same : (x y : ℕ) → Some x ≡ Some y → x ≡ y
number_same x y e = cc

-- no number here, a number more in front, and no field more
module _ (line : List ℕ) where
  pub numbers_not : {at most : ℕ} → NoField tab most line at → (limits : List ℕ) → are_numbers (most ∷ limits) (pieces_at tab line at) ≡ false
  unfolding are_numbers
  numbers_not (missing e) limits = rw e
  numbers_not (other p ps e n) limits = rw (e, n)

  pub numbers_step : {at most v next : ℕ} → FieldIs tab most line at v next → (limits : List ℕ)
      → are_numbers (most ∷ limits) (pieces_at tab line at) ≡ are_numbers limits (pieces_at tab line next)
  unfolding are_numbers
  numbers_step f limits = rw (f.pieces, f.number)

  pub numbers_more : (next : ℕ) → next ≤ length line → are_numbers [] (pieces_at tab line next) ≡ false
  unfolding are_numbers
  numbers_more next h = rw (pieces-within tab line next h, parted-some tab (drop next line))

  pub numbers_end : (next : ℕ) → length line < next → are_numbers [] (pieces_at tab line next) ≡ true
  unfolding are_numbers
  numbers_end next h = rw (pieces-past tab line next h)
