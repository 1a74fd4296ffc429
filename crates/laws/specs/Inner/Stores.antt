-- Runs that were stored, and lists as arrays hold them.
-- Assumes nothing: these are definitions.
use Rattle.std.specs.Prelude.{List, ◌++◌, ◌≡◌, ℕ, ◌+◌, ◌-◌, length, replicate}
use Rattle.laws.specs.Lists.{splice}

-- xs was stored in `before` from `at` on, which gives `after`; `next` is the place behind it
pub record Stored (xs before : List ℕ) (at next : ℕ) (after : List ℕ) : Type 0 where
  pub place : next ≡ at + length xs
  pub list : after ≡ splice before at xs

-- the list, filled up with z to n elements, as an array holds it
abbrev pub pad_to {ℓ} : {A : Type ℓ} → ℕ → A → List A → List A
pad_to n z xs = xs ++ replicate (n - length xs) z
