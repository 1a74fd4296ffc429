-- Numbers: read at a ceiling, and as bytes with the lowest first.
-- Assumes nothing: these are definitions.
use Rattle.std.specs.Prelude.{List, [], ◌∷◌, ℕ, zero, suc, ◌+◌, ◌*◌, ◌/◌, ◌%◌, min, get_or}

-- that or more shows as the ceiling
abbrev pub cap : ℕ → ℕ → ℕ
cap ceiling n = min n ceiling

-- the number that stands in w bytes from place j; past the end of the list a byte reads as 0
abbrev pub little_at : ℕ → List ℕ → ℕ → ℕ
little_at zero l j = 0
little_at (suc w) l j = get_or l j 0 + 256 * little_at w l (j + 1)

-- the w lowest bytes of a number
abbrev pub little : ℕ → ℕ → List ℕ
little zero x = []
little (suc w) x = x % 256 ∷ little w (x / 256)
