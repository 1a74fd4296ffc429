-- Rows of bits: which bits a row of bytes has, and rows with other bits.
-- Assumes nothing: these are definitions.
use Rattle.std.specs.Prelude.{Bool, true, false, cond, ◌||◌, List, [], ◌∷◌, ℕ, ◌+◌, ◌-◌, ◌/◌, ◌%◌, ◌^◌, eqb, get_or, set}

-- bit k of a byte
abbrev pub bit_of : ℕ → ℕ → Bool
bit_of b k = eqb (b / 2 ^ k % 2) 1

-- bit n of a row
abbrev pub has_bit : List ℕ → ℕ → Bool
has_bit row n = bit_of (get_or row (n / 8) 0) (n % 8)

-- a byte whose bit k is there or not
abbrev pub byte_to : ℕ → ℕ → Bool → ℕ
byte_to b k there = cond (bit_of b k) (cond there b (b - 2 ^ k)) (cond there (b + 2 ^ k) b)

-- a row whose bit n is there or not
abbrev pub row_to : List ℕ → ℕ → Bool → List ℕ
row_to row n there = set row (n / 8) (byte_to (get_or row (n / 8) 0) (n % 8) there)

-- a row with bits, and a row whose bytes with these bits are zero
unfoldable pub with_bits : List ℕ → List ℕ → List ℕ
with_bits [] row = row
with_bits (n ∷ ns) row = with_bits ns (row_to row n true)

unfoldable pub wiped : List ℕ → List ℕ → List ℕ
wiped [] row = row
wiped (n ∷ ns) row = wiped ns (set row (n / 8) 0)

-- a number is one of a list
unfoldable pub is_one : ℕ → List ℕ → Bool
is_one m [] = false
is_one m (n ∷ ns) = eqb m n || is_one m ns
