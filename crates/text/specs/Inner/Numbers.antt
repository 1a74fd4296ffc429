-- Numbers as a reader takes them in.
-- Assumes nothing: these are definitions.
use Rattle.std.specs.Prelude.{Bool, cond, ◌&&◌, List, ℕ, ◌+◌, ◌*◌, eqb, leb, ltb, Option, Some, None}
use Rattle.text.specs.Texts.{value_of, is_number}

abbrev pub is_digit : ℕ → Bool
is_digit b = leb 48 b && leb b 57

-- x with the digit d behind it, where x has digits or none; nothing behind a leading zero, and over the limit
abbrev pub grown_of : Bool → ℕ → ℕ → ℕ → Option ℕ
grown_of begun x d most = cond (begun && eqb x 0) None (cond (ltb most (x * 10 + d)) None (Some (x * 10 + d)))

-- the number that bytes are, up to `most`
abbrev pub number_of : ℕ → List ℕ → Option ℕ
number_of most bytes = cond (is_number most bytes) (Some (value_of bytes)) None
