-- The definitions on small inputs: decimals and pieces.
-- Assumes nothing.
use mathlib.Core.Path.{◌≡◌, refl}
use mathlib.Core.Bool.{true}
use mathlib.Core.List.{[], ◌∷◌}
use Rattle.text.specs.Texts.{digits, decimal, value_from, same, parted}
use Rattle.text.specs.Inner.Numbers.{grown_of, number_of}
use Rattle.std.specs.Prelude.{Some, None}

-- no needless zero, and none for 0 itself
nought : decimal 0 ≡ 48 ∷ []
unfolding digits
nought = refl

ten_digits : decimal 4_294_967_295 ≡ 52 ∷ 50 ∷ 57 ∷ 52 ∷ 57 ∷ 54 ∷ 55 ∷ 50 ∷ 57 ∷ 53 ∷ []
unfolding digits
ten_digits = refl

leading_zero : number_of 99 (48 ∷ 49 ∷ []) ≡ None
unfolding digits value_from same
leading_zero = refl

no_digit : number_of 99 [] ≡ None
unfolding digits value_from same
no_digit = refl

-- a digit more, at the largest limit of 32 bits
largest : grown_of true 429_496_729 5 4_294_967_295 ≡ Some 4_294_967_295
largest = refl

over_largest : grown_of true 429_496_729 6 4_294_967_295 ≡ None
over_largest = refl

behind-zero : grown_of true 0 1 99 ≡ None
behind-zero = refl

-- a mark more is a piece more
pieces : parted 9 (49 ∷ 9 ∷ 9 ∷ 50 ∷ []) ≡ (49 ∷ []) ∷ [] ∷ (50 ∷ []) ∷ []
unfolding parted
pieces = refl
