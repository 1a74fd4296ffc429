-- Lists of names and their names on small inputs, with lists that are not right.
-- Assumes nothing.
use mathlib.Core.Path.{◌≡◌, refl}
use mathlib.Core.Bool.{true, false}
use mathlib.Core.List.{[], ◌∷◌}
use Rattle.text.specs.Texts.{parted}
use Rattle.names.specs.Names.{has, names_are, right_names, listed, name_in, name_of}
use Rattle.names.specs.Inner.Notes.{lengths, place_of}

-- `ab\nc\n` has the names `ab` and `c`
two_names : right_names 2 (97 ∷ 98 ∷ 10 ∷ 99 ∷ 10 ∷ []) ≡ true
unfolding parted names_are has
two_names = refl

two_listed : listed ((97 ∷ 98 ∷ []) ∷ (99 ∷ []) ∷ []) ≡ 97 ∷ 98 ∷ 10 ∷ 99 ∷ 10 ∷ []
unfolding listed
two_listed = refl

second-name : name_in (97 ∷ 98 ∷ 10 ∷ 99 ∷ 10 ∷ []) 1 ≡ 99 ∷ []
unfolding parted
second-name = refl

second-place : place_of (97 ∷ 98 ∷ 10 ∷ 99 ∷ 10 ∷ []) 1 ≡ 3
unfolding parted lengths
second-place = refl

-- a name too few, and one too many
name-short : right_names 3 (97 ∷ 98 ∷ 10 ∷ 99 ∷ 10 ∷ []) ≡ false
unfolding parted names_are has
name-short = refl

name-over : right_names 1 (97 ∷ 98 ∷ 10 ∷ 99 ∷ 10 ∷ []) ≡ false
unfolding parted names_are has
name-over = refl

-- `a\n\nb\n`, `a\tb\n`, and `a\nb`
empty_name : right_names 3 (97 ∷ 10 ∷ 10 ∷ 98 ∷ 10 ∷ []) ≡ false
unfolding parted names_are has
empty_name = refl

tab_in_name : right_names 1 (97 ∷ 9 ∷ 98 ∷ 10 ∷ []) ≡ false
unfolding parted names_are has
tab_in_name = refl

no_last_newline : right_names 2 (97 ∷ 10 ∷ 98 ∷ []) ≡ false
unfolding parted names_are has
no_last_newline = refl

-- an empty list has no name, and one newline has an empty one
no_names : right_names 0 [] ≡ true
unfolding parted names_are
no_names = refl

none_for_one : right_names 1 [] ≡ false
unfolding parted names_are has
none_for_one = refl

newline_alone : right_names 0 (10 ∷ []) ≡ false
unfolding parted names_are
newline_alone = refl

-- `é!\n`, and any byte but a tab and a newline, also a carriage return and a zero
any-byte : right_names 1 (195 ∷ 169 ∷ 33 ∷ 10 ∷ []) ≡ true
unfolding parted names_are has
any-byte = refl

other-bytes : right_names 1 (0 ∷ 13 ∷ 32 ∷ 255 ∷ 10 ∷ []) ≡ true
unfolding parted names_are has
other-bytes = refl

-- two options, `a` and `b`, and a helper, `h`: the last option, and the first helper
last-option : name_of (97 ∷ 10 ∷ 98 ∷ 10 ∷ []) (104 ∷ 10 ∷ []) 2 2 ≡ 98 ∷ []
unfolding parted
last-option = refl

first-helper : name_of (97 ∷ 10 ∷ 98 ∷ 10 ∷ []) (104 ∷ 10 ∷ []) 2 3 ≡ 104 ∷ []
unfolding parted
first-helper = refl
