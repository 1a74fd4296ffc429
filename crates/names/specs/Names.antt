-- R19.7 to R19.11: lists of names, which of them are right, and the name of an option or of a helper.
-- Assumes nothing: these are definitions.
use Rattle.std.specs.Prelude.{Bool, true, false, cond, not, ◌&&◌, ◌||◌, List, [], ◌∷◌, ◌++◌, ℕ, zero, suc, ◌-◌, eqb, leb, get_or}
use Rattle.text.specs.Texts.{parted}

abbrev pub tab : ℕ
tab = 9

abbrev pub newline : ℕ
newline = 10

-- whether a byte stands in a list
unfoldable pub has : ℕ → List ℕ → Bool
has b [] = false
has b (x ∷ xs) = eqb x b || has b xs

-- whether a list has no element
abbrev pub is_none : {A : Type 0} → List A → Bool
is_none [] = true
is_none (x ∷ xs) = false

-- R19.8: a name has a byte, and no tab; what is between two newlines has no newline
abbrev pub is_name : List ℕ → Bool
is_name p = not (is_none p) && not (has tab p)

-- R19.7: n names, and behind the last newline nothing
unfoldable pub names_are : ℕ → List (List ℕ) → Bool
names_are n [] = false
names_are zero (p ∷ ps) = is_none p && is_none ps
names_are (suc n) (p ∷ ps) = is_name p && names_are n ps

-- R19.7, R19.9: whether a list has exactly n names, each ended by a newline
abbrev pub right_names : ℕ → List ℕ → Bool
right_names n list = names_are n (parted newline list)

-- R19.7: names as a list has them, each ended by a newline
unfoldable pub listed : List (List ℕ) → List ℕ
listed [] = []
listed (p ∷ ps) = p ++ (newline ∷ listed ps)

-- R19.10: name j of a list, from 0: the piece between newline j - 1 and newline j
abbrev pub name_in : List ℕ → ℕ → List ℕ
name_in list j = get_or (parted newline list) j []

-- R19.11: option s has name s of the options' list, helper V + j name j of the helpers' list, both from 1
abbrev pub name_of : List ℕ → List ℕ → ℕ → ℕ → List ℕ
name_of options helpers v n = cond (leb n v) (name_in options (n - 1)) (name_in helpers (n - v - 1))
