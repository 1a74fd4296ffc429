-- R9.13 and R13.4: numbers in decimal, with no needless zero, as bytes of text.
-- R13.1: the pieces of a text between its marks.
-- Assumes nothing: these are definitions.
use Rattle.std.specs.Prelude.{Bool, true, false, cond, ◌&&◌, List, [], ◌∷◌, ◌++◌, ℕ, zero, suc, ◌+◌, ◌*◌, ◌-◌, ◌/◌, ◌%◌, eqb, leb, ltb}

-- R9.13 and R13.4: the digits of n, where k is at least their number less one
unfoldable pub digits : ℕ → ℕ → List ℕ
digits zero n = (48 + n) ∷ []
digits (suc k) n = let longer = digits k (n / 10) ++ ((48 + n % 10) ∷ []) in cond (ltb n 10) ((48 + n) ∷ []) longer

abbrev pub decimal : ℕ → List ℕ
decimal n = digits n n

-- R13.4: the value of bytes as digits, behind those of x
unfoldable pub value_from : ℕ → List ℕ → ℕ
value_from x [] = x
value_from x (b ∷ t) = value_from (x * 10 + (b - 48)) t

abbrev pub value_of : List ℕ → ℕ
value_of bytes = value_from 0 bytes

-- R13.2 and R13.4: whether two runs of bytes are the same
unfoldable pub same : List ℕ → List ℕ → Bool
same [] [] = true
same [] (y ∷ ys) = false
same (x ∷ xs) [] = false
same (x ∷ xs) (y ∷ ys) = eqb x y && same xs ys

-- R13.4: whether bytes are a number up to `most`: the decimal of their value
abbrev pub is_number : ℕ → List ℕ → Bool
is_number most bytes = same bytes (decimal (value_of bytes)) && leb (value_of bytes) most

-- R13.1: a byte in front of pieces: a mark ends a piece before them, any other byte stands in the first of them
abbrev pub ahead : Bool → ℕ → List (List ℕ) → List (List ℕ)
ahead true b ps = [] ∷ ps
ahead false b [] = (b ∷ []) ∷ []
ahead false b (p ∷ ps) = (b ∷ p) ∷ ps

-- R13.1: the pieces of a text, without the marks between them: one piece more than there are marks
unfoldable pub parted : ℕ → List ℕ → List (List ℕ)
parted mark [] = [] ∷ []
parted mark (b ∷ t) = ahead (eqb b mark) b (parted mark t)

-- R19.5: pieces with a mark between every two
abbrev pub joined : ℕ → List (List ℕ) → List ℕ
joined mark [] = []
joined mark (p ∷ []) = p
joined mark (p ∷ q ∷ ps) = p ++ (mark ∷ joined mark (q ∷ ps))
