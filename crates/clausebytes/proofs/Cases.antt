-- The definitions on small inputs: words, clauses, and clause bytes that are wrong.
-- Assumes nothing.
use mathlib.Core.Path.{◌≡◌, refl}
use mathlib.Core.Bool.{true, false}
use mathlib.Core.List.{[], ◌∷◌}
use Prim.Native.Nat.{◌^◌}
use Rattle.clausebytes.specs.Words.{words_of, literal_of, clauses_in, clauses_of, closed_from, all_within, wrong_bytes}

-- `1 -2`, and an empty clause
two_clauses : clauses_of (1 ∷ 0 ∷ 0 ∷ 0 ∷ 254 ∷ 255 ∷ 255 ∷ 255 ∷ 0 ∷ 0 ∷ 0 ∷ 0 ∷ 0 ∷ 0 ∷ 0 ∷ 0 ∷ [])
    ≡ (record { plain = true; variable = 1 } ∷ record { plain = false; variable = 2 } ∷ []) ∷ [] ∷ []
unfolding words_of clauses_in
two_clauses = refl

-- the lowest number has a magnitude over every number of variables
lowest : literal_of (2 ^ 31) ≡ record { plain = false; variable = 2 ^ 31 }
lowest = refl

-- no byte is right, with up to 40,000 variables
no_byte : wrong_bytes [] 40000 ≡ false
unfolding words_of clauses_in closed_from all_within
no_byte = refl

variables-over : wrong_bytes [] 40001 ≡ true
unfolding words_of clauses_in closed_from all_within
variables-over = refl

-- three bytes; a clause that is open; a magnitude over the variables, and one that is not
part_of_a_word : wrong_bytes (0 ∷ 0 ∷ 0 ∷ []) 1 ≡ true
unfolding words_of clauses_in closed_from all_within
part_of_a_word = refl

clause-open : wrong_bytes (1 ∷ 0 ∷ 0 ∷ 0 ∷ []) 1 ≡ true
unfolding words_of clauses_in closed_from all_within
clause-open = refl

magnitude-over : wrong_bytes (254 ∷ 255 ∷ 255 ∷ 255 ∷ 0 ∷ 0 ∷ 0 ∷ 0 ∷ []) 1 ≡ true
unfolding words_of clauses_in closed_from all_within
magnitude-over = refl

magnitude-most : wrong_bytes (254 ∷ 255 ∷ 255 ∷ 255 ∷ 0 ∷ 0 ∷ 0 ∷ 0 ∷ []) 2 ≡ false
unfolding words_of clauses_in closed_from all_within
magnitude-most = refl
