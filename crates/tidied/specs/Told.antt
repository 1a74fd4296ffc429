-- R23.19: what changes tell who knows how many clauses are kept: the fate of every given clause, and which literals went.
-- Assumes nothing: these are definitions.
use Rattle.std.specs.Prelude.{cond, List, [], ◌∷◌, ◌++◌, ℕ, ◌+◌, eqb, get_or}
use Rattle.laws.specs.Lists.{up_to}
use Rattle.clausal.specs.Clauses.{Clause}
use Rattle.tidied.specs.Tidying.{others_of, Fate, stays, tautology, repeats, fates_of, Cause, equal, both, again, Change}

-- the changes of clause n
unfoldable pub changes_at : ℕ → List Change → List Change
changes_at n [] = []
changes_at n (x ∷ xs) = cond (eqb x.clause n) (x ∷ changes_at n xs) (changes_at n xs)

-- what a change tells of its clause, by its cause and its number
abbrev pub told_by : Cause → ℕ → Fate
told_by equal p = stays
told_by both p = tautology
told_by again m = repeats m

-- the fate of a clause by its changes; one without changes stays
abbrev pub told_fate : List Change → Fate
told_fate [] = stays
told_fate (x ∷ xs) = told_by x.cause x.number

-- how many clauses went
abbrev pub gone_by : Cause → ℕ
gone_by equal = 0
gone_by both = 1
gone_by again = 1

abbrev pub gone_in : List Change → ℕ
gone_in [] = 0
gone_in (x ∷ xs) = gone_by x.cause + gone_in xs

-- the fates of all given clauses, of which k are kept
abbrev pub told_fates : ℕ → List Change → List Fate
told_fates k xs = up_to (λ before n. told_fate (changes_at n xs)) (k + gone_in xs)

-- the positions of the literals that went, by the changes of their clause
abbrev pub position_by : Cause → ℕ → List ℕ
position_by equal p = p ∷ []
position_by both p = []
position_by again m = []

abbrev pub told_positions : List Change → List ℕ
told_positions [] = []
told_positions (x ∷ xs) = position_by x.cause x.number ++ told_positions xs

-- the positions that are to be told: those of the others of equal literals, in a clause that is kept
abbrev pub positions_of : Fate → Clause → List ℕ
positions_of stays c = others_of c
positions_of tautology c = []
positions_of (repeats m) c = []

-- those of clause n
abbrev pub positions_at : List Clause → ℕ → List ℕ
positions_at cs n = positions_of (get_or (fates_of cs) n stays) (get_or cs n [])
