-- R6, R9, R10.7: the words of clause bytes, the clauses that they stand for, and which clauses and bytes are right.
-- Assumes nothing: these are definitions.
use Rattle.std.specs.Prelude.{cond, Bool, true, false, not, ◌||◌, List, [], ◌∷◌, ℕ, ◌-◌, ◌^◌, ◌%◌, ◌≤◌, ◌<◌, eqb, ltb, length}
use Rattle.laws.specs.Numbers.{little_at}
use Rattle.clausal.specs.Clauses.{Literal, Clause}
use Rattle.clausal.specs.Totals.{literals_in}

-- R6.1: the words, four bytes each, and the literal of a word that is not zero
unfoldable pub words_of : List ℕ → List ℕ
words_of [] = []
words_of (a ∷ []) = []
words_of (a ∷ b ∷ []) = []
words_of (a ∷ b ∷ c ∷ []) = []
words_of (a ∷ b ∷ c ∷ d ∷ t) = little_at 4 (a ∷ b ∷ c ∷ d ∷ t) 0 ∷ words_of t

abbrev pub literal_of : ℕ → Literal
literal_of w = record { plain = ltb w (2 ^ 31); variable = cond (ltb w (2 ^ 31)) w (2 ^ 32 - w) }

-- R6.2: the clauses of words, where zero closes one
abbrev pub ahead : Literal → List Clause → List Clause
ahead l [] = (l ∷ []) ∷ []
ahead l (c ∷ cs) = (l ∷ c) ∷ cs

unfoldable pub clauses_in : List ℕ → List Clause
clauses_in [] = []
clauses_in (w ∷ ws) = cond (eqb w 0) ([] ∷ clauses_in ws) (ahead (literal_of w) (clauses_in ws))

abbrev pub clauses_of : List ℕ → List Clause
clauses_of bytes = clauses_in (words_of bytes)

-- R9.8
abbrev pub most_variables : ℕ
most_variables = 40_000

abbrev pub most_clauses : ℕ
most_clauses = 65_534

-- R9.14: every literal is of one of the variables 1 to v
pub data Within (v : ℕ) : List Clause → Type 0 where
  none : Within v []
  closed : {cs : List Clause} → Within v cs → Within v ([] ∷ cs)
  literal : {l : Literal} {c : Clause} {cs : List Clause} → 0 < l.variable → l.variable ≤ v → Within v (c ∷ cs) → Within v ((l ∷ c) ∷ cs)

-- R9.16
abbrev pub most_literals : ℕ
most_literals = 999_999

-- R9.8, R9.14 and R9.16: clauses that may be read and written
pub record Right (v : ℕ) (cs : List Clause) : Type 0 where
  pub variables : v ≤ most_variables
  pub clauses : length cs ≤ most_clauses
  pub literals : literals_in cs ≤ most_literals
  pub within : Within v cs

-- R10.7: no clause is open at the end; b says whether one is before the words
unfoldable pub closed_from : Bool → List ℕ → Bool
closed_from b [] = b
closed_from b (w ∷ ws) = closed_from (eqb w 0) ws

-- R10.7: no magnitude is over v
unfoldable pub all_within : ℕ → List ℕ → Bool
all_within v [] = true
all_within v (w ∷ ws) = cond (ltb v (literal_of w).variable) false (all_within v ws)

-- R10.7: refusal 9, in the order of the rule
abbrev pub wrong_bytes : List ℕ → ℕ → Bool
wrong_bytes bytes v =
    not (eqb (length bytes % 4) 0)
    || (not (closed_from true (words_of bytes))
    || (not (all_within v (words_of bytes))
    || (ltb most_variables v
    || (ltb most_clauses (length (clauses_of bytes))
    || ltb most_literals (literals_in (clauses_of bytes))))))
