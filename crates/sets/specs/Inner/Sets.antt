-- Clauses by their place in clause bytes, the numbers of literals in a row of bits, and signatures.
-- Assumes nothing: these are definitions.
use Rattle.std.specs.Prelude.{Bool, true, false, cond, not, ◌||◌, List, [], ◌∷◌, map, ◌≡◌, ℕ, zero, suc, ◌+◌, ◌*◌, ◌/◌, ◌%◌, ◌^◌, ◌<◌, eqb, length, drop, replicate}
use Rattle.std.specs.Bool.{beq}
use Rattle.clausal.specs.Clauses.{Literal, Clause}
use Rattle.clausebytes.specs.Words.{words_of, literal_of, all_within, most_variables}
use Rattle.bits.specs.Inner.Rows.{has_bit, is_one}
use Rattle.tidied.specs.Tidying.{negation, some_negated, all_among}

-- the literals before the first zero
unfoldable pub clause_in : List ℕ → Clause
clause_in [] = []
clause_in (w ∷ ws) = cond (eqb w 0) [] (literal_of w ∷ clause_in ws)

-- the literals from word i on, up to a zero
abbrev pub clause_from : List ℕ → ℕ → Clause
clause_from bytes i = clause_in (drop i (words_of bytes))

-- the place of that zero
abbrev pub end_from : List ℕ → ℕ → ℕ
end_from bytes i = i + length (clause_from bytes i)

-- the number of a literal in a row of bits
abbrev pub code_of : Literal → ℕ
code_of l = 2 * l.variable + cond l.plain 0 1

abbrev pub codes_of : Clause → List ℕ
codes_of c = map code_of c

-- a literal, or its negation
abbrev pub turned_by : Bool → Literal → Literal
turned_by turned l = cond turned (negation l) l

-- the bytes of a row, and one without literals
abbrev pub row_bytes : ℕ
row_bytes = 10_001

abbrev pub no_literals : List ℕ
no_literals = replicate row_bytes 0

-- a literal is missing in a row, or, where they are turned, the negation of one is there
unfoldable pub some_is : List ℕ → Bool → Clause → Bool
some_is row turned [] = false
some_is row turned (l ∷ c) = beq (has_bit row (code_of (turned_by turned l))) turned || some_is row turned c

-- the same of two clauses
abbrev pub some_of : Bool → Clause → Clause → Bool
some_of turned a b = cond turned (some_negated a b) (not (all_among a b))

-- what the literal with number n adds to a signature
abbrev pub mix_of : ℕ → ℕ → ℕ
mix_of seed n = let x = (n + 1) * (2_654_435_761 + 1_000_006 * seed) % 2 ^ 32 in x * x / 2 ^ 17

-- a sum over the numbers below n
unfoldable pub sum_below : ℕ → (ℕ → ℕ) → ℕ
sum_below zero f = 0
sum_below (suc n) f = sum_below n f + f n

-- the signature of a clause: what its literals add, each once
abbrev pub sign_of : ℕ → Clause → ℕ
sign_of seed c = sum_below 80_008 (λ n. cond (is_one n (codes_of c)) (mix_of seed n) 0)

-- the most seeds
abbrev pub seeds : ℕ
seeds = 16

-- clause bytes whose literals have numbers, alone, with a row for them ..
abbrev pub Numbered : List ℕ → Type 0
Numbered bytes = all_within most_variables (words_of bytes) ≡ true

pub record Legible (bytes row : List ℕ) : Type 0 where
  pub within : Numbered bytes
  pub size : length row ≡ row_bytes

-- .. with a row without literals ..
pub record Ready (bytes row : List ℕ) : Type 0 where
  pub within : Numbered bytes
  pub empty : row ≡ no_literals

-- .. or with a seed
pub record Seeded (bytes : List ℕ) (seed : ℕ) : Type 0 where
  pub within : Numbered bytes
  pub few : seed < seeds

pub record Signable (bytes row : List ℕ) (seed : ℕ) : Type 0 where
  pub ready : Ready bytes row
  pub few : seed < seeds
