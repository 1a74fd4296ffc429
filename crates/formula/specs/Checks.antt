-- R10.10 to R10.12, R10.20 to R10.24: the check of a table.
-- Assumes nothing: these are definitions.
use Rattle.std.specs.Prelude.{Bool, cond, not, ◌||◌, List, ℕ, ◌%◌, eqb, ltb, length, Option, Some, None, Err}
use Rattle.laws.specs.Lists.{first}
use Rattle.formula.specs.Tables.{node_bytes, most_table, most_options, node_at, node_count, fault_of, fault_found}
use Rattle.answer.specs.Answers.{Answer, accepted_with}
use Rattle.answer.specs.declared.Fault.{Fault}
use Rattle.answer.specs.declared.Refusal.TheVariants.{TableLength, Options, Record}

-- R10.10
abbrev pub length_wrong : ℕ → Bool
length_wrong n = eqb n 0 || (not (eqb (n % node_bytes) 0) || ltb most_table n)

-- whether the record of node i is right
abbrev pub record_right : List ℕ → ℕ → ℕ → Bool
record_right t v i = eqb (fault_of v i (node_at t i)) 0

-- R10.24: the lowest node whose record is wrong, or the node count
abbrev pub first_wrong : List ℕ → ℕ → ℕ
first_wrong t v = first (record_right t v) (node_count t)

-- what is answered of the record of node i, with a fault or without one
abbrev pub record_told : Option Fault → ℕ → Answer
record_told None i = accepted_with 0 0
record_told (Some fault) i = Err (Record fault i)

abbrev pub records_checked : List ℕ → ℕ → Answer
records_checked t v =
    cond (ltb (first_wrong t v) (node_count t))
    (record_told (fault_found v (first_wrong t v) (node_at t (first_wrong t v))) (first_wrong t v))
    (accepted_with 0 0)

-- the answer of a check of table t for v options
abbrev pub checked : List ℕ → ℕ → Answer
checked t v =
    cond (length_wrong (length t)) (Err TableLength)
    (cond (ltb most_options v) (Err Options) (records_checked t v))
