-- What the check of clause bytes finds, and the room of an output.
-- Assumes nothing: these are definitions.
use Rattle.std.specs.Prelude.{cond, List, ℕ, ◌+◌, ◌*◌, length, Option, Some, None}
use Rattle.clausal.specs.Totals.{literals_in}
use Rattle.clausebytes.specs.Words.{clauses_of, wrong_bytes}
use Rattle.clausebytes.specs.declared.check.Counted.{Counted}

-- refusal 9, or the totals of the clauses
abbrev pub checked_of : List ℕ → ℕ → Option Counted
checked_of bytes v =
    cond (wrong_bytes bytes v) None
    (Some (record { clauses = length (clauses_of bytes); literals = literals_in (clauses_of bytes) }))

-- R6.3
abbrev pub room_of : ℕ → ℕ → ℕ
room_of clauses literals = 4 * (literals + clauses)
