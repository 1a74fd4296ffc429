-- Sizes of what the steps of the program hand on.
-- Assumes nothing: these are definitions.
use Rattle.std.specs.Prelude.{List, ◌≡◌, ℕ, ◌+◌, ◌≤◌, length}
use Rattle.laws.specs.Inner.Stores.{Stored}
use Rattle.answer.specs.Answers.{told_of}
use Rattle.formula.specs.Tables.{most_table}
use Rattle.clausebytes.specs.Inner.Checks.{room_of}
use Rattle.clausal.specs.Calls.{measured}
use Rattle.program.specs.Printed.{buffer_bytes}

-- the bytes for the clauses and literals that measuring tells
abbrev pub size_told : List ℕ → ℕ → List ℕ → ℕ
size_told t v s = room_of (told_of (measured t v s)).first (told_of (measured t v s)).second

-- a table that is not too long, and a buffer
pub record Room (t out : List ℕ) : Type 0 where
  pub table : length t ≤ most_table
  pub buffer : length out ≡ buffer_bytes

-- the most bytes of a field: ten digits of a 32-bit number, and the byte behind them
abbrev pub most_field : ℕ
most_field = 11

-- a field was stored, and is not longer
pub record PutShort (xs before : List ℕ) (at next : ℕ) (after : List ℕ) : Type 0 where
  pub stored : Stored xs before at next after
  pub short : next ≤ at + most_field
