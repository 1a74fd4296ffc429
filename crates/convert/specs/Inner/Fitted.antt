-- What is written after the checks, and what the converters ask.
-- Assumes nothing: these are definitions.
use Rattle.std.specs.Prelude.{false, cond, List, ◌≡◌, ℕ, ◌+◌, ◌*◌, ◌≤◌, ltb, length}
use Rattle.answer.specs.Answers.{after, refuses, Wrote, afterwards, stored}
use Rattle.answer.specs.Answers.{Answer}
use Rattle.answer.specs.Answers.{accepted_with}
use Rattle.std.specs.Prelude.{Err}
use Rattle.answer.specs.declared.Refusal.TheVariants.{Room}
use Rattle.marks.specs.Inner.Held.{Marked}
use Rattle.formula.specs.Inner.Right.{Right}
use Rattle.formula.specs.Tables.{most_options, node_count, nodes_of}
use Rattle.marks.specs.Sets.{set_checked}
use Rattle.formula.specs.declared.node.Node.{Node}
use Rattle.clausal.specs.Clauses.{clauses_bytes, Renaming, renaming, variables_of}
use Rattle.clausal.specs.Output.{output_of}
use Rattle.clausal.specs.Totals.{Size, size_of, totals}
use Rattle.totals.specs.Inner.Columns.{Ready}
use Rattle.totals.specs.declared.rows.Columns.{Columns}
use Rattle.clausal.specs.Calls.{ceilings}

-- R6.3: four bytes for each literal and for the zero of each clause
abbrev pub bytes_for : Size → ℕ
bytes_for x = 4 * (x.clauses + x.literals)

-- refusals 5 and 6, then 7
abbrev pub fitted : Size → ℕ → Answer
fitted x room = after (ceilings x) (cond (ltb room (bytes_for x)) (Err Room) (accepted_with 0 0))

-- what is written after the check of the set
abbrev pub written_under : Renaming → List Node → List ℕ → Wrote (List ℕ)
written_under u ns before =
    afterwards (ceilings (size_of (output_of u ns))) before
    (stored (accepted_with (variables_of u (length ns)) (length (output_of u ns))) (clauses_bytes (output_of u ns)) before)

-- a table that was checked, and what is taken
pub record Convertible (t : List ℕ) (taken : ℕ) : Type 0 where
  pub options : ℕ
  pub right : Right t options
  pub most : taken ≤ most_options

-- with its marks, and a set that was checked
pub record Settled (t : List ℕ) (taken : ℕ) (marks s : List ℕ) : Type 0 where
  pub convertible : Convertible t taken
  pub marked : Marked t marks
  pub set : set_checked (nodes_of t) s ≡ accepted_with 0 0

-- and the totals of its nodes
pub record Prepared (t : List ℕ) (taken : ℕ) (marks s : List ℕ) (columns : Columns) : Type 0 where
  pub settled : Settled t taken marks s
  pub ready : Ready s (nodes_of t) (node_count t) columns.clauses columns.literals

-- and the totals of the whole
pub record Measured (t : List ℕ) (taken : ℕ) (marks s : List ℕ) (columns : Columns) (sum : Size) : Type 0 where
  pub prepared : Prepared t taken marks s columns
  pub whole : sum ≡ totals (renaming 0 s) (nodes_of t)

-- and a buffer in which the output fits
pub record Fitting (t : List ℕ) (taken : ℕ) (marks s : List ℕ) (columns : Columns) (out : List ℕ) : Type 0 where
  pub prepared : Prepared t taken marks s columns
  pub fits : refuses (fitted (size_of (output_of (renaming taken s) (nodes_of t))) (length out)) ≡ false

-- what is written in it
abbrev pub output_bytes : List ℕ → ℕ → List ℕ → List ℕ
output_bytes t taken s = clauses_bytes (output_of (renaming taken s) (nodes_of t))
