-- What every call that goes on from a table and a set asks first: marks, the check of the set, and the totals.
-- Assumes nothing: these are definitions.
use Rattle.std.specs.Prelude.{true, false, List, ◌≡◌, ℕ, length, replicate, Result, Ok, Err}
use Rattle.answer.specs.Answers.{Answer, refuses}
use Rattle.answer.specs.declared.Refusal.{Refusal}
use Rattle.formula.specs.Inner.Right.{RightLength}
use Rattle.formula.specs.Tables.{most_nodes, node_count, nodes_of}
use Rattle.marks.specs.Inner.Held.{Marked}
use Rattle.marks.specs.Sets.{set_checked}
use Rattle.clausal.specs.Clauses.{renaming}
use Rattle.clausal.specs.Totals.{totals}
use Rattle.capped.specs.Inner.Sized.{as_total}
use Rattle.capped.specs.declared.total.Total.{Total}
use Rattle.totals.specs.Inner.Columns.{zeros, Ready}

-- a table of a right length, and arrays of zeros
pub record Blank (t marks : List ℕ) (cs ls : List (List ℕ)) : Type 0 where
  pub size : RightLength (length t)
  pub unmarked : marks ≡ replicate most_nodes 0
  pub clauses : cs ≡ zeros
  pub literals : ls ≡ zeros

-- a total where a check is passed, else its refusal
abbrev pub total_after : Answer → Total → Result Total Refusal
total_after (Ok x) sum = Ok sum
total_after (Err r) sum = Err r

-- the check of the set, and the totals where it is right
abbrev pub prepared_of : List ℕ → List ℕ → Result Total Refusal
prepared_of t s = total_after (set_checked (nodes_of t) s) (as_total (totals (renaming 0 s) (nodes_of t)))

-- the marks are there, and the rows of all nodes where the set is right; else there are still zeros
pub record Prepares (t s : List ℕ) (p : Result Total Refusal) (marks : List ℕ) (cs ls : List (List ℕ)) : Type 0 where
  pub result : p ≡ prepared_of t s
  pub marked : Marked t marks
  pub ready : refuses (set_checked (nodes_of t) s) ≡ false → Ready s (nodes_of t) (node_count t) cs ls
  pub kept : refuses (set_checked (nodes_of t) s) ≡ true → (cs ≡ zeros) × (ls ≡ zeros)
