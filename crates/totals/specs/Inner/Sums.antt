-- What is collected of a formula, definition by definition; and what a sum and a trial ask and give.
-- Assumes nothing: these are definitions.
use Rattle.std.specs.Prelude.{Bool, true, false, cond, List, ◌≡◌, ℕ, ◌+◌, ◌<◌, ◌≤◌, length, set}
use Rattle.marks.specs.Inner.Held.{Marked}
use Rattle.formula.specs.Inner.Right.{Below}
use Rattle.marks.specs.Marks.{halves_of}
use Rattle.formula.specs.Tables.{node_count, node_in, nodes_of}
use Rattle.marks.specs.Sets.{renamed}
use Rattle.marks.specs.declared.mark.Mark.{Mark}
use Rattle.formula.specs.declared.node.Node.{Node}
use Rattle.clausal.specs.Clauses.{Algebra, Row, renaming}
use Rattle.clausal.specs.Totals.{total_under}
use Rattle.totals.specs.Inner.Columns.{Ready}

module _ {C : Type 0} (A : Algebra C) where
  -- a sum with one more part, where the definition has it
  abbrev pub with_part : Bool → C → C → C
  with_part b part sum = cond b (A.cat sum part) sum

  -- a sum with the definition of a node with helper h: the half down, then the half up
  abbrev pub with_definition : ℕ → Mark → Row C → C → C
  with_definition h m r sum =
      with_part (halves_of m).up (A.join r.N (A.unit true h))
      (with_part (halves_of m).down (A.join (A.unit false h) r.P) sum)

  -- a sum with what a node adds: its definition, where it is renamed
  abbrev pub with_node : Bool → ℕ → Mark → Row C → C → C
  with_node renames h m r sum = cond renames (with_definition h m r sum) sum

-- no node below `from` is renamed
abbrev pub Low : List ℕ → ℕ → Type 0
Low s from = (j : ℕ) → j < from → renamed s j ≡ false

-- marks and rows of a table, of which no node below `from` is renamed
pub record Summable (t marks s : List ℕ) (from : ℕ) (cs ls : List (List ℕ)) : Type 0 where
  pub marked : Marked t marks
  pub low : Low s from
  pub within : from ≤ node_count t
  pub ready : Ready s (nodes_of t) (node_count t) cs ls

-- a node whose byte may be set anew: the rows of the nodes up to it are there, and none below `from` is renamed then
pub record Triable (t marks s : List ℕ) (from i byte : ℕ) (cs ls : List (List ℕ)) : Type 0 where
  pub marked : Marked t marks
  pub below : (j : ℕ) → Below j (node_in (nodes_of t) j)
  pub size : length s ≡ node_count t
  pub inside : i < node_count t
  pub low : Low (set s i byte) from
  pub within : from ≤ node_count t
  pub ready : Ready s (nodes_of t) (i + 1) cs ls

-- the byte is set, and the clause total and the rows are those of the set then
pub record Tried (ns : List Node) (i byte : ℕ) (before after : List ℕ) (count : ℕ) (cs ls : List (List ℕ)) : Type 0 where
  pub in_set : after ≡ set before i byte
  pub total : count ≡ total_under (renaming 0 after) ns after
  pub ready : Ready after ns (length ns) cs ls
