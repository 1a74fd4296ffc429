-- The rows of all nodes under a set, as two arrays hold them: clause totals and literal totals, each for P and for N.
-- Assumes nothing: these are definitions.
use Rattle.std.specs.Prelude.{cond, List, [], ◌⊎◌, ◌≡◌, ℕ, ◌<◌, ◌≤◌, ltb, length, get_or, replicate}
use Rattle.formula.specs.Tables.{most_nodes, most_table, node_count, nodes_of}
use Rattle.marks.specs.Sets.{renamed}
use Rattle.formula.specs.declared.node.Node.{Node}
use Rattle.clausal.specs.Clauses.{Row, unit_row, no_row, row_by, renaming, name_of, row_of}
use Rattle.clausal.specs.Totals.{Size, capped}
use Rattle.totals.specs.declared.rows.Columns.{Columns}

-- an entry: row 0 is for P, row 1 for N
abbrev pub cell : List (List ℕ) → ℕ → ℕ → ℕ
cell l sign i = get_or (get_or l sign []) i 0

-- an array has two rows, with an entry for each node that a table may have
pub record Shaped (l : List (List ℕ)) : Type 0 where
  pub signs : length l ≡ 2
  pub entries : (sign : ℕ) → sign < 2 → length (get_or l sign []) ≡ most_nodes

-- both rows of an array, before anything is filled in
abbrev pub zeros : List (List ℕ)
zeros = replicate 2 (replicate most_nodes 0)

-- the columns of which nothing is filled in
abbrev pub blank : Columns
blank = record { clauses = zeros; literals = zeros }

-- node i of the arrays
abbrev pub row_in : List (List ℕ) → List (List ℕ) → ℕ → Row Size
row_in cs ls i = record {
  P = record { clauses = cell cs 0 i; literals = cell ls 0 i };
  N = record { clauses = cell cs 1 i; literals = cell ls 1 i };
}

-- the node `at` of the arrays, as a child of node i
abbrev pub child_in : List ℕ → List (List ℕ) → List (List ℕ) → ℕ → ℕ → Row Size
child_in s cs ls i at = cond (renamed s at) (unit_row capped 0) (cond (ltb at i) (row_in cs ls at) (no_row capped))

-- the row of node i, whose children are read from the arrays
abbrev pub row_next : Node → List ℕ → List (List ℕ) → List (List ℕ) → ℕ → Row Size
row_next n s cs ls i = row_by capped n.kind n.a (child_in s cs ls i n.a) (child_in s cs ls i n.b)

-- no total depends on what is taken, which only names helpers
abbrev pub row_totals : List ℕ → List Node → ℕ → Row Size
row_totals s ns i = row_of capped (name_of (renaming 0 s)) ns i

-- the arrays hold the rows of the nodes below i under a set, and zeros past the last node
pub record Ready (s : List ℕ) (ns : List Node) (i : ℕ) (cs ls : List (List ℕ)) : Type 0 where
  pub clauses : Shaped cs
  pub literals : Shaped ls
  pub rows : (j : ℕ) → (j < i) ⊎ (length ns ≤ j) → row_in cs ls j ≡ row_totals s ns j

-- a table whose rows can be filled in from node i on
pub record Fillable (t s : List ℕ) (i : ℕ) (cs ls : List (List ℕ)) : Type 0 where
  pub most : length t ≤ most_table
  pub within : i ≤ node_count t
  pub ready : Ready s (nodes_of t) i cs ls
