-- R4: the clause lists that the writer goes through, by sign. `name` says as which helper each node is seen, 0 for none.
-- Assumes nothing: these are definitions.
use Rattle.std.specs.Prelude.{Bool, true, false, List, [], ◌∷◌, ◌++◌, ℕ, get_or}
use Rattle.formula.specs.Tables.{nodes_of}
use Rattle.formula.specs.declared.node.Node.{Node}
use Rattle.clausal.specs.Clauses.{Row, clauses, Literal, Clause, seen, row_of}
use Rattle.totals.specs.Inner.Columns.{cell}
use Rattle.walk.specs.declared.nodes.Nodes.{Nodes}
use Rattle.walk.specs.declared.step.Way.{Way}

-- P for a positive sign, N for a negative one
abbrev pub signed : {C : Type 0} → Bool → Row C → C
signed true r = r.P
signed false r = r.N

-- the two entries of node i in an array
abbrev pub pair_in : List (List ℕ) → ℕ → Row ℕ
pair_in l i = record { P = cell l 0 i; N = cell l 1 i }

-- the names that an array of helpers gives
abbrev pub names_in : List ℕ → ℕ → ℕ
names_in helpers i = get_or helpers i 0

module _ (name : ℕ → ℕ) (ns : List Node) where
  -- a node's own list, and the list as it is seen as a child
  abbrev pub own_list : ℕ → Bool → List Clause
  own_list n sign = signed sign (row_of clauses name ns n)

  abbrev pub seen_list : ℕ → Bool → List Clause
  seen_list n sign = signed sign (seen clauses name n (row_of clauses name ns n))

-- the same of nodes that are lent, and clause k of these lists
abbrev pub own_at : Nodes → ℕ → Bool → List Clause
own_at x n sign = own_list (names_in x.helpers.now) (nodes_of x.table.now) n sign

abbrev pub seen_at : Nodes → ℕ → Bool → List Clause
seen_at x n sign = seen_list (names_in x.helpers.now) (nodes_of x.table.now) n sign

abbrev pub own_clause : Nodes → Way → Clause
own_clause x w = get_or (own_at x w.node w.sign) w.k []

abbrev pub seen_clause : Nodes → Way → Clause
seen_clause x w = get_or (seen_at x w.node w.sign) w.k []

-- a clause, literal by literal, by what is shown of each
abbrev pub shown_all : (Literal → List ℕ) → Clause → List ℕ
shown_all shown [] = []
shown_all shown (l ∷ c) = shown l ++ shown_all shown c
