-- R5: the parts of the output, clause by clause, by the names as which nodes are seen; and what their writers ask.
-- Assumes nothing: these are definitions.
use Rattle.std.specs.Prelude.{Bool, true, false, cond, not, List, [], ◌∷◌, ◌++◌, map, ℕ, zero, suc, ◌-◌, ◌<◌, eqb, length}
use Rattle.marks.specs.Inner.Held.{Marked}
use Rattle.marks.specs.Marks.{mark_of, halves_of}
use Rattle.formula.specs.Tables.{node_count, nodes_of}
use Rattle.formula.specs.declared.node.Node.{Node}
use Rattle.clausal.specs.Clauses.{Clause, clause_bytes, clauses_bytes}
use Rattle.clausal.specs.Totals.{clause_ceiling}
use Rattle.walk.specs.Inner.Lists.{names_in, own_list, own_at, own_clause}
use Rattle.walk.specs.Inner.Written.{Writable, Fits}
use Rattle.walk.specs.declared.nodes.Nodes.{Nodes}
use Rattle.walk.specs.declared.step.Way.{Way}

-- the literal of a helper, where it stands and there is one
abbrev pub helper_literal : Bool → Bool → ℕ → Clause
helper_literal here plain h = cond here (cond (eqb h 0) [] (record { plain = plain; variable = h } ∷ [])) []

-- a clause of a node's list with the literal of its helper: in front and negated for P, behind and plain for N
abbrev pub around : ℕ → Bool → Clause → Clause
around h sign c = helper_literal sign false h ++ (c ++ helper_literal (not sign) true h)

module _ (name : ℕ → ℕ) (ns : List Node) where
  -- a part: the clauses of a node's list for a sign
  abbrev pub part_of : ℕ → Bool → List Clause
  part_of n sign = map (around (name n) sign) (own_list name ns n sign)

  -- a half of a definition, where the definition has it
  abbrev pub half : Bool → ℕ → Bool → List Clause
  half has n sign = cond has (part_of n sign) []

  -- the definition of node n, where it has a helper
  abbrev pub defined_by : ℕ → List Clause
  defined_by n =
      cond (eqb (name n) 0) [] (half (halves_of (mark_of ns n)).down n true ++ half (halves_of (mark_of ns n)).up n false)

  -- the definitions of the nodes below n
  unfoldable pub defined_to : ℕ → List Clause
  defined_to zero = []
  defined_to (suc n) = defined_to n ++ defined_by n

  -- the root part, then the definitions
  abbrev pub all_parts : List Clause
  all_parts = part_of (length ns - 1) true ++ defined_to (length ns)

-- clause k of a part is there, the part is below the ceiling, and there is room for the clause
pub record ClauseDue (x : Nodes) (w : Way) (out : List ℕ) (at : ℕ) : Type 0 where
  pub writable : Writable x
  pub inside : w.node < node_count x.table.now
  pub has : w.k < length (own_at x w.node w.sign)
  pub short : length (own_at x w.node w.sign) < clause_ceiling
  pub fits : Fits (clause_bytes (around (names_in x.helpers.now w.node) w.sign (own_clause x w))) out at

-- a part, where the output has it, is below the ceiling, and there is room for it
pub record PartDue (x : Nodes) (has : Bool) (n : ℕ) (sign : Bool) (out : List ℕ) (at : ℕ) : Type 0 where
  pub writable : Writable x
  pub inside : n < node_count x.table.now
  pub short : length (half (names_in x.helpers.now) (nodes_of x.table.now) has n sign) < clause_ceiling
  pub fits : Fits (clauses_bytes (half (names_in x.helpers.now) (nodes_of x.table.now) has n sign)) out at

-- a definition is below the ceiling, and there is room for it
pub record DefinitionDue (x : Nodes) (marks : List ℕ) (n : ℕ) (out : List ℕ) (at : ℕ) : Type 0 where
  pub writable : Writable x
  pub marked : Marked x.table.now marks
  pub inside : n < node_count x.table.now
  pub short : length (defined_by (names_in x.helpers.now) (nodes_of x.table.now) n) < clause_ceiling
  pub fits : Fits (clauses_bytes (defined_by (names_in x.helpers.now) (nodes_of x.table.now) n)) out at

-- all definitions together are below the ceiling, and there is room for them
pub record DefinitionsDue (x : Nodes) (marks out : List ℕ) (at : ℕ) : Type 0 where
  pub writable : Writable x
  pub marked : Marked x.table.now marks
  pub short : length (defined_to (names_in x.helpers.now) (nodes_of x.table.now) (length (nodes_of x.table.now))) < clause_ceiling
  pub fits : Fits (clauses_bytes (defined_to (names_in x.helpers.now) (nodes_of x.table.now) (length (nodes_of x.table.now)))) out at

-- the whole output is below the ceiling, and there is room for it
pub record OutputDue (x : Nodes) (marks out : List ℕ) : Type 0 where
  pub writable : Writable x
  pub marked : Marked x.table.now marks
  pub short : length (all_parts (names_in x.helpers.now) (nodes_of x.table.now)) < clause_ceiling
  pub fits : Fits (clauses_bytes (all_parts (names_in x.helpers.now) (nodes_of x.table.now))) out 0
