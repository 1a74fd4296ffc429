-- A clause, literal by literal: the ways that wait to be gone, in an array, the next one last.
-- Assumes nothing: these are definitions.
use Rattle.std.specs.Prelude.{List, [], ◌∷◌, ◌++◌, ◌≡◌, ℕ, zero, suc, ◌+◌, ◌*◌, ◌<◌, ◌≤◌, Option, Some, None, length, get_or, set, replicate}
use Rattle.formula.specs.Tables.{most_nodes, node_count, nodes_of}
use Rattle.formula.specs.declared.node.Node.{Node}
use Rattle.clausal.specs.Clauses.{Literal, Clause}
use Rattle.clausal.specs.Totals.{clause_ceiling}
use Rattle.walk.specs.Inner.Lists.{names_in, own_at, seen_at}
use Rattle.walk.specs.Inner.Packed.{packed, way_of}
use Rattle.walk.specs.Inner.Steps.{way_clause}
use Rattle.walk.specs.Inner.Written.{Writable}
use Rattle.walk.specs.declared.nodes.Nodes.{Nodes}
use Rattle.walk.specs.declared.step.Way.{Way}
use Rattle.origin.specs.declared.literal.Literal as found
use Rattle.origin.specs.declared.literal.Ways.{Ways}

-- no way waits
abbrev pub blank : Ways
blank = record { held = replicate 1_024 0; depth = 0 }

-- an array with places for as many ways as there may be nodes
pub record Shaped (w : Ways) : Type 0 where
  pub size : length w.held ≡ 1_024
  pub most : w.depth ≤ most_nodes

-- a way was added behind those of an array
pub record Pushed (w : Way) (before after : Ways) : Type 0 where
  pub place : after.depth ≡ before.depth + 1
  pub list : after.held ≡ set before.held before.depth (packed w)

-- the last way of an array was taken, where there is one
abbrev pub Popped : Ways → Option Way → Ways → Type 0
Popped before None after = (before.depth ≡ 0) × (after ≡ before)
Popped before (Some w) after =
    (before.depth ≡ after.depth + 1) × (after.held ≡ before.held) × (w ≡ way_of (get_or before.held after.depth 0))

-- the literals of the first d ways of an array, the last way first
unfoldable pub waiting_clause : (ℕ → ℕ) → List Node → List ℕ → ℕ → Clause
waiting_clause name ns ways zero = []
waiting_clause name ns ways (suc d) = way_clause name ns (way_of (get_or ways d 0)) ++ waiting_clause name ns ways d

-- what falls: a way to a node weighs more than two ways to lower nodes
unfoldable pub weight : ℕ → ℕ
weight zero = 1
weight (suc n) = 3 * weight n

unfoldable pub load : List ℕ → ℕ → ℕ
load ways zero = 0
load ways (suc d) = weight (way_of (get_or ways d 0)).node + load ways d

-- the same of an array, for nodes that are lent
abbrev pub waiting_of : Nodes → Ways → Clause
waiting_of x w = waiting_clause (names_in x.helpers.now) (nodes_of x.table.now) w.held w.depth

abbrev pub load_of : Ways → ℕ
load_of w = load w.held w.depth

-- a way that waits at place i: it leads to a clause of a list below the ceiling, and no more ways wait than nodes are left
pub record WayRight (x : Nodes) (i : ℕ) (w : Way) : Type 0 where
  pub room : w.node + i < most_nodes
  pub inside : w.node < length (nodes_of x.table.now)
  pub has : w.k < length (seen_at x w.node w.sign)
  pub short : length (seen_at x w.node w.sign) < clause_ceiling

-- the ways of an array wait
pub record Waiting (x : Nodes) (w : Ways) : Type 0 where
  pub writable : Writable x
  pub shape : Shaped w
  pub each : (i : ℕ) → i < w.depth → WayRight x i (way_of (get_or w.held i 0))

-- a way that waited last, and those before it
pub record Goable (x : Nodes) (w : Ways) (v : Way) : Type 0 where
  pub waiting : Waiting x w
  pub right : WayRight x w.depth v

-- a clause of a node's own list, in a list below the ceiling
pub record Startable (x : Nodes) (w : Way) : Type 0 where
  pub writable : Writable x
  pub inside : w.node < node_count x.table.now
  pub has : w.k < length (own_at x w.node w.sign)
  pub short : length (own_at x w.node w.sign) < clause_ceiling

-- the same, where other ways wait and there is room for those that it leads to
pub record Openable (x : Nodes) (w : Ways) (v : Way) : Type 0 where
  pub start : Startable x v
  pub waiting : Waiting x w
  pub room : v.node + w.depth < most_nodes

-- a literal as it is found, for one of the rules
abbrev pub as_literal : found.Literal → Literal
as_literal l = record { plain = l.plain; variable = l.variable }

-- the first literal of a clause was found, or none yet; the rest waits
abbrev pub Begins : Clause → Option found.Literal → Clause → Type 0
Begins c None rest = c ≡ rest
Begins c (Some l) rest = (0 < l.variable) × (c ≡ as_literal l ∷ rest)

-- one step into a clause: its first literal was found, or none yet; the others wait, in ways that weigh less
pub record Opened (x : Nodes) (c : Clause) (most : ℕ) (f : Option found.Literal) (w : Ways) : Type 0 where
  pub waiting : Waiting x w
  pub less : load_of w < most
  pub clause : Begins c f (waiting_of x w)

-- the first literal of a clause, and the rest; or the clause has none
abbrev pub Parts : Clause → Option found.Literal → Clause → Type 0
Parts c None rest = c ≡ []
Parts c (Some l) rest = (0 < l.variable) × (c ≡ as_literal l ∷ rest)

-- the first literal of a clause was found, and the others wait; or the clause has none
pub record FirstOf (x : Nodes) (c : Clause) (f : Option found.Literal) (w : Ways) : Type 0 where
  pub waiting : Waiting x w
  pub clause : Parts c f (waiting_of x w)
