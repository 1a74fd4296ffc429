-- What a pass asks, what it knows between two visits, and what one visit leaves. The two passes share all of it.
-- Assumes nothing: these are definitions.
use Rattle.std.specs.Prelude.{Bool, cond, not, ◌&&◌, List, [], ◌≡◌, ℕ, ◌+◌, ◌-◌, ◌<◌, ltb, leb, length, get_or, set}
use Rattle.marks.specs.Inner.Held.{Marked}
use Rattle.marks.specs.Sets.{may_rename}
use Rattle.formula.specs.Inner.Right.{RightLength, Below}
use Rattle.formula.specs.Tables.{node_count, node_in, nodes_of}
use Rattle.formula.specs.declared.node.Node.{Node}
use Rattle.clausal.specs.Totals.{total_under}
use Rattle.clausal.specs.Choosing.{Choice, visits_from, visit, revisit, nothing, everything}
use Rattle.clausal.specs.Clauses.{Renaming, renaming, renamed_below}
use Rattle.totals.specs.Inner.Columns.{cell, Ready}
use Rattle.choose.specs.declared.pass.Way.{Way}
use Rattle.choose.specs.declared.pass.Way.TheVariants.{Adds, Drops}

-- the byte that a pass gives to the nodes that it tries, and the byte that they have before
abbrev pub byte_of : Way → ℕ
byte_of (Adds allowance) = 1
byte_of Drops = 0

abbrev pub byte_before : Way → ℕ
byte_before (Adds allowance) = 0
byte_before Drops = 1

-- below this node none is renamed while node i is tried
abbrev pub lowest : Way → ℕ → ℕ
lowest (Adds allowance) i = i
lowest Drops i = 0

-- whether a trial is kept, by the totals before it and with it
abbrev pub kept_by : Way → ℕ → ℕ → Bool
kept_by (Adds allowance) before after = ltb after before
kept_by Drops before after = leb after before

-- how many nodes are in then
abbrev pub picks_with : Way → ℕ → ℕ
picks_with (Adds allowance) picks = picks + 1
picks_with Drops picks = picks - 1

-- the choice in which node i is tried
abbrev pub tried : Way → ℕ → Choice → Choice
tried w i c = record { picks = picks_with w c.picks; chosen = set c.chosen i (byte_of w) }

-- no total depends on what is taken
abbrev pub bare : Renaming
bare = renaming 0 []

-- P and N of node i have at most one clause each
abbrev pub small : List (List ℕ) → ℕ → Bool
small cs i = ltb (cell cs 0 i) 2 && ltb (cell cs 1 i) 2

-- whether node i is tried, by the picks and the rows before it
abbrev pub is_tried : Way → List Node → ℕ → ℕ → List (List ℕ) → Bool
is_tried (Adds allowance) ns i picks cs = ltb picks allowance && (may_rename ns i && not (small cs i))
is_tried Drops ns i picks cs = may_rename ns i

-- the visits of the two passes
abbrev pub turn_of : Way → List Node → ℕ → Choice → Choice
turn_of (Adds allowance) ns i c = visit allowance bare ns i c
turn_of Drops ns i c = revisit bare ns i c

-- what a pass begins with, and the whole of it
abbrev pub start_of : Way → List Node → Choice
start_of (Adds allowance) ns = nothing ns
start_of Drops ns = everything ns

abbrev pub pass_of : Way → List Node → Choice
pass_of w ns = visits_from (turn_of w ns) (length ns) (start_of w ns)

-- a checked table
pub record Choosable (t : List ℕ) : Type 0 where
  pub size : RightLength (length t)
  pub below : (j : ℕ) → Below j (node_in (nodes_of t) j)

-- a table with its marks, and a set of a byte a node
pub record Settable (t marks s : List ℕ) : Type 0 where
  pub marked : Marked t marks
  pub size : length s ≡ node_count t

-- a checked table with its marks, and the set that a pass begins with
pub record Passable (w : Way) (t marks : List ℕ) (picks : ℕ) (s : List ℕ) : Type 0 where
  pub marked : Marked t marks
  pub below : (j : ℕ) → Below j (node_in (nodes_of t) j)
  pub begins : record { picks = picks; chosen = s } ≡ start_of w (nodes_of t)

-- the set has a byte a node, and the bytes of the nodes below i are those of the beginning; picks and sum are its nodes and its
-- clause total; and the rows of the nodes below i are there
pub record Standing (w : Way) (ns : List Node) (i : ℕ) (c : Choice) (sum : ℕ) (cs ls : List (List ℕ)) : Type 0 where
  pub size : length c.chosen ≡ length ns
  pub unvisited : (j : ℕ) → j < i → get_or c.chosen j 0 ≡ get_or (start_of w ns).chosen j 0
  pub counted : c.picks ≡ renamed_below c.chosen (length ns)
  pub total : sum ≡ total_under bare ns c.chosen
  pub ready : Ready c.chosen ns i cs ls

-- node i is next
pub record Visitable (w : Way) (t marks : List ℕ) (i picks sum : ℕ) (s : List ℕ) (cs ls : List (List ℕ)) : Type 0 where
  pub marked : Marked t marks
  pub below : (j : ℕ) → Below j (node_in (nodes_of t) j)
  pub inside : i < node_count t
  pub stands : Standing w (nodes_of t) (i + 1) (record { picks = picks; chosen = s }) sum cs ls

-- node i is next, and its byte is not the one that it is tried with
pub record Triable (w : Way) (t marks : List ℕ) (i picks sum : ℕ) (s : List ℕ) (cs ls : List (List ℕ)) : Type 0 where
  pub visitable : Visitable w t marks i picks sum s cs ls
  pub other : get_or s i 0 ≡ byte_before w

-- the trial of node i is kept where the totals say so, and all stands for the next visit
pub record Attempted (w : Way) (ns : List Node) (i : ℕ) (before after : Choice) (sum : ℕ) (cs ls : List (List ℕ)) : Type 0 where
  pub choice : after ≡ cond (kept_by w (total_under bare ns before.chosen) (total_under bare ns (tried w i before).chosen))
      (tried w i before) before
  pub stands : Standing w ns i after sum cs ls

-- a visit of node i: the rule's choice, and all stands for the next visit
pub record Visited (w : Way) (ns : List Node) (i : ℕ) (before after : Choice) (sum : ℕ) (cs ls : List (List ℕ)) : Type 0 where
  pub choice : after ≡ turn_of w ns i before
  pub stands : Standing w ns i after sum cs ls
