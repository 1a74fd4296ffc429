-- How an array holds the marks: a byte a node.
-- Assumes nothing: these are definitions.
use Rattle.std.specs.Prelude.{cond, List, map, ◌≡◌, ℕ, ◌+◌, ◌/◌, ◌%◌, ◌<◌, eqb, ltb, length, get_or, set, replicate}
use Rattle.laws.specs.Inner.Stores.{pad_to}
use Rattle.formula.specs.Inner.Right.{RightLength}
use Rattle.formula.specs.Tables.{most_nodes, nodes_of, node_count}
use Rattle.marks.specs.Marks.{joined, to_a, to_b, marks_of}
use Rattle.marks.specs.declared.mark.Mark.{Mark}
use Rattle.formula.specs.declared.node.Node.{Node}

-- the byte of a mark, and the mark of a byte
abbrev pub byte_of : Mark → ℕ
byte_of m = cond m.positive 1 0 + cond m.negative 2 0

abbrev pub mark_by : ℕ → Mark
mark_by b = record { positive = eqb (b % 2) 1; negative = eqb (b / 2 % 2) 1 }

-- the marks as an array holds them: a byte a node, then zeros
abbrev pub held : List Mark → List ℕ
held ms = pad_to most_nodes 0 (map byte_of ms)

-- an array of marks, read and set
abbrev pub held_at : List ℕ → ℕ → Mark
held_at l i = mark_by (get_or l i 0)

abbrev pub held_more : ℕ → List ℕ → ℕ → Mark → List ℕ
held_more count l i m = cond (ltb i count) (set l i (byte_of (joined (held_at l i) m))) l

abbrev pub held_passed : ℕ → List ℕ → ℕ → Node → List ℕ
held_passed count l i n = held_more count (held_more count l n.a (to_a n.kind (held_at l i))) n.b (to_b n.kind (held_at l i))

-- a right table, and an array that no mark has been put into
pub record Unmarked (t marks : List ℕ) : Type 0 where
  pub size : RightLength (length t)
  pub zeros : marks ≡ replicate most_nodes 0

-- a right table, and an array of its marks
pub record Marked (t marks : List ℕ) : Type 0 where
  pub size : RightLength (length t)
  pub are : marks ≡ held (marks_of (nodes_of t))

-- one of its nodes
pub record MarkedAt (t marks : List ℕ) (i : ℕ) : Type 0 where
  pub marked : Marked t marks
  pub inside : i < node_count t
