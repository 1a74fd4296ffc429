-- The records of a formula, stored one after the other as far as the table has room.
-- Assumes nothing: these are definitions.
use Rattle.std.specs.Prelude.{◌≡◌, false, cond, List, [], ℕ, ◌+◌, ◌*◌, ◌-◌, ◌^◌, ◌≤◌, ◌<◌, eqb, length}
use Rattle.laws.specs.Lists.{splice}
use Rattle.formula.specs.Tables.{node_bytes, node_record}
use Rattle.formula.specs.declared.node.Kind.{Kind}
use Rattle.formula.specs.declared.node.Kind.TheVariants as kind
use Rattle.satfile.specs.Trees.{And, Or, size_of, empty_kind, join_kind, records_from}
use Rattle.satfile.specs.Inner.Reads.{Partly, none, some, join_of, is_whole}
use Rattle.satfile.specs.declared.lead.Group.{Group}
use Rattle.satfile.specs.declared.lead.Group.TheVariants as group

-- the number of a kind in a record; there is none for an unknown one
abbrev pub kind_number : Kind → ℕ
kind_number kind.False = 0
kind_number kind.True = 1
kind_number kind.Symbol = 2
kind_number kind.Not = 3
kind_number kind.And = 4
kind_number kind.Or = 5
kind_number kind.Implies = 6
kind_number kind.Equivalent = 7
kind_number kind.Unknown = 8

-- the n nodes from i on were stored, where the table has room for them; `next` is the node behind them
pub record Adds (records : List ℕ) (n : ℕ) (before : List ℕ) (i next : ℕ) (after : List ℕ) : Type 0 where
  pub nodes : next ≡ i + n
  pub same : length after ≡ length before
  pub stored : node_bytes * next ≤ length before → after ≡ splice before (node_bytes * i) records

-- a number of a node that can still grow
pub record Roomy (next n : ℕ) : Type 0 where
  pub last : next + n < 2 ^ 64

-- the members of a group that were read so far, as records, and how many nodes they are
abbrev pub part_records : ℕ → Partly → List ℕ
part_records i none = []
part_records i (some t) = records_from i t

abbrev pub part_nodes : Partly → ℕ
part_nodes none = 0
part_nodes (some t) = size_of t

-- what joins a member, whose nodes end before `after`, to those before it, which began at i and end before `behind`
abbrev pub join_record : Group → ℕ → ℕ → List ℕ
join_record g behind after = node_record (join_kind (join_of g)) (behind - 1) (after - 1)

abbrev pub fold_records : Group → ℕ → ℕ → ℕ → List ℕ
fold_records g i behind after = cond (eqb behind i) [] (join_record g behind after)

abbrev pub fold_nodes : ℕ → ℕ → ℕ
fold_nodes i behind = cond (eqb behind i) 0 1

-- what joining asks: there is a number for the node that joins
pub record Folding (i behind after : ℕ) : Type 0 where
  pub began : i ≤ behind
  pub more : behind ≤ after
  pub last : (behind ≡ i → ⊥) → after + 1 < 2 ^ 64

-- what the end of a group adds: a constant for an empty list, a not
abbrev pub empty_records : ℕ → ℕ → ℕ → List ℕ
empty_records kind i behind = cond (eqb behind i) (node_record kind 0 0) []

abbrev pub empty_nodes : ℕ → ℕ → ℕ
empty_nodes i behind = cond (eqb behind i) 1 0

abbrev pub end_records : Group → ℕ → ℕ → List ℕ
end_records group.And i behind = empty_records (empty_kind And) i behind
end_records group.Or i behind = empty_records (empty_kind Or) i behind
end_records group.One i behind = []
end_records group.Not i behind = node_record 3 (behind - 1) 0
end_records group.Whole i behind = []

abbrev pub end_nodes : Group → ℕ → ℕ → ℕ
end_nodes group.And i behind = empty_nodes i behind
end_nodes group.Or i behind = empty_nodes i behind
end_nodes group.One i behind = 0
end_nodes group.Not i behind = 1
end_nodes group.Whole i behind = 0

-- what the end of a group asks: a not has a child, and there is a number for a node more where the group is closed
abbrev pub HasChild : Group → ℕ → Type 0
HasChild group.And behind = Unit {0}
HasChild group.Or behind = Unit {0}
HasChild group.One behind = Unit {0}
HasChild group.Not behind = 0 < behind
HasChild group.Whole behind = Unit {0}

pub record Ending (g : Group) (behind : ℕ) : Type 0 where
  pub child : HasChild g behind
  pub last : is_whole g ≡ false → behind + 1 < 2 ^ 64
