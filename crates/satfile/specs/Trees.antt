-- R21.9 to R21.14: the formula that a text stands for, its truth in a row of truth values, and its table.
-- Assumes nothing: these are definitions.
use Rattle.std.specs.Prelude.{Bool, true, false, not, ◌&&◌, ◌||◌, List, [], ◌∷◌, ◌++◌, ℕ, ◌+◌, ◌-◌}
use Rattle.formula.specs.Tables.{node_record}

-- R21.5: what the members of a list are joined by: `*` is and, `+` is or
pub data Join : Type 0 where
  And Or : Join

-- R21.9 to R21.13: a symbol, an empty list, a not, and two formulas joined
pub data Tree : Type 0 where
  Symbol : ℕ → Tree
  Empty : Join → Tree
  Not : Tree → Tree
  Joined : Join → Tree → Tree → Tree

-- R21.10 and R21.13: a list is folded from the left; a list of one is its member
abbrev pub folded_from : Join → Tree → List Tree → Tree
folded_from j t [] = t
folded_from j t (u ∷ us) = folded_from j (Joined j t u) us

abbrev pub folded : Join → List Tree → Tree
folded j [] = Empty j
folded j (t ∷ ts) = folded_from j t ts

-- R21.15: the truth of a formula in the row ρ; with no member, and is true and or is false
abbrev pub empty_true : Join → Bool
empty_true And = true
empty_true Or = false

abbrev pub joined_true : Join → Bool → Bool → Bool
joined_true And x y = x && y
joined_true Or x y = x || y

abbrev pub tree_true : (ℕ → Bool) → Tree → Bool
tree_true ρ (Symbol n) = ρ n
tree_true ρ (Empty j) = empty_true j
tree_true ρ (Not t) = not (tree_true ρ t)
tree_true ρ (Joined j t u) = joined_true j (tree_true ρ t) (tree_true ρ u)

-- R21.9: every symbol, empty list, not and joining of two is a node of its own
abbrev pub size_of : Tree → ℕ
size_of (Symbol n) = 1
size_of (Empty j) = 1
size_of (Not t) = size_of t + 1
size_of (Joined j t u) = size_of t + size_of u + 1

-- R21.12 and R21.14: the kinds of nodes
abbrev pub empty_kind : Join → ℕ
empty_kind And = 1
empty_kind Or = 0

abbrev pub join_kind : Join → ℕ
join_kind And = 4
join_kind Or = 5

-- R21.10 and R21.11: the records of a formula whose first node is i; the root is the last. A not stands right behind its child, and the
-- node that joins two right behind the second of them
unfoldable pub records_from : ℕ → Tree → List ℕ
records_from i (Symbol n) = node_record 2 n 0
records_from i (Empty j) = node_record (empty_kind j) 0 0
records_from i (Not t) = records_from i t ++ node_record 3 (i + size_of t - 1) 0
records_from i (Joined j t u) =
    records_from i t
    ++ (records_from (i + size_of t) u ++ node_record (join_kind j) (i + size_of t - 1) (i + size_of t + size_of u - 1))

abbrev pub table_of : Tree → List ℕ
table_of t = records_from 0 t
