-- What an accepted table has, as inner functions ask for it.
-- Assumes nothing: these are definitions.
use Rattle.std.specs.Prelude.{List, ◌≡◌, ℕ, ◌<◌, ◌≤◌, ◌/◌, ◌%◌, length}
use Rattle.formula.specs.Tables.{node_bytes, most_table, most_options, nodes_of, node_in, use_of_a, use_of_b}
use Rattle.formula.specs.declared.node.Kind.TheVariants as kind
use Rattle.formula.specs.declared.node.Node.{Node}
use Rattle.formula.specs.declared.node.Use.{Use}
use Rattle.formula.specs.declared.node.Use.TheVariants as held

-- a right length: some whole nodes, and no more than a table may have
pub record RightLength (n : ℕ) : Type 0 where
  pub some : 0 < n / node_bytes
  pub even : n % node_bytes ≡ 0
  pub most : n ≤ most_table

-- a field that holds a child is below i
abbrev pub FieldBelow : ℕ → Use → ℕ → Type 0
FieldBelow i held.Unused x = Unit {0}
FieldBelow i held.Child x = x < i
FieldBelow i held.Symbol x = Unit {0}

-- the children of node i are below it
abbrev pub Below : ℕ → Node → Type 0
Below i n = FieldBelow i (use_of_a n.kind) n.a × FieldBelow i (use_of_b n.kind) n.b

-- some nodes, children below their parents, and symbols from 1 to V
pub record WellFormed (v : ℕ) (ns : List Node) : Type 0 where
  pub some : 0 < length ns
  pub below : (i : ℕ) → Below i (node_in ns i)
  pub symbols : (i : ℕ) → (node_in ns i).kind ≡ kind.Symbol → (0 < (node_in ns i).a) × ((node_in ns i).a ≤ v)

-- a table that was checked for V options
pub record Right (t : List ℕ) (v : ℕ) : Type 0 where
  pub size : RightLength (length t)
  pub options : v ≤ most_options
  pub formed : WellFormed v (nodes_of t)
