-- R3.1 to R3.6, as they are written: a way from the root gives a node a sign.
-- Assumes nothing: this is a definition.
use Rattle.std.specs.Prelude.{Bool, true, false, not, List, ◌≡◌, ℕ, ◌-◌, length}
use Rattle.formula.specs.Tables.{node_in}
use Rattle.marks.specs.declared.mark.Mark.{Mark}
use Rattle.formula.specs.declared.node.Kind.TheVariants.{Not, And, Or, Implies, Equivalent}
use Rattle.formula.specs.declared.node.Node.{Node}

-- node i is reached with a sign: true for positive, false for negative
pub data Reached (ns : List Node) : Bool → ℕ → Type 0 where
  root : Reached ns true (length ns - 1)
  not_a : {s : Bool} (i : ℕ) → Reached ns s i → (node_in ns i).kind ≡ Not → Reached ns (not s) (node_in ns i).a
  and_a : {s : Bool} (i : ℕ) → Reached ns s i → (node_in ns i).kind ≡ And → Reached ns s (node_in ns i).a
  and_b : {s : Bool} (i : ℕ) → Reached ns s i → (node_in ns i).kind ≡ And → Reached ns s (node_in ns i).b
  or_a : {s : Bool} (i : ℕ) → Reached ns s i → (node_in ns i).kind ≡ Or → Reached ns s (node_in ns i).a
  or_b : {s : Bool} (i : ℕ) → Reached ns s i → (node_in ns i).kind ≡ Or → Reached ns s (node_in ns i).b
  implies_a : {s : Bool} (i : ℕ) → Reached ns s i → (node_in ns i).kind ≡ Implies → Reached ns (not s) (node_in ns i).a
  implies_b : {s : Bool} (i : ℕ) → Reached ns s i → (node_in ns i).kind ≡ Implies → Reached ns s (node_in ns i).b
  equivalent_a : {s : Bool} (z : Bool) (i : ℕ) → Reached ns s i → (node_in ns i).kind ≡ Equivalent → Reached ns z (node_in ns i).a
  equivalent_b : {s : Bool} (z : Bool) (i : ℕ) → Reached ns s i → (node_in ns i).kind ≡ Equivalent → Reached ns z (node_in ns i).b

-- whether a mark has a sign
abbrev pub has : Bool → Mark → Bool
has true m = m.positive
has false m = m.negative
