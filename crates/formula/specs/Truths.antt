-- R2.12: the truth of a node in a row of truth values, one for each variable.
-- Assumes nothing: these are definitions.
use Rattle.std.specs.Prelude.{Bool, true, false, not, ◌&&◌, ◌||◌, List, ℕ, ◌-◌, length, get_or}
use Rattle.std.specs.Bool.{beq}
use Rattle.laws.specs.Lists.{up_to}
use Rattle.formula.specs.Tables.{node_in}
use Rattle.formula.specs.declared.node.Kind.{Kind}
use Rattle.formula.specs.declared.node.Kind.TheVariants.{False, True, Symbol, Not, And, Or, Implies, Equivalent, Unknown}
use Rattle.formula.specs.declared.node.Node.{Node}

-- the truth of a node of a kind: s is its symbol's truth, x and y are its children's
abbrev pub truth_by : Kind → Bool → Bool → Bool → Bool
truth_by False s x y = false
truth_by True s x y = true
truth_by Symbol s x y = s
truth_by Not s x y = not x
truth_by And s x y = x && y
truth_by Or s x y = x || y
truth_by Implies s x y = not x || y
truth_by Equivalent s x y = beq x y
truth_by Unknown s x y = false

-- the truth of node i, from those of the nodes before it
abbrev pub truth_from : (ℕ → Bool) → List Node → List Bool → ℕ → Bool
truth_from ρ ns before i =
    truth_by (node_in ns i).kind (ρ (node_in ns i).a) (get_or before (node_in ns i).a false) (get_or before (node_in ns i).b false)

abbrev pub truths_of : (ℕ → Bool) → List Node → List Bool
truths_of ρ ns = up_to (truth_from ρ ns) (length ns)

-- the truth of node i in the row ρ
abbrev pub truth_of : (ℕ → Bool) → List Node → ℕ → Bool
truth_of ρ ns i = get_or (truths_of ρ ns) i false

-- the truth of the formula: that of its root
abbrev pub formula_true : (ℕ → Bool) → List Node → Bool
formula_true ρ ns = truth_of ρ ns (length ns - 1)
