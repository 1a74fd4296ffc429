-- R3.1 to R3.7: the marks of all nodes, computed from the root down; and the halves that a mark asks for.
-- Assumes nothing: these are definitions.
use Rattle.std.specs.Prelude.{true, false, ◌||◌, List, ℕ, zero, suc, ◌-◌, length, get_or, set, replicate}
use Rattle.formula.specs.Tables.{node_in}
use Rattle.marks.specs.declared.mark.Halves.{Halves}
use Rattle.marks.specs.declared.mark.Mark.{Mark}
use Rattle.formula.specs.declared.node.Kind.{Kind}
use Rattle.formula.specs.declared.node.Kind.TheVariants.{False, True, Symbol, Not, And, Or, Implies, Equivalent, Unknown}
use Rattle.formula.specs.declared.node.Node.{Node}

-- a node that is reached in no way, and one that is reached positively
abbrev pub unmarked : Mark
unmarked = record { positive = false; negative = false }

abbrev pub positive : Mark
positive = record { positive = true; negative = false }

-- R3.6
abbrev pub joined : Mark → Mark → Mark
joined m n = record { positive = m.positive || n.positive; negative = m.negative || n.negative }

abbrev pub turned : Mark → Mark
turned m = record { positive = m.negative; negative = m.positive }

abbrev pub doubled : Mark → Mark
doubled m = joined m (turned m)

-- R3.2 to R3.5: what a node with mark m gives to its child a ..
abbrev pub to_a : Kind → Mark → Mark
to_a False m = unmarked
to_a True m = unmarked
to_a Symbol m = unmarked
to_a Not m = turned m
to_a And m = m
to_a Or m = m
to_a Implies m = turned m
to_a Equivalent m = doubled m
to_a Unknown m = unmarked

-- .. and to its child b
abbrev pub to_b : Kind → Mark → Mark
to_b False m = unmarked
to_b True m = unmarked
to_b Symbol m = unmarked
to_b Not m = unmarked
to_b And m = m
to_b Or m = m
to_b Implies m = m
to_b Equivalent m = doubled m
to_b Unknown m = unmarked

-- the mark of node i
abbrev pub mark_in : List Mark → ℕ → Mark
mark_in ms i = get_or ms i unmarked

-- node i marked with m too
abbrev pub mark : ℕ → Mark → List Mark → List Mark
mark i m ms = set ms i (joined (mark_in ms i) m)

-- a node passes its mark on to its children
abbrev pub pass_on : Node → Mark → List Mark → List Mark
pass_on n m ms = mark n.b (to_b n.kind m) (mark n.a (to_a n.kind m) ms)

-- the nodes below k pass their marks on, the highest first
unfoldable pub down_from : List Node → ℕ → List Mark → List Mark
down_from ns zero ms = ms
down_from ns (suc k) ms = down_from ns k (pass_on (node_in ns k) (mark_in ms k) ms)

-- R3.1: the marks before anything is passed on
abbrev pub root_marked : ℕ → List Mark
root_marked n = set (replicate n unmarked) (n - 1) positive

-- the marks of all nodes
abbrev pub marks_of : List Node → List Mark
marks_of ns = down_from ns (length ns) (root_marked (length ns))

abbrev pub mark_of : List Node → ℕ → Mark
mark_of ns i = mark_in (marks_of ns) i

-- R5.5 to R5.7: which halves the definition of a renamed node has
abbrev pub halves_of : Mark → Halves
halves_of m = record { down = m.positive; up = m.negative }
