-- R2: the formula table: its sizes and limits, stated here and nowhere else, its nodes, and the rule of a record.
-- Assumes nothing: these are definitions.
use Rattle.std.specs.Prelude.{ℕ, ◌+◌, ◌*◌, ◌/◌, List, [], ◌∷◌, ◌++◌, length, get_or, Bool, true, false, cond, not, ◌||◌, eqb, leb, ltb, Option, Some, None}
use Rattle.laws.specs.Lists.{up_to}
use Rattle.laws.specs.Numbers.{little, little_at}
use Rattle.answer.specs.Answers.{number_of_fault}
use Rattle.answer.specs.declared.Fault.{Fault}
use Rattle.answer.specs.declared.Fault.TheVariants.{UnknownKind, UnusedNotZero, ChildNotBelow, SymbolOutside}
use Rattle.formula.specs.declared.node.Kind.{Kind}
use Rattle.formula.specs.declared.node.Kind.TheVariants.{False, True, Symbol, Not, And, Or, Implies, Equivalent, Unknown}
use Rattle.formula.specs.declared.node.Node.{Node}
use Rattle.formula.specs.declared.node.Use.{Use}
use Rattle.formula.specs.declared.node.Kind.TheVariants as kind
use Rattle.formula.specs.declared.node.Use.TheVariants as held

-- R2.1: bytes of a field, and of a node, which is a kind and two fields
abbrev pub field_bytes : ℕ
field_bytes = 2

abbrev pub node_bytes : ℕ
node_bytes = 1 + 2 * field_bytes

-- R2.6
abbrev pub most_nodes : ℕ
most_nodes = 1024

abbrev pub most_table : ℕ
most_table = node_bytes * most_nodes

-- R2.7
abbrev pub most_options : ℕ
most_options = 32_000

-- R2.13 to R2.20: the kinds, by their numbers from 0 on
abbrev pub kinds : List Kind
kinds = False ∷ True ∷ Symbol ∷ Not ∷ And ∷ Or ∷ Implies ∷ Equivalent ∷ []

abbrev pub kind_of : ℕ → Kind
kind_of number = get_or kinds number Unknown

-- R2.1: node i of a table, and the bytes of a node
abbrev pub node_at : List ℕ → ℕ → Node
node_at t i = record {
  kind = kind_of (get_or t (node_bytes * i) 0);
  a = little_at field_bytes t (node_bytes * i + 1);
  b = little_at field_bytes t (node_bytes * i + 1 + field_bytes);
}

abbrev pub node_record : ℕ → ℕ → ℕ → List ℕ
node_record kind a b = kind ∷ (little field_bytes a ++ little field_bytes b)

abbrev pub node_count : List ℕ → ℕ
node_count t = length t / node_bytes

-- R2.2
abbrev pub nodes_of : List ℕ → List Node
nodes_of t = up_to (λ before i. node_at t i) (node_count t)

-- node i of a list of nodes; past the end, false
abbrev pub node_in : List Node → ℕ → Node
node_in ns i = get_or ns i (record { kind = False; a = 0; b = 0 })

-- R2.10
abbrev pub known : Kind → Bool
known kind.False = true
known kind.True = true
known kind.Symbol = true
known kind.Not = true
known kind.And = true
known kind.Or = true
known kind.Implies = true
known kind.Equivalent = true
known kind.Unknown = false

-- R2.13 to R2.20, the column a
abbrev pub use_of_a : Kind → Use
use_of_a kind.False = held.Unused
use_of_a kind.True = held.Unused
use_of_a kind.Symbol = held.Symbol
use_of_a kind.Not = held.Child
use_of_a kind.And = held.Child
use_of_a kind.Or = held.Child
use_of_a kind.Implies = held.Child
use_of_a kind.Equivalent = held.Child
use_of_a kind.Unknown = held.Unused

-- and the column b
abbrev pub use_of_b : Kind → Use
use_of_b kind.False = held.Unused
use_of_b kind.True = held.Unused
use_of_b kind.Symbol = held.Unused
use_of_b kind.Not = held.Unused
use_of_b kind.And = held.Child
use_of_b kind.Or = held.Child
use_of_b kind.Implies = held.Child
use_of_b kind.Equivalent = held.Child
use_of_b kind.Unknown = held.Unused

-- an unused field is 0, a child is below its parent (R2.3), a symbol is one of 1 to V
abbrev pub field_right : ℕ → ℕ → Use → ℕ → Bool
field_right v i held.Unused x = eqb x 0
field_right v i held.Child x = ltb x i
field_right v i held.Symbol x = cond (eqb x 0) false (leb x v)

-- R10.12, R10.20 to R10.22: the numbers of the faults of a record, in the order in which they are looked at
abbrev pub unknown_kind : ℕ
unknown_kind = number_of_fault UnknownKind

abbrev pub unused_not_zero : ℕ
unused_not_zero = number_of_fault UnusedNotZero

abbrev pub child_not_below : ℕ
child_not_below = number_of_fault ChildNotBelow

abbrev pub symbol_outside : ℕ
symbol_outside = number_of_fault SymbolOutside

-- the fault of a field that is not right, by what it holds, and its number
abbrev pub fault_in : Use → Fault
fault_in held.Unused = UnusedNotZero
fault_in held.Child = ChildNotBelow
fault_in held.Symbol = SymbolOutside

abbrev pub fault_number : Use → ℕ
fault_number u = number_of_fault (fault_in u)

-- the fault of a field of node i, where it is not right
abbrev pub field_fault : ℕ → ℕ → Use → ℕ → Option Fault
field_fault v i u x = cond (field_right v i u x) None (Some (fault_in u))

-- the number of a fault, 0 for none
abbrev pub fault_told : Option Fault → ℕ
fault_told None = 0
fault_told (Some fault) = number_of_fault fault

-- R10.23: of the faults of a kind, known or not, and of two fields the one that is looked at first
abbrev pub first_fault : Bool → Option Fault → Option Fault → Option Fault
first_fault known a b =
    cond (not known) (Some UnknownKind)
    (cond (eqb (fault_told a) unused_not_zero || eqb (fault_told b) unused_not_zero) (Some UnusedNotZero)
    (cond (eqb (fault_told a) child_not_below || eqb (fault_told b) child_not_below) (Some ChildNotBelow)
    (cond (eqb (fault_told a) symbol_outside || eqb (fault_told b) symbol_outside) (Some SymbolOutside) None)))

-- what is wrong with node i
abbrev pub fault_found : ℕ → ℕ → Node → Option Fault
fault_found v i n =
    first_fault (known n.kind) (field_fault v i (use_of_a n.kind) n.a) (field_fault v i (use_of_b n.kind) n.b)

-- the number of the refusal that node i earns, 0 for none
abbrev pub fault_of : ℕ → ℕ → Node → ℕ
fault_of v i n = fault_told (fault_found v i n)
