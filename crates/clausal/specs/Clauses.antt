-- R3.8, R3.10, R4, R6: literals and clause bytes, helpers of renamed nodes, and the clause lists of all nodes.
-- Assumes nothing: these are definitions.
use Rattle.std.specs.Prelude.{Bool, cond, true, false, List, [], ◌∷◌, ◌++◌, map, ℕ, ◌-◌, ◌^◌, zero, suc, ◌+◌, eqb, length, get_or}
use Rattle.laws.specs.Numbers.{little}
use Rattle.formula.specs.declared.node.Kind.{Kind}
use Rattle.formula.specs.declared.node.Kind.TheVariants.{False, True, Symbol, Not, And, Or, Implies, Equivalent, Unknown}
use Rattle.marks.specs.Sets.{renamed}
use Rattle.laws.specs.Lists.{up_to}
use Rattle.formula.specs.Tables.{node_in}
use Rattle.formula.specs.declared.node.Node.{Node}

-- an option or a helper, plain or negated
pub record Literal : Type 0 where
  pub plain : Bool
  pub variable : ℕ

abbrev pub Clause : Type 0
Clause = List Literal

-- R6.1: a literal as a number of 32 bits in two's complement
abbrev pub word_of : Bool → ℕ → ℕ
word_of plain x = cond plain x (2 ^ 32 - x)

abbrev pub literal_bytes : Literal → List ℕ
literal_bytes l = little 4 (word_of l.plain l.variable)

-- R6.2
abbrev pub clause_bytes : Clause → List ℕ
clause_bytes [] = little 4 0
clause_bytes (l ∷ c) = literal_bytes l ++ clause_bytes c

abbrev pub clauses_bytes : List Clause → List ℕ
clauses_bytes [] = []
clauses_bytes (c ∷ cs) = clause_bytes c ++ clauses_bytes cs

-- no clause, one empty clause, one clause of one literal, a list followed by another, and the join of two
pub record Algebra (C : Type 0) : Type 0 where
  pub none : C
  pub empty : C
  pub unit : Bool → ℕ → C
  pub cat : C → C → C
  pub join : C → C → C

-- R4.1: P and N of a node
pub record Row (C : Type 0) : Type 0 where
  pub P : C
  pub N : C

-- R4.4, R4.9: the row of a symbol, and of a renamed node seen as a child
abbrev pub unit_row : {C : Type 0} → Algebra C → ℕ → Row C
unit_row A s = record { P = A.unit true s; N = A.unit false s }

-- the row of a node that stands nowhere
abbrev pub no_row : {C : Type 0} → Algebra C → Row C
no_row A = record { P = A.none; N = A.none }

-- R4.9 to R4.16: the rule of a node; s is its symbol, x and y are its children's rows
abbrev pub row_by : {C : Type 0} → Algebra C → Kind → ℕ → Row C → Row C → Row C
row_by A False s x y = record { P = A.empty; N = A.none }
row_by A True s x y = record { P = A.none; N = A.empty }
row_by A Symbol s x y = unit_row A s
row_by A Not s x y = record { P = x.N; N = x.P }
row_by A And s x y = record { P = A.cat x.P y.P; N = A.join x.N y.N }
row_by A Or s x y = record { P = A.join x.P y.P; N = A.cat x.N y.N }
row_by A Implies s x y = record { P = A.join x.N y.P; N = A.cat x.P y.N }
row_by A Equivalent s x y = record {
  P = A.cat (A.join x.N y.P) (A.join y.N x.P);
  N = A.cat (A.join x.N y.N) (A.join x.P y.P);
}
row_by A Unknown s x y = no_row A

-- R4.3
abbrev pub join_all : List Clause → List Clause → List Clause
join_all [] ds = []
join_all (c ∷ cs) ds = map (λ d. c ++ d) ds ++ join_all cs ds

-- clause lists
abbrev pub clauses : Algebra (List Clause)
clauses = record {
  none = [];
  empty = [] ∷ [];
  unit = λ plain v. (record { plain = plain; variable = v } ∷ []) ∷ [];
  cat = ◌++◌;
  join = join_all;
}

-- the highest variable that is taken already, which is V where nothing else is (R12.3), and the set of renamed nodes
pub record Renaming : Type 0 where
  pub taken : ℕ
  pub set : List ℕ

abbrev pub renaming : ℕ → List ℕ → Renaming
renaming taken s = record { taken = taken; set = s }

-- the same with another set
abbrev pub under : Renaming → List ℕ → Renaming
under u s = record { taken = u.taken; set = s }

-- how many of the nodes below i are renamed
unfoldable pub renamed_below : List ℕ → ℕ → ℕ
renamed_below s zero = 0
renamed_below s (suc i) = renamed_below s i + cond (renamed s i) 1 0

-- R3.10: the helper of node i, where it is renamed
abbrev pub helper_of : Renaming → ℕ → ℕ
helper_of u i = u.taken + 1 + renamed_below u.set i

-- the helper as which node i is seen, 0 where it is not renamed
abbrev pub name_of : Renaming → ℕ → ℕ
name_of u i = cond (renamed u.set i) (helper_of u i) 0

-- R6.4, R12.6: for a table of n nodes
abbrev pub variables_of : Renaming → ℕ → ℕ
variables_of u n = u.taken + renamed_below u.set n

module _ {C : Type 0} (A : Algebra C) (name : ℕ → ℕ) where
  -- R4.4: node i as a child
  abbrev pub seen : ℕ → Row C → Row C
  seen i row = cond (eqb (name i) 0) row (unit_row A (name i))

  -- the row of node i, from the rows before it
  abbrev pub row_from : List Node → List (Row C) → ℕ → Row C
  row_from ns before i =
      row_by A (node_in ns i).kind (node_in ns i).a
      (seen (node_in ns i).a (get_or before (node_in ns i).a (no_row A)))
      (seen (node_in ns i).b (get_or before (node_in ns i).b (no_row A)))

  abbrev pub rows_of : List Node → List (Row C)
  rows_of ns = up_to (row_from ns) (length ns)

  -- R4.1: P and N of node i itself; of a renamed node too, those of its body (R5.8)
  abbrev pub row_of : List Node → ℕ → Row C
  row_of ns i = get_or (rows_of ns) i (no_row A)
