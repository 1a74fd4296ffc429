-- How the tables of examples are written and tested.
-- Assumes nothing: these are definitions.
use mathlib.Core.Bool.{Bool, true, false, ◌&&◌, beq}
use mathlib.Core.List.{List, [], ◌∷◌}
use Prim.Native.Nat.{ℕ}
use lib.Dec.{eqb}
use lib.ListN.{length, take, replicate}
use Rattle.answer.specs.Answers.{told_of}
use Rattle.formula.specs.Checks.{checked}
use Rattle.marks.specs.Sets.{set_checked}
use Rattle.formula.specs.Tables.{node_record, nodes_of}
use Rattle.clausal.specs.Choosing.{choose}
use Rattle.clausal.specs.Totals.{Size, size_of, true_totals, totals}
use Rattle.clausal.specs.Clauses.{variables_of, renaming, Literal, Clause, clauses_bytes}
use Rattle.clausal.specs.Output.{output_of}
use Rattle.answer.specs.Answers.{Answer}
use Rattle.formula.specs.declared.node.Node.{Node}

abbrev pub false-node : List ℕ
false-node = node_record 0 0 0

abbrev pub true-node : List ℕ
true-node = node_record 1 0 0

abbrev pub symbol : ℕ → List ℕ
symbol x = node_record 2 x 0

abbrev pub not_of : ℕ → List ℕ
not_of a = node_record 3 a 0

abbrev pub and_of : ℕ → ℕ → List ℕ
and_of a b = node_record 4 a b

abbrev pub or_of : ℕ → ℕ → List ℕ
or_of a b = node_record 5 a b

abbrev pub implies_of : ℕ → ℕ → List ℕ
implies_of a b = node_record 6 a b

abbrev pub equivalent_of : ℕ → ℕ → List ℕ
equivalent_of a b = node_record 7 a b

-- a plain literal, and a negated one
abbrev pub p : ℕ → Literal
p x = record { plain = true; variable = x }

abbrev pub n : ℕ → Literal
n x = record { plain = false; variable = x }

-- R14.16: how a set is given
pub data Given : Type 0 where
  nothing : Given
  renamed : List ℕ → Given
  allowed : ℕ → Given

abbrev set_by : ℕ → List Node → Given → List ℕ
set_by v ns nothing = replicate (length ns) 0
set_by v ns (renamed s) = s
set_by v ns (allowed allowance) = (choose allowance (renaming v []) ns).chosen

-- a table's bytes, V and how the set is given; then what is expected: the set, the variables reported, the clauses,
-- both totals, the number of clause bytes, and the first of them, as many as are written here
pub record Example : Type 0 where
  pub table : List ℕ
  pub options : ℕ
  pub given : Given
  pub set : List ℕ
  pub variables : ℕ
  pub output : List Clause
  pub clauses : ℕ
  pub literals : ℕ
  pub bytes : ℕ
  pub first : List ℕ

-- equality, as a test
abbrev pub same : {A : Type 0} → (A → A → Bool) → List A → List A → Bool
same eq [] [] = true
same eq [] (y ∷ ys) = false
same eq (x ∷ xs) [] = false
same eq (x ∷ xs) (y ∷ ys) = eq x y && same eq xs ys

abbrev same_literal : Literal → Literal → Bool
same_literal l k = beq l.plain k.plain && eqb l.variable k.variable

abbrev pub accepted : Answer → Bool
accepted answer = eqb (told_of answer).number 0

abbrev pub sized : ℕ → ℕ → Size → Bool
sized clauses literals x = eqb x.clauses clauses && eqb x.literals literals

abbrev pub all : {A : Type 0} → (A → Bool) → List A → Bool
all test [] = true
all test (x ∷ xs) = test x && all test xs

abbrev holds_under : Example → List Node → List ℕ → Bool
holds_under e ns s =
    let u = renaming e.options s in
    accepted (set_checked ns s)
    && same eqb s e.set
    && eqb (variables_of u (length ns)) e.variables
    && same (same same_literal) (output_of u ns) e.output
    && sized e.clauses e.literals (size_of (output_of u ns))
    && sized e.clauses e.literals (true_totals u ns)
    && sized e.clauses e.literals (totals u ns)
    && eqb (length (clauses_bytes (output_of u ns))) e.bytes
    && same eqb (take (length e.first) (clauses_bytes (output_of u ns))) e.first

-- whether an example comes out as expected: its table and its set are accepted, and each definition gives what is written
abbrev pub holds : Example → Bool
holds e =
    let ns = nodes_of e.table in
    accepted (checked e.table e.options) && holds_under e ns (set_by e.options ns e.given)
