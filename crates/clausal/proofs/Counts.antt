-- Table 2.1 of Pimenta's thesis: the numbers of clauses of a formula and of its negation, from those of its parts.
-- It is the rule of a node once more, at the algebra of clause counts: a sum where one list follows another, a product for a
-- join. The table has no row for true and false; its last row writes the two summands of a negated equivalence the other way.
-- Assumes nothing.
use mathlib.Core.Path.{◌≡◌, refl, ap, ◌∙◌}
use mathlib.Core.Bool.{false, cond}
use mathlib.Core.List.{List}
use Prim.Native.Nat.{ℕ, ◌+◌, ◌*◌, ◌<◌}
use lib.Dec.{eqb}
use lib.ListN.{length}
use Rattle.formula.specs.Tables.{node_in}
use Rattle.formula.specs.Inner.Right.{WellFormed}
use Rattle.marks.specs.Sets.{renamed}
use Rattle.clausal.specs.Clauses.{Algebra, Row, unit_row, clauses, Renaming, name_of, row_of}
use Rattle.clausal.specs.Totals.{Size, sizes}
use Rattle.clausal.proofs.Related.{Keeps, Under, both, keeps_of_map, under_by}
use Rattle.clausal.proofs.Helpers.{name-plain}
use Rattle.clausal.proofs.Rows.{rule_at, seen_of, row_at}
use Rattle.clausal.proofs.Totals.{size-row}
use Rattle.formula.specs.declared.node.Node.{Node}

-- clause counts
abbrev pub counts : Algebra ℕ
counts = record { none = 0; empty = 1; unit = λ plain x. 1; cat = ◌+◌; join = ◌*◌ }

-- the two numbers of a formula
abbrev pub counts_in : Row Size → Row ℕ
counts_in x = record { P = x.P.clauses; N = x.N.clauses }

counts_keeps : Keeps (λ x. Unit {0}) sizes counts (λ x c. x.clauses ≡ c)
counts_keeps = keeps_of_map _ sizes counts (λ x. x.clauses) refl refl (λ plain x. refl) (λ x y. refl) (λ x y. refl)

-- they depend on those of the parts alone
counts_by : (n : Node) (f : ℕ → Row Size) → counts_in (rule_at sizes n f) ≡ rule_at counts n (λ j. counts_in (f j))
counts_by n f =
    let u : Under (λ (x : Size) c. x.clauses ≡ c) both (rule_at sizes n f) (rule_at counts n (λ j. counts_in (f j))) =
    under_by _ sizes counts _ counts_keeps n.kind n.a both _ _ _ _ (λ e. tt)
    (record { P = λ t. refl; N = λ t. refl }) (record { P = λ t. refl; N = λ t. refl }) in
    λ j. record { P = u.P tt j; N = u.N tt j }

module _ (u : Renaming) (ns : List Node) (v : ℕ) (wf : WellFormed v ns) (i : ℕ) (h : i < length ns) where
  -- under any set, with the parts as they are seen
  pub count_at : counts_in (row_of sizes (name_of u) ns i) ≡ rule_at counts (node_in ns i) (λ j. counts_in (seen_of sizes (name_of u) ns j))
  count_at = ap counts_in (row_at sizes (name_of u) ns i h (wf.below i)) ∙ counts_by (node_in ns i) (seen_of sizes (name_of u) ns)

  -- with nothing renamed
  pub count-plain : ((j : ℕ) → renamed u.set j ≡ false)
      → counts_in (row_of sizes (name_of u) ns i) ≡ rule_at counts (node_in ns i) (λ j. counts_in (row_of sizes (name_of u) ns j))
  count-plain none = count_at ∙ λ k. rule_at counts (node_in ns i) (λ j. counts_in (plain j k))
    where
      plain : (j : ℕ) → seen_of sizes (name_of u) ns j ≡ row_of sizes (name_of u) ns j
      plain j = ap (λ (k : ℕ). cond (eqb k 0) (row_of sizes (name_of u) ns j) (unit_row sizes k)) (name-plain u j (none j))

-- they are the lengths of the clause lists
pub count_lists : (u : Renaming) (ns : List Node) (i : ℕ)
    → record { P = length (row_of clauses (name_of u) ns i).P; N = length (row_of clauses (name_of u) ns i).N }
    ≡ counts_in (row_of sizes (name_of u) ns i)
count_lists u ns i = ap counts_in (size-row (name_of u) ns i)
