-- Truth collected as clause lists are, and R15.10: the row in which each helper has its node's truth.
-- Assumes nothing: these are definitions.
use Rattle.std.specs.Prelude.{Bool, true, false, cond, ◌&&◌, ◌||◌, List, ℕ, zero, suc, eqb, length}
use Rattle.std.specs.Bool.{beq}
use Rattle.marks.specs.Sets.{renamed}
use Rattle.formula.specs.Truths.{truth_of}
use Rattle.formula.specs.declared.node.Node.{Node}
use Rattle.clausal.specs.Clauses.{Algebra, Renaming, helper_of}

-- truth, collected as clause lists are
abbrev pub truths : (ℕ → Bool) → Algebra Bool
truths ρ = record {
  none = true;
  empty = false;
  unit = λ plain v. beq plain (ρ v);
  cat = ◌&&◌;
  join = ◌||◌;
}

-- R15.10: the row ρ, but that the helper of each renamed node below n takes its node's truth in ρ
unfoldable pub with_helpers : (ℕ → Bool) → Renaming → List Node → ℕ → ℕ → Bool
with_helpers ρ u ns zero x = ρ x
with_helpers ρ u ns (suc n) x =
    cond (renamed u.set n) (cond (eqb x (helper_of u n)) (truth_of ρ ns n) (with_helpers ρ u ns n x)) (with_helpers ρ u ns n x)

abbrev pub extended : (ℕ → Bool) → Renaming → List Node → ℕ → Bool
extended ρ u ns = with_helpers ρ u ns (length ns)
