-- What a check of a table, and of what is taken, has settled for a conversion.
-- Assumes nothing.
use mathlib.Core.Path.{◌≡◌, refl, ap}
use mathlib.Core.Bool.{Bool, true, false, cond, ◌||◌}
use mathlib.Core.List.{List}
use Prim.Native.Nat.{ℕ, ◌≤◌}
use native.Mathlib.Omega.{arith}
use lib.Dec.{ltb}
use borrow.Author.Tests.{ltb-false}
use Rattle.laws.proofs.Choices.{neither}
use Rattle.answer.specs.Answers.{refuses}
use Rattle.answer.specs.Answers.{accepted_with}
use Rattle.std.specs.Prelude.{Err}
use Rattle.answer.specs.declared.Refusal.TheVariants.{Options}
use Rattle.formula.specs.Checks.{checked}
use Rattle.formula.specs.Inner.Right.{Right}
use Rattle.formula.specs.Tables.{most_options}
use Rattle.formula.proofs.Laws.WellFormed.{accepts, checked-accepted, length-right, accepted_well_formed}
use Rattle.clausal.specs.Calls.{taken_checked}
use Rattle.capped.specs.Inner.Sized.{sized}
use Rattle.totals.specs.Inner.Prepared.{Prepares}
use Rattle.totals.specs.declared.rows.Columns.{Columns}
use Rattle.totals.proofs.Laws.Prepared.{prepared-right, sum_is, ready_is}
use Rattle.answer.specs.declared.Refusal.{Refusal}
use Rattle.capped.specs.declared.total.Total.{Total}
use Rattle.std.specs.Prelude.{Result, Ok}
use Rattle.convert.specs.Inner.Fitted.{Convertible, Measured}

module _ (t : List ℕ) (v : ℕ) (ok : refuses (checked t v) ≡ false) where
  right : Right t v
  right = record {
    size = length-right t v ok;
    options = (accepts t v 0 0 (checked-accepted t v ok)).options;
    formed = accepted_well_formed t v 0 0 (checked-accepted t v ok);
  }

  pub convertible : (taken : ℕ) → taken ≤ most_options → Convertible t taken
  convertible taken h = record { options = v; right = right; most = h }

  pub few-options : v ≤ most_options
  few-options = right.options

-- what was prepared for a right set
pub measured_of : {t s : List ℕ} {taken : ℕ} {p : Result Total Refusal} {marks : List ℕ} {columns : Columns} {sum : Total} → Convertible t taken
    → Prepares t s p marks columns.clauses columns.literals → p ≡ Ok sum → Measured t taken marks s columns (sized sum)
measured_of {t} {s} {taken} {p} {marks} {columns} {sum} c a e = record {
  prepared = record {
    settled = record {
      convertible = c;
      marked = a.marked;
      set = prepared-right t s p marks columns.clauses columns.literals a sum e;
    };
    ready = ready_is t s p marks columns.clauses columns.literals a sum e;
  };
  whole = ap sized (sum_is t s p marks columns.clauses columns.literals a sum e);
}

-- what is taken
pub record Taken (v taken : ℕ) : Type 0 where
  pub least : v ≤ taken
  pub most : taken ≤ most_options

pub taken-right : (v taken : ℕ) → refuses (taken_checked v taken) ≡ false → Taken v taken
taken-right v taken e = go (ltb taken v || ltb most_options taken) refl
  where
    go : (b : Bool) → (ltb taken v || ltb most_options taken) ≡ b → Taken v taken
    go true f =
        let g = ap (λ (b : Bool). refuses (cond b (Err Options) (accepted_with 0 0))) f in
        let z : ◌≡◌ {A = ℕ} 0 1 = cc in
        absurd (omega arith)
    go false f =
        let both = neither (ltb taken v) (ltb most_options taken) f in
        record { least = ltb-false taken v both.0; most = ltb-false most_options taken both.1 }
