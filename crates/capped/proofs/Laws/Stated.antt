-- Two capped numbers, the literals stated only below the clause ceiling, are the true pair read at the ceilings.
-- Assumes nothing.
use mathlib.Core.Path.{◌≡◌, refl, sym, ap, ◌∙◌}
use mathlib.Core.Bool.{Bool, true, false, cond}
use Prim.Native.Nat.{ℕ, ◌<◌, ◌≤◌}
use native.Mathlib.Omega.{arith}
use lib.Dec.{ltb}
use borrow.Author.Tests.{ltb-true, ltb-false, lt-ltb, le-ltb}
use Rattle.laws.specs.Numbers.{cap}
use Rattle.clausal.specs.Totals.{Size, clause_ceiling, literal_ceiling, shown}
use Rattle.capped.specs.Inner.Sized.{as_total, stated_as}

-- a capped number is below its ceiling exactly where the number is
ltb-cap : (ceiling n : ℕ) → ltb (cap ceiling n) ceiling ≡ ltb n ceiling
ltb-cap ceiling n = go (ltb n ceiling) refl
  where
    go : (b : Bool) → ltb n ceiling ≡ b → ltb (cap ceiling n) ceiling ≡ ltb n ceiling
    go true e = let h : n < ceiling = ltb-true n ceiling e in lt-ltb (cap ceiling n) ceiling (omega arith) ∙ sym e
    go false e = let h : ceiling ≤ n = ltb-false n ceiling e in le-ltb (cap ceiling n) ceiling (omega arith) ∙ sym e

pub stated-shown : (c l clauses literals : ℕ) → c ≡ cap clause_ceiling clauses → l ≡ cap literal_ceiling literals
    → stated_as c l ≡ as_total (shown (record { clauses = clauses; literals = literals }))
stated-shown c l clauses literals e f =
    let read : Bool → Size = λ b. record {
      clauses = cap clause_ceiling clauses;
      literals = cond b (cap literal_ceiling literals) literal_ceiling;
    } in
    (λ i. stated_as (e i) (f i)) ∙ ap (λ (b : Bool). as_total (read b)) (ltb-cap clause_ceiling clauses)
