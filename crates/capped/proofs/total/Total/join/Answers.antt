-- `capped::total::Total::join` meets its contract: the products, read at the ceilings. Assumes nothing.
use mathlib.Core.Path.{◌≡◌, ap, ◌∙◌}
use Prim.Native.Nat.{ℕ, ◌+◌, ◌*◌}
use native.Mathlib.Nat.{mul_comm}
use Rattle.laws.specs.Numbers.{cap}
use Rattle.clausal.specs.Totals.{Size, sizes, literal_ceiling}
use Rattle.capped.specs.Inner.Sized.{sized}
use Rattle.capped.proofs.Laws.Stated.{stated-shown}
use Rattle.capped.proofs.total.Total.join.Goals as goal

pub returns : goal.returns
returns c =
    let own : Size = sized c.args.self in
    let other : Size = sized c.args.other in
    let literals : c.join-2.result.n ≡ cap literal_ceiling (sizes.join own other).literals =
    c.join-2.ensures
    ∙ ap (λ (k : ℕ). cap literal_ceiling (own.literals * other.clauses + k)) (mul_comm other.literals own.clauses) in
    c.stated.ensures ∙ stated-shown _ _ _ _ c.join.ensures literals
