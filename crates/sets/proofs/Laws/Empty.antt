-- Two rows are equal: neither has a literal.
-- Assumes nothing.
use mathlib.Core.Path.{◌≡◌, sym, ◌∙◌}
use mathlib.Core.HLevel.{is_prop→PathP}
use mathlib.Core.List.{is_set}
use native.Mathlib.Nat.{ℕ_set}
use Rattle.sets.specs.Inner.Sets.{no_literals}
use Rattle.sets.specs.declared.row.Row.{Row}

pub same_row : (r q : Row) → r ≡ q
same_row r q =
    let e = r.empty ∙ sym q.empty in
    λ i. record { bits = e i; empty = is_prop→PathP (λ i. e i ≡ no_literals) (λ i. is_set ℕ_set (e i) no_literals) r.empty q.empty i }
