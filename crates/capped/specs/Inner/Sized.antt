-- The code's totals, as the sizes of the rules.
-- Assumes nothing: these are definitions.
use Rattle.std.specs.Prelude.{cond, ℕ, ltb}
use Rattle.clausal.specs.Totals.{Size, clause_ceiling, literal_ceiling}
use Rattle.capped.specs.declared.total.Total.{Total}

abbrev pub sized : Total → Size
sized t = record { clauses = t.clauses.n; literals = t.literals.n }

abbrev pub as_total : Size → Total
as_total x = record { clauses = record { n = x.clauses }; literals = record { n = x.literals } }

-- a literal total that is stated only where its clause total is below the ceiling
abbrev pub stated_as : ℕ → ℕ → Total
stated_as c l = as_total (record { clauses = c; literals = cond (ltb c clause_ceiling) l literal_ceiling })
