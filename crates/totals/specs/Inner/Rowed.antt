-- The code's rows, as the rows of the rules.
-- Assumes nothing: these are definitions.
use Rattle.clausal.specs.Clauses as algebra
use Rattle.clausal.specs.Totals.{Size}
use Rattle.capped.specs.Inner.Sized.{sized, as_total}
use Rattle.totals.specs.declared.rows.Row.{Row}

abbrev pub rowed : Row → algebra.Row Size
rowed r = record { P = sized r.p; N = sized r.n }

abbrev pub as_row : algebra.Row Size → Row
as_row r = record { p = as_total r.P; n = as_total r.N }
