-- `totals::whole::whole` meets its contract. The loop's invariant: the sum is that of the root and of the nodes passed.
-- Assumes nothing.
use mathlib.Core.Path.{◌≡◌}
use Rattle.formula.specs.Tables.{nodes_of}
use Rattle.clausal.specs.Clauses.{renaming}
use Rattle.clausal.specs.Totals.{capped}
use Rattle.capped.specs.Inner.Sized.{as_total}
use Rattle.totals.proofs.Laws.Sums.{whole_to}
use Rattle.totals.proofs.whole.whole.Given as goal

abbrev pub invariant-loop-i : goal.invariant-loop-i
invariant-loop-i l = l.sum ≡ as_total (whole_to capped (renaming 0 l.set) (nodes_of l.table) l.i)
