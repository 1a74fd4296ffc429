-- `names::list::is_right` meets its contract: the names so far are right, and the list is right if what is left of it is.
-- The measure is the number of names that are left. Assumes nothing.
use Rattle.names.proofs.Laws.Checks.{Checked}
use Rattle.names.proofs.list.is_right.Given as goal

abbrev pub invariant-loop-i : goal.invariant-loop-i
invariant-loop-i l = Checked l.list l.count l.at l._i
