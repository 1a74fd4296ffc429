-- `names::list::Names::start_of` meets its contract: the walk begins where a name begins that is noted, and goes from name to name.
-- The measure is the number of names that are left. Assumes nothing.
use Prim.Native.Nat.{◌≤◌}
use Rattle.names.proofs.Laws.Places.{Reached}
use Rattle.names.proofs.list.Names.start_of.Given as goal

abbrev pub invariant-loop-i : goal.invariant-loop-i
invariant-loop-i l = (l._i ≤ l.j) × Reached l.self.list.now l._i l.at
