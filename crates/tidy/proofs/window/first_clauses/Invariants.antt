-- `tidy::window::first_clauses` meets its contract: a search that is not given up finds the first clauses, and the
-- last one is not given up. Assumes nothing.
use Prim.Native.Nat.{◌<◌}
use Rattle.sets.specs.Inner.Sets.{seeds}
use Rattle.tidy.proofs.window.first_clauses.Given as goal

abbrev pub invariant-loop-seed : goal.invariant-loop-seed
invariant-loop-seed l = l.seed < seeds
