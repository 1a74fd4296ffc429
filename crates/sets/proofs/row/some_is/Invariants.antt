-- `sets::row::some_is` meets its contract: the first literal that is as asked for decides. Assumes nothing.
use mathlib.Core.Path.{◌≡◌}
use Rattle.sets.specs.Inner.Sets.{clause_from, some_is}
use Rattle.sets.proofs.row.some_is.Given as goal

abbrev pub invariant-loop-i : goal.invariant-loop-i
invariant-loop-i l = (some_is l.row l.turned (clause_from l.bytes l.i) ≡ some_is l.row l.turned (clause_from l.bytes l.from))
