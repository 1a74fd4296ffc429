-- `sets::row::mark` meets its contract: each literal is marked, and adds to the signature where it is new. Assumes nothing.
use mathlib.Core.Path.{◌≡◌}
use Rattle.clausal.specs.Clauses.{Clause}
use Rattle.sets.specs.Inner.Sets.{sign_of}
use Rattle.sets.proofs.Laws.Marking.{Marking}
use Rattle.sets.proofs.row.mark.Given as goal

abbrev pub invariant-loop-i : goal.invariant-loop-i
invariant-loop-i l = (seen : Clause) × Marking l.bytes l.from l.i l.row seen × (l.sign ≡ sign_of l.seed seen)
