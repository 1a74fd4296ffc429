-- `clausebytes::check::check` meets its contract: each word is looked at once; the first fault decides, and without one all is counted.
-- Assumes nothing.
use mathlib.Core.Path.{◌≡◌}
use Prim.Native.Nat.{◌%◌, ◌≤◌}
use lib.ListN.{length, drop}
use Rattle.clausebytes.specs.Words.{words_of, most_variables}
use Rattle.clausebytes.proofs.Laws.Checking.{Checking}
use Rattle.clausebytes.proofs.check.check.Given as goal

abbrev pub invariant-loop-i : goal.invariant-loop-i
invariant-loop-i l = (l.variables ≤ most_variables) × (length l.bytes % 4 ≡ 0)
    × Checking l.variables (words_of l.bytes) (drop l.i (words_of l.bytes)) l.closed l.clauses l.literals
