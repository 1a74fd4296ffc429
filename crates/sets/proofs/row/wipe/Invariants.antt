-- `sets::row::wipe` meets its contract: the byte of each literal is zero afterwards. Assumes nothing.
use mathlib.Core.Path.{◌≡◌}
use lib.ListN.{length}
use Rattle.bits.specs.Inner.Rows.{wiped}
use Rattle.sets.specs.Inner.Sets.{clause_from, codes_of, row_bytes}
use Rattle.sets.proofs.row.wipe.Given as goal

abbrev pub invariant-loop-i : goal.invariant-loop-i
invariant-loop-i l = (length l.row ≡ row_bytes)
    × (wiped (codes_of (clause_from l.bytes l.i)) l.row ≡ wiped (codes_of (clause_from l.bytes l.from)) l.initial.row)
