-- `nodefile::read` meets its contract: behind the option line each turn passes a right line and collects its record.
-- Assumes nothing.
use mathlib.Core.Path.{◌≡◌}
use Prim.Native.Nat.{◌+◌, ◌-◌, ◌≤◌}
use lib.ListN.{length}
use Rattle.formula.specs.Tables.{most_nodes}
use Rattle.nodefile.specs.Files.{option_count, line_of}
use Rattle.nodefile.proofs.Laws.Files.{Standing}
use Rattle.nodefile.proofs.Laws.Files.{Collected}
use Rattle.nodefile.proofs.read.Given as goal

abbrev pub invariant-loop-at : goal.invariant-loop-at
invariant-loop-at l = (l.at ≤ length l.text) × (l.nodes ≤ most_nodes) × (l.options.says ≡ option_count (line_of l.text 0))
    × Standing l.text l.at (l.nodes + 1) × Collected l.text l.bytes l.nodes

abbrev pub decreases-loop-at : goal.decreases-loop-at
decreases-loop-at l = length l.text - l.at
