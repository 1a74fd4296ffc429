-- `choose::bytes::count_all` meets its contract. The loop's invariant: the nodes that are passed are counted. Assumes nothing.
use mathlib.Core.Path.{◌≡◌}
use Rattle.formula.specs.Tables.{nodes_of}
use Rattle.clausal.specs.Clauses.{renamed_below}
use Rattle.clausal.specs.Choosing.{all_of}
use Rattle.choose.proofs.bytes.count_all.Given as goal

abbrev pub invariant-loop-i : goal.invariant-loop-i
invariant-loop-i l = l.all ≡ renamed_below (all_of (nodes_of l.table)) l.i
