-- `marks::set::check` meets its contract. The loop looks for the lowest wrong byte. Assumes nothing.
use lib.ListN.{length}
use Rattle.laws.proofs.First.{Looking}
use Rattle.formula.specs.Tables.{nodes_of}
use Rattle.marks.specs.Sets.{byte_right}
use Rattle.marks.proofs.set.check.Given as goal

abbrev pub invariant-loop-i : goal.invariant-loop-i
invariant-loop-i l = Looking (byte_right (nodes_of l.table) l.set) (length (nodes_of l.table)) l.i
