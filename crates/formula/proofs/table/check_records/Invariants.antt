-- `formula::table::check_records` meets its contract: the loop looks for the lowest wrong record. Assumes nothing.
use Rattle.laws.proofs.First.{Looking}
use Rattle.formula.specs.Checks.{record_right}
use Rattle.formula.specs.Tables.{node_count}
use Rattle.formula.proofs.table.check_records.Given as goal

abbrev pub invariant-loop-i : goal.invariant-loop-i
invariant-loop-i l = Looking (record_right l.table l.options) (node_count l.table) l.i
