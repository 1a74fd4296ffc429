-- `totals::rows::Columns::fill` meets its contract. The loop's invariant: the arrays hold the rows of the nodes below i.
-- Assumes nothing.
use Rattle.formula.specs.Tables.{nodes_of}
use Rattle.totals.specs.Inner.Columns.{Ready}
use Rattle.totals.proofs.rows.Columns.fill.Given as goal

abbrev pub invariant-loop-i : goal.invariant-loop-i
invariant-loop-i l = Ready l.set (nodes_of l.table) l.i l.self.clauses l.self.literals
