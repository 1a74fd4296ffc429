-- `tidy::pass::put_all` meets its contract: window after window, its first clauses are looked for and it is put.
-- Assumes nothing.
use Rattle.std.specs.Prelude.{min}
use Rattle.tidy.proofs.Laws.Walking.{Walking}
use Rattle.tidy.proofs.pass.put_all.Given as goal

abbrev pub invariant-loop-start : goal.invariant-loop-start
invariant-loop-start l = Walking l.bytes l.writing l.initial.out l.initial.lines l.out l.lines l.walked l.seed (min l.start l.count)
