-- `dimacs::copier::copy` meets its contract: byte by byte the pen follows the reader, and each word is written behind the last.
-- Assumes nothing.
use Rattle.body.specs.Inner.States.{start_of}
use Rattle.dimacs.proofs.Laws.Copies.{Copied}
use Rattle.dimacs.proofs.copier.copy.Given as goal

abbrev pub invariant-loop-i : goal.invariant-loop-i
invariant-loop-i l = Copied l.text (start_of l.from l.variables l.declared) l.initial.out l.pen l.i l.at l.out
