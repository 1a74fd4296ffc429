-- `dimacs::writer::lines_size` meets its contract: the sizes of the words are added up. Assumes nothing.
use lib.ListN.{drop}
use Rattle.clausebytes.specs.Words.{words_of}
use Rattle.dimacs.proofs.Laws.Written.{Sizing}
use Rattle.dimacs.proofs.writer.lines_size.Given as goal

abbrev pub invariant-loop-i : goal.invariant-loop-i
invariant-loop-i l = Sizing (words_of l.bytes) (drop l.i (words_of l.bytes)) l.i l.size
