-- `dimacs::writer::put_words` meets its contract: the texts of the words one behind the other. Assumes nothing.
use lib.ListN.{drop}
use Rattle.laws.proofs.Stored.{Storing}
use Rattle.clausebytes.specs.Words.{words_of}
use Rattle.dimacs.specs.Inner.Words.{words_text}
use Rattle.dimacs.proofs.writer.put_words.Given as goal

abbrev pub invariant-loop-i : goal.invariant-loop-i
invariant-loop-i l = Storing (words_text (words_of l.bytes)) l.initial.text l.at (words_text (drop l.i (words_of l.bytes))) l.text l.next
