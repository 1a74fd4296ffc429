-- `names::list::Names::note` meets its contract: where each 32nd name up to the one that was reached begins is noted.
-- The measure is the number of names that are left. Assumes nothing.
use Rattle.names.proofs.Laws.Notes.{Noting}
use Rattle.names.proofs.list.Names.note.Given as goal

abbrev pub invariant-loop-i : goal.invariant-loop-i
invariant-loop-i l = Noting l.initial.self l.count l.self l.at l.i
