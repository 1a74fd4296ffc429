-- `text::write::put_number` meets its contract: each turn writes the last digit of what is left. Assumes nothing.
use Rattle.text.proofs.Laws.Backward.{Backward}
use Rattle.text.proofs.write.put_number.Given as goal

abbrev pub invariant-loop-i : goal.invariant-loop-i
invariant-loop-i l = Backward l.number l.initial.text l.at l.rest l.i l.text
