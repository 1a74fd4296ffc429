-- `parts::helper::name_all` meets its contract. The loop's invariant: the nodes below i have their helpers. Assumes nothing.
use Rattle.parts.proofs.Laws.Helpers.{Naming}
use Rattle.parts.proofs.helper.name_all.Given as goal

abbrev pub invariant-loop-i : goal.invariant-loop-i
invariant-loop-i l = Naming l.taken l.set l.initial.helpers l.helpers l.last l.i
