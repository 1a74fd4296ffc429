-- What falls is the depth: twice it for a formula, and one more for a group, which holds formulas of that depth. The loop's invariant:
-- what is left is read as the whole group is. Assumes nothing.
use Rattle.std.proofs.Common.{◌+◌, ◌*◌, ◌-◌, length}
use Rattle.satfile.proofs.Laws.Turns.{Grouping}
use Rattle.satfile.proofs.lead.Reader.+formula_list.Given as goal

abbrev pub decreases-formula : goal.decreases-formula
decreases-formula l = 2 * l.depth

abbrev pub decreases-list : goal.decreases-list
decreases-list l = 2 * l.depth + 1

abbrev pub invariant-list-loop-group : goal.invariant-list-loop-group
invariant-list-loop-group l = Grouping l.self l.depth l.group l.fn.table l.at l.next l.table l.i l.behind

abbrev pub decreases-list-loop-group : goal.decreases-list-loop-group
decreases-list-loop-group l = length l.self.text.now - l.i
