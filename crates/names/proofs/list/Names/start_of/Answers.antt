-- `names::list::Names::start_of` meets its contract: the walk begins where a name begins that is noted, and goes from name to name.
-- The measure is the number of names that are left. Assumes nothing.
use native.Mathlib.Omega.{arith}
use Rattle.names.proofs.Laws.Places.{reached-step}
use Rattle.names.proofs.Laws.Notes.{reached_block, reached-last}
use Rattle.names.proofs.list.Names.start_of.Goals as goal
use Rattle.names.proofs.list.Names.start_of.Goals.{then-first-self+then-self-j, else-first-self}

pub loop-i-preserved : goal.loop-i-preserved
loop-i-preserved c =
    let loop = c.loop-i in
    let pre = c.requires in
    (omega arith, reached-step loop.invariant.1 c.find-at.ensures pre.count pre.noted.right (omega (arith, pre.below)))

-- where the walk begins
pub loop-i-init : goal.loop-i-init
loop-i-init c =
    elim c.if-first-self.branch [
      | then-first-self+then-self-j w ↦
          (omega (arith, w.first-is, w.if-self-j.true), reached-last c.requires w.if-self-j.true w.first-is w.at-is)
      | else-first-self w ↦ (omega (arith, w.first-is), reached_block c.requires w.first-is w.at-is)
    ]
