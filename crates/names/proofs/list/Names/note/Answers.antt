-- `names::list::Names::note` meets its contract: where each 32nd name up to the one that was reached begins is noted.
-- The measure is the number of names that are left. Assumes nothing.
use Rattle.names.proofs.Laws.Places.{reached-step}
use Rattle.names.proofs.Laws.Notes.{noting_start, noting_pass, noting_more}
use Rattle.names.proofs.list.Names.note.Goals.{then-i-eq0, else-i-eq0}
use Rattle.names.proofs.list.Names.note.Goals as goal

pub loop-i-preserved : goal.loop-i-preserved
loop-i-preserved c =
    let loop = c.loop-i in
    let pre = c.requires in
    let more = c.loop-i-test.true in
    let step = reached-step loop.invariant.reached c.find-at.ensures _ pre.right more in
    elim c.if-i-eq0.branch [
      | then-i-eq0 w ↦ rw w.self-is (noting_more loop.invariant more step w.if-i-eq0.true pre.few)
      | else-i-eq0 w ↦ rw w.self-is (noting_pass loop.invariant more step w.if-i-eq0.false)
    ]

pub loop-i-init : goal.loop-i-init
loop-i-init c =
    noting_start c.requires
