-- `origin::part::find` meets its contract: each part is left for the one behind it. Assumes nothing.
use Rattle.origin.proofs.Laws.Spots.{seeking_next}
use Rattle.origin.proofs.part.find.Goals as goal

pub loop-spot-preserved : goal.loop-spot-preserved
loop-spot-preserved c =
    seeking_next _ _ _ _ _ c.loop-spot.invariant _ c.count-each.ensures c.if-spot-each.false _ c.onward-spot.ensures
