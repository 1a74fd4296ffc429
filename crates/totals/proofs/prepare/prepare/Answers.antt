-- `totals::prepare::prepare` meets its contract: marks, then the check of the set, then the totals. Assumes nothing.
use Rattle.totals.proofs.Laws.Prepared.{fillable}
use Rattle.totals.proofs.prepare.prepare.Goals as goal

pub fill-requires : goal.fill-requires
fill-requires c = fillable _ _ _ _ _ c.requires
