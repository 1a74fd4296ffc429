-- `origin::calls::origins` meets its contract: the table is checked first. Assumes nothing.
use Rattle.answer.proofs.Laws.Order.{accepts_of}
use Rattle.origin.proofs.Laws.Shown.{showable}
use Rattle.origin.proofs.calls.origins.Goals as goal

pub show_under-requires : goal.show_under-requires
show_under-requires c = showable _ _ (accepts_of _ _ c.check.ensures _ c.in_ok-check.was) _ _ _ c.new-voices.ensures
