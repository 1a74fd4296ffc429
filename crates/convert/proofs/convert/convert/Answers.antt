-- `convert::convert::convert` meets its contract: the table is checked first. Assumes nothing.
use Rattle.answer.proofs.Laws.Order.{accepts_of}
use Rattle.convert.proofs.Laws.Checked.{convertible, few-options}
use Rattle.convert.proofs.convert.convert.Goals as goal

pub convert_under-requires : goal.convert_under-requires
convert_under-requires c =
    let a = c.args in
    let ok = accepts_of _ _ c.check.ensures _ c.in_ok-check.was in
    convertible a.table.now a.options ok a.options (few-options a.table.now a.options ok)
