-- `convert::convert::convert_after` meets its contract: the table is checked first, then what is taken. Assumes nothing.
use Rattle.answer.proofs.Laws.Order.{accepts_of}
use Rattle.convert.proofs.Laws.Checked.{convertible, taken-right}
use Rattle.convert.proofs.convert.convert_after.Goals as goal

pub convert_under-requires : goal.convert_under-requires
convert_under-requires c =
    let a = c.args in
    convertible a.table.now a.options (accepts_of _ _ c.check.ensures _ c.in_ok-check.was) a.taken
    (taken-right a.options a.taken (accepts_of _ _ c.check_taken.ensures _ c.in_ok-check_taken.was)).most
