-- `origin::line::put_field` meets its contract: the digits, and then a tab. Assumes nothing.
use Rattle.origin.proofs.Laws.Pens.{drawn-both}
use Rattle.origin.proofs.line.put_field.Goals as goal

pub returns : goal.returns
returns c =
    drawn-both _ _ _ _ _ _ _ _ c.put_decimal-digits.ensures c.put.ensures
