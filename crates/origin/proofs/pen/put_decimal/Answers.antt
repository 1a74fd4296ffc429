-- `origin::pen::put_decimal` meets its contract: the digits stand in an array of their own first. Assumes nothing.
use native.Mathlib.Omega.{arith}
use Rattle.text.proofs.Laws.Decimals.{width-least}
use Rattle.origin.proofs.Laws.Pens.{drawn_as, digits-few, digits-length, digits_are}
use Rattle.origin.proofs.pen.put_decimal.Goals as goal

pub put_number-end-requires : goal.put_number-end-requires
put_number-end-requires c = omega (arith, width-least c.args.number (omega arith))

pub slice_bounds-digits-end : goal.slice_bounds-digits-end
slice_bounds-digits-end c =
    digits-few _ _ _ _ (width-least c.args.number (omega arith)) c.put_number-end.ensures

pub slice_bounds-put-end : goal.slice_bounds-put-end
slice_bounds-put-end c =
    digits-length _ _ _ _ (width-least c.args.number (omega arith)) c.put_number-end.ensures

pub returns : goal.returns
returns c =
    drawn_as (digits_are _ _ _ _ (width-least c.args.number (omega arith)) c.put_number-end.ensures) c.put.ensures
