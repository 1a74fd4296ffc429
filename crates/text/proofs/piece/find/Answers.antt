-- `text::piece::find` meets its contract: from every place before it the mark is the same. Assumes nothing.
use native.Mathlib.Omega.{arith}
use Rattle.text.proofs.Laws.Pieces.{spot-here, spot-next, spot-end}
use Rattle.text.proofs.piece.find.Goals as goal

pub returns-then-text-i : goal.returns-then-text-i
returns-then-text-i c =
    let l = c.loop-i in
    let x = c.args in
    let e = spot-here x.mark x.text.now l.i c.loop-i-test.true c.if-text-i.true in
    record { place = omega (arith, l.invariant, e); behind = omega arith; within = omega arith }

pub loop-i-preserved : goal.loop-i-preserved
loop-i-preserved c =
    let l = c.loop-i in
    let x = c.args in
    let e = spot-next x.mark x.text.now l.i c.loop-i-test.true c.if-text-i.false in
    omega (arith, l.invariant, e)

pub returns : goal.returns
returns c =
    let l = c.loop-i in
    let x = c.args in
    let e = spot-end x.mark x.text.now l.i c.loop-i-test.false in
    record { place = omega (arith, l.invariant, e); behind = omega arith; within = omega arith }
