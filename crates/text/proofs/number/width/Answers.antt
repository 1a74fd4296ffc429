-- `text::number::width` meets its contract: each turn looks at one power of ten. Assumes nothing.
use native.Mathlib.Omega.{arith}
use Rattle.text.proofs.Laws.Decimals.{widening_start, widening_more, widening_same, widening_end}
use Rattle.text.proofs.number.width.Goals as goal
use Rattle.text.proofs.number.width.Goals.{then-power-from, else-power-from}

pub loop-i-init : goal.loop-i-init
loop-i-init c =
    (omega arith, omega arith, omega arith, widening_start c.args.number)

pub returns : goal.returns
returns c =
    widening_end c.loop-i.invariant.3 c.ranges.number.fits c.loop-i-test.false

pub loop-i-preserved : goal.loop-i-preserved
loop-i-preserved c =
    let l = c.loop-i in
    elim c.if-power-from.branch [
      | then-power-from w ↦
          rw w.digits-is (omega arith, omega arith, omega (arith, l.invariant.2), widening_more l.invariant.3 (omega (arith, c.from.ensures)))
      | else-power-from w ↦
          rw w.digits-is (omega arith, omega arith, omega (arith, l.invariant.2), widening_same l.invariant.3 l.invariant.0 (omega (arith, c.from.ensures)))
    ]
