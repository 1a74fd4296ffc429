-- `text::write::put_number` meets its contract: each turn writes the last digit of what is left. Assumes nothing.
use native.Mathlib.Omega.{arith}
use Rattle.text.proofs.Laws.Backward.{backward_more}
use Rattle.text.proofs.write.put_number.Goals as goal

pub loop-i-preserved : goal.loop-i-preserved
loop-i-preserved c =
    let x = c.args in
    backward_more x.number x.text.now x.at c.requires c.loop-i.invariant _ (omega arith) (omega arith)
