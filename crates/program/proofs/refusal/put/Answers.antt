-- `program::refusal::put` meets its contract: a 32-bit number has at most ten digits. Assumes nothing.
use native.Mathlib.Omega.{arith}
use Rattle.program.proofs.Laws.Shows.{field-short}
use Rattle.program.proofs.refusal.put.Goals as goal

pub put_field-requires : goal.put_field-requires
put_field-requires c = let a = c.args in omega (arith, field-short a.number a.end (omega arith))

pub returns : goal.returns
returns c =
    let a = c.args in
    let e = c.put_field.ensures in
    record { stored = e; short = omega (arith, e.place, field-short a.number a.end (omega arith)) }
