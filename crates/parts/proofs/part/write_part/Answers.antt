-- `parts::part::write_part` meets its contract. The loop's invariant: k clauses are written. Assumes nothing.
use native.Mathlib.Omega.{arith}
use Rattle.parts.proofs.Laws.Loops.{writing_start, counted, writing-next, writing_step, writing-end}
use Rattle.parts.proofs.part.write_part.Goals as goal

pub loop-k-init : goal.loop-k-init
loop-k-init c = writing_start _ _ _ _ c.args.out.now c.args.at c.if-not-has.false c.requires

pub write_clause-next-requires : goal.write_clause-next-requires
write_clause-next-requires c =
    let count = counted _ _ _ _ _ _ _ _ _ c.loop-k.invariant _ c.own_count-k-end.ensures.0 in
    writing-next _ _ _ _ _ _ _ _ _ c.loop-k.invariant (omega arith)

pub loop-k-preserved : goal.loop-k-preserved
loop-k-preserved c =
    let count = counted _ _ _ _ _ _ _ _ _ c.loop-k.invariant _ c.own_count-k-end.ensures.0 in
    writing_step _ _ _ _ _ _ _ _ _ c.loop-k.invariant _ _ (omega arith) c.write_clause-next.ensures

pub returns : goal.returns
returns c =
    let count = counted _ _ _ _ _ _ _ _ _ c.loop-k.invariant _ c.own_count-k-end.ensures.0 in
    writing-end _ _ _ _ _ _ _ _ _ c.loop-k.invariant (omega arith)
