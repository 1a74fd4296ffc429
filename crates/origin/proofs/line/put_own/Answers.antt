-- `origin::line::put_own` meets its contract. The loop's invariant: the literals before the one that is found are put.
-- The measure is the number of literals that are left. Assumes nothing.
use Rattle.origin.proofs.Laws.Clauses.{saying_start, saying_end, saying_voiced, saying_next, saying_less}
use Rattle.origin.proofs.line.put_own.Goals as goal

pub loop-found-init : goal.loop-found-init
loop-found-init c = saying_start _ _ _ _ _ _ _ c.requires.voiced c.first-found.ensures

pub put_literal-next_pen-requires : goal.put_literal-next_pen-requires
put_literal-next_pen-requires c = saying_voiced _ _ _ _ _ _ _ _ _ _ c.loop-found.invariant _ c.in-Some.is

pub loop-found-smaller : goal.loop-found-smaller
loop-found-smaller c = saying_less _ _ _ _ _ _ _ _ _ _ c.loop-found.invariant _ c.in-Some.is _ _ c.next-found.ensures

pub loop-found-preserved : goal.loop-found-preserved
loop-found-preserved c =
    saying_next _ _ _ _ _ _ _ _ _ _ c.loop-found.invariant _ c.in-Some.is _ _ c.next-found.ensures _ _ _
    c.put_literal-next_pen.ensures

pub returns : goal.returns
returns c = saying_end _ _ _ _ _ _ _ _ _ _ c.loop-found.invariant c.in_default.is
