-- `origin::literal::next` meets its contract. The loop's invariant: the ways that wait now have the literals of those that
-- waited at first. What falls is what they weigh. Assumes nothing.
use Rattle.origin.proofs.Laws.Firsts.{next_found, next_same, next_less, first-none}
use Rattle.origin.proofs.literal.next.Goals as goal

pub returns-in-Some-open : goal.returns-in-Some-open
returns-in-Some-open c = next_found _ _ _ _ _ c.loop-way.invariant.same c.in-Some.ensures _ _ c.in-Some-open.ensures

pub loop-way-smaller : goal.loop-way-smaller
loop-way-smaller c = next_less _ _ _ _ _ c.loop-way.invariant.same c.in-Some.ensures _ c.in_default-open.ensures

pub loop-way-preserved : goal.loop-way-preserved
loop-way-preserved c = record {
  waiting = c.open.ensures.waiting;
  same = next_same _ _ _ _ _ c.loop-way.invariant.same c.in-Some.ensures _ c.in_default-open.ensures;
}

pub returns : goal.returns
returns c = first-none _ _ _ _ c.loop-way.invariant.waiting c.loop-way.invariant.same c.in_default.ensures
