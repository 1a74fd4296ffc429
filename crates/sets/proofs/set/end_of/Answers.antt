-- `sets::set::end_of` meets its contract: the words before a zero are passed one by one. Assumes nothing.
use mathlib.Core.Path.{ap, ◌∙◌}
use native.Mathlib.Omega.{arith}
use lib.ListN.{length}
use Rattle.sets.proofs.Laws.Walks.{clause-zero, clause-more, clause-end}
use Rattle.sets.proofs.set.end_of.Goals as goal

-- at a zero, at a literal, and at the end
pub returns-then-word_at-eq0 : goal.returns-then-word_at-eq0
returns-then-word_at-eq0 c =
    let l = c.loop-i in
    let none = clause-zero (c.args.bytes.now) l.i c.word_at.result (omega arith) c.word_at.ensures c.if-word_at-eq0.true in
    omega (arith, ap length none) ∙ l.invariant.1

pub loop-i-preserved : goal.loop-i-preserved
loop-i-preserved c =
    let l = c.loop-i in
    let more = clause-more (c.args.bytes.now) l.i c.word_at.result (omega arith) c.word_at.ensures c.if-word_at-eq0.false in
    (omega arith, omega (arith, ap length more) ∙ l.invariant.1)

pub returns : goal.returns
returns c =
    let l = c.loop-i in
    omega (arith, ap length (clause-end (c.args.bytes.now) l.i c.loop-i-test.false)) ∙ l.invariant.1
