-- `header::read` meets its contract: what is still to be read leads from the present state to where the whole text leads.
-- Both loops go on by one law. Assumes nothing.
use mathlib.Core.Path.{◌≡◌, sym, ◌∙◌}
use mathlib.Core.Bool.{false, true}
use Prim.Native.Nat.{◌+◌, ◌-◌, ◌<◌}
use native.Mathlib.Omega.{arith}
use lib.ListN.{length, drop}
use Rattle.header.specs.Inner.Heads.{is_over, is_comment}
use Rattle.header.proofs.Laws.Steps.{run-over}
use Rattle.header.proofs.Laws.Reading.{Nearer, left, left-more, nearer_step}
use Rattle.header.proofs.Laws.Reading.{nearer_comment, left-comment}
use Rattle.header.proofs.read.Goals.{After-comment-head, At-loop-head-2, Else-is_over, Then-is_comment}
use Rattle.header.proofs.read.Goals as goal

more : (c : Else-is_over) → is_over c.loop-head.head.phase ≡ false
more c = sym c.is_over.ensures ∙ c.if-is_over.false

in-comment : (c : Then-is_comment) → is_comment c.loop-head-2.head.phase ≡ true
in-comment c = sym c.is_comment.ensures ∙ c.if-is_comment.true

-- the head is read, or dead
pub returns-then-is_over : goal.returns-then-is_over
returns-then-is_over c =
    let l = c.loop-head in
    let x = c.args in
    sym (run-over x.form l.head (drop l.head.place x.text.now) (sym c.is_over.ensures ∙ c.if-is_over.true))
    ∙ l.invariant.leads

pub loop-head-2-init : goal.loop-head-2-init
loop-head-2-init c =
    let x = c.args in
    nearer_step x.form x.text.now c.loop-head.head c.loop-head.invariant c.loop-head-test.true (more (goal.at.loop-head-2-init c).Else-is_over)
    c.step-head.result c.step-head.ensures

-- behind the comments less is left than before this turn
less-left : (c : At-loop-head-2)
    → let text = c.args.text.now in
    left text c.loop-head-2.head < left text c.loop-head.head
less-left c =
    let text = c.args.text.now in
    omega (arith, c.loop-head-2.invariant.less, left-more text c.loop-head.head (more (goal.at.At-loop-head-2 c).Else-is_over))

-- one byte of a comment on
on : (c : After-comment-head) → let x = c.args in Nearer x.form x.text.now c.loop-head-2.head.place c.comment-head.result
on c =
    let l = c.loop-head-2 in
    let x = c.args in
    nearer_comment x.form x.text.now l.head l.invariant.reading c.loop-head-2-test.true (in-comment (goal.at.After-comment-head c).Then-is_comment)
    c.comment-head.result c.comment-head.ensures

was : (c : Then-is_comment) → let t = c.args.text.now in left t c.loop-head-2.head ≡ length t - c.loop-head-2.head.place + 1
was c = left-comment c.args.text.now c.loop-head-2.head (in-comment c)

pub loop-head-2-smaller : goal.loop-head-2-smaller
loop-head-2-smaller c = omega (arith, (on c).less, was (goal.at.loop-head-2-smaller c).Then-is_comment)

pub loop-head-2-preserved : goal.loop-head-2-preserved
loop-head-2-preserved c =
    record { reading = (on c).reading; less = omega (arith, (on c).less, was (goal.at.loop-head-2-preserved c).Then-is_comment, c.loop-head-2.invariant.less) }
