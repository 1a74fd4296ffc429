-- `text::number::number_of` meets its contract: each turn takes a digit in; the first fault decides. Assumes nothing.
use mathlib.Core.Path.{◌≡◌, sym, ap, ◌∙◌}
use Prim.Native.Nat.{ℕ, ◌-◌}
use native.Mathlib.Omega.{arith}
use borrow.Author.Tests.{eqb-true}
use lib.Dec.{ltb}
use lib.ListN.{get_or}
use Rattle.text.specs.Inner.Numbers.{grown_of}
use Rattle.text.proofs.Laws.Fields.{reading_none, reading_no_digit, reading_over, reading_more, reading_end}
use Rattle.text.proofs.number.number_of.Goals.{After-grown}
use Rattle.text.proofs.number.number_of.Goals as goal

-- the digit that is taken in
taken : (c : After-grown)
    → let l = c.loop-i in
    let x = c.args in
    c.grown.result ≡ grown_of (ltb 0 l.i) l.value (get_or x.bytes.now l.i 0 - 48) x.most
taken c =
    let l = c.loop-i in
    let x = c.args in
    c.grown.ensures ∙ ap (λ (d : ℕ). grown_of (ltb 0 l.i) l.value d x.most) c.digit_of.ensures

-- no digit
pub returns-then-not-is_digit : goal.returns-then-not-is_digit
returns-then-not-is_digit c =
    reading_no_digit c.loop-i.invariant.1 c.loop-i-test.true (sym c.is_digit.ensures ∙ c.if-not-is_digit.true)

-- a leading zero, or over the limit
pub returns-in_err-value : goal.returns-in_err-value
returns-in_err-value c =
    c.from_residual.ensures
    ∙ reading_over c.loop-i.invariant.1 c.loop-i-test.true (sym (taken (goal.at.returns-in_err-value c).After-grown) ∙ c.in_err-value.was)

pub loop-i-preserved : goal.loop-i-preserved
loop-i-preserved c =
    let l = c.loop-i in
    let is = sym c.is_digit.ensures ∙ c.if-not-is_digit.false in
    (l.invariant.0, reading_more l.invariant.1 c.loop-i-test.true _ is (sym (taken (goal.at.loop-i-preserved c).After-grown) ∙ c.in_ok-value.was))

pub returns : goal.returns
returns c =
    let l = c.loop-i in
    reading_end l.invariant.1 (omega (arith, l.invariant.0, c.loop-i-test.false)) c.loop-i-test.false

pub returns-then-is_empty : goal.returns-then-is_empty
returns-then-is_empty c =
    let x = c.args in reading_none x.most x.bytes.now (eqb-true _ 0 (sym c.is_empty.ensures ∙ c.if-is_empty.true))
