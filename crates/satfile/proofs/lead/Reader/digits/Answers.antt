-- `satfile::lead::Reader::digits` meets its contract: digits are taken in one by one. The invariant: what is left, behind the digits
-- so far, is read as the whole is. Assumes nothing.
use mathlib.Core.Path.{◌≡◌, sym, ap, ◌∙◌, subst}
use mathlib.Core.Bool.{true}
use Prim.Native.Nat.{ℕ, ◌+◌, ◌-◌}
use native.Mathlib.Omega.{arith}
use lib.ListN.{length, get_or}
use Rattle.satfile.specs.Inner.Reads.{digits_from}
use Rattle.satfile.specs.Inner.Parts.{text_from, ReadTo}
use Rattle.text.specs.Inner.Numbers.{grown_of}
use Rattle.satfile.proofs.Laws.Rests.{digits-end, digits_stop, digits_on, digits-wrong}
use Rattle.satfile.proofs.lead.Reader.digits.Goals as goal
use Rattle.satfile.proofs.lead.Reader.digits.Goals.{After-grown}

pub returns-then-not-is_digit : goal.returns-then-not-is_digit
returns-then-not-is_digit c =
    let reader = c.args.self.now in
    record {
      out =
          sym c.loop-i.invariant.2
          ∙ digits_stop reader.text.now c.loop-i.i reader.options c.loop-i.value c.loop-i-test.true
          (sym c.is_digit.ensures ∙ c.if-not-is_digit.true);
      onward = omega (arith, c.loop-i.invariant.0);
      within = c.loop-i.invariant.1;
    }

-- the number that the digit makes
grew : (c : After-grown)
    → let reader = c.args.self.now in
    grown_of true c.loop-i.value (get_or reader.text.now c.loop-i.i 0 - 48) reader.options ≡ c.grown.result
grew c = ap (λ (x : ℕ). grown_of true c.loop-i.value x c.args.self.now.options) (sym c.digit_of.ensures) ∙ sym c.grown.ensures

pub returns-in_default : goal.returns-in_default
returns-in_default c =
    let reader = c.args.self.now in
    record {
      out =
          sym c.loop-i.invariant.2
          ∙ digits-wrong reader.text.now c.loop-i.i reader.options c.loop-i.value c.loop-i-test.true
          (sym c.is_digit.ensures ∙ c.if-not-is_digit.false) (grew (goal.at.returns-in_default c).After-grown ∙ c.in_default.is);
      within = c.loop-i.invariant.1;
    }

pub loop-i-preserved : goal.loop-i-preserved
loop-i-preserved c =
    let reader = c.args.self.now in (
      omega (arith, c.loop-i.invariant.0),
      omega (arith, c.loop-i-test.true),
      sym (digits_on reader.text.now c.loop-i.i reader.options c.loop-i.value c.loop-i-test.true c.in-Some.more
          (sym c.is_digit.ensures ∙ c.if-not-is_digit.false) (grew (goal.at.loop-i-preserved c).After-grown ∙ c.in-Some.is))
          ∙ c.loop-i.invariant.2,
    )

pub returns : goal.returns
returns c =
    let a = c.args in
    let reader = a.self.now in
    let text = reader.text.now in
    let e : c.loop-i.i ≡ length text = omega (arith, c.loop-i-test.false, c.loop-i.invariant.1) in
    subst (ReadTo reader (digits_from reader.options a.first (text_from reader a.at)) c.loop-i.value (a.at + 0)) e (record {
      out = sym c.loop-i.invariant.2 ∙ digits-end text c.loop-i.i reader.options c.loop-i.value c.loop-i-test.false;
      onward = omega (arith, c.loop-i.invariant.0);
      within = c.loop-i.invariant.1;
    })
