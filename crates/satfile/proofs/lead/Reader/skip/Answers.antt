-- `satfile::lead::Reader::skip` meets its contract: white space is passed byte by byte. The invariant: what is left has the same text
-- behind its white space. Assumes nothing.
use mathlib.Core.Path.{◌≡◌, sym, ◌∙◌, subst}
use lib.ListN.{length}
use Rattle.satfile.specs.Inner.Parts.{Skipped}
use native.Mathlib.Omega.{arith}
use Rattle.satfile.proofs.Laws.Rests.{skipped-end, skipped_stop, skipped_on}
use Rattle.satfile.proofs.lead.Reader.skip.Goals as goal

pub returns-then-not-is_space : goal.returns-then-not-is_space
returns-then-not-is_space c =
    record {
      rest =
          sym (skipped_stop c.args.self.now.text.now c.loop-i.i c.loop-i-test.true
          (sym c.is_space.ensures ∙ c.if-not-is_space.true))
          ∙ c.loop-i.invariant.2;
      onward = c.loop-i.invariant.0;
      within = c.loop-i.invariant.1;
    }

pub loop-i-preserved : goal.loop-i-preserved
loop-i-preserved c = (
  omega (arith, c.loop-i.invariant.0),
  omega (arith, c.loop-i-test.true),
  sym (skipped_on c.args.self.now.text.now c.loop-i.i c.loop-i-test.true
      (sym c.is_space.ensures ∙ c.if-not-is_space.false))
      ∙ c.loop-i.invariant.2,
)

pub returns : goal.returns
returns c =
    let reader = c.args.self.now in
    let text = reader.text.now in
    let e : c.loop-i.i ≡ length text = omega (arith, c.loop-i-test.false, c.loop-i.invariant.1) in
    subst (Skipped reader c.args.at) e (record {
      rest = sym (skipped-end text c.loop-i.i c.loop-i-test.false) ∙ c.loop-i.invariant.2;
      onward = c.loop-i.invariant.0;
      within = c.loop-i.invariant.1;
    })
