-- `dimacs::reader::zero` meets its contract: a zero, and then white space, the end of the text, or another byte. Assumes nothing.
use mathlib.Core.Path.{◌≡◌, sym, ◌∙◌}
use mathlib.Core.Bool.{false}
use native.Mathlib.Omega.{arith}
use Rattle.body.specs.Inner.Table.{is_dead}
use Rattle.dimacs.proofs.Laws.Tokens.{zero-wrong, zero-apart}
use Rattle.dimacs.proofs.reader.zero.Goals.{Else-is_dead}
use Rattle.dimacs.proofs.reader.zero.Goals as goal

-- a clause is closed
live : (c : Else-is_dead) → is_dead c.close-closed.result.phase ≡ false
live c = sym c.is_dead.ensures ∙ c.if-is_dead.false

pub returns-then-not-is_white : goal.returns-then-not-is_white
returns-then-not-is_white c =
    zero-wrong c.args.text.now c.args.start c.close-closed.result c.requires.place c.requires.phase c.requires.zero
    c.close-closed.ensures (live (goal.at.returns-then-not-is_white c).Else-is_dead) c.dead.result (omega (arith, c.if-i-text.false))
    (sym c.is_white.ensures ∙ c.if-not-is_white.true) c.dead.ensures

pub returns : goal.returns
returns c =
    zero-apart c.args.text.now c.args.start c.close-closed.result c.requires.place c.requires.phase c.requires.zero
    c.close-closed.ensures (live (goal.at.returns c).Else-is_dead) c.pass.result (omega (arith, c.if-i-text.false))
    (sym c.is_white.ensures ∙ c.if-not-is_white.false) c.pass.ensures
