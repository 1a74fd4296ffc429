-- `dimacs::reader::literal` meets its contract: by where its digits end. Assumes nothing.
use mathlib.Core.Path.{◌≡◌, sym, ◌∙◌}
use mathlib.Core.Bool.{false}
use native.Mathlib.Omega.{arith}
use Rattle.body.specs.Inner.Table.{is_dead}
use Rattle.dimacs.proofs.Laws.Tokens.{spelt_wrong}
use Rattle.dimacs.proofs.reader.literal.Goals.{Else-is_dead}
use Rattle.dimacs.proofs.reader.literal.Goals as goal

-- the byte behind it
live : (c : Else-is_dead) → is_dead c.digits-end.result.phase ≡ false
live c = sym c.is_dead.ensures ∙ c.if-is_dead.false

pub returns-then-not-is_white : goal.returns-then-not-is_white
returns-then-not-is_white c =
    spelt_wrong c.args.text.now c.args.start c.first-begun.result c.digits-end.result c.first-begun.ensures
    c.digits-end.ensures (live (goal.at.returns-then-not-is_white c).Else-is_dead) (omega (arith, c.if-i-text.false)) c.dead.result
    (sym c.is_white.ensures ∙ c.if-not-is_white.true) c.dead.ensures
