-- `dimacs::reader::first` meets its contract: a digit, a `-` and what comes behind it, or another byte. Assumes nothing.
use mathlib.Core.Path.{◌≡◌, sym, ◌∙◌}
use mathlib.Core.Bool.{true, false}
use Prim.Native.Nat.{ℕ}
use native.Mathlib.Omega.{arith}
use lib.Dec.{eqb}
use Rattle.classes.specs.Inner.Classes.{class_of, code}
use Rattle.body.specs.Inner.Table.{is_dead}
use Rattle.dimacs.specs.Inner.Walks.{next_in, dead, end}
use Rattle.dimacs.proofs.Laws.Tokens.{literal-plain, minus-over, minus-wrong, minus-digit}
use Rattle.dimacs.proofs.reader.first.Goals.{After-turn-sign, Else-is_dead, Else-is_of, Else-not-is_of-2, Start, Then-is_of}
use Rattle.dimacs.proofs.reader.first.Goals as goal

abbrev Code : Start → ℕ
Code s = code (class_of (next_in s.args.text.now s.args.start))

is_digit : (c : Then-is_of) → eqb (Code (goal.at.Then-is_of c).Start) 10 ≡ true
is_digit c = sym c.is_of.ensures ∙ c.if-is_of.true

no_digit : (c : Else-is_of) → eqb (Code (goal.at.Else-is_of c).Start) 10 ≡ false
no_digit c = sym c.is_of.ensures ∙ c.if-is_of.false

pub returns-then-is_of : goal.returns-then-is_of
returns-then-is_of c =
    literal-plain c.args.text.now c.args.start c.begin.result c.requires.place c.requires.phase (is_digit (goal.at.returns-then-is_of c).Then-is_of)
    c.begin.ensures

is-minus : (c : After-turn-sign) → eqb (Code (goal.at.After-turn-sign c).Start) 3 ≡ true
is-minus c =
    sym c.is_of-2.ensures ∙ c.if-not-is_of.false

pub returns-then-is_dead : goal.returns-then-is_dead
returns-then-is_dead c =
    minus-over c.args.text.now c.args.start c.turn-sign.result c.requires.place c.requires.phase (is-minus (goal.at.returns-then-is_dead c).After-turn-sign)
    c.turn-sign.ensures (dead (sym c.is_dead.ensures ∙ c.if-is_dead.true))

pub returns-then-i-text : goal.returns-then-i-text
returns-then-i-text c =
    minus-over c.args.text.now c.args.start c.turn-sign.result c.requires.place c.requires.phase (is-minus (goal.at.returns-then-i-text c).After-turn-sign)
    c.turn-sign.ensures (end c.if-i-text.true)

live : (c : Else-is_dead) → is_dead c.turn-sign.result.phase ≡ false
live c = sym c.is_dead.ensures ∙ c.if-is_dead.false

pub returns-then-not-is_of-2 : goal.returns-then-not-is_of-2
returns-then-not-is_of-2 c =
    minus-wrong c.args.text.now c.args.start c.turn-sign.result c.requires.place c.requires.phase (is-minus (goal.at.returns-then-not-is_of-2 c).After-turn-sign)
    c.turn-sign.ensures (live (goal.at.returns-then-not-is_of-2 c).Else-is_dead) c.dead-then-not-is_of-2.result (omega (arith, c.if-i-text.false))
    (sym c.is_of-3.ensures ∙ c.if-not-is_of-2.true) c.dead-then-not-is_of-2.ensures

is-lead : (c : Else-not-is_of-2) → eqb (code (class_of (next_in c.args.text.now c.turn-sign.result))) 10 ≡ true
is-lead c = sym c.is_of-3.ensures ∙ c.if-not-is_of-2.false

pub returns : goal.returns
returns c =
    minus-digit c.args.text.now c.args.start c.turn-sign.result c.requires.place c.requires.phase (is-minus (goal.at.returns c).After-turn-sign)
    c.turn-sign.ensures (live (goal.at.returns c).Else-is_dead) c.lead.result (omega (arith, c.if-i-text.false)) (is-lead (goal.at.returns c).Else-not-is_of-2) c.lead.ensures
