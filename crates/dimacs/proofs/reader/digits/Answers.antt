-- `dimacs::reader::digits` meets its contract: each further digit leads on, up to a byte that is none, or to the end of the reading.
-- Assumes nothing.
use mathlib.Core.Path.{◌≡◌, sym, ◌∙◌}
use mathlib.Core.Bool.{true, false, false≢true}
use mathlib.Core.Logic.{inl}
use Rattle.classes.specs.Inner.Classes.{class_of, is_digit}
use Rattle.body.specs.Inner.Table.{is_dead}
use Rattle.dimacs.specs.Inner.Walks.{next_in, Leads}
use Rattle.dimacs.proofs.Laws.Leads.{leads_on}
use Rattle.dimacs.proofs.Laws.Tokens.{digit-leads, digit-number}
use Rattle.dimacs.proofs.reader.digits.Goals.{After-grow-state, Else-is_dead, Else-not-is_digit}
use Rattle.dimacs.proofs.reader.digits.Goals as goal

-- a digit
is : (c : Else-not-is_digit) → is_digit (class_of (next_in c.args.text.now c.loop-state.state)) ≡ true
is c = sym c.is_digit.ensures ∙ c.if-not-is_digit.false

grown : (c : After-grow-state) → Leads c.args.text.now c.args.start c.grow-state.result
grown c =
    leads_on c.loop-state.invariant.0
    (digit-leads c.args.text.now c.loop-state.state c.grow-state.result c.loop-state-test.true
    c.loop-state.invariant.1 (is (goal.at.After-grow-state c).Else-not-is_digit) c.grow-state.ensures)

pub returns-then-is_dead : goal.returns-then-is_dead
returns-then-is_dead c =
    let e = sym c.is_dead.ensures ∙ c.if-is_dead.true in
    record { leads = grown (goal.at.returns-then-is_dead c).After-grow-state; next = inl e; stops = λ f _. absurd (false≢true (sym f ∙ e)) }

live : (c : Else-is_dead) → is_dead c.grow-state.result.phase ≡ false
live c = sym c.is_dead.ensures ∙ c.if-is_dead.false

pub loop-state-preserved : goal.loop-state-preserved
loop-state-preserved c = (
  grown (goal.at.loop-state-preserved c).After-grow-state,
  digit-number c.args.text.now c.loop-state.state c.grow-state.result c.loop-state-test.true
      c.loop-state.invariant.1 (is (goal.at.loop-state-preserved c).Else-not-is_digit) c.grow-state.ensures (live c),
)
