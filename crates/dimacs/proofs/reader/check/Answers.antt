-- `dimacs::reader::check` meets its contract: white space, zeros and literals lead on from each other. Assumes nothing.
use mathlib.Core.Path.{◌≡◌, sym, ap, ◌∙◌}
use mathlib.Core.Bool.{false}
use mathlib.Core.List.{List}
use mathlib.Core.Logic.{inr}
use Prim.Native.Nat.{ℕ, ◌<◌}
use native.Mathlib.Omega.{arith}
use lib.ListN.{length}
use Rattle.body.specs.Inner.Table.{is_dead}
use Rattle.body.specs.declared.state.State.{State}
use Rattle.dimacs.specs.Inner.Walks.{dead}
use Rattle.dimacs.proofs.Laws.Leads.{leads_on, leads-over}
use Rattle.dimacs.proofs.Laws.Tokens.{end-white}
use Rattle.dimacs.proofs.Laws.Walks.{way-more, behind}
use Rattle.dimacs.proofs.reader.check.Goals.{After-is_white, At-loop-state, Else-is_dead}
use Rattle.dimacs.proofs.reader.check.Goals as goal

abbrev text : At-loop-state → List ℕ
text c = c.args.text.now

inside : (c : After-is_white) → c.loop-state.state.place < length (text (goal.at.After-is_white c).At-loop-state)
inside c = c.loop-state-test.true

pub returns-then-is_dead : goal.returns-then-is_dead
returns-then-is_dead c =
    leads-over (leads_on c.loop-state.invariant.leads c.zero-state.ensures.leads)
    (dead (sym c.is_dead.ensures ∙ c.if-is_dead.true))

live : (c : Else-is_dead) → is_dead c.zero-state.result.phase ≡ false
live c = sym c.is_dead.ensures ∙ c.if-is_dead.false

pub returns-then-is_dead-2 : goal.returns-then-is_dead-2
returns-then-is_dead-2 c =
    leads-over (leads_on c.loop-state.invariant.leads c.literal-end.ensures.leads)
    (dead (sym c.is_dead-else-is_of.ensures ∙ c.if-is_dead-2.true))

pub loop-state-preserved : goal.loop-state-preserved
loop-state-preserved c =
    let e = c.literal-end.result in
    let h : e.place < length (text (goal.at.loop-state-preserved c).At-loop-state) = omega (arith, c.if-end-text.false) in
    let w = behind (text (goal.at.loop-state-preserved c).At-loop-state) e (sym c.is_dead-else-is_of.ensures ∙ c.if-is_dead-2.false) h c.literal-end.ensures.next in
    way-more c.loop-state.invariant
    (leads_on c.literal-end.ensures.leads (end-white (text (goal.at.loop-state-preserved c).At-loop-state) e c.pass-state-else-is_of.result h w.0 w.1 c.pass-state-else-is_of.ensures))
    (inr (ap (λ (x : State). x.phase) c.pass-state-else-is_of.ensures))
