-- Any two results that a promise of this crate allows are equal, and so is each lent byte afterwards.
-- Stated of the promises as the check reads them: `Reads.Post` of each public function.
-- Assumes nothing.
use mathlib.Core.Path.{◌≡◌, sym, ◌∙◌}
use contract.Lifetimes.{Lfts}
use denote.Triple.Clauses.{AtExit}
use borrow.Fn.Kinds.{Dens, ended_of, res_t}
use Rattle.body.proofs.state.State.start.Kinds as start-kinds
use Rattle.body.proofs.state.State.start.Reads as start
use Rattle.body.proofs.state.State.is_accepted.Kinds as is-accepted-kinds
use Rattle.body.proofs.state.State.is_accepted.Reads as is-accepted
use Rattle.body.proofs.state.State.is_dead.Kinds as is-dead-kinds
use Rattle.body.proofs.state.State.is_dead.Reads as is-dead
use Rattle.body.proofs.state.State.is_number.Kinds as is-number-kinds
use Rattle.body.proofs.state.State.is_number.Reads as is_number
use Rattle.body.proofs.state.State.dead.Kinds as dead-kinds
use Rattle.body.proofs.state.State.dead.Reads as dead
use Rattle.body.proofs.state.State.pass.Kinds as pass-kinds
use Rattle.body.proofs.state.State.pass.Reads as pass
use Rattle.body.proofs.state.State.close.Kinds as close-kinds
use Rattle.body.proofs.state.State.close.Reads as close
use Rattle.body.proofs.state.State.begin.Kinds as begin-kinds
use Rattle.body.proofs.state.State.begin.Reads as begin
use Rattle.body.proofs.state.State.turn.Kinds as turn-kinds
use Rattle.body.proofs.state.State.turn.Reads as turn
use Rattle.body.proofs.state.State.lead.Kinds as lead-kinds
use Rattle.body.proofs.state.State.lead.Reads as lead
use Rattle.body.proofs.state.State.grow.Kinds as grow-kinds
use Rattle.body.proofs.state.State.grow.Reads as grow

pub start-settled : (κs : Lfts 0) (a : Dens κs start-kinds.ps) (r q : (res_t start-kinds.r κs).Denot)
    (s t : AtExit (ended_of 0 start-kinds.ps start-kinds.r) κs) → start.Post κs a r s
    → start.Post κs a q t
    → r ≡ q
start-settled κs a r q s t e f = e ∙ sym f

pub is-accepted-settled : (κs : Lfts 0) (a : Dens κs is-accepted-kinds.ps) (r q : (res_t is-accepted-kinds.r κs).Denot)
    (s t : AtExit (ended_of 0 is-accepted-kinds.ps is-accepted-kinds.r) κs) → is-accepted.Post κs a r s
    → is-accepted.Post κs a q t
    → r ≡ q
is-accepted-settled κs a r q s t e f = e ∙ sym f

pub is-dead-settled : (κs : Lfts 0) (a : Dens κs is-dead-kinds.ps) (r q : (res_t is-dead-kinds.r κs).Denot)
    (s t : AtExit (ended_of 0 is-dead-kinds.ps is-dead-kinds.r) κs) → is-dead.Post κs a r s
    → is-dead.Post κs a q t
    → r ≡ q
is-dead-settled κs a r q s t e f = e ∙ sym f

pub is-number-settled : (κs : Lfts 0) (a : Dens κs is-number-kinds.ps) (r q : (res_t is-number-kinds.r κs).Denot)
    (s t : AtExit (ended_of 0 is-number-kinds.ps is-number-kinds.r) κs) → is_number.Post κs a r s
    → is_number.Post κs a q t
    → r ≡ q
is-number-settled κs a r q s t e f = e ∙ sym f

pub dead-settled : (κs : Lfts 0) (a : Dens κs dead-kinds.ps) (r q : (res_t dead-kinds.r κs).Denot)
    (s t : AtExit (ended_of 0 dead-kinds.ps dead-kinds.r) κs) → dead.Post κs a r s
    → dead.Post κs a q t
    → r ≡ q
dead-settled κs a r q s t e f = e ∙ sym f

pub pass-settled : (κs : Lfts 0) (a : Dens κs pass-kinds.ps) (r q : (res_t pass-kinds.r κs).Denot)
    (s t : AtExit (ended_of 0 pass-kinds.ps pass-kinds.r) κs) → pass.Post κs a r s
    → pass.Post κs a q t
    → r ≡ q
pass-settled κs a r q s t e f = e ∙ sym f

pub close-settled : (κs : Lfts 0) (a : Dens κs close-kinds.ps) (r q : (res_t close-kinds.r κs).Denot)
    (s t : AtExit (ended_of 0 close-kinds.ps close-kinds.r) κs) → close.Post κs a r s
    → close.Post κs a q t
    → r ≡ q
close-settled κs a r q s t e f = e ∙ sym f

pub begin-settled : (κs : Lfts 0) (a : Dens κs begin-kinds.ps) (r q : (res_t begin-kinds.r κs).Denot)
    (s t : AtExit (ended_of 0 begin-kinds.ps begin-kinds.r) κs) → begin.Post κs a r s
    → begin.Post κs a q t
    → r ≡ q
begin-settled κs a r q s t e f = e ∙ sym f

pub turn-settled : (κs : Lfts 0) (a : Dens κs turn-kinds.ps) (r q : (res_t turn-kinds.r κs).Denot)
    (s t : AtExit (ended_of 0 turn-kinds.ps turn-kinds.r) κs) → turn.Post κs a r s
    → turn.Post κs a q t
    → r ≡ q
turn-settled κs a r q s t e f = e ∙ sym f

pub lead-settled : (κs : Lfts 0) (a : Dens κs lead-kinds.ps) (r q : (res_t lead-kinds.r κs).Denot)
    (s t : AtExit (ended_of 0 lead-kinds.ps lead-kinds.r) κs) → lead.Post κs a r s
    → lead.Post κs a q t
    → r ≡ q
lead-settled κs a r q s t e f = e ∙ sym f

pub grow-settled : (κs : Lfts 0) (a : Dens κs grow-kinds.ps) (r q : (res_t grow-kinds.r κs).Denot)
    (s t : AtExit (ended_of 0 grow-kinds.ps grow-kinds.r) κs) → grow.Post κs a r s
    → grow.Post κs a q t
    → r ≡ q
grow-settled κs a r q s t e f = e ∙ sym f
