-- Any two results that a promise of this crate allows are equal, and so is each lent byte afterwards.
-- Stated of the promises as the check reads them: `Reads.Post` of each public function.
-- Assumes nothing.
use mathlib.Core.Path.{◌≡◌, sym, ◌∙◌}
use contract.Lifetimes.{Lfts}
use denote.Triple.Clauses.{AtExit}
use borrow.Fn.Kinds.{Dens, ended_of, res_t}
use Rattle.header.proofs.Head.start.Kinds as head-start-kinds
use Rattle.header.proofs.Head.start.Reads as head-start
use Rattle.header.proofs.Head.is_done.Kinds as head-is-done-kinds
use Rattle.header.proofs.Head.is_done.Reads as head-is-done
use Rattle.header.proofs.Head.step.Kinds as head-step-kinds
use Rattle.header.proofs.Head.step.Reads as head_step
use Rattle.header.proofs.read.Kinds as read-kinds
use Rattle.header.proofs.read.Reads as read

pub head_start_settled : (κs : Lfts 0) (a : Dens κs head-start-kinds.ps) (r q : (res_t head-start-kinds.r κs).Denot)
    (s t : AtExit (ended_of 0 head-start-kinds.ps head-start-kinds.r) κs) → head-start.Post κs a r s
    → head-start.Post κs a q t
    → r ≡ q
head_start_settled κs a r q s t e f = e ∙ sym f

pub head_is_done_settled : (κs : Lfts 0) (a : Dens κs head-is-done-kinds.ps) (r q : (res_t head-is-done-kinds.r κs).Denot)
    (s t : AtExit (ended_of 0 head-is-done-kinds.ps head-is-done-kinds.r) κs) → head-is-done.Post κs a r s
    → head-is-done.Post κs a q t
    → r ≡ q
head_is_done_settled κs a r q s t e f = e ∙ sym f

pub head_step_settled : (κs : Lfts 1) (a : Dens κs head-step-kinds.ps) (r q : (res_t head-step-kinds.r κs).Denot)
    (s t : AtExit (ended_of 1 head-step-kinds.ps head-step-kinds.r) κs) → head_step.Post κs a r s
    → head_step.Post κs a q t
    → r ≡ q
head_step_settled κs a r q s t e f = e ∙ sym f

pub read-settled : (κs : Lfts 2) (a : Dens κs read-kinds.ps) (r q : (res_t read-kinds.r κs).Denot)
    (s t : AtExit (ended_of 2 read-kinds.ps read-kinds.r) κs) → read.Post κs a r s → read.Post κs a q t
    → r ≡ q
read-settled κs a r q s t e f = e ∙ sym f
