-- Any two results that a promise of this crate allows are equal, and so is each lent byte afterwards.
-- Stated of the promises as the check reads them: `Reads.Post` of each public function.
-- Assumes nothing.
use mathlib.Core.Path.{◌≡◌, sym, ◌∙◌}
use contract.Lifetimes.{Lfts}
use denote.Triple.Clauses.{AtExit}
use borrow.Fn.Kinds.{Dens, ended_of, res_t}
use Rattle.answer.proofs.tell.Kinds as tell-kinds
use Rattle.answer.proofs.tell.Reads as tell
use Rattle.answer.proofs.Fault.number.Kinds as number-kinds
use Rattle.answer.proofs.Fault.number.Reads as number
use Rattle.answer.proofs.shown.Kinds as shown-kinds
use Rattle.answer.proofs.shown.Reads as shown
use Rattle.answer.proofs.put.Kinds as put-kinds
use Rattle.answer.proofs.put.Reads as put
use Rattle.answer.proofs.is_part_wrong.Kinds as is-part-wrong-kinds
use Rattle.answer.proofs.is_part_wrong.Reads as is-part-wrong
use Rattle.answer.proofs.give.Kinds as give-kinds
use Rattle.answer.proofs.give.Reads as give

pub tell-settled : (κs : Lfts 0) (a : Dens κs tell-kinds.ps) (r q : (res_t tell-kinds.r κs).Denot)
    (s t : AtExit (ended_of 0 tell-kinds.ps tell-kinds.r) κs)
    → tell.Post κs a r s → tell.Post κs a q t → r ≡ q
tell-settled κs a r q s t e f = e ∙ sym f

pub number-settled : (κs : Lfts 0) (a : Dens κs number-kinds.ps) (r q : (res_t number-kinds.r κs).Denot)
    (s t : AtExit (ended_of 0 number-kinds.ps number-kinds.r) κs)
    → number.Post κs a r s → number.Post κs a q t → r ≡ q
number-settled κs a r q s t e f = e ∙ sym f

pub shown-settled : (κs : Lfts 0) (a : Dens κs shown-kinds.ps) (r q : (res_t shown-kinds.r κs).Denot)
    (s t : AtExit (ended_of 0 shown-kinds.ps shown-kinds.r) κs)
    → shown.Post κs a r s → shown.Post κs a q t → r ≡ q
shown-settled κs a r q s t e f = e ∙ sym f

pub put-settled : (κs : Lfts 1) (a : Dens κs put-kinds.ps) (r q : (res_t put-kinds.r κs).Denot)
    (s t : AtExit (ended_of 1 put-kinds.ps put-kinds.r) κs)
    → put.Post κs a r s → put.Post κs a q t → s.0.now ≡ t.0.now
put-settled κs a r q s t e f = e ∙ sym f

pub is-part-wrong-settled : (κs : Lfts 1) (a : Dens κs is-part-wrong-kinds.ps) (r q : (res_t is-part-wrong-kinds.r κs).Denot)
    (s t : AtExit (ended_of 1 is-part-wrong-kinds.ps is-part-wrong-kinds.r) κs)
    → is-part-wrong.Post κs a r s → is-part-wrong.Post κs a q t → r ≡ q
is-part-wrong-settled κs a r q s t e f = e ∙ sym f

pub give-settled : (κs : Lfts 1) (a : Dens κs give-kinds.ps) (r q : (res_t give-kinds.r κs).Denot)
    (s t : AtExit (ended_of 1 give-kinds.ps give-kinds.r) κs)
    → give.Post κs a r s → give.Post κs a q t → (r ≡ q) × (s.1.0.now ≡ t.1.0.now)
give-settled κs a r q s t e f = (e.number ∙ sym f.number, e.bytes ∙ sym f.bytes)
