-- Any two results that a promise of this crate allows are equal, and so is each lent byte afterwards.
-- Stated of the promises as the check reads them: `Reads.Post` of each public function.
-- Assumes nothing.
use mathlib.Core.Path.{◌≡◌, sym, ◌∙◌}
use contract.Lifetimes.{Lfts}
use denote.Triple.Clauses.{AtExit}
use borrow.Fn.Kinds.{Dens, ended_of, res_t}
use Rattle.bits.proofs.has.Kinds as has-kinds
use Rattle.bits.proofs.has.Reads as has
use Rattle.bits.proofs.put.Kinds as put-kinds
use Rattle.bits.proofs.put.Reads as put

pub has-settled : (κs : Lfts 1) (a : Dens κs has-kinds.ps) (r q : (res_t has-kinds.r κs).Denot)
    (s t : AtExit (ended_of 1 has-kinds.ps has-kinds.r) κs)
    → has.Post κs a r s → has.Post κs a q t → r ≡ q
has-settled κs a r q s t e f = e ∙ sym f

pub put-settled : (κs : Lfts 1) (a : Dens κs put-kinds.ps) (r q : (res_t put-kinds.r κs).Denot)
    (s t : AtExit (ended_of 1 put-kinds.ps put-kinds.r) κs)
    → put.Post κs a r s → put.Post κs a q t → s.0.now ≡ t.0.now
put-settled κs a r q s t e f = e ∙ sym f
