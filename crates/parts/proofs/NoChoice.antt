-- Any two results that a promise of this crate allows are equal, and so is each lent byte afterwards.
-- Stated of the promises as the check reads them: `Reads.Post` of each public function.
-- Assumes nothing.
use mathlib.Core.Path.{◌≡◌, sym, ◌∙◌}
use contract.Lifetimes.{Lfts}
use denote.Triple.Clauses.{AtExit}
use borrow.Fn.Kinds.{Dens, ended_of, res_t}
use Rattle.parts.proofs.helper.name_all.Kinds as name-all-kinds
use Rattle.parts.proofs.helper.name_all.Reads as name-all
use Rattle.parts.proofs.part.write_all.Kinds as write-all-kinds
use Rattle.parts.proofs.part.write_all.Reads as write-all

pub name-all-settled : (κs : Lfts 2) (a : Dens κs name-all-kinds.ps) (r q : (res_t name-all-kinds.r κs).Denot)
    (s t : AtExit (ended_of 2 name-all-kinds.ps name-all-kinds.r) κs)
    → name-all.Post κs a r s → name-all.Post κs a q t → (r ≡ q) × (s.1.1.0.now ≡ t.1.1.0.now)
name-all-settled κs a r q s t e f = (e.0 ∙ sym f.0, e.1 ∙ sym f.1)

pub write-all-settled : (κs : Lfts 4) (a : Dens κs write-all-kinds.ps) (r q : (res_t write-all-kinds.r κs).Denot)
    (s t : AtExit (ended_of 4 write-all-kinds.ps write-all-kinds.r) κs)
    → write-all.Post κs a r s → write-all.Post κs a q t → r ≡ q
write-all-settled κs a r q s t e f = e ∙ sym f
