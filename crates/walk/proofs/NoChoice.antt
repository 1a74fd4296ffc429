-- Any two results that a promise of this crate allows are equal, and so is each lent byte afterwards.
-- Stated of the promises as the check reads them: `Reads.Post` of each public function.
-- Assumes nothing.
use mathlib.Core.Path.{◌≡◌, sym, ◌∙◌}
use contract.Lifetimes.{Lfts}
use denote.Triple.Clauses.{AtExit}
use borrow.Fn.Kinds.{Dens, ended_of, res_t}
use Rattle.walk.proofs.clause.write_own.Kinds as write-own-kinds
use Rattle.walk.proofs.clause.write_own.Reads as write-own
use Rattle.walk.proofs.step.lead.Kinds as lead-kinds
use Rattle.walk.proofs.step.lead.Reads as lead
use Rattle.walk.proofs.step.unpack.Kinds as unpack-kinds
use Rattle.walk.proofs.step.unpack.Reads as unpack
use Rattle.walk.proofs.step.pack_way.Kinds as pack-way-kinds
use Rattle.walk.proofs.step.pack_way.Reads as pack-way
use Rattle.walk.proofs.step.unpack_way.Kinds as unpack-way-kinds
use Rattle.walk.proofs.step.unpack_way.Reads as unpack-way
use Rattle.walk.proofs.count.own_count.Kinds as own-count-kinds
use Rattle.walk.proofs.count.own_count.Reads as own-count

pub own-count-settled : (κs : Lfts 1) (a : Dens κs own-count-kinds.ps) (r q : (res_t own-count-kinds.r κs).Denot)
    (s t : AtExit (ended_of 1 own-count-kinds.ps own-count-kinds.r) κs)
    → own-count.Post κs a r s → own-count.Post κs a q t → r ≡ q
own-count-settled κs a r q s t e f = e.0 ∙ sym f.0

pub write-own-settled : (κs : Lfts 4) (a : Dens κs write-own-kinds.ps) (r q : (res_t write-own-kinds.r κs).Denot)
    (s t : AtExit (ended_of 4 write-own-kinds.ps write-own-kinds.r) κs)
    → write-own.Post κs a r s → write-own.Post κs a q t → (r ≡ q) × (s.1.0.now ≡ t.1.0.now)
write-own-settled κs a r q s t e f = (e.place ∙ sym f.place, e.ref ∙ sym f.ref)

pub lead-settled : (κs : Lfts 2) (a : Dens κs lead-kinds.ps) (r q : (res_t lead-kinds.r κs).Denot)
    (s t : AtExit (ended_of 2 lead-kinds.ps lead-kinds.r) κs)
    → lead.Post κs a r s → lead.Post κs a q t → r ≡ q
lead-settled κs a r q s t e f = e.number ∙ sym f.number

pub unpack-settled : (κs : Lfts 0) (a : Dens κs unpack-kinds.ps) (r q : (res_t unpack-kinds.r κs).Denot)
    (s t : AtExit (ended_of 0 unpack-kinds.ps unpack-kinds.r) κs)
    → unpack.Post κs a r s → unpack.Post κs a q t → r ≡ q
unpack-settled κs a r q s t e f = e ∙ sym f

pub pack-way-settled : (κs : Lfts 0) (a : Dens κs pack-way-kinds.ps) (r q : (res_t pack-way-kinds.r κs).Denot)
    (s t : AtExit (ended_of 0 pack-way-kinds.ps pack-way-kinds.r) κs)
    → pack-way.Post κs a r s → pack-way.Post κs a q t → r ≡ q
pack-way-settled κs a r q s t e f = e ∙ sym f

pub unpack-way-settled : (κs : Lfts 0) (a : Dens κs unpack-way-kinds.ps) (r q : (res_t unpack-way-kinds.r κs).Denot)
    (s t : AtExit (ended_of 0 unpack-way-kinds.ps unpack-way-kinds.r) κs)
    → unpack-way.Post κs a r s → unpack-way.Post κs a q t → r ≡ q
unpack-way-settled κs a r q s t e f = e ∙ sym f
