-- Any two results that a promise of this crate allows are equal, and so is each lent byte afterwards.
-- Stated of the promises as the check reads them: `Reads.Post` of each public function.
-- Assumes nothing.
use mathlib.Core.Path.{◌≡◌, sym, ◌∙◌}
use contract.Lifetimes.{Lfts}
use denote.Triple.Clauses.{AtExit}
use borrow.Fn.Kinds.{Dens, ended_of, res_t}
use Rattle.marks.proofs.mark.halves_of.Kinds as halves-of-kinds
use Rattle.marks.proofs.mark.halves_of.Reads as halves_of
use Rattle.marks.proofs.mark.read.Kinds as read-kinds
use Rattle.marks.proofs.mark.read.Reads as read
use Rattle.marks.proofs.mark.mark_all.Kinds as mark-all-kinds
use Rattle.marks.proofs.mark.mark_all.Reads as mark-all
use Rattle.marks.proofs.set.is_renamed.Kinds as is-renamed-kinds
use Rattle.marks.proofs.set.is_renamed.Reads as is-renamed
use Rattle.marks.proofs.set.may_rename.Kinds as may-rename-kinds
use Rattle.marks.proofs.set.may_rename.Reads as may-rename
use Rattle.marks.proofs.set.check.Kinds as set-check-kinds
use Rattle.marks.proofs.set.check.Reads as set-check

pub halves_of_settled : (κs : Lfts 0) (a : Dens κs halves-of-kinds.ps) (r q : (res_t halves-of-kinds.r κs).Denot)
    (s t : AtExit (ended_of 0 halves-of-kinds.ps halves-of-kinds.r) κs)
    → halves_of.Post κs a r s → halves_of.Post κs a q t → r ≡ q
halves_of_settled κs a r q s t e f = e ∙ sym f

pub read-settled : (κs : Lfts 1) (a : Dens κs read-kinds.ps) (r q : (res_t read-kinds.r κs).Denot)
    (s t : AtExit (ended_of 1 read-kinds.ps read-kinds.r) κs)
    → read.Post κs a r s → read.Post κs a q t → r ≡ q
read-settled κs a r q s t e f = e ∙ sym f

pub mark-all-settled : (κs : Lfts 2) (a : Dens κs mark-all-kinds.ps) (r q : (res_t mark-all-kinds.r κs).Denot)
    (s t : AtExit (ended_of 2 mark-all-kinds.ps mark-all-kinds.r) κs)
    → mark-all.Post κs a r s → mark-all.Post κs a q t → s.1.0.now ≡ t.1.0.now
mark-all-settled κs a r q s t e f = e ∙ sym f

pub is-renamed-settled : (κs : Lfts 1) (a : Dens κs is-renamed-kinds.ps) (r q : (res_t is-renamed-kinds.r κs).Denot)
    (s t : AtExit (ended_of 1 is-renamed-kinds.ps is-renamed-kinds.r) κs)
    → is-renamed.Post κs a r s → is-renamed.Post κs a q t → r ≡ q
is-renamed-settled κs a r q s t e f = e ∙ sym f

pub may_rename_settled : (κs : Lfts 2) (a : Dens κs may-rename-kinds.ps) (r q : (res_t may-rename-kinds.r κs).Denot)
    (s t : AtExit (ended_of 2 may-rename-kinds.ps may-rename-kinds.r) κs)
    → may-rename.Post κs a r s → may-rename.Post κs a q t → r ≡ q
may_rename_settled κs a r q s t e f = e ∙ sym f

pub set-check-settled : (κs : Lfts 3) (a : Dens κs set-check-kinds.ps) (r q : (res_t set-check-kinds.r κs).Denot)
    (s t : AtExit (ended_of 3 set-check-kinds.ps set-check-kinds.r) κs)
    → set-check.Post κs a r s → set-check.Post κs a q t → r ≡ q
set-check-settled κs a r q s t e f = e ∙ sym f
