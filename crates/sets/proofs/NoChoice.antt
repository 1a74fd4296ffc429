-- Any two results that a promise of this crate allows are equal, and so is each lent byte afterwards.
-- Stated of the promises as the check reads them: `Reads.Post` of each public function.
-- Assumes nothing.
use mathlib.Core.Path.{◌≡◌, sym, ◌∙◌}
use contract.Lifetimes.{Lfts}
use denote.Triple.Clauses.{AtExit}
use borrow.Fn.Kinds.{Dens, ended_of, res_t}
use Rattle.sets.proofs.Laws.Empty.{same_row}
use Rattle.sets.proofs.code.code.Kinds as code-kinds
use Rattle.sets.proofs.code.code.Reads as code
use Rattle.sets.proofs.row.Row.new.Kinds as new-kinds
use Rattle.sets.proofs.row.Row.new.Reads as new
use Rattle.sets.proofs.row.mark.Kinds as mark-kinds
use Rattle.sets.proofs.row.mark.Reads as mark
use Rattle.sets.proofs.row.wipe.Kinds as wipe-kinds
use Rattle.sets.proofs.row.wipe.Reads as wipe
use Rattle.sets.proofs.row.some_is.Kinds as some-is-kinds
use Rattle.sets.proofs.row.some_is.Reads as some_is
use Rattle.sets.proofs.set.end_of.Kinds as end-of-kinds
use Rattle.sets.proofs.set.end_of.Reads as end_of_lem
use Rattle.sets.proofs.set.is_same.Kinds as is-same-kinds
use Rattle.sets.proofs.set.is_same.Reads as is_same
use Rattle.sets.proofs.set.is_tautology.Kinds as is-tautology-kinds
use Rattle.sets.proofs.set.is_tautology.Reads as is-tautology
use Rattle.sets.proofs.set.sign.Kinds as sign-kinds
use Rattle.sets.proofs.set.sign.Reads as sign

pub code-settled : (κs : Lfts 0) (a : Dens κs code-kinds.ps) (r q : (res_t code-kinds.r κs).Denot)
    (s t : AtExit (ended_of 0 code-kinds.ps code-kinds.r) κs)
    → code.Post κs a r s → code.Post κs a q t → r ≡ q
code-settled κs a r q s t e f = e ∙ sym f

pub mark-settled : (κs : Lfts 2) (a : Dens κs mark-kinds.ps) (r q : (res_t mark-kinds.r κs).Denot)
    (s t : AtExit (ended_of 2 mark-kinds.ps mark-kinds.r) κs)
    → mark.Post κs a r s → mark.Post κs a q t → (r ≡ q) × (s.1.1.1.0.now ≡ t.1.1.1.0.now)
mark-settled κs a r q s t e f = (e.0 ∙ sym f.0, e.1 ∙ sym f.1)

pub wipe-settled : (κs : Lfts 2) (a : Dens κs wipe-kinds.ps) (r q : (res_t wipe-kinds.r κs).Denot)
    (s t : AtExit (ended_of 2 wipe-kinds.ps wipe-kinds.r) κs)
    → wipe.Post κs a r s → wipe.Post κs a q t → s.1.1.0.now ≡ t.1.1.0.now
wipe-settled κs a r q s t e f = e ∙ sym f

pub some-is-settled : (κs : Lfts 2) (a : Dens κs some-is-kinds.ps) (r q : (res_t some-is-kinds.r κs).Denot)
    (s t : AtExit (ended_of 2 some-is-kinds.ps some-is-kinds.r) κs)
    → some_is.Post κs a r s → some_is.Post κs a q t → r ≡ q
some-is-settled κs a r q s t e f = e ∙ sym f

pub end_of_settled : (κs : Lfts 1) (a : Dens κs end-of-kinds.ps) (r q : (res_t end-of-kinds.r κs).Denot)
    (s t : AtExit (ended_of 1 end-of-kinds.ps end-of-kinds.r) κs)
    → end_of_lem.Post κs a r s → end_of_lem.Post κs a q t → r ≡ q
end_of_settled κs a r q s t e f = e ∙ sym f

pub is-same-settled : (κs : Lfts 2) (a : Dens κs is-same-kinds.ps) (r q : (res_t is-same-kinds.r κs).Denot)
    (s t : AtExit (ended_of 2 is-same-kinds.ps is-same-kinds.r) κs)
    → is_same.Post κs a r s → is_same.Post κs a q t → (r ≡ q) × (s.1.1.1.0.now ≡ t.1.1.1.0.now)
is-same-settled κs a r q s t e f = (e ∙ sym f, same_row s.1.1.1.0.now t.1.1.1.0.now)

pub is-tautology-settled : (κs : Lfts 2) (a : Dens κs is-tautology-kinds.ps) (r q : (res_t is-tautology-kinds.r κs).Denot)
    (s t : AtExit (ended_of 2 is-tautology-kinds.ps is-tautology-kinds.r) κs)
    → is-tautology.Post κs a r s → is-tautology.Post κs a q t → (r ≡ q) × (s.1.1.0.now ≡ t.1.1.0.now)
is-tautology-settled κs a r q s t e f = (e ∙ sym f, same_row s.1.1.0.now t.1.1.0.now)

pub sign-settled : (κs : Lfts 2) (a : Dens κs sign-kinds.ps) (r q : (res_t sign-kinds.r κs).Denot)
    (s t : AtExit (ended_of 2 sign-kinds.ps sign-kinds.r) κs)
    → sign.Post κs a r s → sign.Post κs a q t → (r ≡ q) × (s.1.1.1.0.now ≡ t.1.1.1.0.now)
sign-settled κs a r q s t e f = (e ∙ sym f, same_row s.1.1.1.0.now t.1.1.1.0.now)

pub new-settled : (κs : Lfts 0) (a : Dens κs new-kinds.ps) (r q : (res_t new-kinds.r κs).Denot)
    (s t : AtExit (ended_of 0 new-kinds.ps new-kinds.r) κs)
    → new.Post κs a r s → new.Post κs a q t → r ≡ q
new-settled κs a r q s t e f = same_row r q
