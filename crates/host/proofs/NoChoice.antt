-- Any two results that a promise of this crate allows are equal, and so is each lent byte afterwards.
-- Stated of the promises as the check reads them: `Reads.Post` of each public function.
-- Assumes nothing.
use mathlib.Core.Path.{◌≡◌, ap}
use contract.Lifetimes.{Lfts}
use denote.Triple.Clauses.{AtExit}
use borrow.Fn.Kinds.{Dens, ended_of, res_t}
use Rattle.answer.proofs.Laws.Part.{left-settled}
use Rattle.tidied.specs.Calls.{Outputs}
use Rattle.host.proofs.simbolufa_check.Kinds as check-kinds
use Rattle.host.proofs.simbolufa_check.Reads as check
use Rattle.host.proofs.simbolufa_measure.Kinds as measure-kinds
use Rattle.host.proofs.simbolufa_measure.Reads as measure
use Rattle.host.proofs.simbolufa_choose.Kinds as choose-kinds
use Rattle.host.proofs.simbolufa_choose.Reads as choose
use Rattle.host.proofs.simbolufa_convert.Kinds as convert-kinds
use Rattle.host.proofs.simbolufa_convert.Reads as convert
use Rattle.host.proofs.simbolufa_convert_after.Kinds as convert-after-kinds
use Rattle.host.proofs.simbolufa_convert_after.Reads as convert-after
use Rattle.host.proofs.simbolufa_origin.Kinds as origin-kinds
use Rattle.host.proofs.simbolufa_origin.Reads as origin
use Rattle.host.proofs.simbolufa_origins.Kinds as origins-kinds
use Rattle.host.proofs.simbolufa_origins.Reads as origins
use Rattle.host.proofs.simbolufa_write_dimacs.Kinds as write-dimacs-kinds
use Rattle.host.proofs.simbolufa_write_dimacs.Reads as write-dimacs
use Rattle.host.proofs.simbolufa_read_dimacs.Kinds as read-dimacs-kinds
use Rattle.host.proofs.simbolufa_read_dimacs.Reads as read-dimacs
use Rattle.host.proofs.simbolufa_read_sat.Kinds as read-sat-kinds
use Rattle.host.proofs.simbolufa_read_sat.Reads as read-sat
use Rattle.host.proofs.simbolufa_tidy.Kinds as tidy-kinds
use Rattle.host.proofs.simbolufa_tidy.Reads as tidy

pub check-settled : (κs : Lfts 2) (a : Dens κs check-kinds.ps) (r q : (res_t check-kinds.r κs).Denot)
    (s t : AtExit (ended_of 2 check-kinds.ps check-kinds.r) κs) → check.Post κs a r s → check.Post κs a q t
    → (r ≡ q) × (s.1.1.0.now ≡ t.1.1.0.now)
check-settled κs a r q s t e f = let same = left-settled e f in (same.0, same.2)

pub measure-settled : (κs : Lfts 3) (a : Dens κs measure-kinds.ps) (r q : (res_t measure-kinds.r κs).Denot)
    (s t : AtExit (ended_of 3 measure-kinds.ps measure-kinds.r) κs) → measure.Post κs a r s → measure.Post κs a q t
    → (r ≡ q) × (s.1.1.1.0.now ≡ t.1.1.1.0.now)
measure-settled κs a r q s t e f = let same = left-settled e f in (same.0, same.2)

pub choose-settled : (κs : Lfts 3) (a : Dens κs choose-kinds.ps) (r q : (res_t choose-kinds.r κs).Denot)
    (s t : AtExit (ended_of 3 choose-kinds.ps choose-kinds.r) κs) → choose.Post κs a r s → choose.Post κs a q t
    → (r ≡ q) × (s.1.1.1.0.now ≡ t.1.1.1.0.now) × (s.1.1.1.1.0.now ≡ t.1.1.1.1.0.now)
choose-settled κs a r q s t e f = left-settled e f

pub convert-settled : (κs : Lfts 4) (a : Dens κs convert-kinds.ps) (r q : (res_t convert-kinds.r κs).Denot)
    (s t : AtExit (ended_of 4 convert-kinds.ps convert-kinds.r) κs) → convert.Post κs a r s → convert.Post κs a q t
    → (r ≡ q) × (s.1.1.1.0.now ≡ t.1.1.1.0.now) × (s.1.1.1.1.0.now ≡ t.1.1.1.1.0.now)
convert-settled κs a r q s t e f = left-settled e f

pub convert-after-settled : (κs : Lfts 4) (a : Dens κs convert-after-kinds.ps) (r q : (res_t convert-after-kinds.r κs).Denot)
    (s t : AtExit (ended_of 4 convert-after-kinds.ps convert-after-kinds.r) κs) → convert-after.Post κs a r s → convert-after.Post κs a q t
    → (r ≡ q) × (s.1.1.1.1.0.now ≡ t.1.1.1.1.0.now) × (s.1.1.1.1.1.0.now ≡ t.1.1.1.1.1.0.now)
convert-after-settled κs a r q s t e f = left-settled e f

pub origin-settled : (κs : Lfts 5) (a : Dens κs origin-kinds.ps) (r q : (res_t origin-kinds.r κs).Denot)
    (s t : AtExit (ended_of 5 origin-kinds.ps origin-kinds.r) κs) → origin.Post κs a r s → origin.Post κs a q t
    → (r ≡ q) × (s.1.1.1.1.1.1.0.now ≡ t.1.1.1.1.1.1.0.now)
    × (s.1.1.1.1.1.1.1.0.now ≡ t.1.1.1.1.1.1.1.0.now)
origin-settled κs a r q s t e f = left-settled e f

pub origins-settled : (κs : Lfts 5) (a : Dens κs origins-kinds.ps) (r q : (res_t origins-kinds.r κs).Denot)
    (s t : AtExit (ended_of 5 origins-kinds.ps origins-kinds.r) κs) → origins.Post κs a r s → origins.Post κs a q t
    → (r ≡ q) × (s.1.1.1.1.1.0.now ≡ t.1.1.1.1.1.0.now)
    × (s.1.1.1.1.1.1.0.now ≡ t.1.1.1.1.1.1.0.now)
origins-settled κs a r q s t e f = left-settled e f

pub write_dimacs_settled : (κs : Lfts 3) (a : Dens κs write-dimacs-kinds.ps) (r q : (res_t write-dimacs-kinds.r κs).Denot)
    (s t : AtExit (ended_of 3 write-dimacs-kinds.ps write-dimacs-kinds.r) κs) → write-dimacs.Post κs a r s → write-dimacs.Post κs a q t
    → (r ≡ q) × (s.1.1.0.now ≡ t.1.1.0.now) × (s.1.1.1.0.now ≡ t.1.1.1.0.now)
write_dimacs_settled κs a r q s t e f = left-settled e.0 f.0

pub read_dimacs_settled : (κs : Lfts 3) (a : Dens κs read-dimacs-kinds.ps) (r q : (res_t read-dimacs-kinds.r κs).Denot)
    (s t : AtExit (ended_of 3 read-dimacs-kinds.ps read-dimacs-kinds.r) κs) → read-dimacs.Post κs a r s → read-dimacs.Post κs a q t
    → (r ≡ q) × (s.1.0.now ≡ t.1.0.now) × (s.1.1.0.now ≡ t.1.1.0.now)
read_dimacs_settled κs a r q s t e f = left-settled e f

pub read-sat-settled : (κs : Lfts 3) (a : Dens κs read-sat-kinds.ps) (r q : (res_t read-sat-kinds.r κs).Denot)
    (s t : AtExit (ended_of 3 read-sat-kinds.ps read-sat-kinds.r) κs) → read-sat.Post κs a r s → read-sat.Post κs a q t
    → (r ≡ q) × (s.1.0.now ≡ t.1.0.now) × (s.1.1.0.now ≡ t.1.1.0.now)
read-sat-settled κs a r q s t e f = left-settled e f

pub tidy-settled : (κs : Lfts 4) (a : Dens κs tidy-kinds.ps) (r q : (res_t tidy-kinds.r κs).Denot)
    (s t : AtExit (ended_of 4 tidy-kinds.ps tidy-kinds.r) κs) → tidy.Post κs a r s → tidy.Post κs a q t
    → (r ≡ q) × (s.1.1.0.now ≡ t.1.1.0.now) × (s.1.1.1.0.now ≡ t.1.1.1.0.now)
    × (s.1.1.1.1.0.now ≡ t.1.1.1.1.0.now)
tidy-settled κs a r q s t e f =
    let both = left-settled e.0 f.0 in
    (both.0, ap (λ (o : Outputs). o.kept) both.1, ap (λ (o : Outputs). o.lines) both.1, both.2)
