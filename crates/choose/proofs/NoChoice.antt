-- Any two results that a promise of this crate allows are equal, and so is each lent byte afterwards.
-- Stated of the promises as the check reads them: `Reads.Post` of each public function.
-- Assumes nothing.
use mathlib.Core.Path.{◌≡◌, sym, ◌∙◌, ap}
use mathlib.Core.List.{List}
use Prim.Native.Nat.{ℕ}
use Rattle.answer.specs.Answers.{Wrote}
use contract.Lifetimes.{Lfts}
use denote.Triple.Clauses.{AtExit}
use borrow.Fn.Kinds.{Dens, ended_of, res_t}
use Rattle.choose.proofs.bytes.clear.Kinds as clear-kinds
use Rattle.choose.proofs.bytes.clear.Reads as clear
use Rattle.choose.proofs.bytes.put_all.Kinds as put-all-kinds
use Rattle.choose.proofs.bytes.put_all.Reads as put_all_lem
use Rattle.choose.proofs.bytes.count_all.Kinds as count-all-kinds
use Rattle.choose.proofs.bytes.count_all.Reads as count-all
use Rattle.choose.proofs.pass.choose.Kinds as choose-kinds
use Rattle.choose.proofs.pass.choose.Reads as choose

pub choose-settled : (κs : Lfts 2) (a : Dens κs choose-kinds.ps) (r q : (res_t choose-kinds.r κs).Denot)
    (s t : AtExit (ended_of 2 choose-kinds.ps choose-kinds.r) κs)
    → choose.Post κs a r s → choose.Post κs a q t → (r ≡ q) × (s.1.1.1.0.now ≡ t.1.1.1.0.now)
choose-settled κs a r q s t e f = let same = e ∙ sym f in
    (ap (λ (w : Wrote (List ℕ)). w.answer) same, ap (λ (w : Wrote (List ℕ)). w.output) same)

pub clear-settled : (κs : Lfts 1) (a : Dens κs clear-kinds.ps) (r q : (res_t clear-kinds.r κs).Denot)
    (s t : AtExit (ended_of 1 clear-kinds.ps clear-kinds.r) κs)
    → clear.Post κs a r s → clear.Post κs a q t → s.0.now ≡ t.0.now
clear-settled κs a r q s t e f = e ∙ sym f

pub put-all-settled : (κs : Lfts 3) (a : Dens κs put-all-kinds.ps) (r q : (res_t put-all-kinds.r κs).Denot)
    (s t : AtExit (ended_of 3 put-all-kinds.ps put-all-kinds.r) κs)
    → put_all_lem.Post κs a r s → put_all_lem.Post κs a q t → s.1.1.0.now ≡ t.1.1.0.now
put-all-settled κs a r q s t e f = e ∙ sym f

pub count-all-settled : (κs : Lfts 2) (a : Dens κs count-all-kinds.ps) (r q : (res_t count-all-kinds.r κs).Denot)
    (s t : AtExit (ended_of 2 count-all-kinds.ps count-all-kinds.r) κs)
    → count-all.Post κs a r s → count-all.Post κs a q t → r ≡ q
count-all-settled κs a r q s t e f = e ∙ sym f
