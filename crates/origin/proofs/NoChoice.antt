-- Any two results that a promise of this crate allows are equal, and so is each lent byte afterwards.
-- Stated of the promises as the check reads them: `Reads.Post` of each public function.
-- Assumes nothing.
use mathlib.Core.Path.{◌≡◌, sym, ◌∙◌, ap}
use mathlib.Core.List.{List}
use Prim.Native.Nat.{ℕ}
use Rattle.answer.specs.Answers.{Wrote}
use contract.Lifetimes.{Lfts}
use denote.Triple.Clauses.{AtExit}
use borrow.Fn.Kinds.{Dens, ended_of, res_t}
use Rattle.origin.proofs.Laws.Only.{stood_only}
use Rattle.origin.proofs.part.find.Kinds as find-kinds
use Rattle.origin.proofs.part.find.Reads as find
use Rattle.origin.proofs.calls.origin.Kinds as origin-kinds
use Rattle.origin.proofs.calls.origin.Reads as origin
use Rattle.origin.proofs.calls.origins.Kinds as origins-kinds
use Rattle.origin.proofs.calls.origins.Reads as origins

both : {x y : Wrote (List ℕ)} → x ≡ y → (x.answer ≡ y.answer) × (x.output ≡ y.output)
both e = (ap (λ (w : Wrote (List ℕ)). w.answer) e, ap (λ (w : Wrote (List ℕ)). w.output) e)

pub origin-settled : (κs : Lfts 4) (a : Dens κs origin-kinds.ps) (r q : (res_t origin-kinds.r κs).Denot)
    (s t : AtExit (ended_of 4 origin-kinds.ps origin-kinds.r) κs)
    → origin.Post κs a r s → origin.Post κs a q t → (r ≡ q) × (s.1.1.1.1.1.1.0.now ≡ t.1.1.1.1.1.1.0.now)
origin-settled κs a r q s t e f = both (e ∙ sym f)

pub origins-settled : (κs : Lfts 4) (a : Dens κs origins-kinds.ps) (r q : (res_t origins-kinds.r κs).Denot)
    (s t : AtExit (ended_of 4 origins-kinds.ps origins-kinds.r) κs)
    → origins.Post κs a r s → origins.Post κs a q t → (r ≡ q) × (s.1.1.1.1.1.0.now ≡ t.1.1.1.1.1.0.now)
origins-settled κs a r q s t e f = both (e ∙ sym f)

pub find-settled : (κs : Lfts 3) (a : Dens κs find-kinds.ps) (r q : (res_t find-kinds.r κs).Denot)
    (s t : AtExit (ended_of 3 find-kinds.ps find-kinds.r) κs)
    → find.Post κs a r s → find.Post κs a q t → r ≡ q
find-settled κs a r q s t e f = stood_only _ _ _ _ r q e f
