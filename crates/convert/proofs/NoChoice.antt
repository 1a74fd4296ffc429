-- Any two results that a promise of this crate allows are equal, and so is each lent byte afterwards.
-- Stated of the promises as the check reads them: `Reads.Post` of each public function.
-- Assumes nothing.
use mathlib.Core.Path.{◌≡◌, sym, ◌∙◌, ap}
use mathlib.Core.List.{List}
use Prim.Native.Nat.{ℕ}
use Rattle.answer.specs.Answers.{Wrote}
use contract.Lifetimes.{Lfts}
use denote.Triple.Clauses.{AtExit}
use borrow.Fn.Kinds.{Dens, ended_of, res_t}
use Rattle.convert.proofs.convert.below.Kinds as below-kinds
use Rattle.convert.proofs.convert.below.Reads as below
use Rattle.convert.proofs.convert.convert.Kinds as convert-kinds
use Rattle.convert.proofs.convert.convert.Reads as convert
use Rattle.convert.proofs.convert.convert_after.Kinds as convert-after-kinds
use Rattle.convert.proofs.convert.convert_after.Reads as convert-after

both : {x y : Wrote (List ℕ)} → x ≡ y → (x.answer ≡ y.answer) × (x.output ≡ y.output)
both e = (ap (λ (w : Wrote (List ℕ)). w.answer) e, ap (λ (w : Wrote (List ℕ)). w.output) e)

pub convert-settled : (κs : Lfts 3) (a : Dens κs convert-kinds.ps) (r q : (res_t convert-kinds.r κs).Denot)
    (s t : AtExit (ended_of 3 convert-kinds.ps convert-kinds.r) κs)
    → convert.Post κs a r s → convert.Post κs a q t → (r ≡ q) × (s.1.1.1.0.now ≡ t.1.1.1.0.now)
convert-settled κs a r q s t e f = both (e ∙ sym f)

pub convert-after-settled : (κs : Lfts 3) (a : Dens κs convert-after-kinds.ps) (r q : (res_t convert-after-kinds.r κs).Denot)
    (s t : AtExit (ended_of 3 convert-after-kinds.ps convert-after-kinds.r) κs)
    → convert-after.Post κs a r s → convert-after.Post κs a q t → (r ≡ q) × (s.1.1.1.1.0.now ≡ t.1.1.1.1.0.now)
convert-after-settled κs a r q s t e f = both (e ∙ sym f)

pub below-settled : (κs : Lfts 0) (a : Dens κs below-kinds.ps) (r q : (res_t below-kinds.r κs).Denot)
    (s t : AtExit (ended_of 0 below-kinds.ps below-kinds.r) κs)
    → below.Post κs a r s → below.Post κs a q t → r ≡ q
below-settled κs a r q s t e f = e ∙ sym f
