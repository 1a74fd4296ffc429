-- Any two results that a promise of this crate allows are equal, and so is each lent byte afterwards.
-- Stated of the promise as the check reads it: `Reads.Post` of the public function.
-- Assumes nothing.
use mathlib.Core.Path.{◌≡◌, ap}
use contract.Lifetimes.{Lfts}
use denote.Triple.Clauses.{AtExit}
use borrow.Fn.Kinds.{Dens, ended_of, res_t}
use Rattle.answer.proofs.Laws.Part.{wrote-settled}
use Rattle.tidied.specs.Calls.{Outputs}
use Rattle.tidy.proofs.tidy.Kinds as tidy-kinds
use Rattle.tidy.proofs.tidy.Reads as tidy

pub tidy-settled : (κs : Lfts 3) (a : Dens κs tidy-kinds.ps) (r q : (res_t tidy-kinds.r κs).Denot)
    (s t : AtExit (ended_of 3 tidy-kinds.ps tidy-kinds.r) κs) → tidy.Post κs a r s → tidy.Post κs a q t
    → (r ≡ q) × (s.1.1.0.now ≡ t.1.1.0.now) × (s.1.1.1.0.now ≡ t.1.1.1.0.now)
tidy-settled κs a r q s t e f =
    let both = wrote-settled e f in
    (both.0, ap (λ (o : Outputs). o.kept) both.1, ap (λ (o : Outputs). o.lines) both.1)
