-- Any two results that a promise of this crate allows are equal, and so is each lent byte afterwards.
-- Stated of the promises as the check reads them: `Reads.Post` of each public function.
-- Assumes nothing.
use mathlib.Core.Path.{◌≡◌}
use contract.Lifetimes.{Lfts}
use denote.Triple.Clauses.{AtExit}
use borrow.Fn.Kinds.{Dens, ended_of, res_t}
use Rattle.answer.proofs.Laws.Part.{wrote-settled}
use Rattle.satfile.proofs.read.Kinds as read-kinds
use Rattle.satfile.proofs.read.Reads as read

pub read-settled : (κs : Lfts 2) (a : Dens κs read-kinds.ps) (r q : (res_t read-kinds.r κs).Denot)
    (s t : AtExit (ended_of 2 read-kinds.ps read-kinds.r) κs) → read.Post κs a r s → read.Post κs a q t
    → (r ≡ q) × (s.1.0.now ≡ t.1.0.now)
read-settled κs a r q s t e f = wrote-settled e f
