-- Any two results that a promise of this crate allows are equal, and so is each lent byte afterwards.
-- Stated of the promises as the check reads them: `Reads.Post` of each public function.
-- Assumes nothing.
use mathlib.Core.Path.{◌≡◌, sym, ◌∙◌}
use contract.Lifetimes.{Lfts}
use denote.Triple.Clauses.{AtExit}
use borrow.Fn.Kinds.{Dens, ended_of, res_t}
use Rattle.answer.proofs.Laws.Part.{wrote-settled}
use Rattle.dimacs.proofs.text_length.Kinds as text-length-kinds
use Rattle.dimacs.proofs.text_length.Reads as text-length
use Rattle.dimacs.proofs.write.Kinds as write-kinds
use Rattle.dimacs.proofs.write.Reads as write
use Rattle.dimacs.proofs.read.Kinds as read-kinds
use Rattle.dimacs.proofs.read.Reads as read

pub text_length_settled : (κs : Lfts 1) (a : Dens κs text-length-kinds.ps) (r q : (res_t text-length-kinds.r κs).Denot)
    (s t : AtExit (ended_of 1 text-length-kinds.ps text-length-kinds.r) κs) → text-length.Post κs a r s → text-length.Post κs a q t
    → r ≡ q
text_length_settled κs a r q s t e f = e ∙ sym f

pub write-settled : (κs : Lfts 2) (a : Dens κs write-kinds.ps) (r q : (res_t write-kinds.r κs).Denot)
    (s t : AtExit (ended_of 2 write-kinds.ps write-kinds.r) κs) → write.Post κs a r s → write.Post κs a q t
    → (r ≡ q) × (s.1.1.0.now ≡ t.1.1.0.now)
write-settled κs a r q s t e f = wrote-settled e f

pub read-settled : (κs : Lfts 2) (a : Dens κs read-kinds.ps) (r q : (res_t read-kinds.r κs).Denot)
    (s t : AtExit (ended_of 2 read-kinds.ps read-kinds.r) κs) → read.Post κs a r s → read.Post κs a q t
    → (r ≡ q) × (s.1.0.now ≡ t.1.0.now)
read-settled κs a r q s t e f = wrote-settled e f
