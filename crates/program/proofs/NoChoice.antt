-- Any two results that a promise of this crate allows are equal, and so is each lent byte afterwards.
-- Stated of the promises as the check reads them: `Reads.Post` of each public function, and of those that are shared between the files.
-- Assumes nothing.
use mathlib.Core.Path.{◌≡◌, sym, ◌∙◌}
use mathlib.Core.List.{List}
use Prim.Native.Nat.{ℕ}
use contract.Lifetimes.{Lfts}
use denote.Triple.Clauses.{AtExit}
use borrow.Fn.Kinds.{Dens, ended_of, res_t}
use Rattle.program.specs.Printed.{Shows}
use Rattle.program.proofs.print.Kinds as print-kinds
use Rattle.program.proofs.print.Reads as print
use Rattle.program.proofs.refusal.put_refusal.Kinds as put-refusal-kinds
use Rattle.program.proofs.refusal.put_refusal.Reads as put-refusal

shows_settled : {bytes before l m : List ℕ} {r q : ℕ} → Shows bytes before r l → Shows bytes before q m → (r ≡ q) × (l ≡ m)
shows_settled e f = (e.stored.place ∙ sym f.stored.place, e.stored.list ∙ sym f.stored.list)

pub print-settled : (κs : Lfts 2) (a : Dens κs print-kinds.ps) (r q : (res_t print-kinds.r κs).Denot)
    (s t : AtExit (ended_of 2 print-kinds.ps print-kinds.r) κs) → print.Post κs a r s → print.Post κs a q t
    → (r ≡ q) × (s.1.0.now ≡ t.1.0.now)
print-settled κs a r q s t e f = shows_settled e f

pub put-refusal-settled : (κs : Lfts 1) (a : Dens κs put-refusal-kinds.ps)
    (r q : (res_t put-refusal-kinds.r κs).Denot)
    (s t : AtExit (ended_of 1 put-refusal-kinds.ps put-refusal-kinds.r) κs) → put-refusal.Post κs a r s
    → put-refusal.Post κs a q t → (r ≡ q) × (s.1.0.now ≡ t.1.0.now)
put-refusal-settled κs a r q s t e f = shows_settled e f
