-- Any two results that a promise of this crate allows are equal, and so is each lent byte afterwards.
-- Stated of the promises as the check reads them: `Reads.Post` of each public function.
-- Assumes nothing.
use mathlib.Core.Path.{◌≡◌, sym, ◌∙◌}
use mathlib.Core.HLevel.{is_prop→PathP}
use mathlib.Core.List.{is_set}
use native.Mathlib.Nat.{ℕ_set}
use contract.Lifetimes.{Lfts}
use denote.Triple.Clauses.{AtExit}
use borrow.Fn.Kinds.{Dens, ended_of, res_t}
use Rattle.classes.specs.Inner.Classes.{table}
use Rattle.classes.specs.declared.Classes.{Classes}
use Rattle.classes.proofs.Classes.new.Kinds as classes-kinds
use Rattle.classes.proofs.Classes.new.Reads as classes
use Rattle.classes.proofs.Classes.is_of.Kinds as is-of-kinds
use Rattle.classes.proofs.Classes.is_of.Reads as is-of
use Rattle.classes.proofs.Classes.is_letter.Kinds as is-letter-kinds
use Rattle.classes.proofs.Classes.is_letter.Reads as is-letter
use Rattle.classes.proofs.Classes.is_white.Kinds as is-white-kinds
use Rattle.classes.proofs.Classes.is_white.Reads as is_white
use Rattle.classes.proofs.Classes.is_digit.Kinds as is-digit-kinds
use Rattle.classes.proofs.Classes.is_digit.Reads as is_digit
use Rattle.classes.proofs.is_space.Kinds as is-space-kinds
use Rattle.classes.proofs.is_space.Reads as is-space

-- a table of classes is settled by its numbers
same : (r q : Classes) → r.of ≡ q.of → r ≡ q
same r q e = λ i. record {
  of = e i;
  right = is_prop→PathP (λ i. e i ≡ table) (λ i. is_set ℕ_set (e i) table) r.right q.right i;
}

pub classes-settled : (κs : Lfts 0) (a : Dens κs classes-kinds.ps) (r q : (res_t classes-kinds.r κs).Denot)
    (s t : AtExit (ended_of 0 classes-kinds.ps classes-kinds.r) κs) → classes.Post κs a r s
    → classes.Post κs a q t
    → r ≡ q
classes-settled κs a r q s t e f = same r q (e ∙ sym f)

pub is_of_settled : (κs : Lfts 1) (a : Dens κs is-of-kinds.ps) (r q : (res_t is-of-kinds.r κs).Denot)
    (s t : AtExit (ended_of 1 is-of-kinds.ps is-of-kinds.r) κs) → is-of.Post κs a r s
    → is-of.Post κs a q t
    → r ≡ q
is_of_settled κs a r q s t e f = e ∙ sym f

pub is_letter_settled : (κs : Lfts 1) (a : Dens κs is-letter-kinds.ps) (r q : (res_t is-letter-kinds.r κs).Denot)
    (s t : AtExit (ended_of 1 is-letter-kinds.ps is-letter-kinds.r) κs) → is-letter.Post κs a r s
    → is-letter.Post κs a q t
    → r ≡ q
is_letter_settled κs a r q s t e f = e ∙ sym f

pub is-white-settled : (κs : Lfts 1) (a : Dens κs is-white-kinds.ps) (r q : (res_t is-white-kinds.r κs).Denot)
    (s t : AtExit (ended_of 1 is-white-kinds.ps is-white-kinds.r) κs) → is_white.Post κs a r s
    → is_white.Post κs a q t
    → r ≡ q
is-white-settled κs a r q s t e f = e ∙ sym f

pub is-digit-settled : (κs : Lfts 1) (a : Dens κs is-digit-kinds.ps) (r q : (res_t is-digit-kinds.r κs).Denot)
    (s t : AtExit (ended_of 1 is-digit-kinds.ps is-digit-kinds.r) κs) → is_digit.Post κs a r s
    → is_digit.Post κs a q t
    → r ≡ q
is-digit-settled κs a r q s t e f = e ∙ sym f

pub is-space-settled : (κs : Lfts 0) (a : Dens κs is-space-kinds.ps) (r q : (res_t is-space-kinds.r κs).Denot)
    (s t : AtExit (ended_of 0 is-space-kinds.ps is-space-kinds.r) κs) → is-space.Post κs a r s
    → is-space.Post κs a q t
    → r ≡ q
is-space-settled κs a r q s t e f = e ∙ sym f
