-- Any two results that a promise of this crate allows are equal, and so is each lent byte afterwards.
-- Stated of the promises as the check reads them: `Reads.Post` of each public function.
-- Assumes nothing.
use mathlib.Core.Path.{◌≡◌, sym, ◌∙◌}
use contract.Lifetimes.{Lfts}
use denote.Triple.Clauses.{AtExit}
use borrow.Fn.Kinds.{Dens, ended_of, res_t}
use Rattle.text.proofs.number.is_digit.Kinds as number-is-digit-kinds
use Rattle.text.proofs.number.is_digit.Reads as number-is-digit
use Rattle.text.proofs.number.digit_of.Kinds as number-digit-of-kinds
use Rattle.text.proofs.number.digit_of.Reads as number-digit-of
use Rattle.text.proofs.number.grown.Kinds as number-grown-kinds
use Rattle.text.proofs.number.grown.Reads as number-grown
use Rattle.text.proofs.number.number_of.Kinds as number-number-of-kinds
use Rattle.text.proofs.number.number_of.Reads as number-number-of
use Rattle.text.proofs.number.width.Kinds as number-width-kinds
use Rattle.text.proofs.number.width.Reads as number-width
use Rattle.text.proofs.piece.find.Kinds as piece-find-kinds
use Rattle.text.proofs.piece.find.Reads as piece-find
use Rattle.text.proofs.piece.is_same.Kinds as piece-is-same-kinds
use Rattle.text.proofs.piece.is_same.Reads as piece-is-same
use Rattle.text.proofs.piece.number_at.Kinds as piece-number-at-kinds
use Rattle.text.proofs.piece.number_at.Reads as piece-number-at
use Rattle.text.proofs.write.put_bytes.Kinds as write-put-bytes-kinds
use Rattle.text.proofs.write.put_bytes.Reads as write-put-bytes
use Rattle.text.proofs.write.put_byte.Kinds as write-put-byte-kinds
use Rattle.text.proofs.write.put_byte.Reads as write-put-byte
use Rattle.text.proofs.write.put_number.Kinds as write-put-number-kinds
use Rattle.text.proofs.write.put_number.Reads as write-put-number
use Rattle.text.proofs.write.put_field.Kinds as write-put-field-kinds
use Rattle.text.proofs.write.put_field.Reads as write-put-field

pub number-is-digit-settled : (κs : Lfts 0) (a : Dens κs number-is-digit-kinds.ps) (r q : (res_t number-is-digit-kinds.r κs).Denot)
    (s t : AtExit (ended_of 0 number-is-digit-kinds.ps number-is-digit-kinds.r) κs) → number-is-digit.Post κs a r s
    → number-is-digit.Post κs a q t
    → r ≡ q
number-is-digit-settled κs a r q s t e f = e ∙ sym f

pub number_digit_of_settled : (κs : Lfts 0) (a : Dens κs number-digit-of-kinds.ps) (r q : (res_t number-digit-of-kinds.r κs).Denot)
    (s t : AtExit (ended_of 0 number-digit-of-kinds.ps number-digit-of-kinds.r) κs) → number-digit-of.Post κs a r s
    → number-digit-of.Post κs a q t
    → r ≡ q
number_digit_of_settled κs a r q s t e f = e ∙ sym f

pub number-grown-settled : (κs : Lfts 0) (a : Dens κs number-grown-kinds.ps) (r q : (res_t number-grown-kinds.r κs).Denot)
    (s t : AtExit (ended_of 0 number-grown-kinds.ps number-grown-kinds.r) κs) → number-grown.Post κs a r s → number-grown.Post κs a q t
    → r ≡ q
number-grown-settled κs a r q s t e f = e ∙ sym f

pub number_number_of_settled : (κs : Lfts 1) (a : Dens κs number-number-of-kinds.ps) (r q : (res_t number-number-of-kinds.r κs).Denot)
    (s t : AtExit (ended_of 1 number-number-of-kinds.ps number-number-of-kinds.r) κs) → number-number-of.Post κs a r s
    → number-number-of.Post κs a q t
    → r ≡ q
number_number_of_settled κs a r q s t e f = e ∙ sym f

pub number-width-settled : (κs : Lfts 0) (a : Dens κs number-width-kinds.ps) (r q : (res_t number-width-kinds.r κs).Denot)
    (s t : AtExit (ended_of 0 number-width-kinds.ps number-width-kinds.r) κs) → number-width.Post κs a r s → number-width.Post κs a q t
    → r ≡ q
number-width-settled κs a r q s t e f = e ∙ sym f

pub piece_find_settled : (κs : Lfts 1) (a : Dens κs piece-find-kinds.ps) (r q : (res_t piece-find-kinds.r κs).Denot)
    (s t : AtExit (ended_of 1 piece-find-kinds.ps piece-find-kinds.r) κs) → piece-find.Post κs a r s → piece-find.Post κs a q t
    → r ≡ q
piece_find_settled κs a r q s t e f = e.place ∙ sym f.place

pub piece_is_same_settled : (κs : Lfts 2) (a : Dens κs piece-is-same-kinds.ps) (r q : (res_t piece-is-same-kinds.r κs).Denot)
    (s t : AtExit (ended_of 2 piece-is-same-kinds.ps piece-is-same-kinds.r) κs) → piece-is-same.Post κs a r s → piece-is-same.Post κs a q t
    → r ≡ q
piece_is_same_settled κs a r q s t e f = e ∙ sym f

pub piece_number_at_settled : (κs : Lfts 1) (a : Dens κs piece-number-at-kinds.ps) (r q : (res_t piece-number-at-kinds.r κs).Denot)
    (s t : AtExit (ended_of 1 piece-number-at-kinds.ps piece-number-at-kinds.r) κs) → piece-number-at.Post κs a r s
    → piece-number-at.Post κs a q t
    → r ≡ q
piece_number_at_settled κs a r q s t e f = e ∙ sym f

pub write-put-bytes-settled : (κs : Lfts 2) (a : Dens κs write-put-bytes-kinds.ps) (r q : (res_t write-put-bytes-kinds.r κs).Denot)
    (s t : AtExit (ended_of 2 write-put-bytes-kinds.ps write-put-bytes-kinds.r) κs) → write-put-bytes.Post κs a r s
    → write-put-bytes.Post κs a q t
    → (r ≡ q) × (s.0.now ≡ t.0.now)
write-put-bytes-settled κs a r q s t e f = (e.place ∙ sym f.place, e.list ∙ sym f.list)

pub write-put-byte-settled : (κs : Lfts 1) (a : Dens κs write-put-byte-kinds.ps) (r q : (res_t write-put-byte-kinds.r κs).Denot)
    (s t : AtExit (ended_of 1 write-put-byte-kinds.ps write-put-byte-kinds.r) κs) → write-put-byte.Post κs a r s
    → write-put-byte.Post κs a q t
    → (r ≡ q) × (s.0.now ≡ t.0.now)
write-put-byte-settled κs a r q s t e f = (e.place ∙ sym f.place, e.list ∙ sym f.list)

pub write-put-number-settled : (κs : Lfts 1) (a : Dens κs write-put-number-kinds.ps) (r q : (res_t write-put-number-kinds.r κs).Denot)
    (s t : AtExit (ended_of 1 write-put-number-kinds.ps write-put-number-kinds.r) κs) → write-put-number.Post κs a r s
    → write-put-number.Post κs a q t
    → (r ≡ q) × (s.0.now ≡ t.0.now)
write-put-number-settled κs a r q s t e f = (e.place ∙ sym f.place, e.list ∙ sym f.list)

pub write-put-field-settled : (κs : Lfts 1) (a : Dens κs write-put-field-kinds.ps) (r q : (res_t write-put-field-kinds.r κs).Denot)
    (s t : AtExit (ended_of 1 write-put-field-kinds.ps write-put-field-kinds.r) κs) → write-put-field.Post κs a r s
    → write-put-field.Post κs a q t
    → (r ≡ q) × (s.0.now ≡ t.0.now)
write-put-field-settled κs a r q s t e f = (e.place ∙ sym f.place, e.list ∙ sym f.list)
