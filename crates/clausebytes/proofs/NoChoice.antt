-- Any two results that a promise of this crate allows are equal, and so is each lent byte afterwards.
-- Stated of the promises as the check reads them: `Reads.Post` of each public function.
-- Assumes nothing.
use mathlib.Core.Path.{◌≡◌, sym, ◌∙◌}
use contract.Lifetimes.{Lfts}
use denote.Triple.Clauses.{AtExit}
use borrow.Fn.Kinds.{Dens, ended_of, res_t}
use Rattle.clausebytes.proofs.word.complement.Kinds as word-complement-kinds
use Rattle.clausebytes.proofs.word.complement.Reads as word-complement
use Rattle.clausebytes.proofs.word.word.Kinds as word-word-kinds
use Rattle.clausebytes.proofs.word.word.Reads as word-word
use Rattle.clausebytes.proofs.word.magnitude.Kinds as word-magnitude-kinds
use Rattle.clausebytes.proofs.word.magnitude.Reads as word-magnitude
use Rattle.clausebytes.proofs.word.word_at.Kinds as word-word-at-kinds
use Rattle.clausebytes.proofs.word.word_at.Reads as word-word-at
use Rattle.clausebytes.proofs.word.room.Kinds as word-room-kinds
use Rattle.clausebytes.proofs.word.room.Reads as word_room
use Rattle.clausebytes.proofs.check.check.Kinds as check-check-kinds
use Rattle.clausebytes.proofs.check.check.Reads as check-check

pub word-complement-settled : (κs : Lfts 0) (a : Dens κs word-complement-kinds.ps) (r q : (res_t word-complement-kinds.r κs).Denot)
    (s t : AtExit (ended_of 0 word-complement-kinds.ps word-complement-kinds.r) κs) → word-complement.Post κs a r s
    → word-complement.Post κs a q t
    → r ≡ q
word-complement-settled κs a r q s t e f = e ∙ sym f

pub word-word-settled : (κs : Lfts 0) (a : Dens κs word-word-kinds.ps) (r q : (res_t word-word-kinds.r κs).Denot)
    (s t : AtExit (ended_of 0 word-word-kinds.ps word-word-kinds.r) κs) → word-word.Post κs a r s → word-word.Post κs a q t
    → r ≡ q
word-word-settled κs a r q s t e f = e ∙ sym f

pub word-magnitude-settled : (κs : Lfts 0) (a : Dens κs word-magnitude-kinds.ps) (r q : (res_t word-magnitude-kinds.r κs).Denot)
    (s t : AtExit (ended_of 0 word-magnitude-kinds.ps word-magnitude-kinds.r) κs) → word-magnitude.Post κs a r s
    → word-magnitude.Post κs a q t
    → r ≡ q
word-magnitude-settled κs a r q s t e f = e ∙ sym f

pub word-word-at-settled : (κs : Lfts 1) (a : Dens κs word-word-at-kinds.ps) (r q : (res_t word-word-at-kinds.r κs).Denot)
    (s t : AtExit (ended_of 1 word-word-at-kinds.ps word-word-at-kinds.r) κs) → word-word-at.Post κs a r s → word-word-at.Post κs a q t
    → r ≡ q
word-word-at-settled κs a r q s t e f = e ∙ sym f

pub word-room-settled : (κs : Lfts 0) (a : Dens κs word-room-kinds.ps) (r q : (res_t word-room-kinds.r κs).Denot)
    (s t : AtExit (ended_of 0 word-room-kinds.ps word-room-kinds.r) κs) → word_room.Post κs a r s → word_room.Post κs a q t
    → r ≡ q
word-room-settled κs a r q s t e f = e ∙ sym f

pub check-check-settled : (κs : Lfts 1) (a : Dens κs check-check-kinds.ps) (r q : (res_t check-check-kinds.r κs).Denot)
    (s t : AtExit (ended_of 1 check-check-kinds.ps check-check-kinds.r) κs) → check-check.Post κs a r s → check-check.Post κs a q t
    → r ≡ q
check-check-settled κs a r q s t e f = e ∙ sym f
