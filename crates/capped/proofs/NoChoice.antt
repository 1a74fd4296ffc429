-- Any two results that a promise of this crate allows are equal.
-- Stated of the promises as the check reads them: `Reads.Post` of each public function.
-- Assumes nothing.
use mathlib.Core.Path.{◌≡◌, sym, ◌∙◌, ap}
use Prim.Native.Nat.{ℕ}
use contract.Lifetimes.{Lfts}
use denote.Triple.Clauses.{AtExit}
use borrow.Fn.Kinds.{Dens, ended_of, res_t}
use Rattle.capped.specs.declared.total.ClauseTotal.{ClauseTotal}
use Rattle.capped.specs.declared.total.LiteralTotal.{LiteralTotal}
use Rattle.capped.proofs.total.ClauseTotal.zero.Kinds as clause-zero-kinds
use Rattle.capped.proofs.total.ClauseTotal.zero.Reads as clause-zero
use Rattle.capped.proofs.total.ClauseTotal.add.Kinds as clause-add-kinds
use Rattle.capped.proofs.total.ClauseTotal.add.Reads as clause-add
use Rattle.capped.proofs.total.ClauseTotal.join.Kinds as clause-join-kinds
use Rattle.capped.proofs.total.ClauseTotal.join.Reads as clause-join
use Rattle.capped.proofs.total.LiteralTotal.zero.Kinds as literal-zero-kinds
use Rattle.capped.proofs.total.LiteralTotal.zero.Reads as literal-zero
use Rattle.capped.proofs.total.LiteralTotal.add.Kinds as literal-add-kinds
use Rattle.capped.proofs.total.LiteralTotal.add.Reads as literal-add
use Rattle.capped.proofs.total.LiteralTotal.join.Kinds as literal-join-kinds
use Rattle.capped.proofs.total.LiteralTotal.join.Reads as literal-join
use Rattle.capped.proofs.total.Total.none.Kinds as none-kinds
use Rattle.capped.proofs.total.Total.none.Reads as none
use Rattle.capped.proofs.total.Total.empty.Kinds as empty-kinds
use Rattle.capped.proofs.total.Total.empty.Reads as empty
use Rattle.capped.proofs.total.Total.unit.Kinds as unit-kinds
use Rattle.capped.proofs.total.Total.unit.Reads as unit
use Rattle.capped.proofs.total.Total.cat.Kinds as cat-kinds
use Rattle.capped.proofs.total.Total.cat.Reads as cat
use Rattle.capped.proofs.total.Total.join.Kinds as join-kinds
use Rattle.capped.proofs.total.Total.join.Reads as join

clause_total : ℕ → ClauseTotal
clause_total n = record { n = n }

literal_total : ℕ → LiteralTotal
literal_total n = record { n = n }

pub clause-zero-settled : (κs : Lfts 0) (a : Dens κs clause-zero-kinds.ps) (r q : (res_t clause-zero-kinds.r κs).Denot)
    (s t : AtExit (ended_of 0 clause-zero-kinds.ps clause-zero-kinds.r) κs)
    → clause-zero.Post κs a r s → clause-zero.Post κs a q t → r ≡ q
unfolding clause_total
clause-zero-settled κs a r q s t e f = ap clause_total (e ∙ sym f)

pub clause-add-settled : (κs : Lfts 0) (a : Dens κs clause-add-kinds.ps) (r q : (res_t clause-add-kinds.r κs).Denot)
    (s t : AtExit (ended_of 0 clause-add-kinds.ps clause-add-kinds.r) κs)
    → clause-add.Post κs a r s → clause-add.Post κs a q t → r ≡ q
unfolding clause_total
clause-add-settled κs a r q s t e f = ap clause_total (e ∙ sym f)

pub clause-join-settled : (κs : Lfts 0) (a : Dens κs clause-join-kinds.ps) (r q : (res_t clause-join-kinds.r κs).Denot)
    (s t : AtExit (ended_of 0 clause-join-kinds.ps clause-join-kinds.r) κs)
    → clause-join.Post κs a r s → clause-join.Post κs a q t → r ≡ q
unfolding clause_total
clause-join-settled κs a r q s t e f = ap clause_total (e ∙ sym f)

pub literal-zero-settled : (κs : Lfts 0) (a : Dens κs literal-zero-kinds.ps) (r q : (res_t literal-zero-kinds.r κs).Denot)
    (s t : AtExit (ended_of 0 literal-zero-kinds.ps literal-zero-kinds.r) κs)
    → literal-zero.Post κs a r s → literal-zero.Post κs a q t → r ≡ q
unfolding literal_total
literal-zero-settled κs a r q s t e f = ap literal_total (e ∙ sym f)

pub literal-add-settled : (κs : Lfts 0) (a : Dens κs literal-add-kinds.ps) (r q : (res_t literal-add-kinds.r κs).Denot)
    (s t : AtExit (ended_of 0 literal-add-kinds.ps literal-add-kinds.r) κs)
    → literal-add.Post κs a r s → literal-add.Post κs a q t → r ≡ q
unfolding literal_total
literal-add-settled κs a r q s t e f = ap literal_total (e ∙ sym f)

pub literal-join-settled : (κs : Lfts 0) (a : Dens κs literal-join-kinds.ps) (r q : (res_t literal-join-kinds.r κs).Denot)
    (s t : AtExit (ended_of 0 literal-join-kinds.ps literal-join-kinds.r) κs)
    → literal-join.Post κs a r s → literal-join.Post κs a q t → r ≡ q
unfolding literal_total
literal-join-settled κs a r q s t e f = ap literal_total (e ∙ sym f)

pub none-settled : (κs : Lfts 0) (a : Dens κs none-kinds.ps) (r q : (res_t none-kinds.r κs).Denot)
    (s t : AtExit (ended_of 0 none-kinds.ps none-kinds.r) κs)
    → none.Post κs a r s → none.Post κs a q t → r ≡ q
none-settled κs a r q s t e f = e ∙ sym f

pub empty-settled : (κs : Lfts 0) (a : Dens κs empty-kinds.ps) (r q : (res_t empty-kinds.r κs).Denot)
    (s t : AtExit (ended_of 0 empty-kinds.ps empty-kinds.r) κs)
    → empty.Post κs a r s → empty.Post κs a q t → r ≡ q
empty-settled κs a r q s t e f = e ∙ sym f

pub unit-settled : (κs : Lfts 0) (a : Dens κs unit-kinds.ps) (r q : (res_t unit-kinds.r κs).Denot)
    (s t : AtExit (ended_of 0 unit-kinds.ps unit-kinds.r) κs)
    → unit.Post κs a r s → unit.Post κs a q t → r ≡ q
unit-settled κs a r q s t e f = e ∙ sym f

pub cat-settled : (κs : Lfts 0) (a : Dens κs cat-kinds.ps) (r q : (res_t cat-kinds.r κs).Denot)
    (s t : AtExit (ended_of 0 cat-kinds.ps cat-kinds.r) κs)
    → cat.Post κs a r s → cat.Post κs a q t → r ≡ q
cat-settled κs a r q s t e f = e ∙ sym f

pub join-settled : (κs : Lfts 0) (a : Dens κs join-kinds.ps) (r q : (res_t join-kinds.r κs).Denot)
    (s t : AtExit (ended_of 0 join-kinds.ps join-kinds.r) κs)
    → join.Post κs a r s → join.Post κs a q t → r ≡ q
join-settled κs a r q s t e f = e ∙ sym f
