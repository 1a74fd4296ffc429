-- Any two results that a promise of this crate allows are equal, and so is each lent entry afterwards.
-- Stated of the promises as the check reads them: `Reads.Post` of each public function.
-- Assumes nothing.
use mathlib.Core.Path.{◌≡◌, sym, ◌∙◌, ap, subst}
use mathlib.Core.List.{List}
use Prim.Native.Nat.{ℕ, ◌≤◌}
use native.Mathlib.Omega.{arith}
use lib.ListN.{length}
use contract.Lifetimes.{Lfts}
use denote.Triple.Clauses.{AtExit}
use borrow.Fn.Kinds.{Dens, ended_of, res_t}
use Rattle.formula.specs.declared.node.Node.{Node}
use Rattle.formula.proofs.Laws.Tables.{length-nodes_of}
use Rattle.clausal.specs.Totals.{total_under}
use Rattle.clausal.specs.Clauses.{renaming}
use Rattle.capped.specs.declared.total.ClauseTotal.{ClauseTotal}
use Rattle.totals.specs.Inner.Columns.{Ready}
use Rattle.totals.specs.declared.rows.Columns.{Columns}
use Rattle.totals.specs.Inner.Sums.{Tried}
use Rattle.totals.proofs.Laws.Columns.{ready-clauses, ready-literals}
use Rattle.totals.proofs.rows.Columns.blank.Kinds as blank-kinds
use Rattle.totals.proofs.rows.Columns.blank.Reads as blank
use Rattle.totals.proofs.rows.Columns.row_at.Kinds as row-at-kinds
use Rattle.totals.proofs.rows.Columns.row_at.Reads as row_at
use Rattle.totals.proofs.rows.Columns.fill.Kinds as fill-kinds
use Rattle.totals.proofs.rows.Columns.fill.Reads as fill
use Rattle.totals.proofs.whole.whole.Kinds as whole_Kinds
use Rattle.totals.proofs.whole.whole.Reads as whole
use Rattle.totals.proofs.trial.trial.Kinds as trial-kinds
use Rattle.totals.proofs.trial.trial.Reads as trial
use Rattle.totals.proofs.Laws.Prepared.{prepared-same, marks_same, clauses_same, literals-same}
use Rattle.totals.proofs.prepare.prepare.Kinds as prepare-kinds
use Rattle.totals.proofs.prepare.prepare.Reads as prepare
use Rattle.totals.proofs.measure.measure.Kinds as measure-kinds
use Rattle.totals.proofs.measure.measure.Reads as measure

-- full columns are settled by the set
columns-settled : (s : List ℕ) (ns : List Node) (n : ℕ) → length ns ≤ n → (c d : Columns) → Ready s ns n c.clauses c.literals
    → Ready s ns n d.clauses d.literals → c ≡ d
columns-settled s ns n h c d e f =
    let clauses = ready-clauses s ns n h _ _ _ _ e f in
    let literals = ready-literals s ns n h _ _ _ _ e f in
    λ i. record { clauses = clauses i; literals = literals i }

-- a trial settles the set, the total and the columns
module _ (ns : List Node) (i byte : ℕ) (s after later : List ℕ) (n m : ℕ) (c d : Columns)
    (e : Tried ns i byte s after n c.clauses c.literals) (f : Tried ns i byte s later m d.clauses d.literals) where
  tried-set : after ≡ later
  tried-set = e.in_set ∙ sym f.in_set

  tried-total : n ≡ m
  tried-total = e.total ∙ ap (λ (l : List ℕ). total_under (renaming 0 l) ns l) tried-set ∙ sym f.total

  tried-columns : c ≡ d
  tried-columns =
      columns-settled later ns (length ns) (omega arith) c d
      (subst (λ (l : List ℕ). Ready l ns (length ns) c.clauses c.literals) tried-set e.ready) f.ready

pub blank-settled : (κs : Lfts 0) (a : Dens κs blank-kinds.ps) (r q : (res_t blank-kinds.r κs).Denot)
    (s t : AtExit (ended_of 0 blank-kinds.ps blank-kinds.r) κs)
    → blank.Post κs a r s → blank.Post κs a q t → r ≡ q
blank-settled κs a r q s t e f = e ∙ sym f

pub row-at-settled : (κs : Lfts 1) (a : Dens κs row-at-kinds.ps) (r q : (res_t row-at-kinds.r κs).Denot)
    (s t : AtExit (ended_of 1 row-at-kinds.ps row-at-kinds.r) κs)
    → row_at.Post κs a r s → row_at.Post κs a q t → r ≡ q
row-at-settled κs a r q s t e f = e ∙ sym f

pub fill-settled : (κs : Lfts 3) (a : Dens κs fill-kinds.ps) (r q : (res_t fill-kinds.r κs).Denot)
    (s t : AtExit (ended_of 3 fill-kinds.ps fill-kinds.r) κs)
    → fill.Post κs a r s → fill.Post κs a q t → s.0.now ≡ t.0.now
fill-settled κs a r q s t e f = columns-settled _ _ _ (omega (arith, length-nodes_of a.1.0.now)) _ _ e f

pub whole-settled : (κs : Lfts 4) (a : Dens κs whole_Kinds.ps) (r q : (res_t whole_Kinds.r κs).Denot)
    (s t : AtExit (ended_of 4 whole_Kinds.ps whole_Kinds.r) κs)
    → whole.Post κs a r s → whole.Post κs a q t → r ≡ q
whole-settled κs a r q s t e f = e ∙ sym f

pub trial-settled : (κs : Lfts 4) (a : Dens κs trial-kinds.ps) (r q : (res_t trial-kinds.r κs).Denot)
    (s t : AtExit (ended_of 4 trial-kinds.ps trial-kinds.r) κs)
    → trial.Post κs a r s → trial.Post κs a q t → r ≡ q
trial-settled κs a r q s t e f =
    let total : ℕ → ClauseTotal = λ n. record { n = n } in
    ap total (tried-total _ _ _ _ _ _ _ _ _ _ e f)

pub trial-set-settled : (κs : Lfts 4) (a : Dens κs trial-kinds.ps) (r q : (res_t trial-kinds.r κs).Denot)
    (s t : AtExit (ended_of 4 trial-kinds.ps trial-kinds.r) κs)
    → trial.Post κs a r s → trial.Post κs a q t → s.1.1.0.now ≡ t.1.1.0.now
trial-set-settled κs a r q s t e f = tried-set _ _ _ _ _ _ _ _ _ _ e f

pub trial-columns-settled : (κs : Lfts 4) (a : Dens κs trial-kinds.ps) (r q : (res_t trial-kinds.r κs).Denot)
    (s t : AtExit (ended_of 4 trial-kinds.ps trial-kinds.r) κs)
    → trial.Post κs a r s → trial.Post κs a q t → s.1.1.1.1.1.1.0.now ≡ t.1.1.1.1.1.1.0.now
trial-columns-settled κs a r q s t e f = tried-columns _ _ _ _ _ _ _ _ _ _ e f

pub measure-settled : (κs : Lfts 2) (a : Dens κs measure-kinds.ps) (r q : (res_t measure-kinds.r κs).Denot)
    (s t : AtExit (ended_of 2 measure-kinds.ps measure-kinds.r) κs)
    → measure.Post κs a r s → measure.Post κs a q t → r ≡ q
measure-settled κs a r q s t e f = e ∙ sym f

pub prepare-settled : (κs : Lfts 4) (a : Dens κs prepare-kinds.ps) (r q : (res_t prepare-kinds.r κs).Denot)
    (s t : AtExit (ended_of 4 prepare-kinds.ps prepare-kinds.r) κs)
    → prepare.Post κs a r s → prepare.Post κs a q t
    → (r ≡ q) × (s.1.1.0.now ≡ t.1.1.0.now) × (s.1.1.1.0.now ≡ t.1.1.1.0.now)
prepare-settled κs a r q s t e f =
    let clauses = clauses_same _ _ _ _ _ _ _ _ _ _ e f in
    let literals = literals-same _ _ _ _ _ _ _ _ _ _ e f in (
      prepared-same _ _ _ _ _ _ _ _ _ _ e f,
      marks_same _ _ _ _ _ _ _ _ _ _ e f,
      λ i. record { clauses = clauses i; literals = literals i },
    )
