-- Any two results that a promise of this crate allows are equal, and so is each lent byte afterwards.
-- Stated of the promises as the check reads them: `Reads.Post` of each public function.
-- Assumes nothing.
use mathlib.Core.Path.{◌≡◌, sym, ◌∙◌}
use mathlib.Core.List.{List}
use Prim.Native.Nat.{ℕ}
use contract.Lifetimes.{Lfts}
use denote.Triple.Clauses.{AtExit}
use borrow.Fn.Kinds.{Dens, ended_of, res_t}
use Rattle.tidied.specs.Tidying.{Change}
use Rattle.sets.proofs.Laws.Empty.{same_row}
use Rattle.kept.specs.Inner.Pens.{Told, Drawn}
use Rattle.kept.specs.declared.pen.Pen.{Pen}
use Rattle.kept.proofs.pen.put_word.Kinds as put-word-kinds
use Rattle.kept.proofs.pen.put_word.Reads as put_word
use Rattle.kept.proofs.pen.put_change.Kinds as put-change-kinds
use Rattle.kept.proofs.pen.put_change.Reads as put-change
use Rattle.kept.proofs.clause.put_fate.Kinds as put-fate-kinds
use Rattle.kept.proofs.clause.put_fate.Reads as put-fate

pub put-word-settled : (κs : Lfts 1) (a : Dens κs put-word-kinds.ps) (r q : (res_t put-word-kinds.r κs).Denot)
    (s t : AtExit (ended_of 1 put-word-kinds.ps put-word-kinds.r) κs)
    → put_word.Post κs a r s → put_word.Post κs a q t → (r ≡ q) × (s.1.0.now ≡ t.1.0.now)
put-word-settled κs a r q s t e f = (e.place ∙ sym f.place, e.list ∙ sym f.list)

-- a pen is settled by its five numbers
told_same : {xs : List Change} {l m n : List ℕ} {p r q : Pen} → Told xs l p m r → Told xs l p n q → r ≡ q
told_same e f = λ i. record {
  writing = (e.mode ∙ sym f.mode) i;
  kept = (e.kept_same ∙ sym f.kept_same) i;
  lines = (e.lines_put.place ∙ sym f.lines_put.place) i;
  clauses = (e.clauses_same ∙ sym f.clauses_same) i;
  changes = (e.changes_are ∙ sym f.changes_are) i;
}

pub put_change_settled : (κs : Lfts 1) (a : Dens κs put-change-kinds.ps) (r q : (res_t put-change-kinds.r κs).Denot)
    (s t : AtExit (ended_of 1 put-change-kinds.ps put-change-kinds.r) κs)
    → put-change.Post κs a r s → put-change.Post κs a q t → (r ≡ q) × (s.0.now ≡ t.0.now)
put_change_settled κs a r q s t e f = (told_same e f, e.lines_put.list ∙ sym f.lines_put.list)

drawn-same : {ks : List ℕ} {c : ℕ} {xs : List Change} {o l m n v w : List ℕ} {p r q : Pen}
    → Drawn ks c xs o l p m n r → Drawn ks c xs o l p v w q → r ≡ q
drawn-same e f = λ i. record {
  writing = (e.mode ∙ sym f.mode) i;
  kept = (e.kept_put.place ∙ sym f.kept_put.place) i;
  lines = (e.lines_put.place ∙ sym f.lines_put.place) i;
  clauses = (e.clauses_are ∙ sym f.clauses_are) i;
  changes = (e.changes_are ∙ sym f.changes_are) i;
}

pub put_fate_settled : (κs : Lfts 4) (a : Dens κs put-fate-kinds.ps) (r q : (res_t put-fate-kinds.r κs).Denot)
    (s t : AtExit (ended_of 4 put-fate-kinds.ps put-fate-kinds.r) κs)
    → put-fate.Post κs a r s → put-fate.Post κs a q t
    → (r ≡ q) × (s.1.1.1.1.0.now ≡ t.1.1.1.1.0.now)
    × (s.1.1.1.1.1.0.now ≡ t.1.1.1.1.1.0.now)
    × (s.1.1.1.1.1.1.0.now ≡ t.1.1.1.1.1.1.0.now)
put_fate_settled κs a r q s t e f = (
  drawn-same e f,
  e.kept_put.list ∙ sym f.kept_put.list,
  e.lines_put.list ∙ sym f.lines_put.list,
  same_row s.1.1.1.1.1.1.0.now t.1.1.1.1.1.1.0.now,
)
