-- `satfile::lead::Reader::formula` and `satfile::lead::Reader::list` meet their contracts: a formula is a symbol or a group; a group
-- goes on, takes a member and has read it, or it ends and has its members. Assumes nothing.
use Rattle.std.proofs.Common.{◌≡◌, refl, sym, ap, ◌∙◌, true, false, ℕ, arith}
use Rattle.std.specs.Prelude.{Ok}
use Rattle.std.proofs.lemmas.Result.{err_from_is_err_and}
use Rattle.satfile.specs.Inner.Reads.{takes, ends_at, formula_in}
use Rattle.satfile.specs.Inner.Parts.{text_from, DoneTo, WrongTo}
use Rattle.satfile.proofs.Laws.Tells.{begin-leaf, begin-open, begin-wrong, told_done, told-wrong}
use Rattle.satfile.proofs.Laws.Begins.{leaf_done, open_told, formula-wrong}
use Rattle.satfile.proofs.Laws.Turns.{group_start, takes_by, full_by, group_over, group_lacks, group_wrong, group_unparted}
use Rattle.satfile.proofs.Laws.Turns.{group_next, ahead, group_done}
use Rattle.satfile.proofs.lead.Reader.+formula_list.Goals as goal
use Rattle.satfile.proofs.lead.Reader.+formula_list.Goals.{list-After-is_open, list-Else-not-is_open, list-Else-not-is_full, list-In_ok-member}

pub formula-returns-in-Symbol : goal.formula-returns-in-Symbol
formula-returns-in-Symbol t c =
    let a = c.args in
    let read = begin-leaf a.self.now a.at a.depth _ c.begin.ensures _ _ _ (c.in_ok-value.was ∙ ap Ok c.in-Symbol.is) in
    leaf_done a.self.now a.depth a.at _ _ read c.leaf.ensures

pub formula-returns-in-Open : goal.formula-returns-in-Open
formula-returns-in-Open t c =
    let a = c.args in
    let read = begin-open a.self.now a.at a.depth _ c.begin.ensures _ _ (c.in_ok-value.was ∙ ap Ok c.in-Open.is) in
    open_told a.self.now a.depth a.at _ _ read a.table.now _ a.next c.list.result c.list.ensures

pub formula-returns-in_err-value : goal.formula-returns-in_err-value
formula-returns-in_err-value t c =
    let a = c.args in
    let reader = a.self.now in
    let wrong = begin-wrong reader a.at a.depth _ c.begin.ensures _ c.in_err-value.was in
    let told : WrongTo reader a.table.now (formula_in reader.options a.depth (text_from reader a.at)) _ a.table.now = record {
      at = record { out = formula-wrong reader.options a.depth (text_from reader a.at) _ wrong.out; within = wrong.within };
      same = refl;
    } in
    let p = err_from_is_err_and c.from_residual.result c.from_residual.ensures.1 in
    rw (p.1, p.2) told

pub list-loop-group-init : goal.list-loop-group-init
list-loop-group-init t c = group_start c.requires.within c.skip-i.ensures

-- whether the group takes a member more
taking : (t : ℕ) (c : list-After-is_open t) → c.is_open.result ≡ takes c.args.group c.loop-group.invariant.part
taking t c = takes_by c.loop-group.invariant c.is_many-many.result c.is_open.result c.is_many-many.ensures c.is_open.ensures

takes_one : (t : ℕ) (c : list-Else-not-is_open t) → takes c.args.group c.loop-group.invariant.part ≡ true
takes_one t c = sym (taking t (goal.at.list-Else-not-is_open t c).After-is_open) ∙ c.if-not-is_open.false

goes_on : (t : ℕ) (c : list-Else-not-is_open t) → ends_at c.args.group (text_from c.args.self.now c.loop-group.i) ≡ false
goes_on t c = sym c.is_end.ensures ∙ c.loop-group-test.true

pub list-returns-then-not-is_open : goal.list-returns-then-not-is_open
list-returns-then-not-is_open t c =
    group_over c.loop-group.invariant (sym c.is_end.ensures ∙ c.loop-group-test.true)
    (sym (taking t (goal.at.list-returns-then-not-is_open t c).After-is_open) ∙ c.if-not-is_open.true)

-- a member
member-read : (t : ℕ) (c : list-In_ok-member t)
    → let a = c.args in
    let reader = a.self.now in
    let m = c.in_ok-member.member in
    DoneTo reader c.loop-group.table c.loop-group.i c.loop-group.behind
    (formula_in reader.options a.depth (text_from reader c.loop-group.i)) m.at m.next c.formula.new.table
member-read t c = told_done c.args.self.now c.args.depth c.loop-group.table c.loop-group.i c.loop-group.behind _ _ c.formula.ensures _ c.in_ok-member.was

pub list-returns-then-not-is_parted : goal.list-returns-then-not-is_parted
list-returns-then-not-is_parted t c =
    let at = goal.at.list-returns-then-not-is_parted t c in
    group_unparted c.loop-group.invariant (goes_on t at.Else-not-is_open) (takes_one t at.Else-not-is_open) (member-read t at.In_ok-member)
    (sym c.is_parted.ensures ∙ c.if-not-is_parted.true)

pub list-loop-group-smaller : goal.list-loop-group-smaller
list-loop-group-smaller t c =
    let at = goal.at.list-loop-group-smaller t c in
    let read = member-read t at.In_ok-member in
    let on = ahead c.loop-group.invariant (goes_on t at.Else-not-is_open) (takes_one t at.Else-not-is_open) read in
    omega (arith, on, c.skip-i-in-loop-group.ensures.onward, read.to.within)

pub list-loop-group-preserved : goal.list-loop-group-preserved
list-loop-group-preserved t c =
    let at = goal.at.list-loop-group-preserved t c in
    group_next c.loop-group.invariant (goes_on t at.Else-not-is_open) (takes_one t at.Else-not-is_open) (member-read t at.In_ok-member)
    c.fold-behind.ensures
    (sym c.is_parted.ensures ∙ c.if-not-is_parted.false) c.skip-i-in-loop-group.ensures

pub list-returns-in_err-member : goal.list-returns-in_err-member
list-returns-in_err-member t c =
    let else = (goal.at.list-returns-in_err-member t c).Else-not-is_open in
    let wrong = told-wrong c.args.self.now c.args.depth c.loop-group.table c.loop-group.i c.loop-group.behind _ _ c.formula.ensures _ c.in_err-member.was in
    let told = group_wrong c.loop-group.invariant (goes_on t else) (takes_one t else) wrong in
    let p = err_from_is_err_and c.from_residual.result c.from_residual.ensures.1 in
    rw (p.1, p.2) told

-- the group ends: whether it has its members
pub list-returns-then-not-is_full : goal.list-returns-then-not-is_full
list-returns-then-not-is_full t c =
    group_lacks c.loop-group.invariant (sym c.is_end.ensures ∙ c.loop-group-test.false)
    (sym (full_by c.loop-group.invariant c.is_many-many.result c.is_full.result c.is_many-many.ensures c.is_full.ensures)
    ∙ c.if-not-is_full.true)

pub list-returns : goal.list-returns
list-returns t c =
    group_done c.loop-group.invariant (sym c.is_end.ensures ∙ c.loop-group-test.false)
    (sym (full_by c.loop-group.invariant c.is_many-many.result c.is_full.result c.is_many-many.ensures c.is_full.ensures)
    ∙ c.if-not-is_full.false)
    c.past-after.ensures c.end.ensures
