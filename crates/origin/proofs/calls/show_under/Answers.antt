-- `origin::calls::show_under` meets its contract: the set, the totals, the clause's number where one line is asked, and the names.
-- Assumes nothing.
use mathlib.Core.Path.{sym, ◌∙◌}
use borrow.Author.Rules.{rules}
use Rattle.capped.specs.Inner.Sized.{sized}
use Rattle.convert.specs.Inner.Fitted.{Measured}
use Rattle.convert.proofs.Laws.Checked.{measured_of}
use Rattle.origin.specs.Inner.Lines.{lists_of}
use Rattle.origin.proofs.Laws.Shown.{below-refused, told-refused, names-refused, names-accepted, listed-unnamed, total-is, total-short, listed}
use Rattle.origin.proofs.calls.show_under.Goals.{In_ok-sum}
use Rattle.origin.proofs.calls.show_under.Goals as goal

-- what was prepared
measured : (c : In_ok-sum) → Measured c.args.table.now c.args.voices.now.options c.prepare.new.marks c.args.set.now c.prepare.new.columns
    (sized c.in_ok-sum.sum)
measured c = measured_of {columns = c.prepare.new.columns} c.requires.convertible c.prepare.ensures c.in_ok-sum.was

pub returns-in_err-below : goal.returns-in_err-below
returns-in_err-below c =
    let a = c.args in
    let refused = below-refused _ (lists_of a.voices.now) _ _ _ _ (measured (goal.at.returns-in_err-below c).In_ok-sum) a.out.now a.clause
    _ c.below.ensures _ c.in_err-below.was in
    search rules

pub returns-in_err-told : goal.returns-in_err-told
returns-in_err-told c =
    let a = c.args in
    let refused = told-refused _ (lists_of a.voices.now) _ _ _ _ (measured (goal.at.returns-in_err-told c).In_ok-sum) a.out.now a.clause
    _ c.below.ensures _ c.in_ok-below.was c.from-total.result (search rules) _ (sym c.span.ensures ∙ c.in_err-told.was) in
    search rules

pub name_all-last-requires : goal.name_all-last-requires
name_all-last-requires c =
    let a = c.args in
    listed-unnamed _ (lists_of a.voices.now) _ _ _ _ (measured (goal.at.name_all-last-requires c).In_ok-sum) a.out.now a.clause

pub name_lines-requires : goal.name_lines-requires
name_lines-requires c =
    let a = c.args in
    let m = measured (goal.at.name_lines-requires c).In_ok-sum in
    listed _ a.voices.now _ _ _ m c.requires _ c.name_all-last.ensures.0 c.name_all-last.ensures.1 a.clause c.from-total.result
    (total-is _ (lists_of a.voices.now) _ _ _ _ m a.out.now a.clause _ c.below.ensures _ c.in_ok-below.was _ (search rules))
    (total-short _ (lists_of a.voices.now) _ _ _ _ m a.out.now a.clause _ c.below.ensures _ c.in_ok-below.was)
    _ (sym c.span.ensures ∙ c.in_ok-told.was)

pub returns-in_err-name_lines : goal.returns-in_err-name_lines
returns-in_err-name_lines c =
    let a = c.args in
    let refused = names-refused _ (lists_of a.voices.now) _ _ _ _ (measured (goal.at.returns-in_err-name_lines c).In_ok-sum) a.out.now a.clause
    _ c.below.ensures _ c.in_ok-below.was c.from-total.result (search rules) _ (sym c.span.ensures ∙ c.in_ok-told.was)
    _ _ c.name_lines.ensures _ c.in_err-name_lines.was in
    search rules

pub returns : goal.returns
returns c =
    let a = c.args in
    names-accepted _ (lists_of a.voices.now) _ _ _ _ (measured (goal.at.returns c).In_ok-sum) a.out.now a.clause
    _ c.below.ensures _ c.in_ok-below.was c.from-total.result (search rules) _ (sym c.span.ensures ∙ c.in_ok-told.was)
    _ _ c.name_lines.ensures _ c.name_all-last.ensures.0 _ c.in_ok-name_lines.was
