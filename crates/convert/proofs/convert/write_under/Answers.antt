-- `convert::convert::write_under` meets its contract: the totals and the room decide, then the output is written.
-- Assumes nothing.
use mathlib.Core.Path.{◌∙◌}
use borrow.Author.Rules.{rules}
use Rattle.answer.proofs.Laws.Order.{accepts_of, refused-wrote, accepted-wrote}
use Rattle.capped.specs.Inner.Sized.{sized}
use Rattle.convert.proofs.Laws.Written.{fits_as_output, reported-is, written-under}
use Rattle.convert.proofs.convert.write_under.Goals as goal

pub returns-in_err-fit : goal.returns-in_err-fit
returns-in_err-fit c =
    let a = c.args in
    let p = c.requires.prepared in
    let e = fits_as_output a.table.now a.taken a.marks.now a.set.now a.columns.now p _ c.requires.whole a.out.now _ c.fit.ensures in
    let refused = refused-wrote _ _ e _ a.out.now _ c.in_err-fit.was
    ∙ written-under a.table.now a.taken a.marks.now a.set.now a.columns.now p (sized a.sum) c.requires.whole a.out.now in
    search rules

pub write_output-last-requires : goal.write_output-last-requires
write_output-last-requires c =
    let a = c.args in
    let p = c.requires.prepared in
    let e = fits_as_output a.table.now a.taken a.marks.now a.set.now a.columns.now p _ c.requires.whole a.out.now _ c.fit.ensures in
    record { prepared = p; fits = accepts_of _ _ e _ c.in_ok-fit.was }

pub returns : goal.returns
returns c =
    let a = c.args in
    let p = c.requires.prepared in
    let e = fits_as_output a.table.now a.taken a.marks.now a.set.now a.columns.now p _ c.requires.whole a.out.now _ c.fit.ensures in
    let ok = accepts_of _ _ e _ c.in_ok-fit.was in
    accepted-wrote _ _ e _ a.out.now _ _ c.in_ok-fit.was
    (reported-is a.table.now a.taken a.marks.now a.set.now a.columns.now p (sized a.sum) c.requires.whole a.out.now _ _ _ ok
    c.write_output-last.ensures.0 (search rules) c.write_output-last.ensures.1)
    ∙ written-under a.table.now a.taken a.marks.now a.set.now a.columns.now p (sized a.sum) c.requires.whole a.out.now
