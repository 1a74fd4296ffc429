-- `totals::rows::Columns::child` meets its contract: a node that is neither renamed nor below is none. Assumes nothing.
use borrow.Author.Tests.{le-ltb}
use Rattle.totals.proofs.rows.Columns.child.Goals as goal

pub returns : goal.returns
returns c = rw (← c.is_renamed.ensures, c.if-is_renamed.false, le-ltb _ _ c.if-at-i.false) c.none.ensures
