-- `program::table_size` meets its contract: every node counts. Assumes nothing.
use borrow.Author.Rules.{rules}
use Rattle.program.proofs.table_size.Goals as goal

pub returns : goal.returns
returns c = search rules
