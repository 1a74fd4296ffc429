-- `kept::clause::put_literal` meets its contract: a line is told, or a word is put. Assumes nothing.
use Rattle.kept.proofs.Laws.Pens.{new_drawn}
use Rattle.kept.proofs.clause.put_literal.Goals as goal

pub returns : goal.returns
returns c =
    new_drawn _ _ _ _ _ c.args.seen c.if-seen.false c.requires c.put_word.ensures
