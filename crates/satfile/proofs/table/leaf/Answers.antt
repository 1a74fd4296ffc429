-- `satfile::table::leaf` meets its contract: a symbol, and a not behind it. Assumes nothing.
use Rattle.satfile.proofs.Laws.Stores.{adds-symbol, adds-negated}
use Rattle.satfile.proofs.table.leaf.Goals as goal

pub returns-then-not-negated : goal.returns-then-not-negated
returns-then-not-negated c =
    let a = c.args in
    adds-symbol a.value a.next c.put.ensures a.negated c.if-not-negated.true

pub returns : goal.returns
returns c =
    let a = c.args in
    adds-negated a.value a.next c.put.ensures a.negated c.if-not-negated.false
    c.put-2.ensures
