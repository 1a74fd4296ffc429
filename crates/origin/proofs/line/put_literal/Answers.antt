-- `origin::line::put_literal` meets its contract: the name is looked up, and put behind its sign. Assumes nothing.
use Rattle.origin.proofs.Laws.Spoken.{literal_spoken}
use Rattle.origin.proofs.line.put_literal.Goals as goal

pub returns : goal.returns
returns c =
    let a = c.args in
    literal_spoken a.voices.now a.out.now a.literal.plain a.literal.variable a.pen c.requires _ _ _ _ _ _
    c.lookup-name.ensures c.put_sign-sign.ensures c.put.ensures
