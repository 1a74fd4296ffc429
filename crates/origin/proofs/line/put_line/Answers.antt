-- `origin::line::put_line` meets its contract: the first fields, the names, and a newline. Assumes nothing.
use Rattle.origin.proofs.Laws.Lines.{line_spoken}
use Rattle.origin.proofs.line.put_line.Goals as goal

pub returns : goal.returns
returns c =
    let a = c.args in
    line_spoken a.nodes.now a.voices.now a.out.now a.spot a.pen c.requires a.k _ _ c.put_source-source.ensures
    _ _ _ _ _ c.put_clause-names.ensures c.put.ensures
