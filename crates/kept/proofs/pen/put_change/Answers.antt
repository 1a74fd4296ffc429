-- `kept::pen::put_change` meets its contract: one line more, which is not longer than any. Assumes nothing.
use native.Mathlib.Omega.{arith}
use Rattle.kept.proofs.Laws.Lines.{line_puttable, line-told}
use Rattle.kept.proofs.pen.put_change.Goals as goal

pub put_line-requires : goal.put_line-requires
put_line-requires c =
    let a = c.args in
    line_puttable a.clause a.cause a.number (omega arith) (omega arith) a.lines.now a.pen c.requires

pub returns : goal.returns
returns c =
    let a = c.args in
    line-told a.clause a.cause a.number (omega arith) (omega arith) a.lines.now a.pen c.requires
    c.put_line.ensures
