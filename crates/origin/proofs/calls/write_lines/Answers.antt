-- `origin::calls::write_lines` meets its contract: lines are measured and then written. Assumes nothing.
use borrow.Author.Tests.{not-true, not-false}
use Rattle.origin.proofs.Laws.Shown.{lines-over, again, lines-written}
use Rattle.origin.proofs.calls.write_lines.Goals as goal

pub returns-then-not-measured : goal.returns-then-not-measured
returns-then-not-measured c =
    let a = c.args in
    lines-over a.nodes.now a.set.now a.span a.voices.now _ _ _ _ c.put_lines-measured.ensures
    (not-true c.put_lines-measured.result.fits c.if-not-measured.true)

pub put_lines-requires-clause-tellable : goal.put_lines-requires-clause-tellable
put_lines-requires-clause-tellable c =
    let a = c.args in
    again a.nodes.now a.set.now a.span a.voices.now _ _ _ _ c.put_lines-measured.ensures _ c.requires.tellable

pub returns : goal.returns
returns c =
    let a = c.args in
    lines-written a.nodes.now a.set.now a.span a.voices.now _ _ _ _ c.put_lines-measured.ensures
    (not-false c.put_lines-measured.result.fits c.if-not-measured.false) _ _ _ c.put_lines.ensures
