-- `nodefile::line::node_at` meets its contract: the line ends at the next newline. Assumes nothing.
use mathlib.Core.Path.{sym, ◌∙◌, subst⁻¹}
use native.Mathlib.Omega.{arith}
use Rattle.nodefile.specs.Inner.Steps.{node_test, NodeFound}
use Rattle.nodefile.proofs.Laws.Lines.{next-open, node_fails, node-is}
use Rattle.nodefile.proofs.line.node_at.Goals as goal

-- no newline
pub returns-then-end-text : goal.returns-then-end-text
returns-then-end-text c =
    let x = c.args in
    next-open (node_test x.node) x.text.now x.at c.find-end.result c.find-end.ensures c.if-end-text.true

-- a wrong line
pub returns-in_err-says : goal.returns-in_err-says
returns-in_err-says c =
    let x = c.args in
    subst⁻¹ (NodeFound x.text.now x.at x.node) c.from_residual.ensures
    (node_fails x.text.now x.at c.find-end.result x.node c.find-end.ensures
    c.if-end-text.false (omega arith) (sym c.in_err-says.was ∙ c.node_of.ensures))

pub returns : goal.returns
returns c =
    let x = c.args in
    node-is x.text.now x.at c.find-end.result x.node c.find-end.ensures
    c.if-end-text.false (omega arith) _ (sym c.in_ok-says.was ∙ c.node_of.ensures)
