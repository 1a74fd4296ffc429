-- `origin::line::put_clause` meets its contract: the helper's literal in front, the node's own list, and the helper's behind.
-- Assumes nothing.
use Rattle.origin.proofs.Laws.Clauses.{front_voiced, own-voiced, behind-voiced, clause_spoken}
use Rattle.origin.proofs.line.put_clause.Goals as goal

pub put_helper-front-requires : goal.put_helper-front-requires
put_helper-front-requires c =
    let a = c.args in front_voiced a.nodes.now a.voices.now a.out.now a.spot a.pen c.requires _ c.is_positive.ensures

pub put_own-own-requires-clause-voiced : goal.put_own-own-requires-clause-voiced
put_own-own-requires-clause-voiced c =
    let a = c.args in
    own-voiced a.nodes.now a.voices.now a.out.now a.spot a.pen c.requires _ c.is_positive.ensures _ _ _ c.put_helper-front.ensures

pub put_helper-requires : goal.put_helper-requires
put_helper-requires c =
    let a = c.args in
    behind-voiced a.nodes.now a.voices.now a.out.now a.spot a.pen c.requires _ c.is_positive.ensures _ _ _ c.put_helper-front.ensures
    _ _ _ c.put_own-own.ensures

pub returns : goal.returns
returns c =
    let a = c.args in
    clause_spoken a.nodes.now a.voices.now a.out.now a.spot a.pen c.requires _ c.is_positive.ensures _ _ _ c.put_helper-front.ensures
    _ _ _ c.put_own-own.ensures _ _ _ c.put_helper.ensures
