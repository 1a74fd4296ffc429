-- `origin::literal::first` meets its contract: one step into the node's own list, with no way that waits, and then the ways
-- that it leaves. Assumes nothing.
use mathlib.Core.Path.{◌∙◌}
use Rattle.origin.proofs.Laws.Firsts.{first_found, first_as, start-alone}
use Rattle.origin.proofs.literal.first.Goals as goal

-- the step found the literal
pub returns-in-Some : goal.returns-in-Some
returns-in-Some c =
    let a = c.args in
    first_found _ _ _ _ _ _ (start-alone a.nodes.now _ a.ways.now c.requires.none) c.in-Some.ensures

-- a later one does
pub returns : goal.returns
returns c =
    let a = c.args in
    first_as a.nodes.now _ _ _ _ (start-alone a.nodes.now _ a.ways.now c.requires.none ∙ c.in_default.ensures.clause) c.next.ensures
