-- `origin::literal::open` meets its contract: a way is its node's helper, or a step into the node's own list. Assumes nothing.
use mathlib.Core.Path.{refl}
use Rattle.origin.proofs.Laws.Opens.{gone-helper, gone_openable, gone_opened}
use Rattle.origin.proofs.literal.open.Goals as goal

pub returns-then-helper-ne0 : goal.returns-then-helper-ne0
returns-then-helper-ne0 c =
    let a = c.args in gone-helper a.nodes.now a.ways.now a.way c.requires _ c.if-helper-ne0.true refl

pub open_own-requires : goal.open_own-requires
open_own-requires c = let a = c.args in gone_openable a.nodes.now a.ways.now a.way c.requires c.if-helper-ne0.false

pub returns : goal.returns
returns c =
    let a = c.args in
    gone_opened a.nodes.now a.ways.now a.way c.requires c.if-helper-ne0.false _ _ c.open_own.ensures
