-- `tidy::window::is_found` meets its contract: signatures that differ are those of other sets. Assumes nothing.
use mathlib.Core.Path.{sym, ◌∙◌}
use borrow.Author.Tests.{ne_eqb}
use Rattle.sets.specs.Inner.Sets.{clause_from}
use Rattle.tidy.proofs.Laws.Windows.{signs_apart}
use Rattle.tidy.proofs.window.is_found.Goals as goal

pub returns-else-sign-spot : goal.returns-else-sign-spot
returns-else-sign-spot c =
    let x = c.args in
    let p = c.requires in
    ne_eqb x.sign x.spot.sign c.if-sign-spot.false
    ∙ sym (signs_apart p.seed (clause_from x.bytes.now x.place) (clause_from x.bytes.now x.spot.place) x.sign x.spot.sign
    p.sign_is p.spot_is c.if-sign-spot.false)
