-- `choose::pass::choose` meets its contract: the table is checked first. Assumes nothing.
use mathlib.Core.Path.{◌∙◌}
use Rattle.answer.proofs.Laws.Order.{accepts_of, accepted-wrote}
use Rattle.formula.specs.Tables.{nodes_of}
use Rattle.formula.proofs.Laws.WellFormed.{length-right, checked-accepted, accepted_well_formed}
use Rattle.choose.proofs.Laws.Told.{chosen-options}
use Rattle.choose.proofs.pass.choose.Goals as goal

pub choose_under-requires : goal.choose_under-requires
choose_under-requires c =
    let t = c.args.table.now in
    let v = c.args.options in
    let e = accepts_of _ _ c.check.ensures _ c.in_ok-check.was in
    record { size = length-right t v e; below = (accepted_well_formed t v 0 0 (checked-accepted t v e)).below }

pub returns : goal.returns
returns c =
    accepted-wrote _ _ c.check.ensures _ c.args.set.now _ _ c.in_ok-check.was
    (c.choose_under.ensures ∙ chosen-options 0 c.args.options (nodes_of c.args.table.now) c.args.allowance c.args.set.now)
