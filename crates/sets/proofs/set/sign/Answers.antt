-- `sets::set::sign` meets its contract: what was marked is wiped out. Assumes nothing.
use mathlib.Core.Path.{◌∙◌}
use Rattle.sets.specs.Inner.Sets.{Ready}
use Rattle.sets.proofs.Laws.Codes.{marked-wiped}
use Rattle.sets.proofs.set.sign.Goals as goal

pub invariant_of-row : goal.invariant_of-row
invariant_of-row c =
    let none = c.args.row.now.empty in
    let ready : Ready c.args.bytes.now c.args.row.now.bits = record { within = c.requires.within; empty = none } in
    record { empty = marked-wiped ready c.args.from _ c.mark-sign.ensures.1 _ c.wipe.ensures ∙ none }
