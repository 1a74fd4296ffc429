-- `sets::set::some_of` meets its contract: b is marked, a is looked up, and b is wiped out. Assumes nothing.
use mathlib.Core.Path.{◌∙◌}
use Rattle.sets.specs.Inner.Sets.{clause_from, Ready}
use Rattle.sets.proofs.Laws.Codes.{marked-some, marked-wiped}
use Rattle.sets.proofs.set.some_of.Goals as goal

pub invariant_of-row : goal.invariant_of-row
invariant_of-row c =
    let none = c.args.row.now.empty in
    let ready : Ready c.args.bytes.now c.args.row.now.bits = record { within = c.requires; empty = none } in
    record { empty = marked-wiped ready c.args.b _ c.mark.ensures.1 _ c.wipe.ensures ∙ none }

pub returns : goal.returns
returns c =
    let x = c.args in
    let ready : Ready c.args.bytes.now c.args.row.now.bits = record { within = c.requires; empty = x.row.now.empty } in
    c.some_is-some.ensures ∙ marked-some ready x.b _ c.mark.ensures.1 x.turned (clause_from x.bytes.now x.a)
