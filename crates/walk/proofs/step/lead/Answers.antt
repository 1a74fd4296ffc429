-- `walk::step::lead` meets its contract: every step has its number. Assumes nothing.
use mathlib.Core.Path.{subst⁻¹}
use Rattle.formula.specs.Tables.{node_at}
use Rattle.walk.specs.Inner.Packed.{Made}
use Rattle.walk.proofs.Laws.Packed.{made_lead, led}
use Rattle.walk.proofs.step.lead.Goals as goal

pub pack-requires : goal.pack-requires
pack-requires c =
    let nodes = c.args.nodes.now in
    let a = c.args in
    subst⁻¹ Made c.lead_step.ensures
    (made_lead nodes.columns.now.clauses nodes.helpers.now (node_at nodes.table.now a.node) nodes.columns.now.literals a.node a.k a.sign
    c.requires.leadable.walkable c.requires.k_bound)

pub returns : goal.returns
returns c =
    let nodes = c.args.nodes.now in
    let a = c.args in
    led _ _ _ c.lead_step.ensures c.pack.ensures
    (made_lead nodes.columns.now.clauses nodes.helpers.now (node_at nodes.table.now a.node) nodes.columns.now.literals a.node a.k a.sign
    c.requires.leadable.walkable c.requires.k_bound)
