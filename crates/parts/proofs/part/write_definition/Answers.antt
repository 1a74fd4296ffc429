-- `parts::part::write_definition` meets its contract: the half down, then the half up. Assumes nothing.
use mathlib.Core.Path.{ap, ◌∙◌}
use Rattle.marks.specs.Marks.{halves_of}
use Rattle.parts.proofs.Laws.Loops.{due_down, due_up, put_defined}
use Rattle.parts.proofs.part.write_definition.Goals as goal

pub write_part-next-requires : goal.write_part-next-requires
write_part-next-requires c =
    let a = c.args in
    due_down a.nodes.now a.marks.now a.node a.out.now a.at c.requires c.if-nodes-node-eq0.false _
    (c.halves_of-halves.ensures ∙ ap halves_of c.read.ensures)

pub write_part-requires : goal.write_part-requires
write_part-requires c =
    let a = c.args in
    due_up a.nodes.now a.marks.now a.node a.out.now a.at c.requires c.if-nodes-node-eq0.false _
    (c.halves_of-halves.ensures ∙ ap halves_of c.read.ensures) _ _ c.write_part-next.ensures

pub returns : goal.returns
returns c =
    let a = c.args in
    put_defined a.nodes.now a.marks.now a.node a.out.now a.at c.requires c.if-nodes-node-eq0.false _
    (c.halves_of-halves.ensures ∙ ap halves_of c.read.ensures) _ _ c.write_part-next.ensures _ _ c.write_part.ensures
