-- `parts::part::write_parts` meets its contract: the root part, then the definitions. Assumes nothing.
use Rattle.parts.proofs.Laws.Loops.{due_root, due_rest, put_all}
use Rattle.parts.proofs.part.write_parts.Goals as goal

pub write_part-next-requires : goal.write_part-next-requires
write_part-next-requires c = let a = c.args in due_root a.nodes.now a.marks.now a.out.now c.requires

pub write_definitions-requires : goal.write_definitions-requires
write_definitions-requires c =
    let a = c.args in
    due_rest a.nodes.now a.marks.now a.out.now c.requires _ _ c.write_part-next.ensures

pub returns : goal.returns
returns c =
    let a = c.args in
    put_all a.nodes.now a.marks.now a.out.now c.requires _ _ c.write_part-next.ensures _ _ c.write_definitions.ensures
