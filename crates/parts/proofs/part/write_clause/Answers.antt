-- `parts::part::write_clause` meets its contract: four runs of bytes. Assumes nothing.
use Rattle.parts.proofs.Laws.Parts.{due_own, fits-behind, room-zero, put-closed}
use Rattle.parts.proofs.part.write_clause.Goals as goal

pub write_own-second-requires : goal.write_own-second-requires
write_own-second-requires c =
    let a = c.args in due_own a.nodes.now a.way a.out.now a.at c.requires _ _ c.put_helper-first.ensures

pub put_helper-third-requires : goal.put_helper-third-requires
put_helper-third-requires c =
    let a = c.args in
    fits-behind a.nodes.now a.way a.out.now a.at c.requires _ _ c.put_helper-first.ensures _ _ c.write_own-second.ensures

pub put-requires : goal.put-requires
put-requires c =
    let a = c.args in
    room-zero a.nodes.now a.way a.out.now a.at c.requires _ _ c.put_helper-first.ensures _ _ c.write_own-second.ensures
    _ _ c.put_helper-third.ensures

pub returns : goal.returns
returns c =
    let a = c.args in
    put-closed a.nodes.now a.way a.out.now a.at c.requires _ _ c.put_helper-first.ensures _ _ c.write_own-second.ensures
    _ _ c.put_helper-third.ensures _ c.put.ensures
