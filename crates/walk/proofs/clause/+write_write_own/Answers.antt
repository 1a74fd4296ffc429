-- `walk::clause::write` and `walk::clause::write_own` meet their contracts: what is written is the literal of a helper, or the clause of a
-- node's own list, by the step that leads to it. Assumes nothing.
use native.Mathlib.Omega.{arith}
use Rattle.walk.specs.Inner.Steps.{way}
use Rattle.walk.proofs.Laws.Writes.{literal-room, literal-put, due_lead, due_leads, due_child}
use Rattle.walk.proofs.Laws.Writes.{due_one, put_one, due_left, due_right, put_two, put-none}
use Rattle.walk.proofs.clause.+write_write_own.Goals as goal

pub write_own-lead-requires-clause-leadable : goal.write_own-lead-requires-clause-leadable
write_own-lead-requires-clause-leadable t c = let a = c.args in due_lead a.nodes.now (way a.node a.sign a.k) a.out.now a.at c.requires

pub write_own-word-requires : goal.write_own-word-requires
write_own-word-requires t c =
    let a = c.args in
    (due_leads a.nodes.now (way a.node a.sign a.k) a.out.now a.at c.requires _ _ c.in-Literal.ensures c.lead.ensures).0

pub write_own-put-requires : goal.write_own-put-requires
write_own-put-requires t c =
    let a = c.args in
    literal-room _ _ (due_leads a.nodes.now (way a.node a.sign a.k) a.out.now a.at c.requires _ _ c.in-Literal.ensures c.lead.ensures).1
    _ a.at c.requires.fits

pub write_own-write-requires-in-Left : goal.write_own-write-requires-in-Left
write_own-write-requires-in-Left t c =
    let a = c.args in
    let l = due_child a.nodes.now (way a.node a.sign a.k) a.out.now a.at c.requires _ _ _ c.in-Left.is c.unpack.ensures c.lead.ensures in
    (omega (arith, c.decreases, l.0.before), due_one a.nodes.now (way a.node a.sign a.k) a.out.now a.at c.requires _ l.0 l.1)

pub write_own-write-next-requires : goal.write_own-write-next-requires
write_own-write-next-requires t c =
    let a = c.args in
    let l = due_leads a.nodes.now (way a.node a.sign a.k) a.out.now a.at c.requires _ _ c.in-Both.ensures c.lead.ensures in
    (omega (arith, c.decreases, l.0.before), due_left a.nodes.now (way a.node a.sign a.k) a.out.now a.at c.requires _ _ l.0 l.1 l.2)

pub write_own-write-requires : goal.write_own-write-requires
write_own-write-requires t c =
    let a = c.args in
    let l = due_leads a.nodes.now (way a.node a.sign a.k) a.out.now a.at c.requires _ _ c.in-Both.ensures c.lead.ensures in (
      omega (arith, c.decreases, l.1.before),
      due_right a.nodes.now (way a.node a.sign a.k) a.out.now a.at c.requires _ _ l.0 l.1 l.2 _ _ c.write-next.ensures,
    )

pub write_own-returns-in-Nothing : goal.write_own-returns-in-Nothing
write_own-returns-in-Nothing t c =
    let a = c.args in
    put-none a.nodes.now (way a.node a.sign a.k) a.out.now a.at c.requires
    (due_leads a.nodes.now (way a.node a.sign a.k) a.out.now a.at c.requires _ _ c.in-Nothing.ensures c.lead.ensures)

pub write_own-returns-in-Literal : goal.write_own-returns-in-Literal
write_own-returns-in-Literal t c =
    let a = c.args in
    literal-put _ _ (due_leads a.nodes.now (way a.node a.sign a.k) a.out.now a.at c.requires _ _ c.in-Literal.ensures c.lead.ensures).1
    a.out.now a.at _ _ c.word.ensures c.put.ensures

pub write_own-returns-in-Left : goal.write_own-returns-in-Left
write_own-returns-in-Left t c =
    let a = c.args in
    let l = due_child a.nodes.now (way a.node a.sign a.k) a.out.now a.at c.requires _ _ _ c.in-Left.is c.unpack.ensures c.lead.ensures in
    put_one a.nodes.now (way a.node a.sign a.k) a.out.now a.at c.requires _ l.0 l.1 _ _ c.write-in-Left.ensures

pub write_own-returns-in-Both : goal.write_own-returns-in-Both
write_own-returns-in-Both t c =
    let a = c.args in
    let l = due_leads a.nodes.now (way a.node a.sign a.k) a.out.now a.at c.requires _ _ c.in-Both.ensures c.lead.ensures in
    put_two a.nodes.now (way a.node a.sign a.k) a.out.now a.at c.requires _ _ l.0 l.1 l.2 _ _ c.write-next.ensures _ _ c.write.ensures
