-- `origin::literal::open_own` meets its contract, by what the step is made of: no literal, one literal, one way more, or two,
-- the right one below the left one. Assumes nothing.
use Rattle.origin.proofs.Laws.Opens.{open-lead, open-leads, open-child, open-nothing, open-literal, open-one, open-room, open-both}
use Rattle.origin.proofs.literal.open_own.Goals as goal

-- the step may be taken
pub lead-requires-clause-leadable : goal.lead-requires-clause-leadable
lead-requires-clause-leadable c = let a = c.args in open-lead a.nodes.now a.ways.now a.way c.requires

-- there is room for the second way
pub push-requires-in-Both-clause-depth_bound : goal.push-requires-in-Both-clause-depth_bound
push-requires-in-Both-clause-depth_bound c =
    let a = c.args in
    let l = open-leads a.nodes.now a.ways.now a.way c.requires _ _ c.in-Both.ensures c.lead.ensures in
    open-room a.nodes.now a.ways.now a.way c.requires _ l.1 _ c.push.ensures _ l.0

-- what is left
pub returns-in-Nothing : goal.returns-in-Nothing
returns-in-Nothing c =
    let a = c.args in
    open-nothing a.nodes.now a.ways.now a.way c.requires
    (open-leads a.nodes.now a.ways.now a.way c.requires _ _ c.in-Nothing.ensures c.lead.ensures)

pub returns-in-Literal : goal.returns-in-Literal
returns-in-Literal c =
    let a = c.args in
    open-literal a.nodes.now a.ways.now a.way c.requires _
    (open-leads a.nodes.now a.ways.now a.way c.requires _ _ c.in-Literal.ensures c.lead.ensures)

pub returns-in-Left : goal.returns-in-Left
returns-in-Left c =
    let a = c.args in
    let l = open-child a.nodes.now a.ways.now a.way c.requires _ _ _ c.in-Left.is c.unpack.ensures c.lead.ensures in
    open-one a.nodes.now a.ways.now a.way c.requires _ l.0 _ c.push-in-Left.ensures l.1

pub returns-in-Both : goal.returns-in-Both
returns-in-Both c =
    let a = c.args in
    let l = open-leads a.nodes.now a.ways.now a.way c.requires _ _ c.in-Both.ensures c.lead.ensures in
    open-both a.nodes.now a.ways.now a.way c.requires _ l.1 _ c.push.ensures _ l.0 _ c.push-in-Both.ensures l.2
