-- `nodefile::read` meets its contract: behind the option line each turn passes a right line and collects its record.
-- Assumes nothing.
use mathlib.Core.Path.{◌≡◌, refl, ap, ◌∙◌}
use mathlib.Core.Bool.{true}
use Prim.Native.Nat.{◌+◌, ◌*◌, ◌≤◌, ◌<◌}
use native.Mathlib.Omega.{arith}
use lib.ListN.{length, take}
use Rattle.laws.specs.Lists.{splice}
use Rattle.formula.specs.Tables.{node_bytes, most_nodes}
use Rattle.nodefile.specs.Files.{option_line, file_right, file_nodes, most_bytes}
use Rattle.nodefile.specs.Inner.Steps.{NodeIs, node_test}
use Rattle.nodefile.proofs.Laws.Files.{standing-start, options-standing, refused-here, right_end, node-tested}
use Rattle.nodefile.proofs.Laws.Files.{node-standing, node_record_lem, node-few, collected_start, collected_more}
use Rattle.nodefile.proofs.Laws.Files.{length_records}
use Rattle.nodefile.proofs.Laws.Answers.{file-refused, file-no-room, file-stored}
use Rattle.nodefile.proofs.read.Goals.{After-loop-at, At-loop-at, In-Some-node_at}
use Rattle.nodefile.proofs.read.Goals as goal

-- the text is not too long
short-of : (c : At-loop-at) → length c.args.text.now ≤ most_bytes
short-of c =
    c.if-text-gt-MOST_BYTES.false

-- the option line is wrong or missing
pub returns-in_default : goal.returns-in_default
returns-in_default c =
    let x = c.args in
    let text = x.text.now in
    let refused = refused-here text (standing-start text) option_line refl c.in_default.ensures (λ h. absurd (omega arith)) in
    file-refused text x.table.now c.if-text-gt-MOST_BYTES.false refused 1 refl

-- behind the option line
pub loop-at-init : goal.loop-at-init
loop-at-init c =
    let text = c.args.text.now in
    let found = c.in-Some.ensures in
    let s = options-standing text found in
    (found.found.within, omega arith, s.0, s.1, collected_start text _ refl)

-- a node line is wrong, or not ended
pub returns-in_default-node_at : goal.returns-in_default-node_at
returns-in_default-node_at c =
    let l = c.loop-at in
    let x = c.args in
    let text = x.text.now in
    let refused = refused-here text l.invariant.3 (node_test l.nodes) (node-tested text l.nodes) c.in_default-node_at.ensures
    (λ h. c.loop-at-test.true) in
    file-refused text x.table.now (short-of (goal.at.returns-in_default-node_at c).At-loop-at) refused (l.nodes + 2) (omega arith)

-- the node of a line
node-found : (c : In-Some-node_at)
    →
    let l = c.loop-at in
    let n = c.in-Some-node_at.line in
    NodeIs c.args.text.now l.at l.nodes n.says.kind n.says.a n.says.b n.next
node-found c = c.in-Some-node_at.ensures

-- there are few enough
few : (c : In-Some-node_at) → c.loop-at.nodes < most_nodes
few c =
    node-few c.args.text.now c.loop-at.invariant.3 (node-found c)

-- the array has its size
sized : (c : In-Some-node_at)
    → length c.loop-at.bytes ≡ node_bytes * most_nodes
sized c =
    c.loop-at.invariant.4.size

pub loop-at-preserved : goal.loop-at-preserved
loop-at-preserved c =
    let l = c.loop-at in
    let text = c.args.text.now in
    let n = node-found (goal.at.loop-at-preserved c).In-Some-node_at in (
      n.found.within,
      omega (arith, few (goal.at.loop-at-preserved c).In-Some-node_at),
      l.invariant.2,
      node-standing text l.invariant.3 n,
      collected_more l.invariant.4 (few (goal.at.loop-at-preserved c).In-Some-node_at) _ _ _ _ (node_record_lem text l.invariant.3 n) c.put_node.ensures,
    )

-- the whole file is right
right : (c : After-loop-at)
    → let l = c.loop-at in let text = c.args.text.now in
    (file_right text ≡ true) × (file_nodes text ≡ l.nodes)
right c = right_end c.args.text.now c.loop-at.invariant.3 c.loop-at-test.false

pub returns-then-table-size : goal.returns-then-table-size
returns-then-table-size c =
    let l = c.loop-at in
    let x = c.args in
    let r = right (goal.at.returns-then-table-size c).After-loop-at in
    file-no-room x.text.now x.table.now (short-of (goal.at.returns-then-table-size c).At-loop-at) r.0 _ l.nodes l.invariant.2 r.1 c.if-table-size.true

-- the bytes that are copied
copied : (c : At-loop-at)
    → length (take (node_bytes * c.loop-at.nodes) c.loop-at.bytes) ≡ node_bytes * c.loop-at.nodes
copied c = ap length c.loop-at.invariant.4.front ∙ length_records c.args.text.now c.loop-at.nodes

pub returns : goal.returns
returns c =
    let l = c.loop-at in
    let x = c.args in
    let r = right (goal.at.returns c).After-loop-at in
    file-stored x.text.now x.table.now (short-of (goal.at.returns c).At-loop-at) r.0 _ l.nodes l.invariant.2 r.1 _ c.if-table-size.false
    (c.put_bytes.ensures.list ∙ ap (splice x.table.now 0) l.invariant.4.front)
