-- `nodefile::line::node_of` meets its contract: four numbers, each up to its limit, no field more, and the number of
-- this node. Assumes nothing.
use mathlib.Core.Path.{◌∙◌}
use mathlib.Core.List.{[], ◌∷◌}
use Rattle.text.proofs.Laws.Pieces.{FieldIs, field_told}
use Rattle.nodefile.specs.Files.{tab, most_number, most_kind}
use Rattle.nodefile.proofs.Laws.Nodes.{Left, left-start, left-next, node-number, node-more, node-other, node-right}
use Rattle.nodefile.proofs.line.node_of.Goals.{In_ok-number, In_ok-kind, In_ok-a, In_ok-b}
use Rattle.nodefile.proofs.line.node_of.Goals as goal

-- what was read there
number_read : (c : In_ok-number) → let n = c.in_ok-number.number in FieldIs tab most_number c.args.line.now 0 n.value n.next
number_read c = field_told tab most_number c.args.line.now 0 c.number_at.ensures c.in_ok-number.was

kind-read : (c : In_ok-kind) → let k = c.in_ok-kind.kind in FieldIs tab most_kind c.args.line.now c.in_ok-number.number.next k.value k.next
kind-read c = field_told tab most_kind c.args.line.now _ c.number_at-2.ensures c.in_ok-kind.was

a_read : (c : In_ok-a) → let a = c.in_ok-a.a in FieldIs tab most_number c.args.line.now c.in_ok-kind.kind.next a.value a.next
a_read c = field_told tab most_number c.args.line.now _ c.number_at-3.ensures c.in_ok-a.was

b-read : (c : In_ok-b) → let b = c.in_ok-b.b in FieldIs tab most_number c.args.line.now c.in_ok-a.a.next b.value b.next
b-read c = field_told tab most_number c.args.line.now _ c.number_at-4.ensures c.in_ok-b.was

-- what is left to decide there
left-number : (c : In_ok-number) → Left c.args.line.now (most_kind ∷ most_number ∷ most_number ∷ []) c.in_ok-number.number.next
left-number c = left-next c.args.line.now (left-start c.args.line.now) (number_read c)

left-kind : (c : In_ok-kind) → Left c.args.line.now (most_number ∷ most_number ∷ []) c.in_ok-kind.kind.next
left-kind c = left-next c.args.line.now (left-number (goal.at.In_ok-kind c).In_ok-number) (kind-read c)

left-a : (c : In_ok-a) → Left c.args.line.now (most_number ∷ []) c.in_ok-a.a.next
left-a c = left-next c.args.line.now (left-kind (goal.at.In_ok-a c).In_ok-kind) (a_read c)

left-b : (c : In_ok-b) → Left c.args.line.now [] c.in_ok-b.b.next
left-b c = left-next c.args.line.now (left-a (goal.at.In_ok-b c).In_ok-a) (b-read c)

-- a field that is missing or wrong
pub returns-in_err-number : goal.returns-in_err-number
returns-in_err-number c =
    let line = c.args.line.now in
    c.from_residual.ensures
    ∙ node-number c.args.node line (left-start line) (field_told tab most_number line 0 c.number_at.ensures c.in_err-number.was)

pub returns-in_err-kind : goal.returns-in_err-kind
returns-in_err-kind c =
    let line = c.args.line.now in
    c.from_residual-in_err-kind.ensures
    ∙ node-number c.args.node line (left-number (goal.at.returns-in_err-kind c).In_ok-number)
    (field_told tab most_kind line _ c.number_at-2.ensures c.in_err-kind.was)

pub returns-in_err-a : goal.returns-in_err-a
returns-in_err-a c =
    let line = c.args.line.now in
    c.from_residual-in_err-a.ensures
    ∙ node-number c.args.node line (left-kind (goal.at.returns-in_err-a c).In_ok-kind)
    (field_told tab most_number line _ c.number_at-3.ensures c.in_err-a.was)

pub returns-in_err-b : goal.returns-in_err-b
returns-in_err-b c =
    let line = c.args.line.now in
    c.from_residual-in_err-b.ensures
    ∙ node-number c.args.node line (left-a (goal.at.returns-in_err-b c).In_ok-a)
    (field_told tab most_number line _ c.number_at-4.ensures c.in_err-b.was)

-- a field more
pub returns-then-b-line : goal.returns-then-b-line
returns-then-b-line c =
    node-more c.args.node c.args.line.now (left-b (goal.at.returns-then-b-line c).In_ok-b) c.if-b-line.true

-- the line of another node
pub returns-then-number-node : goal.returns-then-number-node
returns-then-number-node c =
    let at = goal.at.returns-then-number-node c in
    node-other c.args.node c.args.line.now (number_read at.In_ok-number) (kind-read at.In_ok-kind) (a_read at.In_ok-a) (b-read at.In_ok-b)
    c.if-b-line.false c.if-number-node.true

pub returns : goal.returns
returns c =
    let at = goal.at.returns c in
    node-right c.args.node c.args.line.now (number_read at.In_ok-number) (kind-read at.In_ok-kind) (a_read at.In_ok-a) (b-read at.In_ok-b)
    c.if-b-line.false c.if-number-node.false
