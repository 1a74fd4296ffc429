-- `marks::set::may_rename` meets its contract: the three tests of the rule, in its order. Assumes nothing.
use mathlib.Core.Path.{sym, ap, ◌∙◌}
use Rattle.formula.specs.declared.node.Node.{Node}
use Rattle.marks.specs.Sets.{operator, reached}
use Rattle.marks.proofs.Laws.Held.{may_rename_at}
use Rattle.marks.proofs.set.may_rename.Goals.{then-is_operator, else-is_operator}
use Rattle.marks.proofs.set.may_rename.Goals as goal

pub returns-then-is_reached : goal.returns-then-is_reached
returns-then-is_reached c =
    let rule = may_rename_at _ _ _ c.requires in
    let kind = c.is_operator.ensures ∙ ap (λ (n : Node). operator n.kind) c.node_at.ensures in
    elim c.if-is_operator.branch [
      | then-is_operator w ↦
          let mark = w.is_reached.ensures ∙ ap reached w.read.ensures in
          rw (← kind, w.if-is_operator.true, ← mark, sym w.value-is ∙ c.if-is_reached.true) at rule
      | else-is_operator w ↦ cc
    ]

pub returns-else-is_reached : goal.returns-else-is_reached
returns-else-is_reached c =
    let rule = may_rename_at _ _ _ c.requires in
    let kind = c.is_operator.ensures ∙ ap (λ (n : Node). operator n.kind) c.node_at.ensures in
    c.if-is_reached.false ∙ elim c.if-is_operator.branch [
      | then-is_operator w ↦
          let mark = w.is_reached.ensures ∙ ap reached w.read.ensures in
          rw (← kind, w.if-is_operator.true, ← mark, sym w.value-is ∙ c.if-is_reached.false) at rule
      | else-is_operator w ↦ rw (← kind, w.if-is_operator.false) at rule
    ]
