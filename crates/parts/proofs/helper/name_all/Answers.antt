-- `parts::helper::name_all` meets its contract. The loop's invariant: the nodes below i have their helpers. Assumes nothing.
use mathlib.Core.Path.{sym, ◌∙◌}
use native.Mathlib.Omega.{arith}
use Rattle.parts.proofs.Laws.Helpers.{naming_start, naming_fits, naming_named, naming_plain}
use Rattle.parts.proofs.helper.name_all.Goals.{then-is_renamed, else-is_renamed}
use Rattle.parts.proofs.helper.name_all.Goals as goal

pub loop-i-init : goal.loop-i-init
loop-i-init c = naming_start _ _ _ c.requires

pub overflow_add-last : goal.overflow_add-last
overflow_add-last c =
    omega (arith, naming_fits _ _ _ _ _ _ c.loop-i.invariant (omega arith), c.requires.most, c.requires.few)

pub loop-i-preserved : goal.loop-i-preserved
loop-i-preserved c =
    elim c.if-is_renamed.branch [
      | then-is_renamed w ↦
          let named = naming_named _ _ _ _ _ _ c.loop-i.invariant c.loop-i-test.true (sym c.is_renamed.ensures ∙ w.if-is_renamed.true) in
          rw (w.helpers-is, w.last-is) named
      | else-is_renamed w ↦
          let plain = naming_plain _ _ _ _ _ _ c.loop-i.invariant c.loop-i-test.true (sym c.is_renamed.ensures ∙ w.if-is_renamed.false) in
          rw (w.helpers-is, w.last-is) plain
    ]
