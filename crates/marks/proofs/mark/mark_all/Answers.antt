-- `marks::mark::mark_all` meets its contract. The loop's invariant: what is left to do gives the marks of all nodes.
-- Assumes nothing.
use mathlib.Core.Path.{◌≡◌, subst}
use Prim.Native.Nat.{ℕ}
use native.Mathlib.Omega.{arith}
use Rattle.marks.proofs.Laws.Passing.{Passing, passing_start, passing_step, passing_end}
use Rattle.marks.proofs.mark.mark_all.Goals as goal

pub loop-i-init : goal.loop-i-init
loop-i-init c =
    passing_start c.args.table.now c.args.marks.now c.requires.zeros (omega (arith, c.requires.size.some)) (omega (arith, c.requires.size.most))

pub loop-i-preserved : goal.loop-i-preserved
loop-i-preserved c =
    passing_step _ _ _ _ _ c.loop-i.invariant (omega arith) (omega arith) c.node_at.ensures c.pass.ensures

pub returns : goal.returns
returns c =
    let done : c.loop-i.i ≡ 0 = omega arith in
    passing_end _ _ (subst (λ (i : ℕ). Passing c.args.table.now i c.loop-i.marks) done c.loop-i.invariant)
