-- `names::list::is_right` meets its contract: the names so far are right, and the list is right if what is left of it is.
-- The measure is the number of names that are left. Assumes nothing.
use mathlib.Core.Path.{◌≡◌}
use native.Mathlib.Omega.{arith}
use Rattle.names.proofs.Laws.Checks.{wrong-tab, checked-start, wrong-empty, wrong-open, checked-next, checked-end}
use Rattle.names.proofs.list.is_right.Goals.{then-end-at-via-then-end-at, then-end-at-via-else-end-at+then-end-list}
use Rattle.names.proofs.list.is_right.Goals as goal

-- a tab
pub returns-then-find-list : goal.returns-then-find-list
returns-then-find-list c = let m = c.find.ensures in wrong-tab _ _ m (omega (arith, m.within))

pub loop-i-init : goal.loop-i-init
loop-i-init c = checked-start _ _ c.find.ensures (omega arith)

-- an empty name, or no newline
pub returns-then-end-at : goal.returns-then-end-at
returns-then-end-at c =
    let m = c.find-end.ensures in
    elim c.then-end-at.branch [
      | then-end-at-via-then-end-at w ↦ wrong-empty c.loop-i.invariant c.loop-i-test.true m w.if-end-at.true
      | then-end-at-via-else-end-at+then-end-list w ↦ wrong-open c.loop-i.invariant c.loop-i-test.true m w.if-end-list.true
    ]

pub loop-i-preserved : goal.loop-i-preserved
loop-i-preserved c =
    let m = c.find-end.ensures in
    let some : c.find-end.result ≡ c.loop-i.at → ⊥ = λ e. omega (arith, m.behind) in
    checked-next c.loop-i.invariant c.loop-i-test.true m some (λ e. omega (arith, m.within))

pub returns : goal.returns
returns c =
    checked-end c.loop-i.invariant (omega arith)
