-- `tidy::window::Window::scan` meets its contract: every clause of the window that has the slot is looked at. Assumes nothing.
use mathlib.Core.Path.{◌≡◌, refl, sym, ap, ◌∙◌, subst⁻¹}
use mathlib.Core.Bool.{Bool, true, false, cond}
use Prim.Native.Nat.{ℕ, ◌<◌, ◌≤◌}
use native.Mathlib.Omega.{arith}
use lib.Dec.{eqb}
use Rattle.bits.specs.Inner.Rows.{has_bit, row_to}
use Rattle.tidy.specs.Inner.Windows.{most, none, Slotted, Open}
use Rattle.tidy.proofs.Laws.Scanning.{unslotted, scanning_other, scanning_looked}
use Rattle.tidy.proofs.Laws.Scanning.{scanning_end, slots_less}
use Rattle.tidy.proofs.window.Window.scan.Goals as goal
use Rattle.tidy.proofs.window.Window.scan.Goals.{After-loop-i, After-put, In-loop-i, else-slot-here, then-slot-here}

-- what a test adds
counted : (b : Bool) → mir.Val.bool_byte b ≡ cond b 1 0
counted true = refl
counted false = refl

-- the slot is not there
pub returns-then-not-has : goal.returns-then-not-has
returns-then-not-has c =
    let bit = c.has.ensures ∙ ap (has_bit c.args.slots.now) c.slot-here.ensures in
    (unslotted c.requires (sym bit ∙ c.if-not-has.true), omega arith)

-- the number of a clause is below the entries of the arrays
below : (c : In-loop-i) → c.loop-i.i < 1_024
below c = omega (arith, c.requires.signed.few, c.loop-i-test.true)

-- a clause with another slot is passed over, and one with the slot is looked at
pub loop-i-preserved : goal.loop-i-preserved
loop-i-preserved c =
    let given = c.requires in
    let l = c.loop-i in
    let inside = c.loop-i-test.true in
    elim c.if-slot-here.branch [
      | then-slot-here w ↦ rw (w.firsts-is, w.left-is)
          (scanning_looked given l.invariant.0 inside _ w.first_after-first.ensures _ (w.from-left.ensures ∙ counted (eqb w.first_after-first.result none)), l.invariant.1)
      | else-slot-here w ↦ rw (w.firsts-is, w.left-is)
          (scanning_other given l.invariant.0 inside (λ q. w.if-slot-here.false (c.slot.ensures ∙ q ∙ sym l.invariant.1)), l.invariant.1)
    ]

-- no clause without a number has the slot: it is taken out
taken_out : (c : After-put)
    → let x = c.args in
    Slotted x.count (Open c.loop-i.firsts) x.self.now.signs c.put.new.row
taken_out c =
    let x = c.args in
    let l = c.loop-i in
    subst⁻¹ (Slotted x.count (Open l.firsts) x.self.now.signs)
    (c.put.ensures ∙ ap (λ (n : ℕ). row_to x.slots.now n false) l.invariant.1)
    (slots_less c.requires l.invariant.0 c.loop-i-test.false c.if-left-eq0.true)

-- no more clauses are left than the window has
few-left : (c : After-loop-i) → c.loop-i.left ≤ most
few-left c =
    let l = c.loop-i.invariant.0 in
    omega (arith, l.few, l.within, c.requires.signed.few)

pub returns-then-left-eq0 : goal.returns-then-left-eq0
returns-then-left-eq0 c =
    (scanning_end c.requires c.loop-i.invariant.0 c.loop-i-test.false _ (taken_out (goal.at.returns-then-left-eq0 c).After-put), few-left (goal.at.returns-then-left-eq0 c).After-loop-i)
