-- `tidy::window::Window::note` meets its contract: place, signature and slot of each clause are stored. Assumes nothing.
use mathlib.Core.Path.{ap, ◌∙◌}
use mathlib.Core.Bool.{true}
use Prim.Native.Nat.{ℕ, ◌+◌, ◌<◌}
use native.Mathlib.Omega.{arith}
use lib.ListN.{set}
use Rattle.bits.specs.Inner.Rows.{row_to}
use Rattle.tidy.proofs.Laws.Noting.{Noting, noting_start, noting_next}
use Rattle.tidy.proofs.window.Window.note.Goals.{After-end_of-at, In-loop-i}
use Rattle.tidy.proofs.window.Window.note.Goals as goal

pub loop-i-init : goal.loop-i-init
loop-i-init c =
    let x = c.args in
    let p = c.requires in
    noting_start x.bytes.now x.place x.count x.seed x.self.now.places x.self.now.signs x.slots.now p.start p.places_size p.signs_size
    p.slots_empty

-- the number of a clause is below the entries of both arrays
below : (c : In-loop-i) → c.loop-i.i < 1_024
below c = omega (arith, c.requires.few, c.loop-i-test.true)

-- one clause more
more : (c : After-end_of-at)
    → let x = c.args in
    Noting x.bytes.now x.place x.count x.seed (set c.loop-i.self.places c.loop-i.i c.loop-i.at)
    (set c.loop-i.self.signs c.loop-i.i c.sign-sign.result) c.put.new.row (c.end_of-at.result + 1) (c.loop-i.i + 1)
more c =
    let row = c.put.ensures ∙ ap (λ (n : ℕ). row_to c.loop-i.slots n true) c.slot.ensures in
    noting_next c.loop-i.invariant c.requires.few c.loop-i-test.true c.sign-sign.result c.sign-sign.ensures
    c.requires.long c.put.new.row row c.end_of-at.result c.end_of-at.ensures

pub overflow_add-at : goal.overflow_add-at
overflow_add-at c = record { fits = omega (arith, (more c).low, below (goal.at.overflow_add-at c).In-loop-i) }

pub loop-i-preserved : goal.loop-i-preserved
loop-i-preserved c =
    more c
