-- `tidy::window::Window::scan` meets its contract: every clause of the window that has the slot is looked at. Assumes nothing.
use mathlib.Core.Path.{◌≡◌}
use Rattle.tidy.specs.Inner.Windows.{slot_of}
use Rattle.tidy.proofs.Laws.Scanning.{Scanning}
use Rattle.tidy.proofs.window.Window.scan.Given as goal

abbrev pub invariant-loop-i : goal.invariant-loop-i
invariant-loop-i l = Scanning l.bytes l.spot l.count l.self.places l.self.signs l.initial.firsts l.firsts l.left l.i × (l.here ≡ slot_of l.spot.sign)
