-- `tidy::window::Window::note` meets its contract: place, signature and slot of each clause are stored. Assumes nothing.
use Rattle.tidy.proofs.Laws.Noting.{Noting}
use Rattle.tidy.proofs.window.Window.note.Given as goal

abbrev pub invariant-loop-i : goal.invariant-loop-i
invariant-loop-i l = Noting l.bytes l.place l.count l.seed l.self.places l.self.signs l.slots l.at l.i
