-- `tidy::window::search` meets its contract: every clause up to the end of the window is looked for. Assumes nothing.
use Prim.Native.Nat.{◌*◌, ◌≤◌}
use Rattle.tidy.specs.Inner.Windows.{most}
use Rattle.tidy.proofs.Laws.Searching.{Searching}
use Rattle.tidy.proofs.window.search.Given as goal

abbrev pub invariant-loop-j : goal.invariant-loop-j
invariant-loop-j l = Searching l.bytes l.start l.count l.window.signs l.firsts l.slots l.at l.j × (l.misses ≤ most * l.j)
