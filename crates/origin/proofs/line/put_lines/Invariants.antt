-- `origin::line::put_lines` meets its contract. The loop's invariant: the lines before clause k are put, and it is known where it stands.
-- Assumes nothing.
use Rattle.origin.specs.Inner.Lines.{lists_of}
use Rattle.origin.proofs.Laws.Lines.{Telling}
use Rattle.origin.proofs.line.put_lines.Given as goal

abbrev pub invariant-loop-k : goal.invariant-loop-k
invariant-loop-k l =
    Telling l.nodes l.marks l.set (lists_of l.initial.voices) l.fn.span l.initial.out l.initial.pen l.voices l.out l.pen l.spot l.k
