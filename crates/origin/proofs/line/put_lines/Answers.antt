-- `origin::line::put_lines` meets its contract. The loop's invariant: the lines before clause k are put, and it is known where it stands.
-- Assumes nothing.
use mathlib.Core.Path.{refl}
use native.Mathlib.Omega.{arith}
use Rattle.origin.proofs.Laws.Lines.{telling_start, telling_sought, telling_end, telling_spotted, telling_next}
use Rattle.origin.proofs.Laws.Sources.{some-nodes}
use Rattle.origin.proofs.line.put_lines.Goals as goal

pub overflow_sub-spot : goal.overflow_sub-spot
overflow_sub-spot c = omega (arith, some-nodes _ _ _ _ c.requires.tellable.ground)

pub loop-k-init : goal.loop-k-init
loop-k-init c =
    telling_start _ _ _ _ _ _ _ c.args.voices.now c.requires.tellable refl c.requires.known (omega arith)

pub find-stands-requires : goal.find-stands-requires
find-stands-requires c = telling_sought _ _ _ _ _ _ _ _ _ _ _ _ c.loop-k.invariant (omega arith)

pub put_line-pen-requires : goal.put_line-pen-requires
put_line-pen-requires c =
    telling_spotted _ _ _ _ _ _ _ _ _ _ _ _ c.loop-k.invariant _ c.find-stands.ensures (omega arith) (omega arith)

pub loop-k-preserved : goal.loop-k-preserved
loop-k-preserved c =
    telling_next _ _ _ _ _ _ _ _ _ _ _ _ c.loop-k.invariant _ c.find-stands.ensures (omega arith) (omega arith) _ _ _ c.put_line-pen.ensures

pub returns : goal.returns
returns c = telling_end _ _ _ _ _ _ _ _ _ _ _ _ c.loop-k.invariant (omega arith)
