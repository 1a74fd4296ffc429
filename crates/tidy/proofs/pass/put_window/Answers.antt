-- `tidy::pass::put_window` meets its contract: clause after clause is put, each at its place and by its first clause.
-- Assumes nothing.
use Prim.Native.Nat.{◌+◌, ◌<◌}
use native.Mathlib.Omega.{arith}
use Rattle.clausebytes.specs.Words.{most_clauses}
use Rattle.tidy.proofs.Laws.Places.{place-low}
use Rattle.tidy.proofs.Laws.Passing.{passing_start, passing_room, passing_next}
use Rattle.tidy.proofs.pass.put_window.Goals.{In-loop-i}
use Rattle.tidy.proofs.pass.put_window.Goals as goal

-- the number of a clause is small
few : (c : In-loop-i) → c.args.start + c.loop-i.i < most_clauses
few c = let p = c.requires in omega (arith, c.loop-i-test.true, p.within, p.clauses)

pub put_fate-drawn-requires : goal.put_fate-drawn-requires
put_fate-drawn-requires c =
    let p = c.requires in
    record {
      numbered = p.numbered;
      long = p.long;
      drawable = passing_room p c.loop-i.invariant c.loop-i-test.true;
    }

pub loop-i-preserved : goal.loop-i-preserved
loop-i-preserved c =
    passing_next c.requires c.loop-i.invariant c.loop-i-test.true c.put_fate-drawn.ensures c.end_of-at.result c.end_of-at.ensures

-- the next place is not far behind the bytes
pub overflow_add-at : goal.overflow_add-at
overflow_add-at c =
    record {
      fits = omega (
        arith,
        (loop-i-preserved c).at_is,
        few (goal.at.overflow_add-at c).In-loop-i,
        c.requires.long,
        place-low c.args.bytes.now (c.args.start + (c.loop-i.i + 1)),
      );
    }

pub loop-i-init : goal.loop-i-init
loop-i-init c =
    passing_start c.requires
