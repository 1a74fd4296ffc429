-- `choose::pass::pass` meets its contract. The loop's invariant: what is left to do gives the whole choice. Assumes nothing.
use mathlib.Core.Path.{ap}
use native.Mathlib.Omega.{arith}
use Rattle.formula.specs.Tables.{nodes_of}
use Rattle.capped.specs.declared.total.Total.{Total}
use Rattle.totals.proofs.Laws.Columns.{ready-start}
use Rattle.choose.proofs.Laws.Pass.{passing_start, passing_next, passing_step, passing_end, start-low, start-within}
use Rattle.choose.proofs.pass.pass.Goals as goal

pub fill-requires : goal.fill-requires
fill-requires c =
    record {
      most = c.requires.marked.size.most;
      within = omega arith;
      ready = rw c.blank-columns.ensures (ready-start c.args.set.now (nodes_of c.args.table.now));
    }

pub whole-requires : goal.whole-requires
whole-requires c =
    let from = c.lowest.ensures in
    record {
      marked = c.requires.marked;
      low = start-low _ _ c.args.way _ _ c.requires _ from;
      within = start-within c.args.table.now c.args.marks.now c.args.way c.args.picks c.args.set.now _ from;
      ready = c.fill.ensures;
    }

pub loop-i-init : goal.loop-i-init
loop-i-init c =
    passing_start _ _ _ _ _ _ _ _ c.requires c.fill.ensures (ap (λ (x : Total). x.clauses.n) c.whole.ensures)

pub visit-picked-requires : goal.visit-picked-requires
visit-picked-requires c = passing_next _ _ _ _ _ _ _ _ _ _ _ c.loop-i.invariant (omega arith)

pub loop-i-preserved : goal.loop-i-preserved
loop-i-preserved c =
    passing_step _ _ _ _ _ _ _ _ _ _ _ c.loop-i.invariant _ _ _ _ _ (omega arith) c.visit-picked.ensures

pub returns : goal.returns
returns c = passing_end _ _ _ _ _ _ _ _ _ _ _ c.loop-i.invariant (omega arith)
