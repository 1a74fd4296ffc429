-- `totals::trial::trial` meets its contract: the arrays serve the trial up to its node, and the rest is filled in again.
-- Assumes nothing.
use mathlib.Core.Path.{refl, sym, ap, subst}
use Prim.Native.Nat.{ℕ, ◌+◌}
use native.Mathlib.Omega.{arith}
use lib.ListN.{set}
use Rattle.formula.specs.Tables.{nodes_of}
use Rattle.formula.proofs.Laws.Tables.{length-nodes_of}
use Rattle.totals.specs.Inner.Columns.{Ready}
use Rattle.capped.specs.declared.total.Total.{Total}
use Rattle.totals.proofs.Laws.Columns.{ready-trial}
use Rattle.totals.proofs.trial.trial.Goals as goal

pub fill-requires : goal.fill-requires
fill-requires c =
    let a = c.args in
    record {
      most = c.requires.marked.size.most;
      within = omega (arith, c.requires.inside);
      ready = ready-trial (nodes_of a.table.now) c.requires.below a.set.now a.i a.byte _ _ (a.i + 1) (omega arith)
          c.requires.ready;
    }

pub returns : goal.returns
returns c =
    let a = c.args in
    let t = a.table.now in
    let s = set a.set.now a.i a.byte in
    record {
      in_set = refl;
      total = ap (λ (x : Total). x.clauses.n) c.whole.ensures;
      ready = subst (λ (k : ℕ). Ready s (nodes_of t) k c.fill.new.self.clauses c.fill.new.self.literals)
          (sym (length-nodes_of t)) c.fill.ensures;
    }
