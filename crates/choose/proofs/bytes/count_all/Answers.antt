-- `choose::bytes::count_all` meets its contract. The loop's invariant: the nodes that are passed are counted. Assumes nothing.
use mathlib.Core.Path.{◌≡◌, refl, ap, ◌∙◌}
use mathlib.Core.Bool.{Bool, cond}
use Prim.Native.Nat.{◌<◌}
use native.Mathlib.Omega.{arith}
use lib.ListN.{length}
use Rattle.formula.specs.Tables.{nodes_of}
use Rattle.formula.proofs.Laws.Tables.{length-nodes_of}
use Rattle.clausal.specs.Clauses.{renamed_below}
use Rattle.clausal.specs.Choosing.{all_of}
use Rattle.clausal.proofs.Renamed.{one_at_most, below_le}
use Rattle.choose.proofs.Laws.All.{test-byte, all_more}
use Rattle.choose.proofs.bytes.count_all.Goals as goal

pub loop-i-init : goal.loop-i-init
unfolding renamed_below
loop-i-init c = refl

pub loop-i-preserved : goal.loop-i-preserved
loop-i-preserved c =
    let ns = nodes_of c.args.table.now in
    let h : c.loop-i.i < length ns = omega (arith, length-nodes_of c.args.table.now) in
    let is = c.from-all.ensures ∙ test-byte _ ∙ ap (λ (b : Bool). cond b 1 0) c.may_rename.ensures in
    omega (arith, c.loop-i.invariant, is, all_more ns c.loop-i.i h)

pub overflow_add-all : goal.overflow_add-all
overflow_add-all c =
    let ns = nodes_of c.args.table.now in
    record {
      fits = omega (
        arith,
        c.loop-i.invariant,
        below_le (all_of ns) c.loop-i.i,
        c.requires.size.most,
        c.from-all.ensures,
        test-byte c.may_rename.result,
        one_at_most c.may_rename.result,
      );
    }

pub returns : goal.returns
returns c =
    let t = c.args.table.now in
    let end : c.loop-i.i ≡ length (nodes_of t) = omega (arith, length-nodes_of t) in
    c.loop-i.invariant ∙ ap (renamed_below (all_of (nodes_of t))) end
