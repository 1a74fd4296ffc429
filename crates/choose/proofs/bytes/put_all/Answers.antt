-- `choose::bytes::put_all` meets its contract. The loop's invariant: the bytes that are passed are those of the set. Assumes nothing.
use mathlib.Core.Path.{sym, ap, ◌∙◌}
use mathlib.Core.Bool.{Bool, cond}
use Prim.Native.Nat.{◌<◌}
use native.Mathlib.Omega.{arith}
use lib.ListN.{length}
use lib.Seq.{get_or-set_same, get_or-set_other, ext_get_or}
use borrow.Author.Count.{below_more}
use Rattle.formula.specs.Tables.{nodes_of}
use Rattle.formula.proofs.Laws.Tables.{length-nodes_of}
use Rattle.choose.proofs.Laws.All.{test-byte, all-size, all-byte}
use Rattle.choose.proofs.bytes.put_all.Goals as goal

pub loop-i-preserved : goal.loop-i-preserved
loop-i-preserved c =
    let t = c.args.table.now in
    let i = c.loop-i.i in
    let inside : i < length (nodes_of t) = omega (arith, length-nodes_of t, c.requires.size) in
    let is = c.from.ensures ∙ test-byte _ ∙ ap (λ (b : Bool). cond b 1 0) c.may_rename.ensures ∙ sym (all-byte (nodes_of t) i inside) in
    below_more _ i (λ j h. get_or-set_other c.loop-i.set i j c.from.result 0 (λ e. omega arith) ∙ c.loop-i.invariant j h)
    (get_or-set_same c.loop-i.set i c.from.result 0 (omega arith) ∙ is)

pub returns : goal.returns
returns c =
    let t = c.args.table.now in
    ext_get_or 0 _ _ (omega (arith, c.requires.size, length-nodes_of t, all-size (nodes_of t))) (λ j g. c.loop-i.invariant j (omega arith))
