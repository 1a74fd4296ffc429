-- `marks::set::check` meets its contract: the length first, then the lowest wrong byte. Assumes nothing.
use mathlib.Core.Path.{sym, ◌∙◌}
use Prim.Native.Nat.{◌<◌}
use native.Mathlib.Omega.{arith}
use lib.ListN.{length}
use borrow.Author.Tests.{eq-eqb, ne_eqb, lt-ltb, le-ltb}
use Rattle.laws.proofs.First.{looking_start, looking_more, looking_here, looking_end}
use Rattle.formula.specs.Tables.{nodes_of}
use Rattle.formula.proofs.Laws.Tables.{length-nodes_of}
use Rattle.marks.specs.Sets.{first_wrong_byte}
use Rattle.marks.proofs.set.check.Goals as goal

pub returns-then-set-count : goal.returns-then-set-count
returns-then-set-count c =
    rw (length-nodes_of c.args.table.now, ne_eqb _ _ c.if-set-count.true)

pub loop-i-init : goal.loop-i-init
loop-i-init c = looking_start _ _

pub loop-i-preserved : goal.loop-i-preserved
loop-i-preserved c =
    looking_more _ _ c.loop-i.i c.loop-i.invariant (omega (arith, length-nodes_of c.args.table.now))
    (sym c.is_byte_right.ensures ∙ c.if-not-is_byte_right.false)

pub returns-then-not-is_byte_right : goal.returns-then-not-is_byte_right
returns-then-not-is_byte_right c =
    let size = c.if-set-count.false ∙ sym (length-nodes_of c.args.table.now) in
    let inside : c.loop-i.i < length (nodes_of c.args.table.now) = omega (arith, length-nodes_of c.args.table.now) in
    let here = looking_here _ _ c.loop-i.i c.loop-i.invariant inside (sym c.is_byte_right.ensures ∙ c.if-not-is_byte_right.true) in
    rw (eq-eqb _ _ size, ← here, lt-ltb _ _ inside)

pub returns : goal.returns
returns c =
    let ns = nodes_of c.args.table.now in
    let size = c.if-set-count.false ∙ sym (length-nodes_of c.args.table.now) in
    let end = looking_end _ _ c.loop-i.i c.loop-i.invariant (omega (arith, length-nodes_of c.args.table.now)) in
    rw (eq-eqb _ _ size, le-ltb (first_wrong_byte ns c.args.set.now) (length ns) (omega (arith, end, length-nodes_of c.args.table.now)))
