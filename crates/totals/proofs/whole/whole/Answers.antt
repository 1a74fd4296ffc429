-- `totals::whole::whole` meets its contract. The loop's invariant: the sum is that of the root and of the nodes passed.
-- Assumes nothing.
use mathlib.Core.Path.{◌≡◌, sym, ap, ◌∙◌}
use Prim.Native.Nat.{ℕ, ◌-◌}
use native.Mathlib.Omega.{arith}
use lib.ListN.{length}
use Rattle.marks.specs.Inner.Held.{held_at}
use Rattle.marks.specs.Marks.{marks_of}
use Rattle.formula.specs.Tables.{nodes_of}
use Rattle.marks.specs.Sets.{renamed}
use Rattle.marks.proofs.Laws.Held.{held_at-held}
use Rattle.formula.proofs.Laws.Tables.{length-nodes_of}
use Rattle.clausal.specs.Clauses.{renaming, name_of, row_of}
use Rattle.clausal.specs.Totals.{capped}
use Rattle.capped.specs.Inner.Sized.{sized, as_total}
use Rattle.capped.specs.declared.total.Total.{Total}
use Rattle.totals.specs.Inner.Rowed.{rowed}
use Rattle.totals.specs.Inner.Sums.{with_node}
use Rattle.totals.proofs.Laws.Columns.{ready-row}
use Rattle.totals.proofs.Laws.Sums.{whole_to, whole-start, whole-more}
use Rattle.totals.proofs.whole.whole.Goals as goal

pub loop-i-init : goal.loop-i-init
loop-i-init c =
    let s = c.args.set.now in
    let t = c.args.table.now in
    let ns = nodes_of t in
    let row : rowed c.row_at-root.result ≡ row_of capped (name_of (renaming 0 s)) ns (length ns - 1) =
    ap rowed c.row_at-root.ensures
    ∙ ready-row s ns _ _ _ (omega (arith, length-nodes_of t)) c.requires.ready _
    ∙ ap (λ (k : ℕ). row_of capped (name_of (renaming 0 s)) ns (k - 1)) (sym (length-nodes_of t)) in
    c.cat-sum.ensures
    ∙ ap (λ (x : Total). as_total (capped.cat (sized x) (rowed c.row_at-root.result).P)) c.none.ensures
    ∙ ap (λ r. as_total (capped.cat capped.none r.P)) row
    ∙ ap as_total (whole-start capped (renaming 0 s) ns _ c.requires.low)

pub loop-i-preserved : goal.loop-i-preserved
loop-i-preserved c =
    let s = c.args.set.now in
    let ns = nodes_of c.args.table.now in
    let i = c.loop-i.i in
    let mark = ap (λ l. held_at l i) c.requires.marked.are ∙ held_at-held (marks_of ns) i in
    let row = ready-row s ns _ _ _ (omega (arith, length-nodes_of c.args.table.now)) c.requires.ready i in
    c.with_node-sum.ensures
    ∙ (λ j. as_total (with_node capped (renamed s i) 0 (mark j) (row j) (sized (c.loop-i.invariant j))))
    ∙ ap as_total (sym (whole-more capped (renaming 0 s) ns i))

pub returns : goal.returns
returns c =
    let t = c.args.table.now in
    let e : c.loop-i.i ≡ length (nodes_of t) = omega (arith, length-nodes_of t) in
    c.loop-i.invariant ∙ ap (λ (k : ℕ). as_total (whole_to capped (renaming 0 c.args.set.now) (nodes_of t) k)) e
