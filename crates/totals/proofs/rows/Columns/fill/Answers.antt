-- `totals::rows::Columns::fill` meets its contract. The loop's invariant: the arrays hold the rows of the nodes below i.
-- Assumes nothing.
use mathlib.Core.Path.{◌≡◌, sym, ap, ◌∙◌, subst}
use Prim.Native.Nat.{ℕ, ◌≤◌, ◌<◌}
use native.Mathlib.Omega.{arith}
use lib.ListN.{length}
use Rattle.formula.specs.Tables.{most_nodes, node_at, node_count, nodes_of}
use Rattle.formula.proofs.Laws.Tables.{length-nodes_of, node_in-nodes_of}
use Rattle.totals.specs.Inner.Columns.{Ready}
use Rattle.totals.specs.Inner.Rowed.{as_row}
use Rattle.totals.proofs.Laws.Columns.{next-ready, ready-more}
use Rattle.totals.proofs.rows.Columns.fill.Goals as goal

pub loop-i-init : goal.loop-i-init
loop-i-init c = c.requires.ready

pub loop-i-preserved : goal.loop-i-preserved
loop-i-preserved c =
    let t = c.args.table.now in
    let s = c.args.set.now in
    let i = c.loop-i.i in
    let ready = c.loop-i.invariant in
    let inside : i < length (nodes_of t) = omega (arith, length-nodes_of t) in
    let most : length (nodes_of t) ≤ most_nodes = omega (arith, length-nodes_of t, c.requires.most) in
    let row = c.row_next-row.ensures
    ∙ ap as_row (next-ready s (nodes_of t) i _ _ (node_at t i) inside ready (sym (node_in-nodes_of t i (omega arith)))) in
    ready-more s (nodes_of t) i _ _ c.row_next-row.result inside most ready row

pub row_next-row-requires : goal.row_next-row-requires
row_next-row-requires c =
    record { i_bound = omega arith; i_lt_most_nodes = omega (arith, c.requires.most) }

pub returns : goal.returns
returns c =
    let args = c.args in
    let e : c.loop-i.i ≡ node_count args.table.now = omega arith in
    subst (λ (i : ℕ). Ready args.set.now (nodes_of args.table.now) i c.loop-i.self.clauses c.loop-i.self.literals) e
    c.loop-i.invariant
