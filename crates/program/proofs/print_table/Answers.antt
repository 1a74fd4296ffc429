-- `program::print_table` meets its contract: a refusal's line, or what the chosen set comes to. Assumes nothing.
use mathlib.Core.Path.{◌≡◌, refl, sym, ap, ◌∙◌}
use mathlib.Core.Bool.{false}
use mathlib.Core.List.{List, []}
use Prim.Native.Nat.{ℕ}
use native.Mathlib.Omega.{arith}
use lib.ListN.{length, take, replicate}
use Rattle.answer.specs.Answers.{Wrote}
use Rattle.answer.proofs.Laws.Order.{accepts_of}
use Rattle.formula.specs.Tables.{most_nodes, node_count, nodes_of}
use Rattle.clausal.specs.Choosing.{choose}
use Rattle.clausal.specs.Clauses.{renaming}
use Rattle.clausal.specs.Calls.{chosen_by}
use Rattle.program.specs.Printed.{allowance, set_printed}
use Rattle.program.proofs.Laws.Shows.{shows_as, line_refused, line-accepted}
use Rattle.program.proofs.Laws.Tables.{length-start, choose-printed, choose-accepted}
use Rattle.program.proofs.print_table.Goals.{After-choose-chosen, After-sets-1}
use Rattle.program.proofs.print_table.Goals as goal

abbrev table : (c : After-sets-1) → List ℕ
table c = c.args.table.now

abbrev v : (c : After-sets-1) → ℕ
v c = c.args.options

abbrev lent : (c : After-sets-1) → List ℕ
lent c = take (node_count (table c)) (replicate most_nodes 0)

size : (c : After-sets-1) → length (lent c) ≡ node_count (table c)
size c = length-start (node_count (table c)) most_nodes (omega (arith, c.requires.table))

pub slice_bounds-set-end : goal.slice_bounds-set-end
slice_bounds-set-end c = sym (size c)

abbrev out : (c : After-choose-chosen) → List ℕ
out c = c.choose-chosen.new.set

abbrev printed : (c : After-choose-chosen) → List ℕ
printed c = set_printed (table (goal.at.After-choose-chosen c).After-sets-1) (v (goal.at.After-choose-chosen c).After-sets-1) (choose allowance (renaming (v (goal.at.After-choose-chosen c).After-sets-1) []) (nodes_of (table (goal.at.After-choose-chosen c).After-sets-1))).chosen

answered : (c : After-choose-chosen) → c.choose-chosen.result ≡ (chosen_by (table (goal.at.After-choose-chosen c).After-sets-1) (v (goal.at.After-choose-chosen c).After-sets-1) allowance (lent (goal.at.After-choose-chosen c).After-sets-1)).answer
answered c = ap (λ (w : Wrote (List ℕ)). w.answer) c.choose-chosen.ensures

pub returns-in-Err : goal.returns-in-Err
returns-in-Err c =
    let at = (goal.at.returns-in-Err c).After-choose-chosen in
    let lent-at = (goal.at.returns-in-Err c).After-sets-1 in
    shows_as
    (line_refused _ _ (printed at) (choose-printed (table lent-at) (v lent-at) (lent lent-at) (size lent-at)) _ (answered at)
    c.in-Err.refusal c.in-Err.is) refl c.put_refusal.ensures

pub returns-in-Ok : goal.returns-in-Ok
returns-in-Ok c =
    let at = (goal.at.returns-in-Ok c).After-choose-chosen in
    let lent-at = (goal.at.returns-in-Ok c).After-sets-1 in
    let ok = accepts_of _ _ (answered at) c.in-Ok.field-0 c.in-Ok.is in
    let same = ap (λ (w : Wrote (List ℕ)). w.output)
    (c.choose-chosen.ensures ∙ choose-accepted (table lent-at) (v lent-at) (lent lent-at) (size lent-at) ok) in
    shows_as
    (line-accepted _ _ (printed at) (choose-printed (table lent-at) (v lent-at) (lent lent-at) (size lent-at)) _ (answered at)
    c.in-Ok.field-0 c.in-Ok.is ∙ ap (set_printed (table lent-at) (v lent-at)) (sym same)) refl c.print_set.ensures
