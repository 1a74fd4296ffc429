-- `program::print_set` meets its contract: a refusal's line, or the clauses' text. Assumes nothing.
use mathlib.Core.Path.{◌≡◌, refl, sym, ap, ◌∙◌}
use mathlib.Core.Bool.{false}
use mathlib.Core.List.{List}
use Prim.Native.Nat.{ℕ}
use native.Mathlib.Omega.{arith}
use lib.ListN.{length, take}
use Rattle.answer.specs.Answers.{Answer, told_of, refuses, Wrote}
use Rattle.answer.proofs.Laws.Order.{accepts_of}
use Rattle.formula.specs.Tables.{nodes_of}
use Rattle.clausal.specs.Clauses.{clauses_bytes, renaming, variables_of}
use Rattle.clausal.specs.Output.{output_of}
use Rattle.clausal.specs.Calls.{converted}
use Rattle.program.specs.Printed.{blank, clauses_printed}
use Rattle.program.proofs.Laws.Clauses.{new_blank}
use Rattle.program.proofs.Laws.Conversions.{sized, taken, within, variables}
use Rattle.program.proofs.Laws.Shows.{shows_as, line_refused, line-accepted}
use Rattle.program.proofs.print_set.Goals.{After-convert-made, After-size-bytes}
use Rattle.program.proofs.print_set.Goals as goal

abbrev table : (c : After-convert-made) → List ℕ
table c = c.args.table.now

abbrev v : (c : After-convert-made) → ℕ
v c = c.args.options

abbrev set : (c : After-convert-made) → List ℕ
set c = c.args.set.now

abbrev out : (c : After-convert-made) → List ℕ
out c = c.convert-made.new.out

abbrev clauses : (c : After-convert-made) → List ℕ
clauses c = clauses_bytes (output_of (renaming (v c) (set c)) (nodes_of (table c)))

abbrev printed : (c : After-convert-made) → List ℕ
printed c = clauses_printed (clauses c) (variables_of (renaming (v c) (set c)) (length (nodes_of (table c))))

made : (c : After-convert-made) → record { answer = c.convert-made.result; output = (out c) } ≡ converted (table c) (v c) (set c) blank
made c = c.convert-made.ensures ∙ ap (converted (table c) (v c) (set c)) new_blank

answered : (c : After-convert-made) → c.convert-made.result ≡ (converted (table c) (v c) (set c) blank).answer
answered c = ap (λ (w : Wrote (List ℕ)). w.answer) (made c)

pub returns-in-Err : goal.returns-in-Err
returns-in-Err c =
    let at = (goal.at.returns-in-Err c).After-convert-made in
    shows_as (line_refused _ _ (printed at) refl _ (answered at) c.in-Err.refusal c.in-Err.is) refl c.put_refusal.ensures

ok : (c : After-size-bytes) → refuses (converted (table (goal.at.After-size-bytes c).After-convert-made) (v (goal.at.After-size-bytes c).After-convert-made) (set (goal.at.After-size-bytes c).After-convert-made) blank).answer ≡ false
ok c = accepts_of _ _ (answered (goal.at.After-size-bytes c).After-convert-made) c.in-Ok.reported c.in-Ok.is

whole : (c : After-size-bytes) → c.size-bytes.result ≡ length (clauses (goal.at.After-size-bytes c).After-convert-made)
whole c = c.size-bytes.ensures ∙ sized (table (goal.at.After-size-bytes c).After-convert-made) (v (goal.at.After-size-bytes c).After-convert-made) (set (goal.at.After-size-bytes c).After-convert-made) blank (ok c)

leading : (c : After-size-bytes) → take c.size-bytes.result (out (goal.at.After-size-bytes c).After-convert-made) ≡ clauses (goal.at.After-size-bytes c).After-convert-made
leading c = taken (table (goal.at.After-size-bytes c).After-convert-made) (v (goal.at.After-size-bytes c).After-convert-made) (set (goal.at.After-size-bytes c).After-convert-made) blank (ok c) c.convert-made.result (out (goal.at.After-size-bytes c).After-convert-made) (made (goal.at.After-size-bytes c).After-convert-made) c.size-bytes.result (whole c)

pub slice_bounds-clauses-end : goal.slice_bounds-clauses-end
slice_bounds-clauses-end c =
    omega (arith, whole c, within (table (goal.at.slice_bounds-clauses-end c).After-convert-made) (v (goal.at.slice_bounds-clauses-end c).After-convert-made) (set (goal.at.slice_bounds-clauses-end c).After-convert-made) blank (ok c) c.convert-made.result (out (goal.at.slice_bounds-clauses-end c).After-convert-made) (made (goal.at.slice_bounds-clauses-end c).After-convert-made))

pub slice_bounds-print_clauses-end : goal.slice_bounds-print_clauses-end
slice_bounds-print_clauses-end c = whole (goal.at.slice_bounds-print_clauses-end c).After-size-bytes ∙ sym (ap length (leading (goal.at.slice_bounds-print_clauses-end c).After-size-bytes))

pub returns-in-Ok : goal.returns-in-Ok
returns-in-Ok c =
    let at = (goal.at.returns-in-Ok c).After-convert-made in
    let bytes-at = (goal.at.returns-in-Ok c).After-size-bytes in
    let x = sym (ap (λ (a : Answer). (told_of a).first) c.in-Ok.is)
    ∙ variables (table at) (v at) (set at) blank (ok bytes-at) c.convert-made.result (out at) (made at) in
    shows_as
    (line-accepted _ _ (printed at) refl _ (answered at) c.in-Ok.reported c.in-Ok.is
    ∙ (λ i. clauses_printed (sym (leading bytes-at) i) (sym x i))) refl c.print_clauses.ensures
