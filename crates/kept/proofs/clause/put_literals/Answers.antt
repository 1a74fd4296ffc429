-- `kept::clause::put_literals` meets its contract: each literal is put or told, and marked. Assumes nothing.
use mathlib.Core.Path.{◌≡◌, sym, ap, ◌∙◌, subst⁻¹}
use mathlib.Core.List.{List, []}
use Prim.Native.Nat.{ℕ, ◌*◌, ◌/◌, ◌≤◌, ◌<◌}
use native.Mathlib.Omega.{arith}
use lib.ListN.{length, length-replicate}
use Rattle.bits.specs.Inner.Rows.{with_bits}
use Rattle.clausebytes.specs.Words.{literal_of, most_variables}
use Rattle.sets.specs.Inner.Sets.{clause_from, codes_of, row_bytes}
use Rattle.sets.proofs.Laws.Walks.{clause-zero, clause-end, literal-within, code_inside}
use Rattle.sets.proofs.Laws.Marking.{marking_row}
use Rattle.kept.proofs.Laws.Pens.{drawing_lengths}
use Rattle.kept.proofs.Laws.Literals.{Spelling, spelling_start, spelling_end, spelling_room, spelling_more}
use Rattle.kept.proofs.clause.put_literals.Goals.{After-code-n, After-has-seen, At-loop-i, Else-word-eq0}
use Rattle.kept.proofs.clause.put_literals.Goals as goal

pub loop-i-init : goal.loop-i-init
loop-i-init c =
    let x = c.args in
    subst⁻¹ (λ (row : List ℕ). Spelling x.bytes.now x.clause x.from x.from x.out.now x.lines.now x.pen
    x.out.now x.lines.now row x.pen) c.requires.empty
    (spelling_start x.bytes.now x.clause x.from x.out.now x.lines.now x.pen c.requires.given.drawable.told.low)

-- buffers and row are as long as they were
lengths : (c : At-loop-i)
    → let x = c.args in
    (length c.loop-i.out ≡ length x.out.now) × (length c.loop-i.lines ≡ length x.lines.now)
lengths c = drawing_lengths c.requires.given.drawable c.loop-i.invariant.drawing

row-length : (c : At-loop-i) → length c.loop-i.row ≡ length c.args.row.now
row-length c =
    c.loop-i.invariant.marking.size ∙ sym (ap length c.requires.empty ∙ length-replicate {A = ℕ} row_bytes 0)

-- the end of the clause: all is marked
marked : (c : At-loop-i) → let x = c.args in
    clause_from x.bytes.now c.loop-i.i ≡ []
    → c.loop-i.row ≡ with_bits (codes_of (clause_from x.bytes.now x.from)) x.row.now
marked c end =
    let x = c.args in
    marking_row c.loop-i.invariant.marking end
    ∙ ap (with_bits (codes_of (clause_from x.bytes.now x.from))) (sym c.requires.empty)

pub returns-then-word-eq0 : goal.returns-then-word-eq0
returns-then-word-eq0 c =
    let bytes = c.args.bytes.now in
    let end = clause-zero bytes c.loop-i.i c.word_at-word.result (omega arith) c.word_at-word.ensures c.if-word-eq0.true in
    (spelling_end c.loop-i.invariant end, marked (goal.at.returns-then-word-eq0 c).At-loop-i end)

pub returns : goal.returns
returns c =
    let none = clause-end c.args.bytes.now c.loop-i.i c.loop-i-test.false in
    (spelling_end c.loop-i.invariant none, marked (goal.at.returns c).At-loop-i none)

small : (c : Else-word-eq0) → (literal_of c.word_at-word.result).variable ≤ most_variables
small c =
    literal-within c.args.bytes.now c.loop-i.i c.word_at-word.result (omega arith) c.word_at-word.ensures most_variables
    c.requires.given.numbered

-- the number of its literal has a bit
inside : (c : After-code-n) → c.code-n.result < 8 * length c.loop-i.row
inside c =
    omega (
      arith,
      c.code-n.ensures,
      code_inside (literal_of c.word_at-word.result) (small (goal.at.After-code-n c).Else-word-eq0),
      c.loop-i.invariant.marking.size,
    )

here : (c : After-has-seen) → c.loop-i.i < length c.args.bytes.now / 4
here c = omega (arith, c.loop-i-test.true)

pub put_literal-drawn-requires : goal.put_literal-drawn-requires
put_literal-drawn-requires c =
    spelling_room c.loop-i.invariant c.requires.given.drawable c.word_at-word.result (omega arith) (here (goal.at.put_literal-drawn-requires c).After-has-seen) c.word_at-word.ensures
    c.if-word-eq0.false c.code-n.result c.code-n.ensures c.has-seen.result c.has-seen.ensures

pub loop-i-preserved : goal.loop-i-preserved
loop-i-preserved c =
    spelling_more c.loop-i.invariant c.requires.given.drawable c.word_at-word.result (omega arith) (here (goal.at.loop-i-preserved c).After-has-seen) c.word_at-word.ensures
    c.if-word-eq0.false c.code-n.result c.code-n.ensures c.has-seen.result c.has-seen.ensures (small (goal.at.loop-i-preserved c).Else-word-eq0)
    c.put_literal-drawn.ensures _ c.put.ensures

pub code-n-requires : goal.code-n-requires
code-n-requires c =
    small c

pub has-seen-requires : goal.has-seen-requires
has-seen-requires c =
    inside c

pub put-requires : goal.put-requires
put-requires c =
    inside (goal.at.put-requires c).After-code-n
