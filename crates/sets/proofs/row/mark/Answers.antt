-- `sets::row::mark` meets its contract: each literal is marked, and adds to the signature where it is new. Assumes nothing.
use mathlib.Core.Path.{◌≡◌, sym, ap, ◌∙◌, subst⁻¹}
use mathlib.Core.Bool.{true, false}
use mathlib.Core.List.{List, [], ◌∷◌}
use Prim.Native.Nat.{ℕ, ◌+◌, ◌*◌, ◌≤◌, ◌<◌}
use native.Mathlib.Omega.{arith}
use lib.ListN.{length, length-replicate}
use Rattle.clausal.specs.Clauses.{Literal}
use Rattle.clausebytes.specs.Words.{literal_of, most_variables}
use Rattle.bits.specs.Inner.Rows.{row_to, with_bits}
use Rattle.sets.specs.Inner.Sets.{clause_from, code_of, codes_of, row_bytes, mix_of, sign_of}
use Rattle.sets.proofs.Laws.Walks.{clause-zero, clause-end, literal-within, code_inside}
use Rattle.sets.proofs.Laws.Marking.{Marking, marking_start, marking_more, marking_row, marking_sign, signing_new, signing_old}
use Rattle.sets.proofs.Laws.Signs.{sign-none, sign_small}
use Rattle.sets.proofs.row.mark.Goals as goal
use Rattle.sets.proofs.row.mark.Goals.{After-code-n, After-has, At-loop-i, Else-word-eq0, else-not-has, then-not-has}

pub loop-i-init : goal.loop-i-init
loop-i-init c =
    let x = c.args in (
      [],
      subst⁻¹ (λ (row : List ℕ). Marking x.bytes.now x.from x.from row []) c.requires.ready.empty
          (marking_start x.bytes.now x.from),
      sign-none x.seed,
    )

-- the end of the clause: all is marked
marked : (c : At-loop-i)
    → let x = c.args in
    clause_from x.bytes.now c.loop-i.i ≡ []
    → (c.loop-i.sign ≡ sign_of x.seed (clause_from x.bytes.now x.from))
    × (c.loop-i.row ≡ with_bits (codes_of (clause_from x.bytes.now x.from)) x.row.now)
marked c end =
    let x = c.args in
    let l = c.loop-i in
    let k = l.invariant.1 in (
      marking_sign k end x.seed l.sign l.invariant.2,
      marking_row k end ∙ ap (with_bits (codes_of (clause_from x.bytes.now x.from))) (sym c.requires.ready.empty),
    )

pub returns-then-word-eq0 : goal.returns-then-word-eq0
returns-then-word-eq0 c =
    let bytes = c.args.bytes.now in
    marked (goal.at.returns-then-word-eq0 c).At-loop-i (clause-zero bytes c.loop-i.i c.word_at-word.result (omega arith) c.word_at-word.ensures c.if-word-eq0.true)

same_length : (c : At-loop-i) → length c.loop-i.row ≡ length c.args.row.now
same_length c = c.loop-i.invariant.1.size ∙ sym (ap length c.requires.ready.empty ∙ length-replicate {A = ℕ} row_bytes 0)

small : (c : Else-word-eq0) → (literal_of c.word_at-word.result).variable ≤ most_variables
small c =
    literal-within c.args.bytes.now c.loop-i.i c.word_at-word.result (omega arith) c.word_at-word.ensures most_variables
    c.requires.ready.within

-- the number of its literal
numbered : (c : After-code-n)
    → (c.code-n.result ≡ code_of (literal_of c.word_at-word.result)) × (c.code-n.result < 8 * row_bytes)
numbered c =
    let inside = code_inside (literal_of c.word_at-word.result) (small (goal.at.After-code-n c).Else-word-eq0) in
    (c.code-n.ensures, omega (arith, c.code-n.ensures, inside))

pub has-requires : goal.has-requires
has-requires c =
    omega (arith, (numbered c).1, c.loop-i.invariant.1.size)

pub mix-sign-requires : goal.mix-sign-requires
mix-sign-requires c =
    (c.requires.few, (numbered (goal.at.mix-sign-requires c).After-code-n).1)

-- the signature with this literal, which is new or was there
abbrev literal : (c : After-has) → Literal
literal c = literal_of c.word_at-word.result

new : (c : After-has) → (m : ℕ) → m ≡ mix_of c.args.seed c.code-n.result → c.has.result ≡ false
    → c.loop-i.sign + m ≡ sign_of c.args.seed ((literal c) ∷ c.loop-i.invariant.0)
new c m e taken =
    let l = c.loop-i in
    ap (λ (x : ℕ). l.sign + x) e
    ∙ signing_new l.invariant.1 c.args.seed l.sign l.invariant.2 (literal c) c.code-n.result c.code-n.ensures
    c.has.result c.has.ensures (code_inside (literal c) (small (goal.at.After-has c).Else-word-eq0)) taken

old : (c : After-has) → c.has.result ≡ true → c.loop-i.sign ≡ sign_of c.args.seed ((literal c) ∷ c.loop-i.invariant.0)
old c left =
    let l = c.loop-i in
    signing_old l.invariant.1 c.args.seed l.sign l.invariant.2 (literal c) c.code-n.result c.code-n.ensures
    c.has.result c.has.ensures left

pub overflow_add-sign : goal.overflow_add-sign
overflow_add-sign c =
    record {
      fits = omega (
        arith,
        new (goal.at.overflow_add-sign c).After-has c.mix-sign.result c.mix-sign.ensures c.if-not-has.true,
        sign_small c.args.seed (literal (goal.at.overflow_add-sign c).After-has ∷ c.loop-i.invariant.0),
      );
    }

pub put-requires : goal.put-requires
put-requires c =
    omega (arith, (numbered (goal.at.put-requires c).After-code-n).1, c.loop-i.invariant.1.size)

pub loop-i-preserved : goal.loop-i-preserved
loop-i-preserved c =
    let x = c.args in
    let k = marking_more x.bytes.now x.from c.loop-i.i c.word_at-word.result c.loop-i.row (omega arith)
    c.word_at-word.ensures c.if-word-eq0.false c.loop-i.invariant.1 (code_inside (literal (goal.at.loop-i-preserved c).After-has) (small (goal.at.loop-i-preserved c).Else-word-eq0)) in
    let row = c.put.ensures ∙ ap (λ (n : ℕ). row_to c.loop-i.row n true) c.code-n.ensures in (
      literal (goal.at.loop-i-preserved c).After-has ∷ c.loop-i.invariant.0,
      subst⁻¹ (λ (r : List ℕ). Marking x.bytes.now x.from (c.loop-i.i + 1) r (literal (goal.at.loop-i-preserved c).After-has ∷ c.loop-i.invariant.0)) row k,
      elim c.if-not-has.branch [
        | then-not-has w ↦ w.sign-is ∙ new (goal.at.loop-i-preserved c).After-has w.mix-sign.result w.mix-sign.ensures w.if-not-has.true
        | else-not-has w ↦ w.sign-is ∙ old (goal.at.loop-i-preserved c).After-has w.if-not-has.false
      ],
    )

pub returns : goal.returns
returns c =
    marked (goal.at.returns c).At-loop-i (clause-end c.args.bytes.now c.loop-i.i c.loop-i-test.false)

pub code-n-requires : goal.code-n-requires
code-n-requires c =
    small c
