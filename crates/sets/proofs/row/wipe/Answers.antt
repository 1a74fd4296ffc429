-- `sets::row::wipe` meets its contract: the byte of each literal is zero afterwards. Assumes nothing.
use mathlib.Core.Path.{sym, ap, ◌∙◌}
use Prim.Native.Nat.{ℕ, ◌+◌, ◌/◌, ◌≤◌}
use native.Mathlib.Omega.{arith}
use lib.ListN.{set, length-set}
use Rattle.clausal.specs.Clauses.{Clause}
use Rattle.clausebytes.specs.Words.{literal_of, most_variables}
use Rattle.bits.specs.Inner.Rows.{wiped}
use Rattle.sets.specs.Inner.Sets.{clause_from, codes_of}
use Rattle.sets.proofs.Laws.Walks.{clause-zero, clause-more, clause-end, literal-within, code_inside}
use Rattle.sets.proofs.row.wipe.Goals.{Else-word-eq0}
use Rattle.sets.proofs.row.wipe.Goals as goal

pub returns-then-word-eq0 : goal.returns-then-word-eq0
unfolding wiped
returns-then-word-eq0 c =
    let l = c.loop-i in
    let bytes = c.args.bytes.now in
    let none = clause-zero bytes l.i c.word_at-word.result (omega arith) c.word_at-word.ensures c.if-word-eq0.true in
    sym (ap (λ (x : Clause). wiped (codes_of x) l.row) none) ∙ l.invariant.1

small : (c : Else-word-eq0) → (literal_of c.word_at-word.result).variable ≤ most_variables
small c =
    literal-within c.args.bytes.now c.loop-i.i c.word_at-word.result (omega arith) c.word_at-word.ensures most_variables c.requires.within

pub bounds-row-at : goal.bounds-row-at
bounds-row-at c =
    omega (arith, c.code-at.ensures, c.loop-i.invariant.0, code_inside (literal_of c.word_at-word.result) (small (goal.at.bounds-row-at c).Else-word-eq0))

pub loop-i-preserved : goal.loop-i-preserved
unfolding wiped
loop-i-preserved c =
    let l = c.loop-i in
    let bytes = c.args.bytes.now in
    let more = clause-more bytes l.i c.word_at-word.result (omega arith) c.word_at-word.ensures c.if-word-eq0.false in
    let rest = codes_of (clause_from bytes (l.i + 1)) in (
      length-set l.row (c.code-at.result / 8) 0 ∙ l.invariant.0,
      ap (λ (n : ℕ). wiped rest (set l.row (n / 8) 0)) c.code-at.ensures
          ∙ sym (ap (λ (x : Clause). wiped (codes_of x) l.row) more)
          ∙ l.invariant.1,
    )

pub returns : goal.returns
unfolding wiped
returns c =
    let l = c.loop-i in
    let bytes = c.args.bytes.now in
    sym (ap (λ (x : Clause). wiped (codes_of x) l.row) (clause-end bytes l.i c.loop-i-test.false)) ∙ l.invariant.1

pub code-at-requires : goal.code-at-requires
code-at-requires c =
    small c
