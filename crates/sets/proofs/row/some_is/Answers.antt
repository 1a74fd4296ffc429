-- `sets::row::some_is` meets its contract: the first literal that is as asked for decides. Assumes nothing.
use mathlib.Core.Path.{◌≡◌, sym, ap, ◌∙◌}
use mathlib.Core.List.{◌∷◌}
use Prim.Native.Nat.{◌+◌, ◌≤◌}
use native.Mathlib.Omega.{arith}
use Rattle.clausebytes.specs.Words.{literal_of, most_variables}
use Rattle.sets.specs.Inner.Sets.{clause_from, some_is}
use Rattle.sets.proofs.Laws.Walks.{clause-zero, clause-more, clause-end, literal-within, turned-inside}
use Rattle.sets.proofs.Laws.Codes.{some-here, some_next}
use Rattle.sets.proofs.row.some_is.Goals.{Else-word-eq0}
use Rattle.sets.proofs.row.some_is.Goals as goal

-- at a zero
pub returns-then-word-eq0 : goal.returns-then-word-eq0
unfolding some_is
returns-then-word-eq0 c =
    let x = c.args in
    let none = clause-zero x.bytes.now c.loop-i.i c.word_at-word.result (omega arith) c.word_at-word.ensures c.if-word-eq0.true in
    sym (ap (some_is x.row.now x.turned) none) ∙ c.loop-i.invariant

-- at a literal: it has a number, its bit is in the row, and it decides or the rest does
small : (c : Else-word-eq0) → (literal_of c.word_at-word.result).variable ≤ most_variables
small c =
    literal-within c.args.bytes.now c.loop-i.i c.word_at-word.result (omega arith) c.word_at-word.ensures most_variables c.requires.within

pub has-requires : goal.has-requires
has-requires c =
    omega (arith, c.code.ensures, c.requires.size, turned-inside c.args.turned (literal_of c.word_at-word.result) (small (goal.at.has-requires c).Else-word-eq0))

-- what is left of the clause
left : (c : Else-word-eq0)
    → let bytes = c.args.bytes.now in
    clause_from bytes c.loop-i.i ≡ literal_of c.word_at-word.result ∷ clause_from bytes (c.loop-i.i + 1)
left c =
    clause-more c.args.bytes.now c.loop-i.i c.word_at-word.result (omega arith) c.word_at-word.ensures c.if-word-eq0.false

pub returns-then-has-turned : goal.returns-then-has-turned
returns-then-has-turned c =
    let x = c.args in
    sym (some-here x.row.now x.turned _ _ _ (left (goal.at.returns-then-has-turned c).Else-word-eq0) _ c.code.ensures _ c.has.ensures c.if-has-turned.true)
    ∙ c.loop-i.invariant

pub loop-i-preserved : goal.loop-i-preserved
loop-i-preserved c =
    let x = c.args in
    sym (some_next x.row.now x.turned _ _ _ (left (goal.at.loop-i-preserved c).Else-word-eq0) _ c.code.ensures _ c.has.ensures c.if-has-turned.false)
    ∙ c.loop-i.invariant

pub returns : goal.returns
unfolding some_is
returns c =
    let x = c.args in
    sym (ap (some_is x.row.now x.turned) (clause-end x.bytes.now c.loop-i.i c.loop-i-test.false)) ∙ c.loop-i.invariant

pub code-requires : goal.code-requires
code-requires c =
    small c
