-- `clausebytes::check::check` meets its contract: each word is looked at once; the first fault decides, and without one all is counted.
-- Assumes nothing.
use mathlib.Core.Path.{subst}
use mathlib.Core.List.{List, [], ◌∷◌}
use Prim.Native.Nat.{ℕ, ◌+◌}
use native.Mathlib.Omega.{arith}
use lib.ListN.{drop}
use Rattle.clausebytes.specs.Words.{words_of}
use Rattle.clausebytes.proofs.Laws.Words.{words_next, words_end}
use Rattle.clausebytes.proofs.Laws.Checking.{Checking, checking_start, checking_zero, checking_literal, found-many, found_part}
use Rattle.clausebytes.proofs.Laws.Checking.{found-clause, found-magnitude, found-literal, found-open, found_right}
use Rattle.clausebytes.proofs.check.check.Goals as goal
use Rattle.clausebytes.proofs.check.check.Goals.{After-loop-i, After-word_at-word, else-word-eq0+else-magnitude-variables+else-literals-ge-MOST_LITERALS, then-word-eq0+else-clauses-ge-MOST_CLAUSES}

-- the word that is looked at, and the rest
ahead : (c : After-word_at-word)
    → let l = c.loop-i in
    let x = c.args in
    Checking x.variables (words_of x.bytes.now) (c.word_at-word.result ∷ drop (l.i + 1) (words_of x.bytes.now))
    l.closed l.clauses l.literals
ahead c =
    let l = c.loop-i in
    let x = c.args in
    subst (λ (r : List ℕ). Checking x.variables (words_of x.bytes.now) r l.closed l.clauses l.literals)
    (words_next x.bytes.now l.i c.word_at-word.result (omega arith) c.word_at-word.ensures) l.invariant.2

-- a clause too many, a magnitude over the variables, a literal too many
pub returns-then-clauses-ge-MOST_CLAUSES : goal.returns-then-clauses-ge-MOST_CLAUSES
returns-then-clauses-ge-MOST_CLAUSES c =
    let x = c.args in
    found-clause x.bytes.now x.variables c.word_at-word.result (ahead (goal.at.returns-then-clauses-ge-MOST_CLAUSES c).After-word_at-word) c.if-word-eq0.true c.if-clauses-ge-MOST_CLAUSES.true

pub returns-then-magnitude-variables : goal.returns-then-magnitude-variables
returns-then-magnitude-variables c =
    let x = c.args in
    found-magnitude x.bytes.now x.variables c.word_at-word.result (ahead (goal.at.returns-then-magnitude-variables c).After-word_at-word)
    (rw c.magnitude.ensures at c.if-magnitude-variables.true)

pub returns-then-literals-ge-MOST_LITERALS : goal.returns-then-literals-ge-MOST_LITERALS
returns-then-literals-ge-MOST_LITERALS c =
    let x = c.args in
    found-literal x.bytes.now x.variables c.word_at-word.result (ahead (goal.at.returns-then-literals-ge-MOST_LITERALS c).After-word_at-word) c.if-word-eq0.false c.if-literals-ge-MOST_LITERALS.true

-- the word is counted: a zero, or a literal
pub loop-i-preserved : goal.loop-i-preserved
loop-i-preserved c =
    let l = c.loop-i in
    let x = c.args in (
      l.invariant.0,
      l.invariant.1,
      elim c.if-word-eq0.branch [
        | then-word-eq0+else-clauses-ge-MOST_CLAUSES w ↦ rw (w.closed-is, w.clauses-is, w.literals-is)
            (checking_zero x.bytes.now x.variables c.word_at-word.result (ahead (goal.at.loop-i-preserved c).After-word_at-word) w.if-word-eq0.true w.if-clauses-ge-MOST_CLAUSES.false)
        | else-word-eq0+else-magnitude-variables+else-literals-ge-MOST_LITERALS w ↦ let m = rw w.magnitude.ensures at w.if-magnitude-variables.false in
            rw (w.closed-is, w.clauses-is, w.literals-is)
            (checking_literal x.bytes.now x.variables c.word_at-word.result (ahead (goal.at.loop-i-preserved c).After-word_at-word) w.if-word-eq0.false m w.if-literals-ge-MOST_LITERALS.false)
      ],
    )

-- the end: what is known there
ended : (c : After-loop-i)
    → let l = c.loop-i in
    let x = c.args in
    Checking x.variables (words_of x.bytes.now) [] l.closed l.clauses l.literals
ended c =
    let l = c.loop-i in
    let x = c.args in
    subst (λ (r : List ℕ). Checking x.variables (words_of x.bytes.now) r l.closed l.clauses l.literals)
    (words_end x.bytes.now l.i c.loop-i-test.false) l.invariant.2

pub returns-then-not-closed : goal.returns-then-not-closed
returns-then-not-closed c =
    let x = c.args in
    found-open x.bytes.now x.variables (ended (goal.at.returns-then-not-closed c).After-loop-i) c.if-not-closed.true

pub returns : goal.returns
returns c =
    let l = c.loop-i in
    let x = c.args in
    found_right x.bytes.now x.variables (ended (goal.at.returns c).After-loop-i) l.invariant.1 l.invariant.0 c.if-not-closed.false
