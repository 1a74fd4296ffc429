-- Bytes that are measured or written, the lines of changes, and what is put of a clause by its fate.
-- Assumes nothing: these are definitions.
use Rattle.std.specs.Prelude.{Bool, true, cond, List, [], ◌∷◌, ◌++◌, ◌≡◌, ℕ, ◌+◌, ◌*◌, ◌^◌, ◌≤◌, ◌<◌, ltb, length}
use Rattle.laws.specs.Lists.{splice}
use Rattle.clausal.specs.Clauses.{Clause, literal_bytes}
use Rattle.tidied.specs.Tidying.{is_tautology, Fate, stays, tautology, repeats, Change, cause_word, change_line, change_lines}
use Rattle.tidied.specs.Tidying as tidying
use Rattle.sets.specs.Inner.Sets.{Numbered}
use Rattle.kept.specs.declared.pen.Pen.{Pen}
use Rattle.kept.specs.declared.pen.Cause.{Cause}
use Rattle.kept.specs.declared.pen.Cause.TheVariants.{Literal, Tautology, Repeat}

-- bytes put into a buffer from a place on: the place behind them, and the buffer where they are written
pub record Put (xs : List ℕ) (writing : Bool) (before : List ℕ) (at next : ℕ) (after : List ℕ) : Type 0 where
  pub place : next ≡ at + length xs
  pub list : after ≡ cond writing (splice before at xs) before

-- there is room for them where they are written
pub record Puttable (xs : List ℕ) (writing : Bool) (out : List ℕ) (at : ℕ) : Type 0 where
  pub room : writing ≡ true → at + length xs ≤ length out
  pub low : at + length xs < 2 ^ 63

-- the causes of the rule, and their words with a tab before and behind them
abbrev pub cause_of : Cause → tidying.Cause
cause_of Literal = tidying.equal
cause_of Tautology = tidying.both
cause_of Repeat = tidying.again

abbrev pub cause_text : Cause → List ℕ
cause_text c = 9 ∷ (cause_word (cause_of c) ++ (9 ∷ []))

abbrev pub change_for : ℕ → Cause → ℕ → Change
change_for clause c number = record { clause = clause; cause = cause_of c; number = number }

abbrev pub line_for : ℕ → Cause → ℕ → List ℕ
line_for clause c number = change_line (change_for clause c number)

-- no line is longer
abbrev pub longest : ℕ
longest = 32

-- lines of changes were put with a pen, and counted
pub record Told (changes : List Change) (lines : List ℕ) (p : Pen) (lines_after : List ℕ) (q : Pen) : Type 0 where
  pub mode : q.writing ≡ p.writing
  pub kept_same : q.kept ≡ p.kept
  pub clauses_same : q.clauses ≡ p.clauses
  pub lines_put : Put (change_lines changes) p.writing lines p.lines q.lines lines_after
  pub low : q.lines ≤ longest * q.changes
  pub changes_are : q.changes ≡ p.changes + length changes

-- there is room for them, and their count does not end
pub record Tellable (changes : List Change) (lines : List ℕ) (p : Pen) : Type 0 where
  pub lines_room : p.writing ≡ true → p.lines + length (change_lines changes) ≤ length lines
  pub low : p.lines ≤ longest * p.changes
  pub changes_few : p.changes + length changes < 2 ^ 32

-- bytes of kept clauses were put too, and the clauses counted
pub record Drawn (kept : List ℕ) (clauses : ℕ) (changes : List Change) (out lines : List ℕ) (p : Pen)
    (out-after lines_after : List ℕ) (q : Pen) : Type 0 where
  pub mode : q.writing ≡ p.writing
  pub kept_put : Put kept p.writing out p.kept q.kept out-after
  pub clauses_are : q.clauses ≡ p.clauses + clauses
  pub lines_put : Put (change_lines changes) p.writing lines p.lines q.lines lines_after
  pub low : q.lines ≤ longest * q.changes
  pub changes_are : q.changes ≡ p.changes + length changes

pub record Drawable (kept : List ℕ) (clauses : ℕ) (changes : List Change) (out lines : List ℕ) (p : Pen) : Type 0 where
  pub kept_room : Puttable kept p.writing out p.kept
  pub clauses_few : p.clauses + clauses < 2 ^ 32
  pub told : Tellable changes lines p

-- what is given for a clause: bytes whose literals have numbers, and room
pub record Given (bytes kept : List ℕ) (clauses : ℕ) (changes : List Change) (out lines : List ℕ) (p : Pen) : Type 0 where
  pub numbered : Numbered bytes
  pub long : length bytes < 2 ^ 32
  pub drawable : Drawable kept clauses changes out lines p

-- the bytes of literals, without the zero
abbrev pub literals_bytes : Clause → List ℕ
literals_bytes [] = []
literals_bytes (l ∷ c) = literal_bytes l ++ literals_bytes c

-- what becomes of clause n, by the first clause that has the same literals
abbrev pub fate_for : ℕ → ℕ → Clause → Fate
fate_for n first c = cond (is_tautology c) tautology (cond (ltb first n) (repeats first) stays)
