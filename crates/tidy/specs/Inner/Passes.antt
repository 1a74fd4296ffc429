-- A pass over clauses by their numbers: what is kept of a window and the changes in it.
-- Assumes nothing: these are definitions.
use Rattle.std.specs.Prelude.{Bool, true, false, List, [], ◌++◌, ◌≡◌, ℕ, zero, suc, ◌+◌, ◌^◌, ◌≤◌, ◌<◌, length, get_or}
use Rattle.clausal.specs.Clauses.{Clause, clauses_bytes}
use Rattle.clausebytes.specs.Words.{words_of, clauses_of, closed_from, most_clauses, wrong_bytes}
use Rattle.tidied.specs.Tidying.{kept_of, tidied, Change, changes_by, changes_of, change_lines}
use Rattle.tidied.specs.Inner.Firsts.{fate_by}
use Rattle.sets.specs.Inner.Sets.{Numbered}
use Rattle.kept.specs.Inner.Pens.{Drawn, Drawable}
use Rattle.kept.specs.declared.pen.Pen.{Pen}
use Rattle.tidy.specs.Inner.Windows.{place_of, Firsts}
use Rattle.tidy.specs.declared.pass.Walked.{Walked}

-- lists for the k numbers from n on, one behind the other
unfoldable pub between : {A : Type 0} → (ℕ → List A) → ℕ → ℕ → List A
between f n zero = []
between f n (suc k) = f n ++ between f (suc n) k

-- what is kept of clause n, and its changes
abbrev pub kept_at : List Clause → ℕ → List Clause
kept_at cs n = kept_of (fate_by cs n) (get_or cs n [])

abbrev pub changes_at : List Clause → ℕ → List Change
changes_at cs n = changes_by n (fate_by cs n) (get_or cs n [])

-- the same of the k clauses from n on
abbrev pub kept_in : List Clause → ℕ → ℕ → List Clause
kept_in cs n k = between (kept_at cs) n k

abbrev pub changes_in : List Clause → ℕ → ℕ → List Change
changes_in cs n k = between (changes_at cs) n k

-- a pen before the first clause
abbrev pub start_pen : Bool → Pen
start_pen writing = record { writing = writing; kept = 0; lines = 0; clauses = 0; changes = 0 }

-- what is given for a window, and what is put
pub record Passable (bytes : List ℕ) (start place count : ℕ) (firsts out lines : List ℕ) (pen : Pen) : Type 0 where
  pub numbered : Numbered bytes
  pub long : length bytes < 2 ^ 32
  pub closed : closed_from true (words_of bytes) ≡ true
  pub within : start + count ≤ length (clauses_of bytes)
  pub clauses : length (clauses_of bytes) ≤ most_clauses
  pub place_is : place ≡ place_of bytes start
  pub firsts_size : count ≤ length firsts
  pub firsts_are : Firsts bytes start count firsts
  pub drawable : Drawable (clauses_bytes (kept_in (clauses_of bytes) start count)) (length (kept_in (clauses_of bytes) start count))
      (changes_in (clauses_of bytes) start count) out lines pen

pub record Passed (bytes : List ℕ) (start count : ℕ) (out lines : List ℕ) (pen : Pen) (out-after lines_after : List ℕ) (w : Walked) : Type 0 where
  pub place_is : w.place ≡ place_of bytes (start + count)
  pub drawn : Drawn (clauses_bytes (kept_in (clauses_of bytes) start count)) (length (kept_in (clauses_of bytes) start count))
      (changes_in (clauses_of bytes) start count) out lines pen out-after lines_after w.pen

-- what is given for all clauses: right bytes, and room where it is written
pub record Whole (bytes : List ℕ) (v count : ℕ) (writing : Bool) (out lines : List ℕ) : Type 0 where
  pub right : wrong_bytes bytes v ≡ false
  pub count_is : count ≡ length (clauses_of bytes)
  pub kept_room : writing ≡ true → length (clauses_bytes (tidied (clauses_of bytes))) ≤ length out
  pub lines_room : writing ≡ true → length (change_lines (changes_of (clauses_of bytes))) ≤ length lines
