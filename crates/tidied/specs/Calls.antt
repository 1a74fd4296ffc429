-- R23.13 to R23.15: what the call that tidies answers, and both lent buffers afterwards.
-- Assumes nothing: these are definitions.
use Rattle.std.specs.Prelude.{cond, ◌||◌, List, ℕ, ltb, length}
use Rattle.laws.specs.Lists.{splice}
use Rattle.answer.specs.Answers.{Wrote}
use Rattle.answer.specs.Answers.{Answer}
use Rattle.answer.specs.Answers.{accepted_with}
use Rattle.std.specs.Prelude.{Err}
use Rattle.answer.specs.declared.Refusal.TheVariants.{ClauseBytes, Room}
use Rattle.clausal.specs.Clauses.{Clause, clauses_bytes}
use Rattle.clausebytes.specs.Words.{clauses_of, wrong_bytes}
use Rattle.tidied.specs.Tidying.{tidied, changes_of, change_lines}

-- both lent buffers: for the kept clauses, and for the lines
pub record Outputs : Type 0 where
  pub kept : List ℕ
  pub lines : List ℕ

-- R23.14: refusal 7 where either output needs more bytes than its buffer has; else both are the first bytes of their buffers
abbrev pub stored_both : Answer → List ℕ → List ℕ → Outputs → Wrote Outputs
stored_both a kept lines before =
    cond (ltb (length before.kept) (length kept) || ltb (length before.lines) (length lines))
    (record { answer = Err Room; output = before })
    (record { answer = a; output = record { kept = splice before.kept 0 kept; lines = splice before.lines 0 lines } })

-- R23.15: the number of changes and of kept clauses are reported
abbrev pub tidied_into : List Clause → Outputs → Wrote Outputs
tidied_into cs before =
    stored_both (accepted_with (length (changes_of cs)) (length (tidied cs))) (clauses_bytes (tidied cs)) (change_lines (changes_of cs)) before

-- R23.13: refusal 9 first
abbrev pub tidy_call : List ℕ → ℕ → Outputs → Wrote Outputs
tidy_call bytes v before =
    cond (wrong_bytes bytes v) (record { answer = Err ClauseBytes; output = before }) (tidied_into (clauses_of bytes) before)
