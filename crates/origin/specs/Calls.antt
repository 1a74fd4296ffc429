-- R19.6, R19.12 to R19.15: what the calls for lines answer, and the lent buffer afterwards.
-- Assumes nothing: these are definitions.
use Rattle.std.specs.Prelude.{cond, ◌&&◌, List, ℕ, ltb, length}
use Rattle.answer.specs.Answers.{Wrote, afterwards, stored}
use Rattle.answer.specs.Answers.{Answer}
use Rattle.answer.specs.Answers.{accepted_with}
use Rattle.std.specs.Prelude.{Err}
use Rattle.answer.specs.declared.Refusal.TheVariants.{NoClause, Names}
use Rattle.formula.specs.Checks.{checked}
use Rattle.formula.specs.Tables.{nodes_of}
use Rattle.formula.specs.declared.node.Node.{Node}
use Rattle.marks.specs.Sets.{set_checked}
use Rattle.clausal.specs.Calls.{ceilings}
use Rattle.clausal.specs.Clauses.{Renaming, renaming, renamed_below, variables_of}
use Rattle.clausal.specs.Output.{output_of}
use Rattle.clausal.specs.Totals.{size_of}
use Rattle.names.specs.Names.{right_names, name_of}
use Rattle.origin.specs.Origins.{line_of, lines_of}

-- R19.12: refusal 15 for a number that no clause has
abbrev pub clause_checked : ℕ → ℕ → Answer
clause_checked count k = cond (ltb k count) (accepted_with 0 0) (Err (NoClause k))

-- R19.13: refusal 16, unless there are V names of options and a name for each helper
abbrev pub names_checked : Renaming → List Node → List ℕ → List ℕ → Answer
names_checked u ns options helpers =
    cond (right_names u.taken options && right_names (renamed_below u.set (length ns)) helpers) (accepted_with 0 0) (Err Names)

-- R19.15: refusal 16, then 7; else lines are written, and variables and clauses are reported
abbrev pub shown_with : Renaming → List Node → List ℕ → List ℕ → List ℕ → List ℕ → Wrote (List ℕ)
shown_with u ns options helpers lines before =
    afterwards (names_checked u ns options helpers) before
    (stored (accepted_with (variables_of u (length ns)) (length (output_of u ns))) lines before)

-- refusal 4, then 5 and 6, before anything else
abbrev pub counted : Renaming → List Node → List ℕ → Wrote (List ℕ) → Wrote (List ℕ)
counted u ns before w = afterwards (set_checked ns u.set) before (afterwards (ceilings (size_of (output_of u ns))) before w)

-- R19.1, R19.14: the line of clause k
abbrev pub origin_under : Renaming → List Node → ℕ → List ℕ → List ℕ → List ℕ → Wrote (List ℕ)
origin_under u ns k options helpers before =
    counted u ns before
    (afterwards (clause_checked (length (output_of u ns)) k) before
    (shown_with u ns options helpers (line_of (name_of options helpers u.taken) u ns k) before))

-- R19.6: the lines of all clauses
abbrev pub origins_under : Renaming → List Node → List ℕ → List ℕ → List ℕ → Wrote (List ℕ)
origins_under u ns options helpers before =
    counted u ns before
    (shown_with u ns options helpers (lines_of (name_of options helpers u.taken) u ns (length (output_of u ns))) before)

-- refusals 1, 2, and those of a wrong record first
abbrev pub origin_call : List ℕ → ℕ → List ℕ → ℕ → List ℕ → List ℕ → List ℕ → Wrote (List ℕ)
origin_call t v s k options helpers before =
    afterwards (checked t v) before (origin_under (renaming v s) (nodes_of t) k options helpers before)

abbrev pub origins_call : List ℕ → ℕ → List ℕ → List ℕ → List ℕ → List ℕ → Wrote (List ℕ)
origins_call t v s options helpers before =
    afterwards (checked t v) before (origins_under (renaming v s) (nodes_of t) options helpers before)
