-- R6, R7.9, R8, R22, R10.10 to R10.19, R12: what measuring, choosing and converting answer, and the lent outputs afterwards.
-- Assumes nothing: these are definitions.
use Rattle.std.specs.Prelude.{List, [], ℕ, cond, ◌||◌, eqb, ltb, length}
use Rattle.answer.specs.Answers.{after, Wrote, afterwards, stored}
use Rattle.answer.specs.Answers.{Answer}
use Rattle.answer.specs.Answers.{accepted_with}
use Rattle.std.specs.Prelude.{Err}
use Rattle.answer.specs.declared.Refusal.TheVariants.{Set, Options, Clauses, Literals}
use Rattle.formula.specs.Checks.{checked}
use Rattle.marks.specs.Sets.{set_checked}
use Rattle.formula.specs.Tables.{nodes_of, most_options}
use Rattle.formula.specs.declared.node.Node.{Node}
use Rattle.clausal.specs.Clauses.{Renaming, renaming, variables_of, clauses_bytes}
use Rattle.clausal.specs.Totals.{totals, Size, size_of, clause_ceiling, literal_ceiling, total_under}
use Rattle.clausal.specs.Choosing.{Choice, choose}
use Rattle.clausal.specs.Output.{output_of}

-- refusal 4, then the clause and the literal total, each read at its ceiling
abbrev pub measured_under : Renaming → List Node → Answer
measured_under u ns = after (set_checked ns u.set) (accepted_with (totals u ns).clauses (totals u ns).literals)

-- refusals 1, 2, and those of a wrong record first
abbrev pub measured : List ℕ → ℕ → List ℕ → Answer
measured t v s = after (checked t v) (measured_under (renaming v s) (nodes_of t))

-- R8.6, R8.7: the answer to a choice is picks and final total; the set is written whole
abbrev pub told : Renaming → List Node → Choice → Wrote (List ℕ)
told u ns c = record { answer = accepted_with c.picks (total_under u ns c.chosen); output = c.chosen }

-- refusal 4 for a buffer that is not a byte a node, then the chosen set
abbrev pub chosen_under : ℕ → List Node → ℕ → List ℕ → Wrote (List ℕ)
chosen_under v ns allowance before =
    cond (eqb (length before) (length ns))
    (told (renaming v []) ns (choose allowance (renaming v []) ns))
    (record { answer = Err (Set (length ns)); output = before })

-- refusals 1, 2, and those of a wrong record first
abbrev pub chosen_by : List ℕ → ℕ → ℕ → List ℕ → Wrote (List ℕ)
chosen_by t v allowance before = afterwards (checked t v) before (chosen_under v (nodes_of t) allowance before)

-- refusal 5, then 6: the true totals of the output decide
abbrev pub ceilings : Size → Answer
ceilings x = cond (ltb x.clauses clause_ceiling) (cond (ltb x.literals literal_ceiling) (accepted_with 0 0) (Err Literals)) (Err Clauses)

-- refusal 4, then 5 and 6, then 7; else the clauses are written, and variables and clauses are reported
abbrev pub converted_under : Renaming → List Node → List ℕ → Wrote (List ℕ)
converted_under u ns before =
    afterwards (set_checked ns u.set) before
    (afterwards (ceilings (size_of (output_of u ns))) before
    (stored (accepted_with (variables_of u (length ns)) (length (output_of u ns))) (clauses_bytes (output_of u ns)) before))

-- refusals 1, 2, and those of a wrong record first
abbrev pub converted : List ℕ → ℕ → List ℕ → List ℕ → Wrote (List ℕ)
converted t v s before = afterwards (checked t v) before (converted_under (renaming v s) (nodes_of t) before)

-- R12.5: what is taken has all options, and no more than a project may have
abbrev pub taken_checked : ℕ → ℕ → Answer
taken_checked v taken = cond (ltb taken v || ltb most_options taken) (Err Options) (accepted_with 0 0)

-- R12: the table is checked with V, and the helpers come after what is taken
abbrev pub converted_after : List ℕ → ℕ → ℕ → List ℕ → List ℕ → Wrote (List ℕ)
converted_after t v taken s before =
    afterwards (checked t v) before (afterwards (taken_checked v taken) before (converted_under (renaming taken s) (nodes_of t) before))
