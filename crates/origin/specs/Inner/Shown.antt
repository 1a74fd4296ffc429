-- What the calls for lines ask of each other.
-- Assumes nothing: these are definitions.
use Rattle.std.specs.Prelude.{cond, List, ◌≡◌, ℕ, ◌+◌, ◌-◌, ◌≤◌, ltb, length, Option, Some, None, Result, Ok, Err}
use Rattle.answer.specs.Answers.{Wrote, accepted_with, afterwards, stored}
use Rattle.answer.specs.declared.Refusal.{Refusal}
use Rattle.answer.specs.declared.Refusal.TheVariants.{NoClause}
use Rattle.formula.specs.Checks.{checked}
use Rattle.formula.specs.Tables.{nodes_of}
use Rattle.formula.specs.declared.node.Node.{Node}
use Rattle.names.specs.Inner.Notes.{no_notes}
use Rattle.names.specs.declared.lookup.Voices.{Voices}
use Rattle.clausal.specs.Clauses.{Renaming, renaming, renamed_below}
use Rattle.clausal.specs.Output.{output_of}
use Rattle.convert.specs.Inner.Fitted.{Convertible}
use Rattle.walk.specs.declared.nodes.Nodes.{Nodes}
use Rattle.origin.specs.Calls.{names_checked, origin_under, origins_under}
use Rattle.origin.specs.Inner.Grounds.{Ground}
use Rattle.origin.specs.Inner.Lines.{Lists, named, lines_from}
use Rattle.origin.specs.declared.line.Span.{Span}

-- the clauses that are told: clause k, where there is one, or all of them
abbrev pub spanned : Option ℕ → ℕ → Result Span Refusal
spanned None count = Ok (record { from = 0; end = count })
spanned (Some k) count = cond (ltb k count) (Ok (record { from = k; end = k + 1 })) (Err (NoClause k))

-- the lines of some clauses
abbrev pub lines_between : Lists → Renaming → List Node → Span → List ℕ
lines_between l u ns span = lines_from (named l) u ns span.from (span.end - span.from)

-- refusal 16, then 7; else lines are written
abbrev pub named_with : Lists → Renaming → List Node → List ℕ → List ℕ → Wrote (List ℕ)
named_with l u ns lines before =
    afterwards (names_checked u ns l.option_list l.helper_list) before (stored (accepted_with 0 0) lines before)

-- nothing is noted of both lists
pub record Unnoted (y : Voices) : Type 0 where
  pub options : y.option_names ≡ no_notes y.option_names.list
  pub helpers : y.helper_names ≡ no_notes y.helper_names.list

-- a formula that was prepared, numbers of clauses of its output, and how many helpers it has
pub record Listed (x : Nodes) (marks s : List ℕ) (y : Voices) (count : ℕ) (span : Span) : Type 0 where
  pub ground : Ground x y.options marks s
  pub helped : count ≡ renamed_below s (length (nodes_of x.table.now))
  pub order : span.from ≤ span.end
  pub within : span.end ≤ length (output_of (renaming y.options s) (nodes_of x.table.now))
  pub unnoted : Unnoted y

-- a table that was checked
pub record Showable (t : List ℕ) (y : Voices) : Type 0 where
  pub table : checked t y.options ≡ accepted_with 0 0
  pub convertible : Convertible t y.options
  pub unnoted : Unnoted y

-- the line of one clause, or the lines of all
abbrev pub shown_under : Option ℕ → Lists → Renaming → List Node → List ℕ → Wrote (List ℕ)
shown_under (Some k) l u ns before = origin_under u ns k l.option_list l.helper_list before
shown_under None l u ns before = origins_under u ns l.option_list l.helper_list before
