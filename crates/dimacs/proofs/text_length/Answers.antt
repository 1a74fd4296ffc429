-- `dimacs::text_length` meets its contract: what the check found decides. Assumes nothing.
use mathlib.Core.Path.{sym, ap, ◌∙◌}
use Prim.Native.Nat.{◌+◌}
use lib.ListN.{length}
use Rattle.clausebytes.proofs.Laws.Checking.{Found, found_of_checked}
use Rattle.dimacs.specs.Texts.{header_line}
use Rattle.dimacs.proofs.Laws.WriteCall.{found-small, found-lines, length_found}
use Rattle.dimacs.proofs.text_length.Goals.{In-Some}
use Rattle.dimacs.proofs.text_length.Goals as goal

-- what the check found
abbrev FoundT : In-Some → Type 0
FoundT c =
    let x = c.args in
    Found x.clauses.now x.variables c.in-Some.counted.clauses c.in-Some.counted.literals

found : (c : In-Some) → FoundT c
found c =
    let x = c.args in
    found_of_checked x.clauses.now x.variables _ _ (sym c.check.ensures ∙ c.in-Some.is)

pub returns-in-Some : goal.returns-in-Some
returns-in-Some c =
    let x = c.args in
    length_found (found (goal.at.returns-in-Some c).In-Some) _
    (c.size.ensures ∙ ap (λ n. length (header_line x.variables c.in-Some.counted.clauses) + n) c.lines_size.ensures)

pub lines_size-requires : goal.lines_size-requires
lines_size-requires c =
    found-small (found c)

pub size-requires : goal.size-requires
size-requires c =
    found-lines (found (goal.at.size-requires c).In-Some) _ c.lines_size.ensures
