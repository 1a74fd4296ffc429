-- `dimacs::write` meets its contract: what the check found decides: refusal 9, refusal 7, or the text. Assumes nothing.
use mathlib.Core.Path.{◌≡◌, sym, ap, ◌∙◌}
use Prim.Native.Nat.{ℕ, ◌+◌}
use lib.ListN.{length}
use Rattle.clausebytes.specs.Words.{words_of}
use Rattle.clausebytes.proofs.Laws.Checking.{Found, found_of_checked}
use Rattle.dimacs.specs.Texts.{header_line}
use Rattle.dimacs.specs.Inner.Words.{words_text}
use Rattle.dimacs.proofs.Laws.WriteCall.{found-small, found-lines, found_no_room, found-room, found-written}
use Rattle.dimacs.proofs.write.Goals.{After-size, In-Some}
use Rattle.dimacs.proofs.write.Goals as goal

abbrev clauses-at : In-Some → ℕ
clauses-at c = c.in-Some.counted.clauses

found : (c : In-Some) → let x = c.args in Found x.clauses.now x.variables (clauses-at c) c.in-Some.counted.literals
found c =
    let x = c.args in
    found_of_checked x.clauses.now x.variables _ _ (sym c.check.ensures ∙ c.in-Some.is)

sized : (c : After-size) → let x = c.args in
    c.size.result ≡ length (header_line x.variables (clauses-at (goal.at.After-size c).In-Some)) + length (words_text (words_of x.clauses.now))
sized c =
    let x = c.args in
    c.size.ensures ∙ ap (λ n. length (header_line x.variables (clauses-at (goal.at.After-size c).In-Some)) + n) c.lines_size.ensures

pub returns-then-text-size : goal.returns-then-text-size
returns-then-text-size c =
    found_no_room (found (goal.at.returns-then-text-size c).In-Some) c.args.text.now _ (sized (goal.at.returns-then-text-size c).After-size) c.if-text-size.true

pub returns : goal.returns
returns c =
    let buffer = c.args.text.now in
    let room = found-room (found (goal.at.returns c).In-Some) buffer _ (sized (goal.at.returns c).After-size) c.if-text-size.false in
    found-written (found (goal.at.returns c).In-Some) buffer _ room c.put_text.ensures

pub lines_size-requires : goal.lines_size-requires
lines_size-requires c =
    found-small (found c)

pub size-requires : goal.size-requires
size-requires c =
    found-lines (found (goal.at.size-requires c).In-Some) _ c.lines_size.ensures
