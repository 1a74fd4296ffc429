-- `program::print_clauses` meets its contract: a refusal's line, or the text. Assumes nothing.
use mathlib.Core.Path.{◌≡◌, refl, sym, ap}
use Rattle.answer.specs.Answers.{refuses}
use mathlib.Core.List.{List}
use Prim.Native.Nat.{ℕ}
use Rattle.clausebytes.specs.Words.{clauses_of}
use Rattle.dimacs.specs.Texts.{write_call, written_text}
use Rattle.program.specs.Printed.{blank}
use Rattle.program.proofs.Laws.Clauses.{write-answer, write_kept, write_shows}
use Rattle.program.proofs.Laws.Shows.{shows_as, line_refused, line-accepted}
use Rattle.program.proofs.print_clauses.Goals.{After-write-written}
use Rattle.program.proofs.print_clauses.Goals as goal

abbrev out : (c : After-write-written) → List ℕ
out c = c.write-written.new.text

abbrev text : (c : After-write-written) → List ℕ
text c = written_text c.args.variables (clauses_of c.args.clauses.now)

-- the answer does not go by what was in the buffer
answered : (c : After-write-written) → c.write-written.result ≡ (write_call c.args.clauses.now c.args.variables blank).answer
answered c =
    let a = c.args in
    write-answer a.clauses.now a.variables a.out.now c.write-written.result (out c) c.write-written.ensures c.requires

pub returns-in-Err : goal.returns-in-Err
returns-in-Err c =
    let a = c.args in
    let at = (goal.at.returns-in-Err c).After-write-written in
    shows_as (line_refused _ _ (text at) refl _ (answered at) c.in-Err.refusal c.in-Err.is)
    (sym (write_kept a.clauses.now a.variables a.out.now _ (out at) c.write-written.ensures (ap refuses c.in-Err.is))) c.put_refusal.ensures

pub returns-in-Ok : goal.returns-in-Ok
returns-in-Ok c =
    let a = c.args in
    let at = (goal.at.returns-in-Ok c).After-write-written in
    shows_as (line-accepted _ _ (text at) refl _ (answered at) c.in-Ok.field-0 c.in-Ok.is) refl
    (write_shows a.clauses.now a.variables a.out.now _ (out at) c.write-written.ensures (ap refuses c.in-Ok.is) _ c.text_length.ensures)
