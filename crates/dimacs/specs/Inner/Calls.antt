-- R10.17, R10.19 and R11.14: what the reading call gives, by the reader; and the length of a written text.
-- Assumes nothing: these are definitions.
use Rattle.std.specs.Prelude.{cond, List, ℕ, length}
use Rattle.header.specs.Inner.Heads.{is_done, head_of}
use Rattle.answer.specs.Answers.{Wrote, stored}
use Rattle.answer.specs.Answers.{accepted_with}
use Rattle.std.specs.Prelude.{Err}
use Rattle.answer.specs.declared.Refusal.TheVariants.{Text}
use Rattle.clausebytes.specs.Words.{clauses_of, wrong_bytes}
use Rattle.body.specs.Inner.States.{start_of, accepts}
use Rattle.body.specs.declared.state.State.{State}
use Rattle.dimacs.specs.Texts.{written_text, cnf}
use Rattle.dimacs.specs.Inner.Walks.{state_from, bytes_from}

-- R10.17, R10.19 and R11.14: a text and the buffer for its clause bytes: refusal 8, then 7. By `proofs/Reading` the text is accepted
-- exactly if the grammar has it, the bytes are those of its clauses, and the place is R9.21's
abbrev pub read_body : State → List ℕ → ℕ → List ℕ → Wrote (List ℕ)
read_body start text from buffer =
    let end = state_from start text from in
    cond (accepts end)
    (stored (accepted_with start.variables start.declared) (bytes_from start text from) buffer)
    (record { answer = Err (Text end.place); output = buffer })

abbrev pub read_call : List ℕ → List ℕ → Wrote (List ℕ)
read_call text buffer =
    let head = head_of cnf text in
    cond (is_done head.phase)
    (read_body (start_of head.place head.before head.value) text head.place buffer)
    (record { answer = Err (Text head.place); output = buffer })

-- R9.3: the length of a written text; 0 where the clause bytes are wrong
abbrev pub text_length : List ℕ → ℕ → ℕ
text_length bytes v = cond (wrong_bytes bytes v) 0 (length (written_text v (clauses_of bytes)))
