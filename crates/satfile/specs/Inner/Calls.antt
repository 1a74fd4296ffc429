-- R21.16: what the call gives, by the reader.
-- Assumes nothing: these are definitions.
use Rattle.std.specs.Prelude.{cond, List, ℕ, ◌-◌, length, drop}
use Rattle.answer.specs.Answers.{Wrote}
use Rattle.std.specs.Prelude.{Err}
use Rattle.answer.specs.declared.Refusal.TheVariants.{SatText}
use Rattle.header.specs.Inner.Heads.{is_done, head_of}
use Rattle.satfile.specs.Trees.{Tree}
use Rattle.satfile.specs.Texts.{sat}
use Rattle.satfile.specs.Calls.{tree_call}
use Rattle.satfile.specs.Inner.Reads.{Out, Read, Bad, whole_in}

-- what stands behind the header of a text
abbrev pub body_call : List ℕ → ℕ → Out Tree → List ℕ → Wrote (List ℕ)
body_call text v (Read t r) buffer = tree_call v t buffer
body_call text v (Bad m) buffer = record { answer = Err (SatText (length text - length m)); output = buffer }

-- R21.16: a text and the buffer: refusal 17, and then as above. By `proofs/Reading` the text is accepted exactly if the grammar has it,
-- the table is that of its formula, and the place is that of R9.21
abbrev pub read_call : List ℕ → List ℕ → Wrote (List ℕ)
read_call text buffer =
    let head = head_of sat text in
    cond (is_done head.phase)
    (body_call text head.value (whole_in head.value (drop head.place text)) buffer)
    (record { answer = Err (SatText head.place); output = buffer })
