-- The reader's state behind the header, and one byte on: its running place, clause number and literal total.
-- A limit ends a reading at the first byte after which no text can be finished any more.
-- Assumes nothing: these are definitions.
use Rattle.std.specs.Prelude.{Bool, true, false, cond, ℕ, ◌+◌, ◌-◌, ◌≤◌, ◌<◌, eqb, ltb, Option, Some, None}
use Rattle.text.specs.Inner.Numbers.{grown_of}
use Rattle.header.specs.Inner.Heads.{last_place}
use Rattle.clausebytes.specs.Words.{most_literals}
use Rattle.body.specs.Inner.Table.{sort_of, act_of, ends_in}
use Rattle.body.specs.Inner.Table.{Act, Die, Go, Close, Begin, Turn, Lead, Grow, EndPlain, EndNegated}
use Rattle.body.specs.declared.phase.Phase.{Phase}
use Rattle.body.specs.declared.phase.Phase.TheVariants.{Between, Closed, Sign, Plain, Negated, Dead}
use Rattle.body.specs.declared.state.State.{State}

-- right behind a header
abbrev pub start_of : ℕ → ℕ → ℕ → State
start_of place v k = record { phase = Between; place = place; value = 0; variables = v; declared = k; clauses = 0; literals = 0 }

-- whether a text may end so: all declared clauses are closed, and no literal is open
abbrev pub accepts : State → Bool
accepts s = cond (ends_in s.phase) (eqb s.clauses s.declared) false

-- one byte on, to a phase, with what is read of a literal there
abbrev pub to_of : State → Phase → ℕ → State
to_of s p x = record {
  phase = p;
  place = s.place + 1;
  value = x;
  variables = s.variables;
  declared = s.declared;
  clauses = s.clauses;
  literals = s.literals;
}

-- no accepted text goes on so: the place stays
abbrev pub dead_of : State → State
dead_of s = record {
  phase = Dead;
  place = s.place;
  value = s.value;
  variables = s.variables;
  declared = s.declared;
  clauses = s.clauses;
  literals = s.literals;
}

-- a digit was taken in, or could not be
abbrev pub taken_of : State → Phase → Option ℕ → State
taken_of s p None = dead_of s
taken_of s p (Some x) = to_of s p x

-- a zero, if a clause is still to come
abbrev pub close_of : State → State
close_of s = cond (ltb s.clauses s.declared) (record {
  phase = Closed;
  place = s.place + 1;
  value = 0;
  variables = s.variables;
  declared = s.declared;
  clauses = s.clauses + 1;
  literals = s.literals;
}) (dead_of s)

-- a literal begins, if a clause and a literal are still to come
abbrev pub open_of : State → Phase → ℕ → State
open_of s p x = cond (ltb s.clauses s.declared) (cond (ltb s.literals most_literals) (record {
  phase = p;
  place = s.place + 1;
  value = x;
  variables = s.variables;
  declared = s.declared;
  clauses = s.clauses;
  literals = s.literals + 1;
}) (dead_of s)) (dead_of s)

-- its first digit was taken in, or could not be; its `-`, which needs a variable
abbrev pub begun_of : State → Option ℕ → State
begun_of s None = dead_of s
begun_of s (Some x) = open_of s Plain x

abbrev pub turn_of : State → State
turn_of s = cond (eqb s.variables 0) (dead_of s) (open_of s Sign 0)

-- what an act does, with a digit's value
abbrev pub move_of : Act → State → ℕ → State
move_of Die s d = dead_of s
move_of Go s d = to_of s Between 0
move_of Close s d = close_of s
move_of Begin s d = begun_of s (grown_of false 0 d s.variables)
move_of Turn s d = turn_of s
move_of Lead s d = taken_of s Negated (grown_of false 0 d s.variables)
move_of Grow s d = taken_of s s.phase (grown_of true s.value d s.variables)
move_of EndPlain s d = to_of s Between 0
move_of EndNegated s d = to_of s Between 0

-- one byte on
abbrev pub step_of : State → ℕ → State
step_of s b = move_of (act_of s.phase (sort_of b)) s (b - 48)

-- what a method asks that takes a digit in
pub record Digit (s : State) (b : ℕ) : Type 0 where
  pub place : s.place < last_place
  pub least : 48 ≤ b
