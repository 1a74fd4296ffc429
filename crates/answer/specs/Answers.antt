-- R10, R11: the number, the place and the two values of each answer, the order of the checks, and what a call leaves a host.
-- Assumes nothing: these are definitions.
use Rattle.std.specs.Prelude.{Bool, true, false, cond, ℕ, eqb, ltb, List, ◌++◌, length, Result, Ok, Err}
use Rattle.answer.specs.declared.Accepted.{Accepted}
use Rattle.answer.specs.declared.Fault.{Fault}
use Rattle.answer.specs.declared.Fault.TheVariants.{UnknownKind, UnusedNotZero, ChildNotBelow, SymbolOutside}
use Rattle.answer.specs.declared.Refusal.{Refusal}
use Rattle.answer.specs.declared.Refusal.TheVariants.{TableLength, Options, Record, Set, Clauses, Literals, Room, Text}
use Rattle.answer.specs.declared.Refusal.TheVariants.{ClauseBytes, Line, AnswerPart, NoClause, Names, SatText, Nodes}
use Rattle.answer.specs.declared.Told.{Told}
use Rattle.laws.specs.Lists.{splice}
use Rattle.laws.specs.Numbers.{cap, little}

-- R10.5
abbrev pub most_shown : ℕ
most_shown = 4_294_967_295

-- R10.4
abbrev pub refused : ℕ → ℕ → Told
refused number place = record { number = number; place = place; first = 0; second = 0 }

-- what a call answers: acceptance, or a refusal
abbrev pub Answer : Type 0
Answer = Result Accepted Refusal

abbrev pub accepted_with : ℕ → ℕ → Answer
accepted_with first second = Ok (record { first = first; second = second })

-- R10.12, R10.20 to R10.22: the numbers of the faults of a record
abbrev pub number_of_fault : Fault → ℕ
number_of_fault UnknownKind = 3
number_of_fault UnusedNotZero = 12
number_of_fault ChildNotBelow = 13
number_of_fault SymbolOutside = 14

-- R10.9 to R10.19; the number of a wrong record is that of its fault. Only of a text can a place be over the largest that shows (R10.5)
abbrev pub refusal_told : Refusal → Told
refusal_told TableLength = refused 1 0
refusal_told Options = refused 2 0
refusal_told (Record fault node) = refused (number_of_fault fault) node
refusal_told (Set node) = refused 4 node
refusal_told Clauses = refused 5 0
refusal_told Literals = refused 6 0
refusal_told Room = refused 7 0
refusal_told (Text place) = refused 8 (cap most_shown place)
refusal_told ClauseBytes = refused 9 0
refusal_told (Line line) = refused 10 line
refusal_told AnswerPart = refused 11 0
refusal_told (NoClause clause) = refused 15 clause
refusal_told Names = refused 16 0
refusal_told (SatText place) = refused 17 (cap most_shown place)
refusal_told Nodes = refused 18 0

-- R10.8: the number 0 for acceptance, and the two values
abbrev pub told_of : Answer → Told
told_of (Ok a) = record { number = 0; place = 0; first = a.first; second = a.second }
told_of (Err r) = refusal_told r

-- exactly a refusal has a number that is not 0 (`refuses-number` of Laws/Order)
abbrev pub refuses : Answer → Bool
refuses (Ok a) = false
refuses (Err r) = true

-- R10.2: a refusal stands, and after acceptance the next check decides
abbrev pub after : Answer → Answer → Answer
after a next = cond (refuses a) a next

-- R11.3: number, place and the two values
abbrev pub bytes_of : Told → List ℕ
bytes_of t = little 4 t.number ++ (little 4 (cap most_shown t.place) ++ (little 4 t.first ++ little 4 t.second))

-- what a call answers, and what it leaves in the lent outputs; O is the type of all of them together
pub record Wrote (O : Type 0) : Type 0 where
  pub answer : Answer
  pub output : O

-- a call without an output
abbrev pub only : Answer → Wrote (Unit {0})
only a = record { answer = a; output = tt }

-- R10.2 and R11.5: a refusal leaves the outputs as they were, and after acceptance the rest of the call decides
abbrev pub afterwards : {O : Type 0} → Answer → O → Wrote O → Wrote O
afterwards a before w = cond (refuses a) (record { answer = a; output = before }) w

-- R10.19 and R11.6: refusal 7 where the bytes are more than the buffer has; else they are its first ones, and the rest stays
abbrev pub stored : Answer → List ℕ → List ℕ → Wrote (List ℕ)
stored a bytes before =
    cond (ltb (length before) (length bytes))
    (record { answer = Err Room; output = before })
    (record { answer = a; output = splice before 0 bytes })

-- what a host finds after a call
pub record Left (O : Type 0) : Type 0 where
  pub result : ℕ
  pub output : O
  pub part : List ℕ

-- R10.8 and R11.4: a part that is not 16 bytes is looked at first, and then nothing is written
abbrev pub leaves : {O : Type 0} → List ℕ → O → Wrote O → Left O
leaves part before w =
    cond (eqb (length part) 16)
    (record { result = (told_of w.answer).number; output = w.output; part = bytes_of (told_of w.answer) })
    (record { result = (told_of (Err AnswerPart)).number; output = before; part = part })
