-- The definitions on small inputs: what is accepted, what is refused and at which place, and what is written.
-- Assumes nothing.
use mathlib.Core.Path.{◌≡◌, refl}
use mathlib.Core.List.{List, [], ◌∷◌, ◌++◌}
use Prim.Native.Nat.{ℕ}
use lib.ListN.{replicate}
use Rattle.text.specs.Texts.{digits}
use Rattle.header.specs.Inner.Heads.{head_of}
use Rattle.answer.specs.Answers.{Answer}
use Rattle.answer.specs.Answers.{accepted_with}
use Rattle.std.specs.Prelude.{Err}
use Rattle.answer.specs.declared.Refusal.TheVariants.{Room, Text, ClauseBytes}
use Rattle.clausebytes.specs.Words.{words_of, clauses_in, closed_from, all_within}
use Rattle.body.specs.declared.state.State.{State}
use Rattle.dimacs.specs.Texts.{cnf, write_call}
use Rattle.dimacs.specs.Inner.Calls.{read_call}
use Rattle.dimacs.proofs.Laws.ReadCall.{end_at}

-- `p cnf `
abbrev start : List ℕ
start = 112 ∷ 32 ∷ 99 ∷ 110 ∷ 102 ∷ 32 ∷ []

-- the answer to a text, with a buffer of sixteen bytes
abbrev answers : List ℕ → Answer
answers t = (read_call t (replicate 16 7)).answer

-- where the text only ends too early, its length
-- ``
empty : answers ([]) ≡ Err (Text 0)
empty = refl

-- `c`
comment_alone : answers (99 ∷ []) ≡ Err (Text 1)
comment_alone = refl

-- `p cnf 1 1\n1`
literal-open : answers (start ++ (49 ∷ 32 ∷ 49 ∷ 10 ∷ 49 ∷ [])) ≡ Err (Text 11)
literal-open = refl

-- a number ends a reading at the digit that takes it over its limit
-- `p cnf 40001`
variables-over : answers (start ++ (52 ∷ 48 ∷ 48 ∷ 48 ∷ 49 ∷ [])) ≡ Err (Text 10)
variables-over = refl

-- `p cnf 40000 0\n`
variables-most : answers (start ++ (52 ∷ 48 ∷ 48 ∷ 48 ∷ 48 ∷ 32 ∷ 48 ∷ 10 ∷ [])) ≡ accepted_with 40000 0
variables-most = refl

-- `p cnf 1 65535`
clauses-over : answers (start ++ (49 ∷ 32 ∷ 54 ∷ 53 ∷ 53 ∷ 51 ∷ 53 ∷ [])) ≡ Err (Text 12)
clauses-over = refl

-- `p cnf 30 1\n31 0`
magnitude-over : answers (start ++ (51 ∷ 48 ∷ 32 ∷ 49 ∷ 10 ∷ 51 ∷ 49 ∷ 32 ∷ 48 ∷ [])) ≡ Err (Text 12)
magnitude-over = refl

-- `p cnf 1 1\n2 0`
magnitude_over_at_once : answers (start ++ (49 ∷ 32 ∷ 49 ∷ 10 ∷ 50 ∷ 32 ∷ 48 ∷ [])) ≡ Err (Text 10)
magnitude_over_at_once = refl

-- past the last declared clause no literal and no zero may begin
-- `p cnf 1 1\n0 0`
clause_too_many : answers (start ++ (49 ∷ 32 ∷ 49 ∷ 10 ∷ 48 ∷ 32 ∷ 48 ∷ [])) ≡ Err (Text 12)
clause_too_many = refl

-- `p cnf 1 1\n0 1`
literal_past_the_clauses : answers (start ++ (49 ∷ 32 ∷ 49 ∷ 10 ∷ 48 ∷ 32 ∷ 49 ∷ [])) ≡ Err (Text 12)
literal_past_the_clauses = refl

-- `p cnf 1 1\n0 -`
minus_past_the_clauses : answers (start ++ (49 ∷ 32 ∷ 49 ∷ 10 ∷ 48 ∷ 32 ∷ 45 ∷ [])) ≡ Err (Text 12)
minus_past_the_clauses = refl

-- a `-` needs a variable, and is never followed by 0
-- `p cnf 0 1\n-0 0`
minus_without_variables : answers (start ++ (48 ∷ 32 ∷ 49 ∷ 10 ∷ 45 ∷ 48 ∷ 32 ∷ 48 ∷ [])) ≡ Err (Text 10)
minus_without_variables = refl

-- `p cnf 2 1\n-0 0`
minus-zero : answers (start ++ (50 ∷ 32 ∷ 49 ∷ 10 ∷ 45 ∷ 48 ∷ 32 ∷ 48 ∷ [])) ≡ Err (Text 11)
minus-zero = refl

-- no leading zero; literals and zeros are parted
-- `p cnf 1 2\n00`
two_zeros : answers (start ++ (49 ∷ 32 ∷ 50 ∷ 10 ∷ 48 ∷ 48 ∷ [])) ≡ Err (Text 11)
two_zeros = refl

-- `p cnf 01`
leading_zero : answers (start ++ (48 ∷ 49 ∷ [])) ≡ Err (Text 7)
leading_zero = refl

-- `p cnf 2 1\n1-2 0`
not-parted : answers (start ++ (50 ∷ 32 ∷ 49 ∷ 10 ∷ 49 ∷ 45 ∷ 50 ∷ 32 ∷ 48 ∷ [])) ≡ Err (Text 11)
not-parted = refl

-- `p cnf 2 1\n+1 0`
plus : answers (start ++ (50 ∷ 32 ∷ 49 ∷ 10 ∷ 43 ∷ 49 ∷ 32 ∷ 48 ∷ [])) ≡ Err (Text 10)
plus = refl

-- CR is wrong in the header, white space in the body and an ordinary byte in a comment
-- `p cnf 1 1\r\n1 0\n`
return_in_header : answers (start ++ (49 ∷ 32 ∷ 49 ∷ 13 ∷ 10 ∷ 49 ∷ 32 ∷ 48 ∷ 10 ∷ [])) ≡ Err (Text 9)
return_in_header = refl

-- `p cnf 1 1\n1\r\n0\r\n`
return_in_body : answers (start ++ (49 ∷ 32 ∷ 49 ∷ 10 ∷ 49 ∷ 13 ∷ 10 ∷ 48 ∷ 13 ∷ 10 ∷ [])) ≡ accepted_with 1 1
return_in_body = refl

-- `c\r\np cnf 0 0\n`
return_in_comment : answers (99 ∷ 13 ∷ 10 ∷ 112 ∷ 32 ∷ 99 ∷ 110 ∷ 102 ∷ 32 ∷ 48 ∷ 32 ∷ 48 ∷ 10 ∷ []) ≡ accepted_with 0 0
return_in_comment = refl

-- comments stand only before the header, and no blank or indented line does
-- `p cnf 0 0\nc`
comment-behind-header : answers (start ++ (48 ∷ 32 ∷ 48 ∷ 10 ∷ 99 ∷ [])) ≡ Err (Text 10)
comment-behind-header = refl

-- `\np`
blank-line : answers (10 ∷ 112 ∷ []) ≡ Err (Text 0)
blank-line = refl

-- ` p`
indented : answers (32 ∷ 112 ∷ []) ≡ Err (Text 0)
indented = refl

-- neither VT nor FF is white space
-- `p cnf 0 0\n\v`
vertical_tab : answers (start ++ (48 ∷ 32 ∷ 48 ∷ 10 ∷ 11 ∷ [])) ≡ Err (Text 10)
vertical_tab = refl

-- `p cnf 0 0\n\f`
form_feed : answers (start ++ (48 ∷ 32 ∷ 48 ∷ 10 ∷ 12 ∷ [])) ≡ Err (Text 10)
form_feed = refl

-- no variable and no clause: white space alone may follow
-- `p cnf 0 0\n`
nothing-declared : answers (start ++ (48 ∷ 32 ∷ 48 ∷ 10 ∷ [])) ≡ accepted_with 0 0
nothing-declared = refl

-- `p cnf 0 0\n \t\r\n`
white_space_alone : answers (start ++ (48 ∷ 32 ∷ 48 ∷ 10 ∷ 32 ∷ 9 ∷ 13 ∷ 10 ∷ [])) ≡ accepted_with 0 0
white_space_alone = refl

-- `p cnf 1 0\n1`
literal_where_none : answers (start ++ (49 ∷ 32 ∷ 48 ∷ 10 ∷ 49 ∷ [])) ≡ Err (Text 10)
literal_where_none = refl

-- the header needs its newline, the last zero none
-- `p cnf 0 0`
no_newline : answers (start ++ (48 ∷ 32 ∷ 48 ∷ [])) ≡ Err (Text 9)
no_newline = refl

-- `p \t cnf\t1  1 \t\n0`
spaces_in_header : answers (112 ∷ 32 ∷ 9 ∷ 32 ∷ 99 ∷ 110 ∷ 102 ∷ 9 ∷ 49 ∷ 32 ∷ 32 ∷ 49 ∷ 32 ∷ 9 ∷ 10 ∷ 48 ∷ []) ≡ accepted_with 1 1
spaces_in_header = refl

-- `p cnf 2 2\n1 -2 0 0`
two_clauses : answers (start ++ (50 ∷ 32 ∷ 50 ∷ 10 ∷ 49 ∷ 32 ∷ 45 ∷ 50 ∷ 32 ∷ 48 ∷ 32 ∷ 48 ∷ [])) ≡ accepted_with 2 2
two_clauses = refl

-- a literal counts from its first byte, a clause from its zero: `p cnf 1 1\n1`, `p cnf 1 1\n1 0`
abbrev ended : List ℕ → State
ended t = end_at (head_of cnf t) t

literal-counted : (ended (start ++ (49 ∷ 32 ∷ 49 ∷ 10 ∷ 49 ∷ []))).literals ≡ 1
literal-counted = refl

clause_not_yet : (ended (start ++ (49 ∷ 32 ∷ 49 ∷ 10 ∷ 49 ∷ []))).clauses ≡ 0
clause_not_yet = refl

clause-counted : (ended (start ++ (49 ∷ 32 ∷ 49 ∷ 10 ∷ 49 ∷ 32 ∷ 48 ∷ []))).clauses ≡ 1
clause-counted = refl

-- `1 -2 0` and `0` as bytes; a buffer that is one byte short; a wrong text is refusal 8 whatever the room
two_clauses_bytes : read_call (start ++ (50 ∷ 32 ∷ 50 ∷ 10 ∷ 49 ∷ 32 ∷ 45 ∷ 50 ∷ 32 ∷ 48 ∷ 32 ∷ 48 ∷ []))
    (5 ∷ 5 ∷ 5 ∷ 5 ∷ 5 ∷ 5 ∷ 5 ∷ 5 ∷ 5 ∷ 5 ∷ 5 ∷ 5 ∷ 5 ∷ 5 ∷ 5 ∷ 5 ∷ 9 ∷ [])
    ≡ record { answer = accepted_with 2 2; output = 1 ∷ 0 ∷ 0 ∷ 0 ∷ 254 ∷ 255 ∷ 255 ∷ 255 ∷ 0 ∷ 0 ∷ 0 ∷ 0 ∷ 0 ∷ 0 ∷ 0 ∷ 0 ∷ 9 ∷ [] }
two_clauses_bytes = refl

one-short : read_call (start ++ (49 ∷ 32 ∷ 49 ∷ 10 ∷ 48 ∷ [])) (5 ∷ 6 ∷ 7 ∷ []) ≡ record { answer = Err Room; output = 5 ∷ 6 ∷ 7 ∷ [] }
one-short = refl

wrong-and-short : read_call (99 ∷ []) [] ≡ record { answer = Err (Text 1); output = [] }
wrong-and-short = refl

-- writing: declared variables over 40,000 is 9 even for no bytes
variables_over_for_no_bytes : write_call ([]) 40001 (1 ∷ []) ≡ record { answer = Err ClauseBytes; output = 1 ∷ [] }
unfolding digits words_of clauses_in closed_from all_within
variables_over_for_no_bytes = refl

-- the number -2,147,483,648 is 9
lowest-number : write_call (0 ∷ 0 ∷ 0 ∷ 128 ∷ 0 ∷ 0 ∷ 0 ∷ 0 ∷ []) 40000 (1 ∷ []) ≡ record { answer = Err ClauseBytes; output = 1 ∷ [] }
unfolding digits words_of clauses_in closed_from all_within
lowest-number = refl

-- the last clause is not closed
not-closed : write_call (1 ∷ 0 ∷ 0 ∷ 0 ∷ []) 1 (1 ∷ []) ≡ record { answer = Err ClauseBytes; output = 1 ∷ [] }
unfolding digits words_of clauses_in closed_from all_within
not-closed = refl

-- the length is no multiple of 4
no_multiple_of_four : write_call (0 ∷ 0 ∷ 0 ∷ 0 ∷ 0 ∷ []) 1 (1 ∷ []) ≡ record { answer = Err ClauseBytes; output = 1 ∷ [] }
unfolding digits words_of clauses_in closed_from all_within
no_multiple_of_four = refl

-- no clause gives the header line alone
no_clause : write_call ([]) 0 (replicate 11 1) ≡ record {
  answer = accepted_with 0 0;
  output =
      112 ∷ 32 ∷ 99 ∷ 110 ∷ 102 ∷ 32 ∷ 48 ∷ 32 ∷ 48 ∷ 10 ∷ 1 ∷ [];
}
unfolding digits words_of clauses_in closed_from all_within
no_clause = refl

-- the same in a buffer that is one byte short
no_clause_short : write_call ([]) 0 (replicate 9 1) ≡ record { answer = Err Room; output = replicate 9 1 }
unfolding digits words_of clauses_in closed_from all_within
no_clause_short = refl

-- `1 -12 0` and `0`
clauses-written : write_call (1 ∷ 0 ∷ 0 ∷ 0 ∷ 244 ∷ 255 ∷ 255 ∷ 255 ∷ 0 ∷ 0 ∷ 0 ∷ 0 ∷ 0 ∷ 0 ∷ 0 ∷ 0 ∷ []) 12
    (replicate 22 1) ≡ record {
      answer = accepted_with 12 2;
      output =
          112 ∷ 32 ∷ 99 ∷ 110 ∷ 102 ∷ 32 ∷ 49 ∷ 50 ∷ 32 ∷ 50 ∷ 10 ∷ 49 ∷ 32 ∷ 45 ∷ 49 ∷ 50 ∷ 32 ∷ 48 ∷ 10 ∷ 48 ∷ 10 ∷ 1 ∷ [];
    }
unfolding digits words_of clauses_in closed_from all_within
clauses-written = refl
