-- The definitions on small inputs: what is accepted, what is refused and under which number, and what is stored.
-- Assumes nothing.
use mathlib.Core.Path.{◌≡◌, refl}
use mathlib.Core.List.{List, [], ◌∷◌, ◌++◌}
use mathlib.Core.Bool.{false}
use Prim.Native.Nat.{ℕ, ◌<◌}
use lib.ListN.{length, replicate}
use borrow.Author.Tests.{lt-ltb}
use Rattle.laws.specs.Lists.{first_from}
use Rattle.answer.specs.Answers.{Answer}
use Rattle.answer.specs.Answers.{accepted_with}
use Rattle.std.specs.Prelude.{Err}
use Rattle.answer.specs.declared.Refusal.TheVariants.{Room, Line}
use Rattle.text.specs.Texts.{digits, value_from, same, parted}
use Rattle.nodefile.specs.Files.{are_numbers, line_right, records_to, file_checked}
use Rattle.nodefile.specs.Inner.Reads.{file_read}

-- `options` and a tab
abbrev word : List ℕ
word = 111 ∷ 112 ∷ 116 ∷ 105 ∷ 111 ∷ 110 ∷ 115 ∷ 9 ∷ []

-- `options\t2\n`
abbrev two : List ℕ
two = word ++ (50 ∷ 10 ∷ [])

-- `0\t2\t1\t0\n`
abbrev zero : List ℕ
zero = 48 ∷ 9 ∷ 50 ∷ 9 ∷ 49 ∷ 9 ∷ 48 ∷ 10 ∷ []

-- the answer to a text, with a buffer of five bytes
abbrev answers : List ℕ → Answer
answers text = (file_read text (replicate 5 7)).answer

-- no text: the option line is missing
no_text : answers [] ≡ Err (Line 1)
unfolding parted digits value_from are_numbers same records_to first_from
no_text = refl

-- a file with no node line
-- `options\t2\n`
no_node : answers two ≡ accepted_with 2 0
unfolding parted digits value_from are_numbers same records_to first_from
no_node = refl

-- a last line without its newline is wrong under its own number
-- `options\t2`
option-line-open : answers (word ++ (50 ∷ [])) ≡ Err (Line 1)
unfolding parted digits value_from are_numbers same records_to first_from
option-line-open = refl

-- `options\t2\n0\t2\t1\t0`
node-line-open : answers (two ++ (48 ∷ 9 ∷ 50 ∷ 9 ∷ 49 ∷ 9 ∷ 48 ∷ [])) ≡ Err (Line 2)
unfolding parted digits value_from are_numbers same records_to first_from
node-line-open = refl

-- an empty line, and a CR
-- `options\t2\n\n`
line-empty : answers (two ++ (10 ∷ [])) ≡ Err (Line 2)
unfolding parted digits value_from are_numbers same records_to first_from
line-empty = refl

-- `\noptions\t2\n`
first-line-empty : answers (10 ∷ 111 ∷ 112 ∷ 116 ∷ 105 ∷ 111 ∷ 110 ∷ 115 ∷ 9 ∷ 50 ∷ 10 ∷ []) ≡ Err (Line 1)
unfolding parted digits value_from are_numbers same records_to first_from
first-line-empty = refl

-- `options\t2\r\n`
return-before-newline : answers (word ++ (50 ∷ 13 ∷ 10 ∷ [])) ≡ Err (Line 1)
unfolding parted digits value_from are_numbers same records_to first_from
return-before-newline = refl

-- another word, no option count, a tab too many
-- `option\t2\n`
word-wrong : answers (111 ∷ 112 ∷ 116 ∷ 105 ∷ 111 ∷ 110 ∷ 9 ∷ 50 ∷ 10 ∷ []) ≡ Err (Line 1)
unfolding parted digits value_from are_numbers same records_to first_from
word-wrong = refl

-- `options\n`
options-missing : answers (111 ∷ 112 ∷ 116 ∷ 105 ∷ 111 ∷ 110 ∷ 115 ∷ 10 ∷ []) ≡ Err (Line 1)
unfolding parted digits value_from are_numbers same records_to first_from
options-missing = refl

-- `options\t\n`
options-empty : answers (word ++ (10 ∷ [])) ≡ Err (Line 1)
unfolding parted digits value_from are_numbers same records_to first_from
options-empty = refl

-- `options\t2\t\n`
options-tab : answers (word ++ (50 ∷ 9 ∷ 10 ∷ [])) ≡ Err (Line 1)
unfolding parted digits value_from are_numbers same records_to first_from
options-tab = refl

-- no leading zero and no sign; 0 itself is right
-- `options\t0\n`
options-zero : answers (word ++ (48 ∷ 10 ∷ [])) ≡ accepted_with 0 0
unfolding parted digits value_from are_numbers same records_to first_from
options-zero = refl

-- `options\t02\n`
options_leading_zero : answers (word ++ (48 ∷ 50 ∷ 10 ∷ [])) ≡ Err (Line 1)
unfolding parted digits value_from are_numbers same records_to first_from
options_leading_zero = refl

-- `options\t+2\n`
options_plus : answers (word ++ (43 ∷ 50 ∷ 10 ∷ [])) ≡ Err (Line 1)
unfolding parted digits value_from are_numbers same records_to first_from
options_plus = refl

-- the limits of numbers
-- `options\t65535\n`
options-most : answers (word ++ (54 ∷ 53 ∷ 53 ∷ 51 ∷ 53 ∷ 10 ∷ [])) ≡ accepted_with 65535 0
unfolding parted digits value_from are_numbers same records_to first_from
options-most = refl

-- `options\t65536\n`
options-over : answers (word ++ (54 ∷ 53 ∷ 53 ∷ 51 ∷ 54 ∷ 10 ∷ [])) ≡ Err (Line 1)
unfolding parted digits value_from are_numbers same records_to first_from
options-over = refl

-- `options\t2\n0\t255\t1\t0\n`
kind_most : answers (two ++ (48 ∷ 9 ∷ 50 ∷ 53 ∷ 53 ∷ 9 ∷ 49 ∷ 9 ∷ 48 ∷ 10 ∷ [])) ≡ accepted_with 2 1
unfolding parted digits value_from are_numbers same records_to first_from
kind_most = refl

-- `options\t2\n0\t256\t1\t0\n`
kind_over : answers (two ++ (48 ∷ 9 ∷ 50 ∷ 53 ∷ 54 ∷ 9 ∷ 49 ∷ 9 ∷ 48 ∷ 10 ∷ [])) ≡ Err (Line 2)
unfolding parted digits value_from are_numbers same records_to first_from
kind_over = refl

-- node numbers run 0, 1, 2; the first wrong line is told
-- `options\t2\n1\t2\t1\t0\n`
number-wrong : answers (two ++ (49 ∷ 9 ∷ 50 ∷ 9 ∷ 49 ∷ 9 ∷ 48 ∷ 10 ∷ [])) ≡ Err (Line 2)
unfolding parted digits value_from are_numbers same records_to first_from
number-wrong = refl

-- `options\t2\n0\t2\t1\t0\n0\t2\t1\t0\n1\t2\n`
number-again : answers (two ++ (zero ++ (zero ++ (49 ∷ 9 ∷ 50 ∷ 10 ∷ [])))) ≡ Err (Line 3)
unfolding parted digits value_from are_numbers same records_to first_from
number-again = refl

-- a field too few, a tab too many, two tabs
-- `options\t2\n0\t2\t1\n`
field-missing : answers (two ++ (48 ∷ 9 ∷ 50 ∷ 9 ∷ 49 ∷ 10 ∷ [])) ≡ Err (Line 2)
unfolding parted digits value_from are_numbers same records_to first_from
field-missing = refl

-- `options\t2\n0\t2\t1\t0\t\n`
tab_too_many : answers (two ++ (48 ∷ 9 ∷ 50 ∷ 9 ∷ 49 ∷ 9 ∷ 48 ∷ 9 ∷ 10 ∷ [])) ≡ Err (Line 2)
unfolding parted digits value_from are_numbers same records_to first_from
tab_too_many = refl

-- `options\t2\n0\t\t2\t1\t0\n`
two_tabs : answers (two ++ (48 ∷ 9 ∷ 9 ∷ 50 ∷ 9 ∷ 49 ∷ 9 ∷ 48 ∷ 10 ∷ [])) ≡ Err (Line 2)
unfolding parted digits value_from are_numbers same records_to first_from
two_tabs = refl

-- example 13: the whole input
abbrev example : List ℕ
example =
    two
    ++ (zero
    ++ ((49 ∷ 9 ∷ 50 ∷ 9 ∷ 50 ∷ 9 ∷ 48 ∷ 10 ∷ [])
    ++ ((50 ∷ 9 ∷ 55 ∷ 9 ∷ 48 ∷ 9 ∷ 49 ∷ 10 ∷ [])
    ++ ((51 ∷ 9 ∷ 55 ∷ 9 ∷ 50 ∷ 9 ∷ 50 ∷ 10 ∷ [])))))

-- its nodes, five bytes each
abbrev table : List ℕ
table = 2 ∷ 1 ∷ 0 ∷ 0 ∷ 0 ∷ 2 ∷ 2 ∷ 0 ∷ 0 ∷ 0 ∷ 7 ∷ 0 ∷ 0 ∷ 1 ∷ 0 ∷ 7 ∷ 2 ∷ 0 ∷ 2 ∷ 0 ∷ []

-- its table in the front of a buffer, which is kept behind it
example_read : file_read example (replicate 22 9) ≡ record { answer = accepted_with 2 4; output = table ++ (9 ∷ 9 ∷ []) }
unfolding parted digits value_from are_numbers same records_to first_from
example_read = refl

-- a buffer with too little room is kept
example_room : file_read example (replicate 19 9) ≡ record { answer = Err Room; output = replicate 19 9 }
unfolding parted digits value_from are_numbers same records_to first_from
example_room = refl

-- the 1,025th node line is wrong, whatever it says
line_too_many : (text : List ℕ) → line_right text 1025 ≡ false
line_too_many text = refl

-- a text that is too long is refused with line 0, whatever it says
text_too_long : (text : List ℕ) → 65_536 < length text → file_checked text ≡ Err (Line 0)
text_too_long text h = rw (lt-ltb 65_536 (length text) h)
