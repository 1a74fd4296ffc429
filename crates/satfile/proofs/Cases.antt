-- The definitions on small inputs: what is accepted and as which formula, what is refused and at which place, and what a table is.
-- Assumes nothing.
use mathlib.Core.Path.{◌≡◌, refl}
use mathlib.Core.List.{List, [], ◌∷◌}
use Prim.Native.Nat.{ℕ}
use lib.ListN.{replicate}
use Rattle.answer.specs.Answers.{Answer}
use Rattle.answer.specs.Answers.{accepted_with}
use Rattle.std.specs.Prelude.{Err}
use Rattle.answer.specs.declared.Refusal.TheVariants.{Room, SatText}
use Rattle.satfile.specs.Trees.{Tree, And, Or, Symbol, Empty, Not, Joined, records_from, table_of}
use Rattle.satfile.specs.Inner.Reads.{Out, Read, Bad, skipped, digits_from, begin_in, group_from, formula_in, whole_in}
use Rattle.satfile.specs.Inner.Calls.{read_call}

-- what a formula of three options is read as
abbrev reads : List ℕ → Out Tree
reads t = whole_in 3 t

-- a symbol: `2`
one_symbol : reads (50 ∷ []) ≡ Read (Symbol 2) []
unfolding skipped digits_from begin_in group_from formula_in
one_symbol = refl

-- white space round the formula: ` \t\r\n1\n`
white_round : reads (32 ∷ 9 ∷ 13 ∷ 10 ∷ 49 ∷ 10 ∷ []) ≡ Read (Symbol 1) []
unfolding skipped digits_from begin_in group_from formula_in
white_round = refl

-- parentheses add nothing: `( (3 ) )`
in_parentheses : reads (40 ∷ 32 ∷ 40 ∷ 51 ∷ 32 ∷ 41 ∷ 32 ∷ 41 ∷ []) ≡ Read (Symbol 3) []
unfolding skipped digits_from begin_in group_from formula_in
in_parentheses = refl

-- a not: `-1`
negated-symbol : reads (45 ∷ 49 ∷ []) ≡ Read (Not (Symbol 1)) []
unfolding skipped digits_from begin_in group_from formula_in
negated-symbol = refl

-- a not of parentheses: `-( -1)`
negated_parentheses : reads (45 ∷ 40 ∷ 32 ∷ 45 ∷ 49 ∷ 41 ∷ []) ≡ Read (Not (Not (Symbol 1))) []
unfolding skipped digits_from begin_in group_from formula_in
negated_parentheses = refl

-- a list is folded from the left: `*(1 2 3)`
from_the_left : reads (42 ∷ 40 ∷ 49 ∷ 32 ∷ 50 ∷ 32 ∷ 51 ∷ 41 ∷ []) ≡ Read (Joined And (Joined And (Symbol 1) (Symbol 2)) (Symbol 3)) []
unfolding skipped digits_from begin_in group_from formula_in
from_the_left = refl

-- or: `+( 1 -2)`
any_of : reads (43 ∷ 40 ∷ 32 ∷ 49 ∷ 32 ∷ 45 ∷ 50 ∷ 41 ∷ []) ≡ Read (Joined Or (Symbol 1) (Not (Symbol 2))) []
unfolding skipped digits_from begin_in group_from formula_in
any_of = refl

-- a list of one is its member: `*( 2 )`
list_of_one : reads (42 ∷ 40 ∷ 32 ∷ 50 ∷ 32 ∷ 41 ∷ []) ≡ Read (Symbol 2) []
unfolding skipped digits_from begin_in group_from formula_in
list_of_one = refl

-- an empty list: `*()`
empty-and : reads (42 ∷ 40 ∷ 41 ∷ []) ≡ Read (Empty And) []
unfolding skipped digits_from begin_in group_from formula_in
empty-and = refl

-- an empty list with white space: `+( )`
empty_or : reads (43 ∷ 40 ∷ 32 ∷ 41 ∷ []) ≡ Read (Empty Or) []
unfolding skipped digits_from begin_in group_from formula_in
empty_or = refl

-- there has to be a formula: ``
no_formula : reads [] ≡ Bad []
unfolding skipped digits_from begin_in group_from formula_in
no_formula = refl

-- a number has no leading zero: `01`
leading_zero : reads (48 ∷ 49 ∷ []) ≡ Bad (48 ∷ 49 ∷ [])
unfolding skipped digits_from begin_in group_from formula_in
leading_zero = refl

-- a number dies at the digit that takes it over V: `30`
number-over : reads (51 ∷ 48 ∷ []) ≡ Bad (48 ∷ [])
unfolding skipped digits_from begin_in group_from formula_in
number-over = refl

-- a `-` is followed at once: `- 1`
minus-apart : reads (45 ∷ 32 ∷ 49 ∷ []) ≡ Bad (32 ∷ 49 ∷ [])
unfolding skipped digits_from begin_in group_from formula_in
minus-apart = refl

-- and not by another: `--1`
twice_negated : reads (45 ∷ 45 ∷ 49 ∷ []) ≡ Bad (45 ∷ 49 ∷ [])
unfolding skipped digits_from begin_in group_from formula_in
twice_negated = refl

-- a `*` is followed at once by its parenthesis: `* (1)`
star_apart : reads (42 ∷ 32 ∷ 40 ∷ 49 ∷ 41 ∷ []) ≡ Bad (32 ∷ 40 ∷ 49 ∷ 41 ∷ [])
unfolding skipped digits_from begin_in group_from formula_in
star_apart = refl

-- members are parted: `*(1(2))`
not-parted : reads (42 ∷ 40 ∷ 49 ∷ 40 ∷ 50 ∷ 41 ∷ 41 ∷ []) ≡ Bad (40 ∷ 50 ∷ 41 ∷ 41 ∷ [])
unfolding skipped digits_from begin_in group_from formula_in
not-parted = refl

-- parentheses hold a formula: `()`
empty_parentheses : reads (40 ∷ 41 ∷ []) ≡ Bad (41 ∷ [])
unfolding skipped digits_from begin_in group_from formula_in
empty_parentheses = refl

-- and no second one: `(1 2)`
two_in_parentheses : reads (40 ∷ 49 ∷ 32 ∷ 50 ∷ 41 ∷ []) ≡ Bad (50 ∷ 41 ∷ [])
unfolding skipped digits_from begin_in group_from formula_in
two_in_parentheses = refl

-- what is opened is closed: `(1`
not-closed : reads (40 ∷ 49 ∷ []) ≡ Bad []
unfolding skipped digits_from begin_in group_from formula_in
not-closed = refl

-- and no more: `1)`
closed_too_often : reads (49 ∷ 41 ∷ []) ≡ Bad (41 ∷ [])
unfolding skipped digits_from begin_in group_from formula_in
closed_too_often = refl

-- a text has one formula: `1 2`
second-formula : reads (49 ∷ 32 ∷ 50 ∷ []) ≡ Bad (50 ∷ [])
unfolding skipped digits_from begin_in group_from formula_in
second-formula = refl

-- without options there is no symbol: `1`
no_options : whole_in 0 (49 ∷ []) ≡ Bad (49 ∷ [])
unfolding skipped digits_from begin_in group_from formula_in
no_options = refl

-- but a list of none: `*()`
no_options_list : whole_in 0 (42 ∷ 40 ∷ 41 ∷ []) ≡ Read (Empty And) []
unfolding skipped digits_from begin_in group_from formula_in
no_options_list = refl

-- with one parenthesis left to open and no option, only a list can stand: what is read of `(`, `-` and `*()`
abbrev last : List ℕ → Out Tree
last t = formula_in 0 1 t

-- `(*())`
last-plain : last (40 ∷ 42 ∷ 40 ∷ 41 ∷ 41 ∷ []) ≡ Bad (40 ∷ 42 ∷ 40 ∷ 41 ∷ 41 ∷ [])
unfolding skipped digits_from begin_in group_from formula_in
last-plain = refl

-- `-(*())`
last-minus : last (45 ∷ 40 ∷ 42 ∷ 40 ∷ 41 ∷ 41 ∷ []) ≡ Bad (45 ∷ 40 ∷ 42 ∷ 40 ∷ 41 ∷ 41 ∷ [])
unfolding skipped digits_from begin_in group_from formula_in
last-minus = refl

-- `*()`
last-list : last (42 ∷ 40 ∷ 41 ∷ []) ≡ Read (Empty And) []
unfolding skipped digits_from begin_in group_from formula_in
last-list = refl

-- and with two left a `-` can still be finished
-- `-(*())`
two_left : formula_in 0 2 (45 ∷ 40 ∷ 42 ∷ 40 ∷ 41 ∷ 41 ∷ []) ≡ Read (Not (Empty And)) []
unfolding skipped digits_from begin_in group_from formula_in
two_left = refl

-- no parenthesis is left to open
-- `*()`
none_left : formula_in 3 0 (42 ∷ 40 ∷ 41 ∷ []) ≡ Bad (42 ∷ 40 ∷ 41 ∷ [])
unfolding skipped digits_from begin_in group_from formula_in
none_left = refl

-- the table of a formula: `*(1 2)`, `-1` and `+()`
table-and : table_of (Joined And (Symbol 1) (Symbol 2)) ≡ 2 ∷ 1 ∷ 0 ∷ 0 ∷ 0 ∷ 2 ∷ 2 ∷ 0 ∷ 0 ∷ 0 ∷ 4 ∷ 0 ∷ 0 ∷ 1 ∷ 0 ∷ []
unfolding records_from
table-and = refl

table-not : table_of (Not (Symbol 1)) ≡ 2 ∷ 1 ∷ 0 ∷ 0 ∷ 0 ∷ 3 ∷ 0 ∷ 0 ∷ 0 ∷ 0 ∷ []
unfolding records_from
table-not = refl

table_none : table_of (Empty Or) ≡ 0 ∷ 0 ∷ 0 ∷ 0 ∷ 0 ∷ []
unfolding records_from
table_none = refl

-- whole texts, with a table of five bytes
abbrev answers : List ℕ → Answer
answers t = (read_call t (replicate 5 7)).answer

-- options and nodes are reported: `p sat 3\n2`
accepted : answers (112 ∷ 32 ∷ 115 ∷ 97 ∷ 116 ∷ 32 ∷ 51 ∷ 10 ∷ 50 ∷ []) ≡ accepted_with 3 1
unfolding skipped digits_from begin_in group_from formula_in records_from
accepted = refl

-- a table of two nodes has no room: `p sat 3\n-2`
too_long : answers (112 ∷ 32 ∷ 115 ∷ 97 ∷ 116 ∷ 32 ∷ 51 ∷ 10 ∷ 45 ∷ 50 ∷ []) ≡ Err Room
unfolding skipped digits_from begin_in group_from formula_in records_from
too_long = refl

-- the word of the other format: `p cnf 3\n2`
other_word : answers (112 ∷ 32 ∷ 99 ∷ 110 ∷ 102 ∷ 32 ∷ 51 ∷ 10 ∷ 50 ∷ []) ≡ Err (SatText 2)
unfolding skipped digits_from begin_in group_from formula_in records_from
other_word = refl

-- options over their limit: `p sat 32001\n1`
options-over : answers (112 ∷ 32 ∷ 115 ∷ 97 ∷ 116 ∷ 32 ∷ 51 ∷ 50 ∷ 48 ∷ 48 ∷ 49 ∷ 10 ∷ 49 ∷ []) ≡ Err (SatText 10)
unfolding skipped digits_from begin_in group_from formula_in records_from
options-over = refl

-- a comment stands before the header: `p sat 3\nc\n1`
comment-behind : answers (112 ∷ 32 ∷ 115 ∷ 97 ∷ 116 ∷ 32 ∷ 51 ∷ 10 ∷ 99 ∷ 10 ∷ 49 ∷ []) ≡ Err (SatText 8)
unfolding skipped digits_from begin_in group_from formula_in records_from
comment-behind = refl

-- the place counts from the first byte of the text: `c\np sat 3\n*(1 4)`
wrong-inside : answers (99 ∷ 10 ∷ 112 ∷ 32 ∷ 115 ∷ 97 ∷ 116 ∷ 32 ∷ 51 ∷ 10 ∷ 42 ∷ 40 ∷ 49 ∷ 32 ∷ 52 ∷ 41 ∷ []) ≡ Err (SatText 14)
unfolding skipped digits_from begin_in group_from formula_in records_from
wrong-inside = refl
