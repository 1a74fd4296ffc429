-- Lines of small formulas, whole, and each refusal of the calls in its order.
-- Assumes nothing.
use mathlib.Core.Path.{◌≡◌, refl}
use mathlib.Core.List.{List, [], ◌∷◌, ◌++◌}
use Prim.Native.Nat.{ℕ}
use lib.ListN.{replicate}
use Rattle.answer.specs.Answers.{Answer}
use Rattle.answer.specs.Answers.{accepted_with}
use Rattle.std.specs.Prelude.{Err}
use Rattle.answer.specs.declared.Refusal.TheVariants.{TableLength, Set, NoClause, Names, Room}
use Rattle.laws.specs.Lists.{first_from, up_to}
use Rattle.marks.specs.Marks.{down_from}
use Rattle.formula.specs.Tables.{nodes_of}
use Rattle.text.specs.Texts.{digits, parted}
use Rattle.names.specs.Names.{has, names_are, name_of}
use Rattle.clausal.specs.Clauses.{renaming, renamed_below}
use Rattle.clausal.specs.Output.{definitions}
use Rattle.origin.specs.Calls.{origin_call, origins_call}
use Rattle.origin.specs.Origins.{line_of, lines_of}

-- R14.7: s1, s2, E = s1 equivalent s2, and the root, E equivalent E
abbrev twice : List ℕ
twice =
    2 ∷ 1 ∷ 0 ∷ 0 ∷ 0 ∷ 2 ∷ 2 ∷ 0 ∷ 0 ∷ 0 ∷ 7 ∷ 0 ∷ 0 ∷ 1 ∷ 0 ∷ 7 ∷ 2 ∷ 0 ∷ 2 ∷ 0 ∷ []

-- R14.8: s1, s2, s1 and s2, and the root, not that
abbrev negation : List ℕ
negation =
    2 ∷ 1 ∷ 0 ∷ 0 ∷ 0 ∷ 2 ∷ 2 ∷ 0 ∷ 0 ∷ 0 ∷ 4 ∷ 0 ∷ 0 ∷ 1 ∷ 0 ∷ 3 ∷ 2 ∷ 0 ∷ 0 ∷ 0 ∷ []

-- node 2 is renamed
abbrev second : List ℕ
second = 0 ∷ 0 ∷ 1 ∷ 0 ∷ []

-- `a\nb\n`, and `[2]\n`
abbrev options : List ℕ
options = 97 ∷ 10 ∷ 98 ∷ 10 ∷ []

abbrev helpers : List ℕ
helpers = 91 ∷ 50 ∷ 93 ∷ 10 ∷ []

-- 0|3|0|root|0|![2]|[2]
-- 1|3|0|root|1|![2]|[2]
-- 2|2|3|down|0|![2]|!a|b
-- 3|2|3|down|1|![2]|!b|a
-- 4|2|3|up|0|!a|!b|[2]
-- 5|2|3|up|1|a|b|[2]
abbrev six_lines : List ℕ
six_lines =
    48 ∷ 9 ∷ 51 ∷ 9 ∷ 48 ∷ 9 ∷ 114 ∷ 111 ∷ 111 ∷ 116 ∷ 9 ∷ 48 ∷ 9 ∷ 33 ∷ 91 ∷ 50 ∷ 93 ∷ 9 ∷ 91 ∷ 50 ∷ 93 ∷ 10 ∷ 49 ∷ 9 ∷ 51 ∷
    9 ∷ 48 ∷ 9 ∷ 114 ∷ 111 ∷ 111 ∷ 116 ∷ 9 ∷ 49 ∷ 9 ∷ 33 ∷ 91 ∷ 50 ∷ 93 ∷ 9 ∷ 91 ∷ 50 ∷ 93 ∷ 10 ∷ 50 ∷ 9 ∷ 50 ∷ 9 ∷ 51 ∷ 9 ∷
    100 ∷ 111 ∷ 119 ∷ 110 ∷ 9 ∷ 48 ∷ 9 ∷ 33 ∷ 91 ∷ 50 ∷ 93 ∷ 9 ∷ 33 ∷ 97 ∷ 9 ∷ 98 ∷ 10 ∷ 51 ∷ 9 ∷ 50 ∷ 9 ∷ 51 ∷ 9 ∷ 100 ∷ 111 ∷
    119 ∷ 110 ∷ 9 ∷ 49 ∷ 9 ∷ 33 ∷ 91 ∷ 50 ∷ 93 ∷ 9 ∷ 33 ∷ 98 ∷ 9 ∷ 97 ∷ 10 ∷ 52 ∷ 9 ∷ 50 ∷ 9 ∷ 51 ∷ 9 ∷ 117 ∷ 112 ∷ 9 ∷ 48 ∷
    9 ∷ 33 ∷ 97 ∷ 9 ∷ 33 ∷ 98 ∷ 9 ∷ 91 ∷ 50 ∷ 93 ∷ 10 ∷ 53 ∷ 9 ∷ 50 ∷ 9 ∷ 51 ∷ 9 ∷ 117 ∷ 112 ∷ 9 ∷ 49 ∷ 9 ∷ 97 ∷ 9 ∷ 98 ∷ 9 ∷
    91 ∷ 50 ∷ 93 ∷ 10 ∷ []

six_lines_lem : lines_of (name_of options helpers 2) (renaming 2 second) (nodes_of twice) 6 ≡ six_lines
unfolding first_from up_to down_from definitions renamed_below digits parted has names_are lines_of
six_lines_lem = refl

-- 0|3|0|root|0|![2]
-- 1|2|3|up|0|!a|!b|[2]
abbrev two_lines : List ℕ
two_lines =
    48 ∷ 9 ∷ 51 ∷ 9 ∷ 48 ∷ 9 ∷ 114 ∷ 111 ∷ 111 ∷ 116 ∷ 9 ∷ 48 ∷ 9 ∷ 33 ∷ 91 ∷ 50 ∷ 93 ∷ 10 ∷ 49 ∷ 9 ∷ 50 ∷ 9 ∷ 51 ∷ 9 ∷ 117 ∷
    112 ∷ 9 ∷ 48 ∷ 9 ∷ 33 ∷ 97 ∷ 9 ∷ 33 ∷ 98 ∷ 9 ∷ 91 ∷ 50 ∷ 93 ∷ 10 ∷ []

two_lines_lem : lines_of (name_of options helpers 2) (renaming 2 second) (nodes_of negation) 2 ≡ two_lines
unfolding first_from up_to down_from definitions renamed_below digits parted has names_are lines_of
two_lines_lem = refl

-- false is one empty clause, and its line ends right behind the number: 0|0|0|root|0
empty-clause : line_of (name_of [] [] 0) (renaming 0 (0 ∷ [])) (nodes_of (0 ∷ 0 ∷ 0 ∷ 0 ∷ 0 ∷ [])) 0
    ≡ 48 ∷ 9 ∷ 48 ∷ 9 ∷ 48 ∷ 9 ∷ 114 ∷ 111 ∷ 111 ∷ 116 ∷ 9 ∷ 48 ∷ 10 ∷ []
unfolding first_from up_to down_from definitions renamed_below digits parted has names_are lines_of
empty-clause = refl

-- what is answered for clause k of R14.8, with lists of names and a buffer of n bytes
abbrev answers : ℕ → List ℕ → List ℕ → ℕ → Answer
answers k names others n = (origin_call negation 2 second k names others (replicate n 0)).answer

-- the line of clause 1 has 21 bytes
just-fits : answers 1 options helpers 21 ≡ accepted_with 3 2
unfolding first_from up_to down_from definitions renamed_below digits parted has names_are lines_of
just-fits = refl

one-byte-short : answers 1 options helpers 20 ≡ Err Room
unfolding first_from up_to down_from definitions renamed_below digits parted has names_are lines_of
one-byte-short = refl

-- clause 2 is not there, whatever the lists are
at_the_count : answers 2 [] [] 0 ≡ Err (NoClause 2)
unfolding first_from up_to down_from definitions renamed_below digits parted has names_are lines_of
at_the_count = refl

-- a name short, and a name too many; the room is looked at later
name-short : answers 1 (97 ∷ 10 ∷ []) helpers 0 ≡ Err Names
unfolding first_from up_to down_from definitions renamed_below digits parted has names_are lines_of
name-short = refl

name_too_many : answers 1 options (helpers ++ helpers) 0 ≡ Err Names
unfolding first_from up_to down_from definitions renamed_below digits parted has names_are lines_of
name_too_many = refl

-- a set that is too short comes before all of these, and a wrong table before it
set_first : (origin_call negation 2 [] 9 [] [] []).answer ≡ Err (Set 4)
unfolding first_from up_to down_from definitions renamed_below digits parted has names_are lines_of
set_first = refl

table-first : (origin_call [] 2 [] 9 [] [] []).answer ≡ Err TableLength
unfolding first_from up_to down_from definitions renamed_below digits parted has names_are lines_of
table-first = refl

-- all lines of R14.8 have 39 bytes
all_lines : (origins_call negation 2 second options helpers (replicate 39 0)).answer ≡ accepted_with 3 2
unfolding first_from up_to down_from definitions renamed_below digits parted has names_are lines_of
all_lines = refl

all-lines-short : (origins_call negation 2 second options helpers (replicate 38 0)).answer ≡ Err Room
unfolding first_from up_to down_from definitions renamed_below digits parted has names_are lines_of
all-lines-short = refl

-- true has no clause: there is no line, and no clause 0
no_lines : (origins_call (1 ∷ 0 ∷ 0 ∷ 0 ∷ 0 ∷ []) 0 (0 ∷ []) [] [] []).answer ≡ accepted_with 0 0
unfolding first_from up_to down_from definitions renamed_below digits parted has names_are lines_of
no_lines = refl

no_first : (origin_call (1 ∷ 0 ∷ 0 ∷ 0 ∷ 0 ∷ []) 0 (0 ∷ []) 0 [] [] []).answer ≡ Err (NoClause 0)
unfolding first_from up_to down_from definitions renamed_below digits parted has names_are lines_of
no_first = refl
