-- R13.1 to R13.9: which lines of a node file are right, what they say, and what a whole file says.
-- Assumes nothing: these are definitions.
use Rattle.std.specs.Prelude.{Bool, true, false, ◌&&◌, cond, List, [], ◌∷◌, ◌++◌, ℕ, zero, suc, ◌+◌, ◌-◌, eqb, ltb, get_or, length}
use Rattle.text.specs.Texts.{value_of, same, is_number, parted}
use Rattle.formula.specs.Tables.{node_record, most_nodes}
use Rattle.laws.specs.Lists.{first}
use Rattle.answer.specs.Answers.{Answer}
use Rattle.answer.specs.Answers.{accepted_with}
use Rattle.std.specs.Prelude.{Err}
use Rattle.answer.specs.declared.Refusal.TheVariants.{Line}

-- R13.1: the fields of a line, with a tab between every two
abbrev pub newline : ℕ
newline = 10

abbrev pub tab : ℕ
tab = 9

abbrev pub fields_of : List ℕ → List (List ℕ)
fields_of line = parted tab line

-- R13.3: the value of field j of a line
abbrev pub field_value : List ℕ → ℕ → ℕ
field_value line j = value_of (get_or (fields_of line) j [])

-- R13.4: the limits of a kind, and of every other number
abbrev pub most_kind : ℕ
most_kind = 255

abbrev pub most_number : ℕ
most_number = 65_535

-- R13.4: as many fields as limits, each a number up to its limit
unfoldable pub are_numbers : List ℕ → List (List ℕ) → Bool
are_numbers [] [] = true
are_numbers [] (f ∷ fs) = false
are_numbers (most ∷ limits) [] = false
are_numbers (most ∷ limits) (f ∷ fs) = is_number most f && are_numbers limits fs

-- R13.2: the word `options`, and V
abbrev pub options_word : List ℕ
options_word = 111 ∷ 112 ∷ 116 ∷ 105 ∷ 111 ∷ 110 ∷ 115 ∷ []

abbrev pub option_fields : List (List ℕ) → Bool
option_fields [] = false
option_fields (f ∷ fs) = same f options_word && are_numbers (most_number ∷ []) fs

abbrev pub option_line : List ℕ → Bool
option_line line = option_fields (fields_of line)

abbrev pub option_count : List ℕ → ℕ
option_count line = field_value line 1

-- R13.3 and R13.5: the line of node i has its number, its kind, a and b
abbrev pub node_limits : List ℕ
node_limits = most_number ∷ most_kind ∷ most_number ∷ most_number ∷ []

abbrev pub node_line : ℕ → List ℕ → Bool
node_line i line = are_numbers node_limits (fields_of line) && eqb (field_value line 0) i

abbrev pub record_of : List ℕ → List ℕ
record_of line = node_record (field_value line 1) (field_value line 2) (field_value line 3)

-- R13.1: the number of lines that are ended; what stands behind the last newline is no line
abbrev pub line_count : List ℕ → ℕ
line_count text = length (parted newline text) - 1

-- R13.1: line i, from 0; at the number of lines, what stands behind the last newline
abbrev pub line_of : List ℕ → ℕ → List ℕ
line_of text i = get_or (parted newline text) i []

-- R13.2, R13.3 and R13.5: whether line i is right; line 0 has the options, line i node i - 1
abbrev pub line_right : List ℕ → ℕ → Bool
line_right text zero = option_line (line_of text zero)
line_right text (suc i) = ltb i most_nodes && node_line i (line_of text (suc i))

-- R13.6: the nodes of a right file, and their records, one behind the other
abbrev pub file_nodes : List ℕ → ℕ
file_nodes text = line_count text - 1

unfoldable pub records_to : List ℕ → ℕ → List ℕ
records_to text zero = []
records_to text (suc k) = records_to text k ++ record_of (line_of text (suc k))

abbrev pub file_table : List ℕ → List ℕ
file_table text = records_to text (file_nodes text)

-- R13.7: the lowest line that is wrong, or the number of lines
abbrev pub first_wrong : List ℕ → ℕ
first_wrong text = first (line_right text) (line_count text)

-- R13.8: every line is right, the option line is there, and no line is left without its newline
abbrev pub file_right : List ℕ → Bool
file_right text =
    ltb 0 (line_count text)
    && (eqb (first_wrong text) (line_count text)
    && eqb (length (line_of text (line_count text))) 0)

-- R13.9
abbrev pub most_bytes : ℕ
most_bytes = 65_536

-- R10.9: refusal 10 with the line, told from 1; or the option count and the nodes
abbrev pub file_checked : List ℕ → Answer
file_checked text =
    cond (ltb most_bytes (length text)) (Err (Line 0))
    (cond (file_right text) (accepted_with (option_count (line_of text 0)) (file_nodes text)) (Err (Line (first_wrong text + 1))))
