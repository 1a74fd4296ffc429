-- R13.12 to R13.14: what the program prints for a node file.
-- Assumes nothing: these are definitions.
use Rattle.std.specs.Prelude.{cond, List, [], ◌∷◌, ◌++◌, ℕ, ◌≤◌, length, replicate}
use Rattle.laws.specs.Inner.Stores.{Stored}
use Rattle.laws.specs.Numbers.{cap}
use Rattle.text.specs.Texts.{decimal}
use Rattle.answer.specs.Answers.{told_of, refuses, most_shown}
use Rattle.answer.specs.Answers.{Answer}
use Rattle.formula.specs.Checks.{checked}
use Rattle.formula.specs.Tables.{nodes_of}
use Rattle.clausal.specs.Choosing.{choose}
use Rattle.clausal.specs.Clauses.{clauses_bytes, renaming, variables_of}
use Rattle.clausal.specs.Output.{output_of}
use Rattle.clausebytes.specs.Words.{clauses_of}
use Rattle.clausal.specs.Calls.{converted}
use Rattle.dimacs.specs.Texts.{write_call, written_text}
use Rattle.nodefile.specs.Files.{file_checked, file_table, line_of, option_count}

-- R13.12
abbrev pub allowance : ℕ
allowance = 1024

-- R13.13: the bytes of a buffer, and a buffer before it is written
abbrev pub buffer_bytes : ℕ
buffer_bytes = 65_536

unfoldable pub blank : List ℕ
blank = replicate buffer_bytes 0

-- R13.14: `refused` and a tab, then a number and the byte behind it, twice
abbrev pub refused_name : List ℕ
refused_name = 114 ∷ 101 ∷ 102 ∷ 117 ∷ 115 ∷ 101 ∷ 100 ∷ 9 ∷ []

abbrev pub field : ℕ → ℕ → List ℕ
field n end = decimal n ++ (end ∷ [])

abbrev pub refusal_line : Answer → List ℕ
refusal_line a = refused_name ++ (field (told_of a).number 9 ++ field (cap most_shown (told_of a).place) 10)

-- R13.14: the line of a refusal, or what comes after acceptance
abbrev pub unless_refused : Answer → List ℕ → List ℕ
unless_refused a text = cond (refuses a) (refusal_line a) text

-- R13.12: of clause bytes their text is printed ..
abbrev pub clauses_printed : List ℕ → ℕ → List ℕ
clauses_printed bytes v = unless_refused (write_call bytes v blank).answer (written_text v (clauses_of bytes))

-- .. of a table under a set its clauses ..
abbrev pub set_printed : List ℕ → ℕ → List ℕ → List ℕ
set_printed t v s =
    unless_refused (converted t v s blank).answer
    (clauses_printed (clauses_bytes (output_of (renaming v s) (nodes_of t))) (variables_of (renaming v s) (length (nodes_of t))))

-- .. of a table what it comes to under the set that is chosen for it ..
abbrev pub table_printed : List ℕ → ℕ → List ℕ
table_printed t v = unless_refused (checked t v) (set_printed t v (choose allowance (renaming v []) (nodes_of t)).chosen)

-- .. and of a node file its table. R13.7: refusal 10 comes before all others
abbrev pub printed : List ℕ → List ℕ
printed text = unless_refused (file_checked text) (table_printed (file_table text) (option_count (line_of text 0)))

-- bytes stand at the start of a buffer that has room for them, and the rest of it is as before; `count` says how many they are
pub record Shows (bytes before : List ℕ) (count : ℕ) (after : List ℕ) : Type 0 where
  pub stored : Stored bytes before 0 count after
  pub within : count ≤ length after
