-- What reading a node file into a lent buffer leaves.
-- Assumes nothing: this is a definition.
use Rattle.std.specs.Prelude.{List, ℕ}
use Rattle.answer.specs.Answers.{Wrote, afterwards, stored}
use Rattle.nodefile.specs.Files.{file_checked, file_table}

-- R13.7 and R10.19: reading a node file into a lent buffer
abbrev pub file_read : List ℕ → List ℕ → Wrote (List ℕ)
file_read text buffer = afterwards (file_checked text) buffer (stored (file_checked text) (file_table text) buffer)
