-- What giving an answer leaves.
-- Assumes nothing: this is a definition.
use Rattle.std.specs.Prelude.{List, ◌≡◌, ℕ}
use Rattle.answer.specs.Answers.{Answer, told_of, bytes_of}

-- an answer was given: its number is returned, and the part has its bytes
pub record Given (a : Answer) (result : ℕ) (part : List ℕ) : Type 0 where
  pub number : result ≡ (told_of a).number
  pub bytes : part ≡ bytes_of (told_of a)
