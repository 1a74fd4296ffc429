-- R9.5 to R9.8, R9.10, R9.11 and R9.13: comments and a header, by productions, and white space.
-- Each family says what may stand in a place of a text, and takes what may follow.
-- Assumes nothing: these are definitions.
use Rattle.std.specs.Prelude.{Bool, true, false, is_none, unwrap_or, List, ◌∷◌, ◌++◌, ◌≡◌, ℕ, ◌≤◌}
use Rattle.text.specs.Texts.{decimal}
use Rattle.header.specs.declared.Form.{Form}

-- R9.6: a comment behind its `c`: any bytes but a newline, a newline, and then r
pub data Remark (r : List ℕ) : List ℕ → Type 0 where
  ended : Remark r (10 ∷ r)
  byte : {b : ℕ} {l : List ℕ} → (b ≡ 10 → ⊥) → Remark r l → Remark r (b ∷ l)

-- R9.7: a space or a tab; any number of them; at least one. By R9.11 a CR is neither
pub data Blank : ℕ → Type 0 where
  space : Blank 32
  tab : Blank 9

pub data Gap (Next : List ℕ → Type 0) : List ℕ → Type 0 where
  none : {r : List ℕ} → Next r → Gap Next r
  more : {b : ℕ} {r : List ℕ} → Blank b → Gap Next r → Gap Next (b ∷ r)

pub data Blanks (Next : List ℕ → Type 0) : List ℕ → Type 0 where
  blanks : {b : ℕ} {r : List ℕ} → Blank b → Gap Next r → Blanks Next (b ∷ r)

-- R9.10: white space behind a header
pub data White : ℕ → Type 0 where
  blank : {b : ℕ} → Blank b → White b
  return : White 13
  newline : White 10

-- R9.7: a certain byte
pub data Byte (b : ℕ) (Next : List ℕ → Type 0) : List ℕ → Type 0 where
  just : {r : List ℕ} → Next r → Byte b Next (b ∷ r)

-- R9.7: the word of the header
abbrev pub Word : Form → (List ℕ → Type 0) → List ℕ → Type 0
Word f Next = Byte f.first (Byte f.second (Byte f.third Next))

-- R9.8 and R9.13: a number up to a limit, in decimal
pub data Number (most : ℕ) (Next : ℕ → List ℕ → Type 0) : List ℕ → Type 0 where
  number : {n : ℕ} {r : List ℕ} → n ≤ most → Next n r → Number most Next (decimal n ++ r)

-- R9.7: the limit of the number before the last one; 0 where there is no such number
abbrev pub most_before : Form → ℕ
most_before f = unwrap_or f.before 0

-- R9.7: the last number, and the end of the line
abbrev pub LastNumber : Form → (ℕ → List ℕ → Type 0) → List ℕ → Type 0
LastNumber f Next = Number f.last (λ n. Gap (Byte 10 (Next n)))

-- R9.7: the numbers that come: the last one, behind m; or one more before it
abbrev pub Numbers : Form → (ℕ → ℕ → List ℕ → Type 0) → Bool → ℕ → List ℕ → Type 0
Numbers f Next true m = LastNumber f (Next m)
Numbers f Next false m = Number (most_before f) (λ n. Blanks (LastNumber f (Next n)))

-- R9.5 to R9.7: comments, then `p` and the word, and then the numbers
pub data Opening (f : Form) (Next : List ℕ → Type 0) : List ℕ → Type 0 where
  comment : {l r : List ℕ} → Remark r l → Opening f Next r → Opening f Next (99 ∷ l)
  header : {r : List ℕ} → Blanks (Word f (Blanks Next)) r → Opening f Next (112 ∷ r)

-- R9.5: a text with such a head, and behind it what may follow its two numbers; of one number alone the first of the two is 0
abbrev pub Headed : Form → (ℕ → ℕ → List ℕ → Type 0) → List ℕ → Type 0
Headed f Next = Opening f (Numbers f Next (is_none f.before) 0)
