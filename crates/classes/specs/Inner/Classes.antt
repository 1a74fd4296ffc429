-- R20.1 to R20.3: the classes of bytes in a DIMACS text, and the table of all bytes.
-- Assumes nothing: these are definitions.
use Rattle.std.specs.Prelude.{◌≡◌, Bool, true, false, cond, List, ℕ, eqb, ltb}
use Rattle.laws.specs.Lists.{up_to}

-- R20.1: space or tab, CR, LF; `-`; four letters; what is none of these; `0`, and the other digits
pub data Class : Type 0 where
  Blank Return Newline : Class
  Minus : Class
  LetterC LetterF LetterN LetterP : Class
  Rest : Class
  Nought Digit : Class

-- R20.1: the class of a byte, below the digits and above them, and of any byte
abbrev pub low_of : ℕ → Class
low_of b =
    cond (eqb b 32) Blank (cond (eqb b 9) Blank (cond (eqb b 13) Return (cond (eqb b 10) Newline (cond (eqb b 45) Minus Rest))))

abbrev pub high_of : ℕ → Class
high_of b = cond (eqb b 99) LetterC (cond (eqb b 102) LetterF (cond (eqb b 110) LetterN (cond (eqb b 112) LetterP Rest)))

abbrev pub class_of : ℕ → Class
class_of b = cond (ltb b 48) (low_of b) (cond (eqb b 48) Nought (cond (ltb b 58) Digit (high_of b)))

-- R20.2: the number of a class
abbrev pub code : Class → ℕ
code Blank = 0
code Return = 1
code Newline = 2
code Minus = 3
code LetterC = 4
code LetterF = 5
code LetterN = 6
code LetterP = 7
code Rest = 8
code Nought = 9
code Digit = 10

-- R20.2: the table: of each byte from 0 on the number of its class
abbrev pub table : List ℕ
table = up_to (λ before b. code (class_of b)) 256

-- R20.3: white space, and digits
abbrev pub is_white : Class → Bool
is_white Blank = true
is_white Return = true
is_white Newline = true
is_white Minus = false
is_white LetterC = false
is_white LetterF = false
is_white LetterN = false
is_white LetterP = false
is_white Rest = false
is_white Nought = false
is_white Digit = false

abbrev pub is_digit : Class → Bool
is_digit Blank = false
is_digit Return = false
is_digit Newline = false
is_digit Minus = false
is_digit LetterC = false
is_digit LetterF = false
is_digit LetterN = false
is_digit LetterP = false
is_digit Rest = false
is_digit Nought = true
is_digit Digit = true

-- R20.1: a letter with a class of its own, or one of the rest, beside the table
abbrev pub is_letter : Class → Bool
is_letter Blank = false
is_letter Return = false
is_letter Newline = false
is_letter Minus = false
is_letter LetterC = true
is_letter LetterF = true
is_letter LetterN = true
is_letter LetterP = true
is_letter Rest = true
is_letter Nought = false
is_letter Digit = false

pub record Spelt (classes : List ℕ) (letter : ℕ) : Type 0 where
  pub table : classes ≡ table
  pub own : is_letter (class_of letter) ≡ true
