-- The reader behind the header as a table, by the phase that it is in and what the next byte is.
-- Assumes nothing: these are definitions.
use Rattle.std.specs.Prelude.{Bool, true, false, ℕ}
use Rattle.classes.specs.Inner.Classes as class
use Rattle.classes.specs.Inner.Classes.{Class, class_of}
use Rattle.body.specs.declared.phase.Phase.{Phase}
use Rattle.body.specs.declared.phase.Phase.TheVariants.{Between, Closed, Sign, Plain, Negated, Dead}

-- what a byte is behind the header: `0`, another digit, `-`, white space, or none of these
pub data Sort : Type 0 where
  Nought Digit Minus White Other : Sort

abbrev pub sort_in : Class → Sort
sort_in class.Blank = White
sort_in class.Return = White
sort_in class.Newline = White
sort_in class.Minus = Minus
sort_in class.LetterC = Other
sort_in class.LetterF = Other
sort_in class.LetterN = Other
sort_in class.LetterP = Other
sort_in class.Rest = Other
sort_in class.Nought = Nought
sort_in class.Digit = Digit

abbrev pub sort_of : ℕ → Sort
sort_of b = sort_in (class_of b)

-- what the reader does with a byte: no accepted text goes on so; white space that ends no literal; a zero; the first digit of a literal
-- without `-`; a `-`; the digit behind it; a further digit; white space behind a literal, without `-` or with it
pub data Act : Type 0 where
  Die Go Close Begin Turn Lead Grow EndPlain EndNegated : Act

-- a row of the table: an act for each sort
abbrev pub row : Act → Act → Act → Act → Act → Sort → Act
row z d m w o Nought = z
row z d m w o Digit = d
row z d m w o Minus = m
row z d m w o White = w
row z d m w o Other = o

-- what is done in each phase
abbrev pub act_of : Phase → Sort → Act
act_of Between k = row Close Begin Turn Go Die k
act_of Closed k = row Die Die Die Go Die k
act_of Sign k = row Die Lead Die Die Die k
act_of Plain k = row Grow Grow Die EndPlain Die k
act_of Negated k = row Grow Grow Die EndNegated Die k
act_of Dead k = Die

-- what is complete with a byte: nothing, the zero that closes a clause, a literal without `-`, or one with it
pub data Token : Type 0 where
  Nothing Zero Positive Negative : Token

abbrev pub token_of : Act → Token
token_of Die = Nothing
token_of Go = Nothing
token_of Close = Zero
token_of Begin = Nothing
token_of Turn = Nothing
token_of Lead = Nothing
token_of Grow = Nothing
token_of EndPlain = Positive
token_of EndNegated = Negative

-- whether a text may end in a phase: behind a zero, or behind white space
abbrev pub ends_in : Phase → Bool
ends_in Between = true
ends_in Closed = true
ends_in Sign = false
ends_in Plain = false
ends_in Negated = false
ends_in Dead = false

-- whether no accepted text begins so; whether the reader is in the digits of a literal
abbrev pub is_dead : Phase → Bool
is_dead Between = false
is_dead Closed = false
is_dead Sign = false
is_dead Plain = false
is_dead Negated = false
is_dead Dead = true

abbrev pub is_number : Phase → Bool
is_number Between = false
is_number Closed = false
is_number Sign = false
is_number Plain = true
is_number Negated = true
is_number Dead = false
