-- What stands behind the header, from a place on: where it leads the reader, the clause bytes put out on the way, and what reading its
-- parts asks and gives.
-- Assumes nothing: these are definitions.
use Rattle.std.specs.Prelude.{◌≡◌, true, false, List, [], ◌⊎◌, ℕ, ◌≤◌, ◌<◌, eqb, length, get_or, drop}
use Rattle.laws.specs.Numbers.{little}
use Rattle.laws.specs.Automata.{run, output}
use Rattle.classes.specs.Inner.Classes.{class_of, code, is_white, is_digit}
use Rattle.clausal.specs.Clauses.{literal_bytes}
use Rattle.body.specs.Inner.Table.{sort_of, act_of, token_of, is_dead, is_number, Token, Nothing, Zero, Positive, Negative}
use Rattle.body.specs.Inner.States.{step_of}
use Rattle.body.specs.declared.phase.Phase.TheVariants.{Between}
use Rattle.body.specs.declared.state.State.{State}

-- the clause bytes of what is complete, with the magnitude read
abbrev pub token_bytes : Token → ℕ → List ℕ
token_bytes Nothing x = []
token_bytes Zero x = little 4 0
token_bytes Positive x = literal_bytes (record { plain = true; variable = x })
token_bytes Negative x = literal_bytes (record { plain = false; variable = x })

-- the clause bytes that are complete with a byte
abbrev pub puts_of : State → ℕ → List ℕ
puts_of s b = token_bytes (token_of (act_of s.phase (sort_of b))) s.value

-- the state after a text from a place on, and the clause bytes put out on the way
abbrev pub state_from : State → List ℕ → ℕ → State
state_from start text from = run step_of start (drop from text)

abbrev pub bytes_from : State → List ℕ → ℕ → List ℕ
bytes_from start text from = output step_of puts_of start (drop from text)

-- the byte that is read next
abbrev pub next_in : List ℕ → State → ℕ
next_in text s = get_or text s.place 0

-- a text leads from one state to another
pub record Leads (text : List ℕ) (s r : State) : Type 0 where
  pub state : state_from s text s.place ≡ state_from r text r.place
  pub onward : s.place ≤ r.place
  pub within : r.place ≤ length text

-- a reading that ends here: no accepted text begins so, or there is no more text
pub data Over (text : List ℕ) (s : State) : Type 0 where
  dead : is_dead s.phase ≡ true → Over text s
  end : length text ≤ s.place → Over text s

-- what reading a zero asks, and gives: the reading is over, or what comes next stands apart from it
pub record AtZero (text : List ℕ) (s : State) : Type 0 where
  pub place : s.place < length text
  pub phase : s.phase ≡ Between
  pub zero : eqb (code (class_of (next_in text s))) 9 ≡ true

pub record Zeroed (text : List ℕ) (s r : State) : Type 0 where
  pub leads : Leads text s r
  pub next : Over text r ⊎ (r.phase ≡ Between)
  pub further : is_dead r.phase ≡ false → s.place < r.place

-- what reading the first digit of a literal asks, and gives: the reading is over, or it is in the digits
pub record AtLiteral (text : List ℕ) (s : State) : Type 0 where
  pub place : s.place < length text
  pub phase : s.phase ≡ Between
  pub apart : is_white (class_of (next_in text s)) ≡ false
  pub some : eqb (code (class_of (next_in text s))) 9 ≡ false

pub record Begun (text : List ℕ) (s r : State) : Type 0 where
  pub leads : Leads text s r
  pub next : Over text r ⊎ (is_number r.phase ≡ true)

-- what reading the further digits asks, and gives: no accepted text begins so, or what comes next is no digit
pub record InDigits (text : List ℕ) (s : State) : Type 0 where
  pub place : s.place ≤ length text
  pub number : is_number s.phase ≡ true

pub record Ended (text : List ℕ) (s r : State) : Type 0 where
  pub leads : Leads text s r
  pub next : (is_dead r.phase ≡ true) ⊎ (is_number r.phase ≡ true)
  pub stops : is_dead r.phase ≡ false → r.place < length text → is_digit (class_of (next_in text r)) ≡ false

-- what reading a literal gives: the reading is over, or white space comes next
pub record Spelt (text : List ℕ) (s r : State) : Type 0 where
  pub leads : Leads text s r
  pub next : Over text r ⊎ ((is_number r.phase ≡ true) × (is_white (class_of (next_in text r)) ≡ true))

-- what a reading asks: a text from the state's place on, between literals
pub record Walking (text : List ℕ) (start : State) : Type 0 where
  pub place : start.place ≤ length text
  pub phase : start.phase ≡ Between
