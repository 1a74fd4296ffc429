-- The head of a text as it is read byte by byte: the state, and one byte on.
-- `Heads` has its grammar, and `proofs/Headed` says that both are the same.
-- Assumes nothing: these are definitions.
use Rattle.std.specs.Prelude.{Bool, true, false, cond, is_none, Option, Some, None, ◌||◌, List, ◌≡◌, ℕ, ◌+◌, ◌-◌, ◌^◌, ◌<◌, eqb}
use Rattle.laws.specs.Automata.{run}
use Rattle.text.specs.Inner.Numbers.{is_digit, grown_of}
use Rattle.classes.specs.Inner.Classes.{class_of, is_letter}
use Rattle.header.specs.Heads.{most_before}
use Rattle.header.specs.declared.Form.{Form}
use Rattle.header.specs.declared.Head.{Head}
use Rattle.header.specs.declared.Phase.{Phase}
use Rattle.header.specs.declared.Phase.TheVariants.{At, Done, Dead}
use Rattle.header.specs.declared.Spot.{Spot}
use Rattle.header.specs.declared.Spot.TheVariants.{Line, Comment, Problem, BeforeWord, Second, Third, Word, BeforeNumber}
use Rattle.header.specs.declared.Spot.TheVariants.{Number, After}

-- a place that can still grow
abbrev pub last_place : ℕ
last_place = 2 ^ 64 - 1

abbrev pub is_blank : ℕ → Bool
is_blank b = eqb b 32 || eqb b 9

abbrev pub is_done : Phase → Bool
is_done (At p) = false
is_done Done = true
is_done Dead = false

abbrev pub is_over : Phase → Bool
is_over (At p) = false
is_over Done = true
is_over Dead = true

abbrev pub is_comment_at : Spot → Bool
is_comment_at Line = false
is_comment_at Comment = true
is_comment_at Problem = false
is_comment_at BeforeWord = false
is_comment_at Second = false
is_comment_at Third = false
is_comment_at Word = false
is_comment_at BeforeNumber = false
is_comment_at Number = false
is_comment_at After = false

abbrev pub is_comment : Phase → Bool
is_comment (At p) = is_comment_at p
is_comment Done = false
is_comment Dead = false

-- before the first byte
abbrev pub start_of : Form → Head
start_of f = record { phase = At Line; place = 0; value = 0; before = 0; last = is_none f.before }

-- one byte on, to a phase; dead at its place; and either, by a test
abbrev pub to_of : Head → Phase → Head
to_of s p = record { phase = p; place = s.place + 1; value = s.value; before = s.before; last = s.last }

abbrev pub dead_of : Head → Head
dead_of s = record { phase = Dead; place = s.place; value = s.value; before = s.before; last = s.last }

abbrev pub go_of : Head → Bool → Phase → Head
go_of s right p = cond right (to_of s p) (dead_of s)

-- a digit was taken in, or could not be
abbrev pub taken_of : Head → Option ℕ → Head
taken_of s None = dead_of s
taken_of s (Some x) = record { phase = At Number; place = s.place + 1; value = x; before = s.before; last = s.last }

-- the limit of the last number, or of the one before it
abbrev pub most_of : Form → Bool → ℕ
most_of f last = cond last f.last (most_before f)

-- one byte on, in each phase
abbrev pub line_of : Head → ℕ → Head
line_of s b = cond (eqb b 99) (to_of s (At Comment)) (go_of s (eqb b 112) (At Problem))

abbrev pub comment_of : Head → ℕ → Head
comment_of s b = cond (eqb b 10) (to_of s (At Line)) (to_of s (At Comment))

abbrev pub before_word_of : Head → ℕ → ℕ → Head
before_word_of s b letter = cond (is_blank b) (to_of s (At BeforeWord)) (go_of s (eqb b letter) (At Second))

abbrev pub before_number_of : Head → ℕ → ℕ → Head
before_number_of s b most =
    cond (is_blank b) (to_of s (At BeforeNumber))
    (cond (is_digit b) (taken_of s (grown_of false 0 (b - 48) most)) (dead_of s))

abbrev pub space_by : Bool → Head → Head
space_by true s = to_of s (At After)
space_by false s = record { phase = At BeforeNumber; place = s.place + 1; value = 0; before = s.value; last = true }

abbrev pub space_of : Head → Head
space_of s = space_by s.last s

abbrev pub number_in : Head → ℕ → ℕ → Head
number_in s b most =
    cond (is_digit b) (taken_of s (grown_of true s.value (b - 48) most))
    (cond (is_blank b) (space_of s) (cond (eqb b 10) (go_of s s.last Done) (dead_of s)))

abbrev pub after_of : Head → ℕ → Head
after_of s b = cond (is_blank b) (to_of s (At After)) (go_of s (eqb b 10) Done)

abbrev pub step_at : Spot → Form → Head → ℕ → Head
step_at Line f s b = line_of s b
step_at Comment f s b = comment_of s b
step_at Problem f s b = go_of s (is_blank b) (At BeforeWord)
step_at BeforeWord f s b = before_word_of s b f.first
step_at Second f s b = go_of s (eqb b f.second) (At Third)
step_at Third f s b = go_of s (eqb b f.third) (At Word)
step_at Word f s b = go_of s (is_blank b) (At BeforeNumber)
step_at BeforeNumber f s b = before_number_of s b (most_of f s.last)
step_at Number f s b = number_in s b (most_of f s.last)
step_at After f s b = after_of s b

abbrev pub step_in : Phase → Form → Head → ℕ → Head
step_in (At p) f s b = step_at p f s b
step_in Done f s b = s
step_in Dead f s b = s

abbrev pub step_of : Form → Head → ℕ → Head
step_of f s b = step_in s.phase f s b

-- the state after a text
abbrev pub head_of : Form → List ℕ → Head
head_of f t = run (step_of f) (start_of f) t

-- each letter of the word has a class of its own
pub record Lettered (f : Form) : Type 0 where
  pub first : is_letter (class_of f.first) ≡ true
  pub second : is_letter (class_of f.second) ≡ true
  pub third : is_letter (class_of f.third) ≡ true

-- what one byte on needs, beside a place that can still grow: a letter, or the letters of the word
pub record ReadyFor (letter place : ℕ) : Type 0 where
  pub own : is_letter (class_of letter) ≡ true
  pub room : place < last_place

pub record ReadyIn (f : Form) (place : ℕ) : Type 0 where
  pub letters : Lettered f
  pub room : place < last_place
