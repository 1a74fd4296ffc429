-- The second reading of a text, which is known to be right: what has been read of a word, and what copying the words asks.
-- Assumes nothing: these are definitions.
use Rattle.std.specs.Prelude.{◌≡◌, Bool, true, false, cond, not, List, [], ℕ, ◌+◌, ◌*◌, ◌-◌, ◌^◌, ◌≤◌, ◌<◌, length}
use Rattle.classes.specs.Inner.Classes.{class_of, is_white, is_digit}
use Rattle.clausal.specs.Clauses.{literal_bytes}
use Rattle.body.specs.Inner.States.{accepts}
use Rattle.body.specs.declared.state.State.{State}
use Rattle.dimacs.specs.Inner.Walks.{state_from, bytes_from}
use Rattle.dimacs.specs.declared.copier.Pen.{Pen}

abbrev pub no_pen : Pen
no_pen = record { begun = false; negative = false; value = 0 }

-- the bytes of the word that has been read
abbrev pub pen_bytes : Pen → List ℕ
pen_bytes p = literal_bytes (record { plain = not p.negative; variable = p.value })

-- whether a word ends at a byte
abbrev pub ends_word : Pen → ℕ → Bool
ends_word p b = cond p.begun (is_white (class_of b)) false

-- a digit, a `-`, and any byte
abbrev pub digit_of : Pen → ℕ → Pen
digit_of p b = record { begun = true; negative = p.negative; value = p.value * 10 + (b - 48) }

abbrev pub minus_of : Pen → Pen
minus_of p = record { begun = true; negative = true; value = p.value }

abbrev pub pen_of : Pen → ℕ → Pen
pen_of p b = cond (is_digit (class_of b)) (digit_of p b) (cond (is_white (class_of b)) no_pen (minus_of p))

-- bytes that are written, or none
abbrev pub written : Bool → List ℕ → List ℕ
written writes xs = cond writes xs []

-- a digit that can be taken in
pub record Fits (p : Pen) (b : ℕ) : Type 0 where
  pub least : 48 ≤ b
  pub value : p.value * 10 + (b - 48) < 2 ^ 32

-- what copying asks: a right text from the state's place on, and room
pub record Copying (text : List ℕ) (start : State) (out : List ℕ) : Type 0 where
  pub accepted : accepts (state_from start text start.place) ≡ true
  pub room : length (bytes_from start text start.place) ≤ length out
