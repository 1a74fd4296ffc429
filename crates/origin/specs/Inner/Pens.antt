-- Bytes put behind each other into a buffer that may be too short: measured first, and then written.
-- Assumes nothing: these are definitions.
use Rattle.std.specs.Prelude.{true, false, ◌&&◌, List, ◌≡◌, ℕ, ◌+◌, ◌≤◌, leb, length}
use Rattle.laws.specs.Lists.{splice}
use Rattle.origin.specs.declared.pen.Pen.{Pen}

-- a pen stands in a buffer
abbrev pub Standing : Pen → List ℕ → Type 0
Standing p out = p.at ≤ length out

-- bytes were put: where they fit the place goes on, and a pen that writes has stored them
pub record Drawn (bytes before : List ℕ) (p : Pen) (after : List ℕ) (q : Pen) : Type 0 where
  pub mode : q.writing ≡ p.writing
  pub fits : q.fits ≡ (p.fits && leb (p.at + length bytes) (length before))
  pub place : q.fits ≡ true → q.at ≡ p.at + length bytes
  pub standing : q.at ≤ length before
  pub size : length after ≡ length before
  pub wrote : p.writing ≡ true → q.fits ≡ true → after ≡ splice before p.at bytes
  pub kept : p.writing ≡ false → after ≡ before
