-- Pieces of a text, found from a place on.
-- Assumes nothing: these are definitions.
use Rattle.std.specs.Prelude.{cond, List, [], ◌∷◌, ◌≡◌, ℕ, suc, ◌+◌, ◌≤◌, eqb, leb, length, take, drop, Option, Some, None}
use Rattle.text.specs.Texts.{value_of, is_number}
use Rattle.text.specs.declared.piece.Field.{Field}

-- where the first mark stands, or the length where there is none
unfoldable pub spot : ℕ → List ℕ → ℕ
spot mark [] = 0
spot mark (b ∷ t) = cond (eqb b mark) 0 (suc (spot mark t))

-- the first mark from a place on, or the end of the text
pub record MarkAt (mark : ℕ) (text : List ℕ) (at end : ℕ) : Type 0 where
  pub place : end ≡ at + spot mark (drop at text)
  pub behind : at ≤ end
  pub within : end ≤ length text

-- the piece from a place on
abbrev pub piece_at : ℕ → List ℕ → ℕ → List ℕ
piece_at mark text at = take (spot mark (drop at text)) (drop at text)

-- the piece from a place on as a number up to `most`, and where the next piece begins; past the end there is none
abbrev pub field_at : ℕ → ℕ → List ℕ → ℕ → Option Field
field_at mark most text at =
    let piece = piece_at mark text at in
    let is = cond (is_number most piece) (Some (record { value = value_of piece; next = at + spot mark (drop at text) + 1 })) None in
    cond (leb at (length text)) is None
