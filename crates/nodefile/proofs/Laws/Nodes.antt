-- The line of a node, field by field.
-- Assumes nothing.
use mathlib.Core.Path.{◌≡◌, sym, ap, ◌∙◌}
use mathlib.Core.Bool.{true, false}
use mathlib.Core.List.{List, [], ◌∷◌}
use Prim.Native.Nat.{ℕ, ◌≤◌, ◌<◌}
use native.Mathlib.Omega.{arith}
use lib.ListN.{length, get_or}
use borrow.Author.Tests.{eq-eqb, ne_eqb}
use Rattle.text.specs.Texts.{value_of}
use Rattle.text.proofs.Laws.Pieces.{pieces_at, pieces-within, pieces-past, NoField, FieldIs}
use Rattle.nodefile.specs.Files.{tab, most_kind, most_number, fields_of, field_value, are_numbers, node_limits}
use Rattle.nodefile.specs.Inner.Steps.{node_of}
use Rattle.std.specs.Prelude.{Some, None}
use Rattle.nodefile.proofs.Laws.Fields.{numbers_not, numbers_step, numbers_more, numbers_end}

-- the fields before a place are right: what is left decides
pub record Left (line limits : List ℕ) (at : ℕ) : Type 0 where
  decides : are_numbers node_limits (fields_of line) ≡ are_numbers limits (pieces_at tab line at)

module _ (line : List ℕ) where
  pub left-start : Left line node_limits 0
  left-start = record { decides = ap (are_numbers node_limits) (sym (pieces-within tab line 0 (omega arith))) }

  pub left-next : {most : ℕ} {limits : List ℕ} {at v next : ℕ} → Left line (most ∷ limits) at
      → FieldIs tab most line at v next → Left line limits next
  left-next {limits = limits} l f = record { decides = l.decides ∙ numbers_step line f limits }

module _ (i : ℕ) (line : List ℕ) where
  node-wrong : are_numbers node_limits (fields_of line) ≡ false → None ≡ node_of i line
  node-wrong e = rw e

  pub node-number : {most : ℕ} {limits : List ℕ} {at : ℕ} → Left line (most ∷ limits) at
      → NoField tab most line at → None ≡ node_of i line
  node-number {limits = limits} l f = node-wrong (l.decides ∙ numbers_not line f limits)

  pub node-more : {next : ℕ} → Left line [] next → next ≤ length line → None ≡ node_of i line
  node-more {next} l h = node-wrong (l.decides ∙ numbers_more line next h)

  -- the four fields
  module _ {n kind a b second third fourth fifth : ℕ}
      (f₀ : FieldIs tab most_number line 0 n second) (f₁ : FieldIs tab most_kind line second kind third)
      (f₂ : FieldIs tab most_number line third a fourth) (f₃ : FieldIs tab most_number line fourth b fifth)
      (h : length line < fifth) where
    fields : fields_of line ≡ f₀.piece ∷ f₁.piece ∷ f₂.piece ∷ f₃.piece ∷ []
    fields =
        sym (pieces-within tab line 0 (omega arith)) ∙ f₀.pieces
        ∙ ap (◌∷◌ f₀.piece) (f₁.pieces
        ∙ ap (◌∷◌ f₁.piece) (f₂.pieces
        ∙ ap (◌∷◌ f₂.piece) (f₃.pieces
        ∙ ap (◌∷◌ f₃.piece) (pieces-past tab line fifth h))))

    valued : (j : ℕ) → field_value line j ≡ value_of (get_or (f₀.piece ∷ f₁.piece ∷ f₂.piece ∷ f₃.piece ∷ []) j [])
    valued j = ap (λ (ps : List (List ℕ)). value_of (get_or ps j [])) fields

    right : are_numbers node_limits (fields_of line) ≡ true
    right =
        let two = left-next line (left-next line (left-start line) f₀) f₁ in
        (left-next line (left-next line two f₂) f₃).decides ∙ numbers_end line fifth h

    pub node-other : (n ≡ i → ⊥) → None ≡ node_of i line
    node-other g = rw (right, ne_eqb (field_value line 0) i (λ e. g (f₀.same ∙ sym (valued 0) ∙ e)))

    pub node-right : n ≡ i → Some (record { kind = kind; a = a; b = b }) ≡ node_of i line
    node-right g =
        rw (right, eq-eqb (field_value line 0) i (valued 0 ∙ sym f₀.same ∙ g))
        (let k : kind ≡ field_value line 1 = f₁.same ∙ sym (valued 1) in
        let x : a ≡ field_value line 2 = f₂.same ∙ sym (valued 2) in
        let y : b ≡ field_value line 3 = f₃.same ∙ sym (valued 3) in
        λ j. Some (record { kind = k j; a = x j; b = y j }))
