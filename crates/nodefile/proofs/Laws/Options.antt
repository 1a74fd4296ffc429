-- The option line, field by field.
-- Assumes nothing.
use mathlib.Core.Path.{◌≡◌, sym, ap, ◌∙◌}
use mathlib.Core.Bool.{true, false}
use mathlib.Core.List.{List, [], ◌∷◌}
use Prim.Native.Nat.{ℕ, ◌+◌, ◌≤◌, ◌<◌}
use lib.ListN.{length, get_or, take}
use Rattle.text.specs.Texts.{value_of, same}
use Rattle.text.specs.Inner.Pieces.{MarkAt}
use Rattle.std.specs.Prelude.{Some, None}
use Rattle.text.proofs.Laws.Pieces.{pieces_at, parted_front, NoField, FieldIs}
use Rattle.nodefile.specs.Files.{tab, most_number, are_numbers, options_word, option_line, option_fields, option_count}
use Rattle.nodefile.specs.Inner.Steps.{options_of}
use Rattle.nodefile.proofs.Laws.Fields.{numbers_not, numbers_step, numbers_more, numbers_end}

options-wrong : (line : List ℕ) → option_line line ≡ false → None ≡ options_of line
options-wrong line e = rw e

module _ (line : List ℕ) (end : ℕ) (m : MarkAt tab line 0 end) where
  pub options-word : false ≡ same (take end line) options_word → None ≡ options_of line
  options-word e = options-wrong line (ap option_fields (parted_front tab m) ∙ rw (sym e))

  module _ (e : true ≡ same (take end line) options_word) where
    worded : option_line line ≡ are_numbers (most_number ∷ []) (pieces_at tab line (end + 1))
    worded = ap option_fields (parted_front tab m) ∙ rw (sym e)

    pub options-number : NoField tab most_number line (end + 1) → None ≡ options_of line
    options-number f = options-wrong line (worded ∙ numbers_not line f [])

    module _ {v next : ℕ} (f : FieldIs tab most_number line (end + 1) v next) where
      pub options-more : next ≤ length line → None ≡ options_of line
      options-more h = options-wrong line (worded ∙ numbers_step line f [] ∙ numbers_more line next h)

      pub options-right : length line < next → Some v ≡ options_of line
      options-right h =
          let r : option_line line ≡ true = worded ∙ numbers_step line f [] ∙ numbers_end line next h in
          let c : option_count line ≡ value_of f.piece =
          ap (λ (ps : List (List ℕ)). value_of (get_or ps 1 [])) (parted_front tab m)
          ∙ ap (λ (ps : List (List ℕ)). value_of (get_or ps 0 [])) f.pieces in
          rw (r, c) (ap Some f.same)
