-- Lines as they are written: a line is right exactly where it is the line of its numbers, which is their decimals with a
-- tab between every two, each within its limit.
-- Assumes nothing.
use mathlib.Core.Path.{◌≡◌, refl, sym, ap, ◌∙◌, subst}
use mathlib.Core.Bool.{true}
use mathlib.Core.List.{List, [], ◌∷◌, ◌++◌}
use Prim.Native.Nat.{ℕ, suc, ◌≤◌}
use native.Mathlib.Omega.{arith}
use lib.Dec.{eqb}
use lib.ListN.{length, get_or}
use borrow.Author.Tests.{eq-eqb, eqb-true}
use Rattle.laws.proofs.Choices.{both}
use Rattle.text.specs.Texts.{decimal, value_of, same, is_number, joined}
use Rattle.text.proofs.Laws.Fields.{same_whole, number-whole, decimal-whole, value-decimal}
use Rattle.text.proofs.Laws.Pieces.{free, joined-parted, parted-whole, parted_piece, decimal-free}
use Rattle.formula.specs.Tables.{node_record}
use Rattle.nodefile.specs.Files.{tab, most_number, fields_of, field_value, are_numbers, options_word, option_fields, option_line}
use Rattle.nodefile.specs.Files.{option_count, node_limits, node_line, record_of}

-- numbers in decimal, and the values of fields
abbrev pub decimals : List ℕ → List (List ℕ)
decimals [] = []
decimals (x ∷ xs) = decimal x ∷ decimals xs

abbrev pub values_of : List (List ℕ) → List ℕ
values_of [] = []
values_of (f ∷ fs) = value_of f ∷ values_of fs

-- as many numbers as limits, each within its limit
pub data Within : List ℕ → List ℕ → Type 0 where
  none : Within [] []
  more : {limit x : ℕ} {limits xs : List ℕ} → x ≤ limit → Within limits xs → Within (limit ∷ limits) (x ∷ xs)

-- the line of some numbers
abbrev pub line_text : List ℕ → List ℕ
line_text xs = joined tab (decimals xs)

-- fields that are numbers are the decimals of their values
numbers_whole : (limits : List ℕ) (fs : List (List ℕ)) → are_numbers limits fs ≡ true
    → (fs ≡ decimals (values_of fs)) × Within limits (values_of fs)
unfolding are_numbers
numbers_whole [] [] h = (refl, none)
numbers_whole [] (f ∷ fs) h = let z : ◌≡◌ {A = ℕ} 0 1 = cc in absurd (omega arith)
numbers_whole (m ∷ ms) [] h = let z : ◌≡◌ {A = ℕ} 0 1 = cc in absurd (omega arith)
numbers_whole (m ∷ ms) (f ∷ fs) h =
    let c = both (is_number m f) (are_numbers ms fs) h in
    let n = number-whole m f c.0 in
    let r = numbers_whole ms fs c.1 in
    ((λ i. n.0 i ∷ r.0 i), more n.1 r.1)

-- a right line of numbers is their line ..
pub numbers_written : (limits line : List ℕ) → are_numbers limits (fields_of line) ≡ true
    → (line ≡ line_text (values_of (fields_of line))) × Within limits (values_of (fields_of line))
numbers_written limits line h =
    let w = numbers_whole limits (fields_of line) h in
    (sym (joined-parted tab line) ∙ ap (joined tab) w.0, w.1)

-- .. and their line is right
fields_written : (x : ℕ) (xs : List ℕ) → fields_of (line_text (x ∷ xs)) ≡ decimals (x ∷ xs)
fields_written x [] = parted-whole tab (decimal x) (decimal-free tab refl x)
fields_written x (y ∷ ys) =
    parted_piece tab (decimal x) (line_text (y ∷ ys)) (decimal-free tab refl x)
    ∙ ap (◌∷◌ (decimal x)) (fields_written y ys)

decimals_right : {limits xs : List ℕ} → Within limits xs → are_numbers limits (decimals xs) ≡ true
unfolding are_numbers
decimals_right none = refl
decimals_right (more {limit} {x} h w) = rw (decimal-whole limit x h, decimals_right w)

pub written_numbers : {limits : List ℕ} {x : ℕ} {xs : List ℕ} → Within limits (x ∷ xs)
    → are_numbers limits (fields_of (line_text (x ∷ xs))) ≡ true
written_numbers {limits} {x} {xs} w = ap (are_numbers limits) (fields_written x xs) ∙ decimals_right w

-- the limits and the numbers are as many
within-length : {limits xs : List ℕ} → Within limits xs → length limits ≡ length xs
within-length none = refl
within-length (more h w) = ap suc (within-length w)

-- R13.3: the line of node i says no more and no less
pub node-written : (i : ℕ) (line : List ℕ) → node_line i line ≡ true
    → let k = field_value line 1 in let a = field_value line 2 in let b = field_value line 3 in
    (line ≡ line_text (i ∷ k ∷ a ∷ b ∷ [])) × Within node_limits (i ∷ k ∷ a ∷ b ∷ [])
node-written i line h =
    let c = both (are_numbers node_limits (fields_of line)) (eqb (field_value line 0) i) h in
    let w = numbers_written node_limits line c.0 in
    let e = go (fields_of line) w.1 (eqb-true (field_value line 0) i c.1) in
    (w.0 ∙ ap line_text e, subst (Within node_limits) e w.1)
  where
    at : List (List ℕ) → ℕ → ℕ
    at fs j = value_of (get_or fs j [])

    go : (fs : List (List ℕ)) → Within node_limits (values_of fs) → at fs 0 ≡ i
        → values_of fs ≡ i ∷ at fs 1 ∷ at fs 2 ∷ at fs 3 ∷ []
    go [] w e = absurd (omega (arith, within-length w))
    go (f₀ ∷ []) w e = absurd (omega (arith, within-length w))
    go (f₀ ∷ f₁ ∷ []) w e = absurd (omega (arith, within-length w))
    go (f₀ ∷ f₁ ∷ f₂ ∷ []) w e = absurd (omega (arith, within-length w))
    go (f₀ ∷ f₁ ∷ f₂ ∷ f₃ ∷ []) w e = ap (λ (n : ℕ). n ∷ value_of f₁ ∷ value_of f₂ ∷ value_of f₃ ∷ []) e
    go (f₀ ∷ f₁ ∷ f₂ ∷ f₃ ∷ f₄ ∷ fs) w e = absurd (omega (arith, within-length w))

pub written-node : (i k a b : ℕ) → Within node_limits (i ∷ k ∷ a ∷ b ∷ [])
    → (node_line i (line_text (i ∷ k ∷ a ∷ b ∷ [])) ≡ true) × (record_of (line_text (i ∷ k ∷ a ∷ b ∷ [])) ≡ node_record k a b)
written-node i k a b w =
    let line = line_text (i ∷ k ∷ a ∷ b ∷ []) in
    let f : fields_of line ≡ decimals (i ∷ k ∷ a ∷ b ∷ []) = fields_written i (k ∷ a ∷ b ∷ []) in
    let n : field_value line 0 ≡ i = ap (λ (fs : List (List ℕ)). value_of (get_or fs 0 [])) f ∙ value-decimal i in (
      rw (written_numbers w, eq-eqb (field_value line 0) i n),
      ap (λ (fs : List (List ℕ)). node_record (value_of (get_or fs 1 [])) (value_of (get_or fs 2 [])) (value_of (get_or fs 3 []))) f
          ∙ (λ j. node_record (value-decimal k j) (value-decimal a j) (value-decimal b j)),
    )

-- R13.2: the option line
abbrev pub option_text : ℕ → List ℕ
option_text v = options_word ++ (tab ∷ decimal v)

pub options-written : (line : List ℕ) → option_line line ≡ true
    → (line ≡ option_text (option_count line)) × (option_count line ≤ most_number)
options-written line h =
    let w = go (fields_of line) h in
    (sym (joined-parted tab line) ∙ ap (joined tab) w.0, w.1)
  where
    go : (fs : List (List ℕ)) → option_fields fs ≡ true
        → (fs ≡ options_word ∷ decimal (value_of (get_or fs 1 [])) ∷ []) × (value_of (get_or fs 1 []) ≤ most_number)
    go [] e = let z : ◌≡◌ {A = ℕ} 0 1 = cc in absurd (omega arith)
    go (f ∷ fs) e =
        let c = both (same f options_word) (are_numbers (most_number ∷ []) fs) e in
        let p = same_whole f options_word c.0 in
        let n = numbers_whole (most_number ∷ []) fs c.1 in
        let q = one fs n.0 n.1 in
        ((λ i. p i ∷ q.0 i), q.1)
      where
        one : (fs : List (List ℕ)) → fs ≡ decimals (values_of fs) → Within (most_number ∷ []) (values_of fs)
            → (fs ≡ decimal (value_of (get_or fs 0 [])) ∷ []) × (value_of (get_or fs 0 []) ≤ most_number)
        one [] d w = absurd (omega (arith, within-length w))
        one (g ∷ []) d (more m w) = (d, m)
        one (g ∷ k ∷ fs) d w = absurd (omega (arith, within-length w))

pub written-options : (v : ℕ) → v ≤ most_number → (option_line (option_text v) ≡ true) × (option_count (option_text v) ≡ v)
unfolding free same are_numbers
written-options v h =
    let f : fields_of (option_text v) ≡ options_word ∷ decimal v ∷ [] =
    parted_piece tab options_word (decimal v) refl
    ∙ ap (◌∷◌ options_word) (parted-whole tab (decimal v) (decimal-free tab refl v)) in (
      ap option_fields f ∙ rw (decimal-whole most_number v h),
      ap (λ (fs : List (List ℕ)). value_of (get_or fs 1 [])) f ∙ value-decimal v,
    )
