-- The text of the lines determines the changes: it is cut at its tabs and newlines, which stand in no field.
-- Assumes nothing.
use mathlib.Core.Path.{◌≡◌, refl, sym, ap, ◌∙◌}
use mathlib.Core.Bool.{true, false, cond}
use mathlib.Core.List.{List, [], ◌∷◌, ◌++◌, append_assoc}
use Prim.Native.Nat.{ℕ, ◌<◌}
use native.Mathlib.Omega.{arith}
use lib.Dec.{eqb}
use lib.ListN.{length, get_or, length-append}
use Rattle.text.specs.Texts.{decimal, value_of, parted, joined}
use Rattle.text.specs.Inner.Numbers.{is_digit}
use Rattle.text.proofs.Laws.Fields.{value-decimal}
use Rattle.text.proofs.Laws.Pieces.{free, joined-parted, parted_piece, decimal-free}
use Rattle.tidied.specs.Tidying.{Cause, equal, both, again, Change, cause_word, change_line, change_lines}

-- texts that are the same are so before and behind their first marks
cut_same : (mark : ℕ) (p q s t : List ℕ) → free mark p ≡ true → free mark q ≡ true → p ++ (mark ∷ s) ≡ q ++ (mark ∷ t)
    → (p ≡ q) × (s ≡ t)
cut_same mark p q s t f g e =
    let c : p ∷ parted mark s ≡ q ∷ parted mark t =
    sym (parted_piece mark p s f) ∙ ap (parted mark) e ∙ parted_piece mark q t g in
    let r : parted mark s ≡ parted mark t = cc in
    (cc, sym (joined-parted mark s) ∙ ap (joined mark) r ∙ joined-parted mark t)

decimal-told : (mark : ℕ) → is_digit mark ≡ false → (m n : ℕ) (s t : List ℕ)
    → decimal m ++ (mark ∷ s) ≡ decimal n ++ (mark ∷ t) → (m ≡ n) × (s ≡ t)
decimal-told mark h m n s t e =
    let c = cut_same mark (decimal m) (decimal n) s t (decimal-free mark h m) (decimal-free mark h n) e in
    (sym (value-decimal m) ∙ ap value_of c.0 ∙ value-decimal n, c.1)

-- the first letter of its word tells a cause
abbrev cause_by : List ℕ → Cause
cause_by w = cond (eqb (get_or w 0 0) 108) equal (cond (eqb (get_or w 0 0) 116) both again)

cause-word : (c : Cause) → (cause_by (cause_word c) ≡ c) × (free 9 (cause_word c) ≡ true)
unfolding free
cause-word equal = (refl, refl)
cause-word both = (refl, refl)
cause-word again = (refl, refl)

cause-told : (c d : Cause) (s t : List ℕ) → cause_word c ++ (9 ∷ s) ≡ cause_word d ++ (9 ∷ t) → (c ≡ d) × (s ≡ t)
cause-told c d s t e =
    let p = cause-word c in
    let q = cause-word d in
    let r = cut_same 9 (cause_word c) (cause_word d) s t p.1 q.1 e in
    (sym p.0 ∙ ap cause_by r.0 ∙ q.0, r.1)

-- a line in front of a text, field by field
abbrev behind : Change → List ℕ → List ℕ
behind x t = cause_word x.cause ++ (9 ∷ (decimal x.number ++ (10 ∷ t)))

line_fields : (x : Change) (t : List ℕ) → change_line x ++ t ≡ decimal x.clause ++ (9 ∷ behind x t)
line_fields x t = simp append_assoc

line-told : (x y : Change) (s t : List ℕ) → change_line x ++ s ≡ change_line y ++ t → (x ≡ y) × (s ≡ t)
line-told x y s t e =
    let whole = sym (line_fields x s) ∙ e ∙ line_fields y t in
    let a = decimal-told 9 refl x.clause y.clause (behind x s) (behind y t) whole in
    let b = cause-told x.cause y.cause _ _ a.1 in
    let c = decimal-told 10 refl x.number y.number s t b.1 in
    (λ i. record { clause = a.0 i; cause = b.0 i; number = c.0 i }, c.1)

-- a line is not empty
line-some : (x : Change) (t : List ℕ) → 0 < length (change_line x ++ t)
line-some x t = rw (line_fields x t, length-append) (omega arith)

pub lines-told : (xs ys : List Change) → change_lines xs ≡ change_lines ys → xs ≡ ys
unfolding change_lines
lines-told [] [] e = refl
lines-told [] (y ∷ ys) e = absurd (omega (arith, ap length e, line-some y (change_lines ys)))
lines-told (x ∷ xs) [] e = absurd (omega (arith, ap length e, line-some x (change_lines xs)))
lines-told (x ∷ xs) (y ∷ ys) e =
    let c = line-told x y (change_lines xs) (change_lines ys) e in
    λ i. c.0 i ∷ lines-told xs ys c.1 i
