-- What a call leaves: what is looked at first, how the part is written, and that a contract of this shape settles everything.
-- Assumes nothing.
use mathlib.Core.Path.{◌≡◌, sym, ap, ◌∙◌}
use mathlib.Core.Bool.{Bool, true, false, not}
use mathlib.Core.List.{List, ◌++◌, append_assoc}
use Prim.Native.Nat.{ℕ, ◌<◌, ◌≤◌}
use native.Mathlib.Omega.{arith}
use lib.Dec.{eqb}
use lib.ListN.{length, length-append}
use borrow.Author.Tests.{not-true, not-false, eqb-true, lt-ltb, le-ltb}
use Rattle.laws.specs.Lists.{splice}
use Rattle.laws.proofs.Splices.{splice-splice, splice_all}
use Rattle.std.specs.Prelude.{Err}
use Rattle.answer.specs.Answers.{Answer, told_of, bytes_of, Wrote, stored, Left, leaves}
use Rattle.answer.specs.Inner.Given.{Given}
use Rattle.answer.specs.declared.Refusal.TheVariants.{Room}

module _ {O : Type 0} where
  -- a part that is not 16 bytes long is refusal 11 whatever the answer, and nothing is written
  pub leaves-wrong : (part : List ℕ) (before : O) (w : Wrote O) (wrong : Bool) → wrong ≡ not (eqb (length part) 16) → wrong ≡ true
      → record { result = 11; output = before; part = part } ≡ leaves part before w
  leaves-wrong part before w wrong e f = rw (not-true (eqb (length part) 16) (sym e ∙ f))

  -- the outputs and the part after a call whose answer was given
  pub leaves-right : (part : List ℕ) (before : O) (w x : Wrote O) {r : ℕ} {p : List ℕ} (wrong : Bool) → wrong ≡ not (eqb (length part) 16)
      → wrong ≡ false → x ≡ w → Given x.answer r p → record { result = r; output = x.output; part = p } ≡ leaves part before w
  leaves-right part before w x wrong e f q g =
      rw (not-false (eqb (length part) 16) (sym e ∙ f))
      ((λ i. record { result = g.number i; output = x.output; part = g.bytes i })
      ∙ ap (λ (y : Wrote O). record { result = (told_of y.answer).number; output = y.output; part = bytes_of (told_of y.answer) }) q)

-- a part of the right length
pub part_right : (part : List ℕ) (wrong : Bool) → wrong ≡ not (eqb (length part) 16) → wrong ≡ false → length part ≡ 16
part_right part wrong e f = eqb-true (length part) 16 (not-false (eqb (length part) 16) (sym e ∙ f))

module _ {O : Type 0} where
  -- two results that one contract allows are equal
  pub wrote-settled : {w x y : Wrote O} → x ≡ w → y ≡ w → (x.answer ≡ y.answer) × (x.output ≡ y.output)
  wrote-settled {w} {x} {y} e f =
      let same : x ≡ y = e ∙ sym f in
      (ap (λ (z : Wrote O). z.answer) same, ap (λ (z : Wrote O). z.output) same)

  pub left-settled : {l x y : Left O} → x ≡ l → y ≡ l → (x.result ≡ y.result) × (x.output ≡ y.output) × (x.part ≡ y.part)
  left-settled {l} {x} {y} e f =
      let same : x ≡ y = e ∙ sym f in
      (ap (λ (z : Left O). z.result) same, ap (λ (z : Left O). z.output) same, ap (λ (z : Left O). z.part) same)

-- what is stored needs room, and is there
pub stored_short : (a : Answer) (bytes before : List ℕ) → length before < length bytes
    → record { answer = Err Room; output = before } ≡ stored a bytes before
stored_short a bytes before h = rw (lt-ltb (length before) (length bytes) h)

pub stored-fits : (a : Answer) (bytes before after : List ℕ) → length bytes ≤ length before → after ≡ splice before 0 bytes
    → record { answer = a; output = after } ≡ stored a bytes before
stored-fits a bytes before after h e =
    rw (le-ltb (length before) (length bytes) h) (ap (λ (l : List ℕ). record { answer = a; output = l }) e)

-- four runs of four, one behind the other, are the whole part
pub four_runs : (l₀ l₁ l₂ l₃ l₄ a b c d : List ℕ) → length a ≡ 4 → length b ≡ 4 → length c ≡ 4 → length d ≡ 4 → length l₀ ≡ 16
    → l₁ ≡ splice l₀ 0 a → l₂ ≡ splice l₁ 4 b → l₃ ≡ splice l₂ 8 c → l₄ ≡ splice l₃ 12 d → l₄ ≡ a ++ (b ++ (c ++ d))
four_runs l₀ l₁ l₂ l₃ l₄ a b c d ha hb hc hd h e₁ e₂ e₃ e₄ =
    let lab : length (a ++ b) ≡ 8 = length-append a b ∙ omega arith in
    let labc : length ((a ++ b) ++ c) ≡ 12 = length-append (a ++ b) c ∙ omega arith in
    let all : length (((a ++ b) ++ c) ++ d) ≡ 16 = length-append ((a ++ b) ++ c) d ∙ omega arith in
    let f₂ : l₂ ≡ splice l₀ 0 (a ++ b) = e₂ ∙ ap (λ (l : List ℕ). splice l 4 b) e₁ ∙ splice-splice l₀ 0 a 4 b (omega arith) (omega arith) in
    let f₃ : l₃ ≡ splice l₀ 0 ((a ++ b) ++ c) = e₃ ∙ ap (λ (l : List ℕ). splice l 8 c) f₂ ∙ splice-splice l₀ 0 (a ++ b) 8 c (omega arith)
    (omega arith) in
    let f₄ : l₄ ≡ splice l₀ 0 (((a ++ b) ++ c) ++ d) = e₄ ∙ ap (λ (l : List ℕ). splice l 12 d) f₃ ∙ splice-splice l₀ 0 ((a ++ b) ++ c) 12 d
    (omega arith) (omega arith) in
    f₄ ∙ splice_all l₀ (((a ++ b) ++ c) ++ d) (omega arith) ∙ simp append_assoc
