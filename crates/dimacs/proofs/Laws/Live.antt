-- The live entries of the reader's table, by phase and byte: in any other the reader dies.
-- Assumes nothing.
use mathlib.Core.Path.{◌≡◌, refl, ap, ◌∙◌, subst⁻¹}
use mathlib.Core.Bool.{Bool, true, false, cond}
use mathlib.Core.Logic.{◌⊎◌, inl, inr}
use Prim.Native.Nat.{ℕ, zero, suc, ◌+◌, ◌-◌, ◌≤◌, ◌<◌}
use native.Mathlib.Omega.{arith}
use lib.Dec.{eqb, ltb}
use borrow.Author.Tests.{eqb-true, eqb-false, ltb-true, ltb-false, ne_eqb, lt-ltb, le-ltb}
use Rattle.header.specs.Heads.{space, tab}
use Rattle.classes.specs.Inner.Classes as class
use Rattle.classes.specs.Inner.Classes.{Class, low_of, high_of, class_of}
use Rattle.body.specs.Inner.Table.{Sort, Nought, Digit, Minus, White, Other, sort_in, sort_of, act_of}
use Rattle.body.specs.Inner.Table.{Act, Die, Go, Close, Begin, Turn, Lead, Grow, EndPlain, EndNegated}
use Rattle.body.specs.declared.phase.Phase.{Phase}
use Rattle.body.specs.declared.phase.Phase.TheVariants.{Between, Closed, Sign, Plain, Negated, Dead}
use Rattle.header.specs.Heads as head

pub data Live : Phase → ℕ → Act → Type 0 where
  close : Live Between 48 Close
  begin : {d : ℕ} → 0 < d → d < 10 → Live Between (48 + d) Begin
  turn : Live Between 45 Turn
  pass : {b : ℕ} → head.White b → Live Between b Go
  part : {b : ℕ} → head.White b → Live Closed b Go
  lead : {d : ℕ} → 0 < d → d < 10 → Live Sign (48 + d) Lead
  grow-plain : {d : ℕ} → d < 10 → Live Plain (48 + d) Grow
  end-plain : {b : ℕ} → head.White b → Live Plain b EndPlain
  grow-negated : {d : ℕ} → d < 10 → Live Negated (48 + d) Grow
  end-negated : {b : ℕ} → head.White b → Live Negated b EndNegated

-- the sorts of bytes
pub sort_digit : (d : ℕ) → 0 < d → d < 10 → sort_of (48 + d) ≡ Digit
sort_digit d h g =
    rw (le-ltb (48 + d) 48 (omega arith), ne_eqb (48 + d) 48 (λ e. omega arith), lt-ltb (48 + d) 58 (omega arith))

sort_white : {b : ℕ} → head.White b → sort_of b ≡ White
sort_white (head.blank space) = refl
sort_white (head.blank tab) = refl
sort_white head.return = refl
sort_white head.newline = refl

-- a live entry is what the table says
grows : (p : Phase) → act_of p Nought ≡ Grow → act_of p Digit ≡ Grow → (d : ℕ) → d < 10 → act_of p (sort_of (48 + d)) ≡ Grow
grows p z o zero h = z
grows p z o (suc d) h = ap (act_of p) (sort_digit (suc d) (omega arith) h) ∙ o

pub act_of_live : {p : Phase} {b : ℕ} {a : Act} → Live p b a → act_of p (sort_of b) ≡ a
act_of_live close = refl
act_of_live (begin {d = d} h g) = ap (act_of Between) (sort_digit d h g)
act_of_live turn = refl
act_of_live (pass y) = ap (act_of Between) (sort_white y)
act_of_live (part y) = ap (act_of Closed) (sort_white y)
act_of_live (lead {d = d} h g) = ap (act_of Sign) (sort_digit d h g)
act_of_live (grow-plain {d = d} h) = grows Plain refl refl d h
act_of_live (end-plain y) = ap (act_of Plain) (sort_white y)
act_of_live (grow-negated {d = d} h) = grows Negated refl refl d h
act_of_live (end-negated y) = ap (act_of Negated) (sort_white y)

-- what a byte of each sort is
pub record Numeral (b : ℕ) : Type 0 where
  pub value : ℕ
  pub some : 0 < value
  pub one : value < 10
  pub is : b ≡ 48 + value

abbrev pub Is : Sort → ℕ → Type 0
Is Nought b = b ≡ 48
Is Digit b = Numeral b
Is Minus b = b ≡ 45
Is White b = head.White b
Is Other b = Unit

test : (b m : ℕ) (x y : Class) → (b ≡ m → Is (sort_in x) b) → ((b ≡ m → ⊥) → Is (sort_in y) b) → Is (sort_in (cond (eqb b m) x y)) b
test b m x y f g = go (eqb b m) refl
  where
    go : (t : Bool) → eqb b m ≡ t → Is (sort_in (cond t x y)) b
    go true e = f (eqb-true b m e)
    go false e = g (eqb-false b m e)

below : (b m : ℕ) (x y : Class) → (b < m → Is (sort_in x) b) → (m ≤ b → Is (sort_in y) b) → Is (sort_in (cond (ltb b m) x y)) b
below b m x y f g = go (ltb b m) refl
  where
    go : (t : Bool) → ltb b m ≡ t → Is (sort_in (cond t x y)) b
    go true e = f (ltb-true b m e)
    go false e = g (ltb-false b m e)

low-is : (b : ℕ) → Is (sort_in (low_of b)) b
low-is b =
    test b 32 class.Blank _ (λ e. subst⁻¹ head.White e (head.blank space)) λ _.
    test b 9 class.Blank _ (λ e. subst⁻¹ head.White e (head.blank tab)) λ _.
    test b 13 class.Return _ (λ e. subst⁻¹ head.White e head.return) λ _.
    test b 10 class.Newline _ (λ e. subst⁻¹ head.White e head.newline) λ _.
    test b 45 class.Minus class.Rest (λ e. e) (λ _. tt)

high_is : (b : ℕ) → Is (sort_in (high_of b)) b
high_is b =
    test b 99 class.LetterC _ (λ _. tt) λ _.
    test b 102 class.LetterF _ (λ _. tt) λ _.
    test b 110 class.LetterN _ (λ _. tt) λ _.
    test b 112 class.LetterP class.Rest (λ _. tt) (λ _. tt)

pub sort_is : (b : ℕ) → Is (sort_of b) b
sort_is b =
    below b 48 (low_of b) _ (λ _. low-is b) λ h.
    test b 48 class.Nought _ (λ e. e) λ n.
    below b 58 class.Digit (high_of b)
    (λ g. record { value = b - 48; some = omega arith; one = omega arith; is = omega arith })
    (λ _. high_is b)

-- any byte is live in a phase, or the reader dies of it
module _ (b : ℕ) where
  abbrev Found : Phase → Sort → Type 0
  Found p q = Live p b (act_of p q) ⊎ (act_of p q ≡ Die)

  known : (p : Phase) (c : ℕ) {a : Act} → b ≡ c → Live p c a → Live p b a
  known p c {a} e l = subst⁻¹ (λ (x : ℕ). Live p x a) e l

  looked : (p : Phase) (q : Sort) → Is q b → Found p q
  looked Between Nought e = inl (known Between 48 e close)
  looked Between Digit e = inl (known Between (48 + e.value) e.is (begin e.some e.one))
  looked Between Minus e = inl (known Between 45 e turn)
  looked Between White e = inl (pass e)
  looked Between Other e = inr refl
  looked Closed Nought e = inr refl
  looked Closed Digit e = inr refl
  looked Closed Minus e = inr refl
  looked Closed White e = inl (part e)
  looked Closed Other e = inr refl
  looked Sign Nought e = inr refl
  looked Sign Digit e = inl (known Sign (48 + e.value) e.is (lead e.some e.one))
  looked Sign Minus e = inr refl
  looked Sign White e = inr refl
  looked Sign Other e = inr refl
  looked Plain Nought e = inl (known Plain (48 + 0) e (grow-plain {d = 0} (omega arith)))
  looked Plain Digit e = inl (known Plain (48 + e.value) e.is (grow-plain e.one))
  looked Plain Minus e = inr refl
  looked Plain White e = inl (end-plain e)
  looked Plain Other e = inr refl
  looked Negated Nought e = inl (known Negated (48 + 0) e (grow-negated {d = 0} (omega arith)))
  looked Negated Digit e = inl (known Negated (48 + e.value) e.is (grow-negated e.one))
  looked Negated Minus e = inr refl
  looked Negated White e = inl (end-negated e)
  looked Negated Other e = inr refl
  looked Dead q e = inr refl

pub live_or_dead : (p : Phase) (b : ℕ) → Live p b (act_of p (sort_of b)) ⊎ (act_of p (sort_of b) ≡ Die)
live_or_dead p b = looked b p (sort_of b) (sort_is b)
