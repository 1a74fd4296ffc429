-- The table at a byte, what the order of the classes is good for, and tests that agree at all bytes: each is computed once over all 256.
-- Assumes nothing.
use mathlib.Core.Path.{◌≡◌, refl, sym, ap, ◌∙◌, subst⁻¹}
use mathlib.Core.Bool.{Bool, true, false, false≢true, not, ◌&&◌, ◌||◌}
use Prim.Native.Nat.{ℕ, ◌<◌}
use native.Mathlib.Omega.{arith}
use lib.Dec.{eqb, ltb}
use lib.ListN.{length, get_or}
use borrow.Author.Tests.{eqb-true, eq-eqb, ne_eqb}
use Rattle.laws.specs.Lists.{first, first_from}
use Rattle.laws.proofs.First.{first-before}
use Rattle.laws.proofs.Upward.{length-up_to, get_d_up_to}
use Rattle.classes.specs.Inner.Classes.{Class, Blank, Return, Newline, Minus, LetterC, LetterF, LetterN, LetterP, Rest}
use Rattle.classes.specs.Inner.Classes.{Nought, Digit}
use Rattle.classes.specs.Inner.Classes.{class_of, code, is_white, is_digit, is_letter, table}

pub length-table : length table ≡ 256
length-table = length-up_to (λ before b. code (class_of b)) 256

pub table_at : (b : ℕ) → b < 256 → get_or table b 0 ≡ code (class_of b)
table_at b h = get_d_up_to (λ before k. code (class_of k)) 0 b 256 h

-- white space stands before all other classes, and digits behind them
pub white-below : (k : Class) → ltb (code k) 3 ≡ is_white k
white-below Blank = refl
white-below Return = refl
white-below Newline = refl
white-below Minus = refl
white-below LetterC = refl
white-below LetterF = refl
white-below LetterN = refl
white-below LetterP = refl
white-below Rest = refl
white-below Nought = refl
white-below Digit = refl

pub digit_above : (k : Class) → ltb 8 (code k) ≡ is_digit k
digit_above Blank = refl
digit_above Return = refl
digit_above Newline = refl
digit_above Minus = refl
digit_above LetterC = refl
digit_above LetterF = refl
digit_above LetterN = refl
digit_above LetterP = refl
digit_above Rest = refl
digit_above Nought = refl
digit_above Digit = refl

-- two tests that say the same of every byte
abbrev same : Bool → Bool → Bool
same true b = b
same false true = false
same false false = true

same-is : (a b : Bool) → same a b ≡ true → a ≡ b
same-is true true e = refl
same-is true false e = absurd (false≢true e)
same-is false true e = absurd (false≢true e)
same-is false false e = refl

pub agreed : (f g : ℕ → Bool) → first (λ b. same (f b) (g b)) 256 ≡ 256 → (b : ℕ) → b < 256 → f b ≡ g b
agreed f g e b h = same-is (f b) (g b) (first-before (λ k. same (f k) (g k)) 256 b (omega (arith, e)))

-- a class of one byte tells that byte
letter_is : (l : ℕ) → first (λ b. same (eqb (code (class_of b)) (code (class_of l))) (eqb b l)) 256 ≡ 256 → (b : ℕ) → b < 256
    → eqb (code (class_of b)) (code (class_of l)) ≡ eqb b l
letter_is l e = agreed (λ b. eqb (code (class_of b)) (code (class_of l))) (λ b. eqb b l) e

-- the letters that have a class of their own, and the test for one of them
abbrev letters : ℕ → Bool
letters l = eqb l 99 || (eqb l 102 || (eqb l 110 || eqb l 112))

abbrev Told : ℕ → ℕ → Type 0
Told b l = eqb (code (class_of b)) (code (class_of l)) ≡ eqb b l

told : (b l : ℕ) → b < 256 → letters l ≡ true → Told b l
unfolding first_from
told b l h = go (eqb l 99) refl (eqb l 102) refl (eqb l 110) refl (eqb l 112) refl
  where
    go : (c : Bool) → eqb l 99 ≡ c → (d : Bool) → eqb l 102 ≡ d → (m : Bool) → eqb l 110 ≡ m → (n : Bool) → eqb l 112 ≡ n
        → (c || (d || (m || n))) ≡ true
        → Told b l
    go true q d r m s n t o = subst⁻¹ (Told b) (eqb-true l 99 q) (letter_is 99 refl b h)
    go false q true r m s n t o = subst⁻¹ (Told b) (eqb-true l 102 r) (letter_is 102 refl b h)
    go false q false r true s n t o = subst⁻¹ (Told b) (eqb-true l 110 s) (letter_is 110 refl b h)
    go false q false r false s true t o = subst⁻¹ (Told b) (eqb-true l 112 t) (letter_is 112 refl b h)
    go false q false r false s false t o = absurd (false≢true o)

-- another class is that of another byte; and a letter's class tells the letter, but for letters of the rest
pub letter_other : (b l : ℕ) → (code (class_of b) ≡ code (class_of l) → ⊥) → false ≡ eqb b l
letter_other b l n = sym (ne_eqb b l (λ e. n (ap (λ (k : ℕ). code (class_of k)) e)))

pub letter_own : (b l : ℕ) → b < 256 → l < 256 → is_letter (class_of l) ≡ true → code (class_of b) ≡ code (class_of l)
    → (code (class_of b) ≡ 8 → ⊥) → true ≡ eqb b l
unfolding first_from
letter_own b l h g e q n =
    let own = agreed (λ k. is_letter (class_of k) && not (eqb (code (class_of k)) 8)) letters refl l g in
    let m = ne_eqb (code (class_of l)) 8 (λ z. n (q ∙ z)) in
    sym (eq-eqb (code (class_of b)) (code (class_of l)) q) ∙ told b l h (sym own ∙ rw (e, m))

-- white space, by comparisons
abbrev pub is_space : ℕ → Bool
is_space b = eqb b 32 || (eqb b 9 || (eqb b 10 || eqb b 13))

pub space-white : (b : ℕ) → b < 256 → is_space b ≡ is_white (class_of b)
unfolding first_from
space-white b h = agreed is_space (λ k. is_white (class_of k)) refl b h
