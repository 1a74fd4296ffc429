-- White space of the grammar is what the classes of bytes call white.
-- Assumes nothing.
use mathlib.Core.Path.{◌≡◌, refl, subst⁻¹}
use mathlib.Core.Bool.{Bool, true, false, cond, false≢true}
use Prim.Native.Nat.{ℕ}
use lib.Dec.{eqb, ltb}
use borrow.Author.Tests.{eqb-true}
use Rattle.classes.specs.Inner.Classes as class
use Rattle.classes.specs.Inner.Classes.{Class, low_of, high_of, class_of, is_white}
use Rattle.header.specs.Heads.{White, blank, return, newline, space, tab}

pub white_class : {b : ℕ} → White b → is_white (class_of b) ≡ true
white_class (blank space) = refl
white_class (blank tab) = refl
white_class return = refl
white_class newline = refl

-- a class that is one of two by a test
either : (P : Type 0) (t : Bool) (x y : Class) → (t ≡ true → is_white x ≡ true → P) → (t ≡ false → is_white y ≡ true → P)
    → is_white (cond t x y) ≡ true → P
either P true x y f g e = f refl e
either P false x y f g e = g refl e

module _ (b : ℕ) where
  abbrev test : (m : ℕ) (x y : Class) → (eqb b m ≡ true → is_white x ≡ true → White b) → (eqb b m ≡ false → is_white y ≡ true → White b)
      → is_white (cond (eqb b m) x y) ≡ true → White b
  test m x y f g = either (White b) (eqb b m) x y f g

  never : {t : Bool} → t ≡ true → false ≡ true → White b
  never e f = absurd (false≢true f)

  low_of_lem : is_white (low_of b) ≡ true → White b
  low_of_lem =
      test 32 class.Blank _ (λ e f. subst⁻¹ White (eqb-true b 32 e) (blank space)) λ _.
      test 9 class.Blank _ (λ e f. subst⁻¹ White (eqb-true b 9 e) (blank tab)) λ _.
      test 13 class.Return _ (λ e f. subst⁻¹ White (eqb-true b 13 e) return) λ _.
      test 10 class.Newline _ (λ e f. subst⁻¹ White (eqb-true b 10 e) newline) λ _.
      test 45 class.Minus class.Rest never (λ e f. absurd (false≢true f))

  high_of_lem : is_white (high_of b) ≡ true → White b
  high_of_lem =
      test 99 class.LetterC _ never λ _.
      test 102 class.LetterF _ never λ _.
      test 110 class.LetterN _ never λ _.
      test 112 class.LetterP class.Rest never (λ e f. absurd (false≢true f))

  pub white_of : is_white (class_of b) ≡ true → White b
  white_of =
      either (White b) (ltb b 48) (low_of b) _ (λ _. low_of_lem) λ _.
      test 48 class.Nought _ never λ _.
      either (White b) (ltb b 58) class.Digit (high_of b) never (λ _. high_of_lem)
