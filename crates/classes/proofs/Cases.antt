-- The classes of some bytes: each that has a class of its own, those beside them, and the ends of the table.
-- Assumes nothing.
use mathlib.Core.Path.{◌≡◌, refl}
use mathlib.Core.List.{List, [], ◌∷◌}
use Prim.Native.Nat.{ℕ}
use Rattle.classes.specs.Inner.Classes.{Class, class_of}
use Rattle.classes.specs.Inner.Classes.{Blank, Return, Newline, Minus, LetterC, LetterF, LetterN, LetterP, Rest, Nought, Digit}

classes : List ℕ → List Class
classes [] = []
classes (b ∷ t) = class_of b ∷ classes t

-- tab, LF, VT, FF, CR, space
white : classes (9 ∷ 10 ∷ 11 ∷ 12 ∷ 13 ∷ 32 ∷ []) ≡ Blank ∷ Newline ∷ Rest ∷ Rest ∷ Return ∷ Blank ∷ []
unfolding classes
white = refl

-- `+`, `,`, `-`, `.`, `/`
signs : classes (43 ∷ 44 ∷ 45 ∷ 46 ∷ 47 ∷ []) ≡ Rest ∷ Rest ∷ Minus ∷ Rest ∷ Rest ∷ []
unfolding classes
signs = refl

-- `0`, `1`, `9`, `:`
digits : classes (48 ∷ 49 ∷ 57 ∷ 58 ∷ []) ≡ Nought ∷ Digit ∷ Digit ∷ Rest ∷ []
unfolding classes
digits = refl

-- `C`, `c`, `d`, `f`, `n`, `p`
letters : classes (67 ∷ 99 ∷ 100 ∷ 102 ∷ 110 ∷ 112 ∷ []) ≡ Rest ∷ LetterC ∷ Rest ∷ LetterF ∷ LetterN ∷ LetterP ∷ []
unfolding classes
letters = refl

ends : classes (0 ∷ 255 ∷ []) ≡ Rest ∷ Rest ∷ []
unfolding classes
ends = refl
