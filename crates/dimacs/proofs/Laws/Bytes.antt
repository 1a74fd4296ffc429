-- What the tests of a byte's class say of its act, phase by phase.
-- Assumes nothing.
use mathlib.Core.Path.{◌≡◌, refl, sym}
use mathlib.Core.Bool.{true, false, false≢true}
use Prim.Native.Nat.{ℕ, ◌≤◌}
use native.Mathlib.Omega.{arith}
use lib.Dec.{eqb}
use Rattle.classes.specs.Inner.Classes as class
use Rattle.classes.specs.Inner.Classes.{Class, class_of, code, is_white, is_digit}
use Rattle.body.specs.Inner.Table.{Nought, Digit, Minus, White, sort_in, Act, Die, Grow, row, act_of, is_number}
use Rattle.body.specs.Inner.States.{to_of, move_of}
use Rattle.body.specs.declared.phase.Phase.{Phase}
use Rattle.body.specs.declared.phase.Phase.TheVariants.{Between, Closed, Sign, Plain, Negated, Dead}
use Rattle.body.specs.declared.state.State.{State}
use Rattle.dimacs.proofs.Laws.Live.{Is, sort_is}

-- a law of every class, by the classes in their order
by_class : (Q : Class → Type 0) → Q class.Blank → Q class.Return → Q class.Newline → Q class.Minus → Q class.LetterC → Q class.LetterF
    → Q class.LetterN → Q class.LetterP → Q class.Rest → Q class.Nought → Q class.Digit
    → (k : Class) → Q k
by_class q a b c d e f g h i j k class.Blank = a
by_class q a b c d e f g h i j k class.Return = b
by_class q a b c d e f g h i j k class.Newline = c
by_class q a b c d e f g h i j k class.Minus = d
by_class q a b c d e f g h i j k class.LetterC = e
by_class q a b c d e f g h i j k class.LetterF = f
by_class q a b c d e f g h i j k class.LetterN = g
by_class q a b c d e f g h i j k class.LetterP = h
by_class q a b c d e f g h i j k class.Rest = i
by_class q a b c d e f g h i j k class.Nought = j
by_class q a b c d e f g h i j k class.Digit = k

no : {A : Type 0} → false ≡ true → A
no e = absurd (false≢true e)

non : {A : Type 0} → true ≡ false → A
non e = absurd (false≢true (sym e))

-- a test that was passed tells the sort
pub white_sort : (k : Class) → is_white k ≡ true → sort_in k ≡ White
white_sort =
    by_class (λ k. is_white k ≡ true → sort_in k ≡ White)
    (λ _. refl) (λ _. refl) (λ _. refl) no no no no no no no no

pub nought_sort : (k : Class) → eqb (code k) 9 ≡ true → sort_in k ≡ Nought
nought_sort = by_class (λ k. eqb (code k) 9 ≡ true → sort_in k ≡ Nought) no no no no no no no no no (λ _. refl) no

pub digit_sort : (k : Class) → eqb (code k) 10 ≡ true → sort_in k ≡ Digit
digit_sort = by_class (λ k. eqb (code k) 10 ≡ true → sort_in k ≡ Digit) no no no no no no no no no no (λ _. refl)

pub minus_sort : (k : Class) → eqb (code k) 3 ≡ true → sort_in k ≡ Minus
minus_sort = by_class (λ k. eqb (code k) 3 ≡ true → sort_in k ≡ Minus) no no no (λ _. refl) no no no no no no no

-- a byte that passes none of the tests of its phase is the end
pub between-dies : (k : Class) → is_white k ≡ false → eqb (code k) 9 ≡ false → eqb (code k) 10 ≡ false → eqb (code k) 3 ≡ false
    → act_of Between (sort_in k) ≡ Die
between-dies =
    by_class (λ k. is_white k ≡ false → eqb (code k) 9 ≡ false → eqb (code k) 10 ≡ false → eqb (code k) 3 ≡ false
    → act_of Between (sort_in k) ≡ Die)
    (λ w _ _ _. non w) (λ w _ _ _. non w) (λ w _ _ _. non w) (λ _ _ _ m. non m) (λ _ _ _ _. refl) (λ _ _ _ _. refl) (λ _ _ _ _. refl)
    (λ _ _ _ _. refl) (λ _ _ _ _. refl) (λ _ z _ _. non z) (λ _ _ d _. non d)

pub closed-dies : (k : Class) → is_white k ≡ false → act_of Closed (sort_in k) ≡ Die
closed-dies =
    by_class (λ k. is_white k ≡ false → act_of Closed (sort_in k) ≡ Die)
    non non non (λ _. refl) (λ _. refl) (λ _. refl) (λ _. refl) (λ _. refl) (λ _. refl) (λ _. refl) (λ _. refl)

pub sign-dies : (k : Class) → eqb (code k) 10 ≡ false → act_of Sign (sort_in k) ≡ Die
sign-dies =
    by_class (λ k. eqb (code k) 10 ≡ false → act_of Sign (sort_in k) ≡ Die)
    (λ _. refl) (λ _. refl) (λ _. refl) (λ _. refl) (λ _. refl) (λ _. refl) (λ _. refl) (λ _. refl) (λ _. refl) (λ _. refl) non

-- in the digits of a literal: a digit goes on, and what is neither digit nor white space is the end
row_grows : (w : Act) (k : Class) → is_digit k ≡ true → row Grow Grow Die w Die (sort_in k) ≡ Grow
row_grows w =
    by_class (λ k. is_digit k ≡ true → row Grow Grow Die w Die (sort_in k) ≡ Grow)
    no no no no no no no no no (λ _. refl) (λ _. refl)

row-dies : (w : Act) (k : Class) → is_white k ≡ false → is_digit k ≡ false → row Grow Grow Die w Die (sort_in k) ≡ Die
row-dies w =
    by_class (λ k. is_white k ≡ false → is_digit k ≡ false → row Grow Grow Die w Die (sort_in k) ≡ Die)
    (λ e _. non e) (λ e _. non e) (λ e _. non e) (λ _ _. refl) (λ _ _. refl) (λ _ _. refl) (λ _ _. refl) (λ _ _. refl) (λ _ _. refl)
    (λ _ d. non d) (λ _ d. non d)

-- a law of the two phases of a literal
by_number : (Q : Phase → Type 0) → Q Plain → Q Negated → (p : Phase) → is_number p ≡ true → Q p
by_number q a b Between e = no e
by_number q a b Closed e = no e
by_number q a b Sign e = no e
by_number q a b Plain e = a
by_number q a b Negated e = b
by_number q a b Dead e = no e

pub number_grows : (p : Phase) → is_number p ≡ true → (k : Class) → is_digit k ≡ true → act_of p (sort_in k) ≡ Grow
number_grows = by_number (λ p. (k : Class) → is_digit k ≡ true → act_of p (sort_in k) ≡ Grow) (row_grows _) (row_grows _)

pub number-dies : (p : Phase) → is_number p ≡ true → (k : Class) → is_white k ≡ false → is_digit k ≡ false → act_of p (sort_in k) ≡ Die
number-dies =
    by_number (λ p. (k : Class) → is_white k ≡ false → is_digit k ≡ false → act_of p (sort_in k) ≡ Die) (row-dies _) (row-dies _)

-- white space behind a literal: the reader is between literals
pub number-ends : (p : Phase) → is_number p ≡ true → (s : State) (d : ℕ) → to_of s Between 0 ≡ move_of (act_of p White) s d
number-ends = by_number (λ p. (s : State) (d : ℕ) → to_of s Between 0 ≡ move_of (act_of p White) s d) (λ s d. refl) (λ s d. refl)

-- a digit is no white space
pub digit_no_white : (k : Class) → is_digit k ≡ true → is_white k ≡ false
digit_no_white =
    by_class (λ k. is_digit k ≡ true → is_white k ≡ false)
    no no no no no no no no no (λ _. refl) (λ _. refl)

-- a digit is `0` or above it
least_in : (b : ℕ) (k : Class) → Is (sort_in k) b → is_digit k ≡ true → 48 ≤ b
least_in b =
    by_class (λ k. Is (sort_in k) b → is_digit k ≡ true → 48 ≤ b)
    (λ _ e. no e) (λ _ e. no e) (λ _ e. no e) (λ _ e. no e) (λ _ e. no e) (λ _ e. no e) (λ _ e. no e) (λ _ e. no e) (λ _ e. no e)
    (λ i _. omega (arith, i)) (λ i _. omega (arith, i.is))

pub digit-least : (b : ℕ) → is_digit (class_of b) ≡ true → 48 ≤ b
digit-least b e = least_in b (class_of b) (sort_is b) e

pub digit-is : (k : Class) → eqb (code k) 10 ≡ true → is_digit k ≡ true
digit-is = by_class (λ k. eqb (code k) 10 ≡ true → is_digit k ≡ true) no no no no no no no no no no (λ _. refl)
