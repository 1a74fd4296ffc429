-- Lists: a run stored over what stood there, a list made from its front, and the lowest number that fails a test.
-- Assumes nothing: these are definitions.
use Rattle.std.specs.Prelude.{Bool, cond, List, [], ◌∷◌, ◌++◌, ℕ, zero, suc, ◌+◌, length, take, drop}

-- what holds of every element of a list
pub data Every {A : Type 0} (Q : A → Type 0) : List A → Type 0 where
  none : Every Q []
  more : {x : A} {xs : List A} → Q x → Every Q xs → Every Q (x ∷ xs)

-- l with xs in the places from `at` on
abbrev pub splice {ℓ} : {A : Type ℓ} → List A → ℕ → List A → List A
splice l at xs = take at l ++ (xs ++ drop (at + length xs) l)

-- one element more: the one that `f` makes of the list so far and of its place
abbrev pub grow {ℓ} : {A : Type ℓ} → (List A → ℕ → A) → ℕ → List A → List A
grow f i before = before ++ (f before i ∷ [])

-- the first n elements
unfoldable pub up_to {ℓ} : {A : Type ℓ} → (List A → ℕ → A) → ℕ → List A
up_to f zero = []
up_to f (suc n) = grow f n (up_to f n)

-- of the k numbers from i on, the lowest that fails the test, or i + k where none does
unfoldable pub first_from : (ℕ → Bool) → ℕ → ℕ → ℕ
first_from right i zero = i
first_from right i (suc k) = cond (right i) (first_from right (i + 1) k) i

-- the lowest number below n that fails the test, or n where none does
abbrev pub first : (ℕ → Bool) → ℕ → ℕ
first right n = first_from right 0 n
