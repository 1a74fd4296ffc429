-- A reader of bytes as an automaton, and the longest beginning of a text that also begins some accepted text.
-- Assumes nothing: these are definitions.
use Rattle.std.specs.Prelude.{Bool, cond, List, [], ◌∷◌, ◌++◌, ℕ, suc, ◌≤◌, length, take}

-- the state after a text
abbrev pub run : {S : Type 0} → (S → ℕ → S) → S → List ℕ → S
run step s [] = s
run step s (b ∷ t) = run step (step s b) t

-- what is put out on the way, byte by byte
abbrev pub output : {S : Type 0} → (S → ℕ → S) → (S → ℕ → List ℕ) → S → List ℕ → List ℕ
output step puts s [] = []
output step puts s (b ∷ t) = puts s b ++ output step puts (step s b) t

-- the bytes passed while the state is live
abbrev pub passed : {S : Type 0} → (S → ℕ → S) → (S → Bool) → S → List ℕ → ℕ
passed step live s [] = 0
passed step live s (b ∷ t) = cond (live (step s b)) (suc (passed step live (step s b) t)) 0

-- l begins some accepted text
abbrev pub Begins : (List ℕ → Type 0) → List ℕ → Type 0
Begins Accepted l = (t : List ℕ) × Accepted (l ++ t)

-- k is the length of the longest beginning of the text that begins some accepted text
pub record Longest (Accepted : List ℕ → Type 0) (text : List ℕ) (k : ℕ) : Type 0 where
  pub within : k ≤ length text
  pub begins : Begins Accepted (take k text)
  pub longest : (j : ℕ) → j ≤ length text → Begins Accepted (take j text) → j ≤ k
