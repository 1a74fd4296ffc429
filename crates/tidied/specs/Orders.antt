-- R23.18: lists that keep the order of another list. Assumes nothing: these are definitions.
use Rattle.std.specs.Prelude.{List, [], ◌∷◌}

-- xs is what stays of ys when some of its elements are left out
pub data Subsequence {A : Type 0} : List A → List A → Type 0 where
  end : Subsequence [] []
  taken : {x : A} {xs ys : List A} → Subsequence xs ys → Subsequence (x ∷ xs) (x ∷ ys)
  left : {y : A} {xs ys : List A} → Subsequence xs ys → Subsequence xs (y ∷ ys)
