-- An array that is filled from its front: reading it, storing in it, and one element more.
-- Assumes nothing.
use mathlib.Core.Path.{◌≡◌, refl, sym, ap, ◌∙◌}
use mathlib.Core.List.{List, [], ◌∷◌, ◌++◌, append_assoc}
use Prim.Native.Nat.{ℕ, zero, suc, ◌+◌, ◌-◌, ◌≤◌, ◌<◌}
use native.Mathlib.Numerals.{add-one}
use native.Mathlib.Omega.{arith}
use lib.ListN.{length, get_or, set, replicate, length-append, length-replicate, length-set}
use lib.Seq.{set-append_seam, set-append_left}
use Rattle.laws.specs.Inner.Stores.{pad_to}

module _ {A : Type 0} (z : A) where
  get_d_copies : (k i : ℕ) → get_or (replicate k z) i z ≡ z
  get_d_copies zero i = refl
  get_d_copies (suc k) zero = refl
  get_d_copies (suc k) (suc i) = get_d_copies k i

  get_d_behind : (k : ℕ) (xs : List A) (i : ℕ) → get_or (xs ++ replicate k z) i z ≡ get_or xs i z
  get_d_behind k [] i = get_d_copies k i
  get_d_behind k (x ∷ xs) zero = refl
  get_d_behind k (x ∷ xs) (suc i) = get_d_behind k xs i

  -- the filling reads as what is past the list's end
  pub get_d_pad : (n : ℕ) (xs : List A) (i : ℕ) → get_or (pad_to n z xs) i z ≡ get_or xs i z
  get_d_pad n xs i = get_d_behind (n - length xs) xs i

  pub length_pad : (n : ℕ) (xs : List A) → length xs ≤ n → length (pad_to n z xs) ≡ n
  length_pad n xs h = simp (length-append, length-replicate) (omega arith)

  -- one element more, in the first place of the filling
  pub pad_more : (n : ℕ) (xs : List A) (v : A) → length xs < n → set (pad_to n z xs) (length xs) v ≡ pad_to n z (xs ++ (v ∷ []))
  pad_more n xs v h =
      let e : n - length xs ≡ suc (n - suc (length xs)) = omega arith in
      let f : length (xs ++ (v ∷ [])) ≡ suc (length xs) = length-append xs (v ∷ []) ∙ add-one (length xs) in
      rw (e, f, append_assoc) (set-append_seam xs z (replicate (n - suc (length xs)) z) v)

  -- a store inside the list
  pub pad_set : (n : ℕ) (xs : List A) (i : ℕ) (v : A) → i < length xs → set (pad_to n z xs) i v ≡ pad_to n z (set xs i v)
  pad_set n xs i v h = rw (length-set xs i v) (set-append_left xs (replicate (n - length xs) z) i v h)
