-- What holds of every element: of lists put together, and of lists that are there only under a condition; and truth as a type.
-- Assumes nothing.
use mathlib.Core.Path.{◌≡◌, refl}
use mathlib.Core.Bool.{Bool, true, false, cond, ◌&&◌}
use mathlib.Core.List.{List, [], ◌∷◌, ◌++◌}
use lib.Dec.{T}
use Rattle.laws.specs.Lists.{Every, none, more}

module _ {A : Type 0} {Q : A → Type 0} where
  pub every_append : {xs ys : List A} → Every Q xs → Every Q ys → Every Q (xs ++ ys)
  every_append none f = f
  every_append (more q e) f = more q (every_append e f)

  pub every_left : (xs ys : List A) → Every Q (xs ++ ys) → Every Q xs
  every_left [] ys e = none
  every_left (x ∷ xs) ys (more q e) = more q (every_left xs ys e)

  pub every_right : (xs ys : List A) → Every Q (xs ++ ys) → Every Q ys
  every_right [] ys e = e
  every_right (x ∷ xs) ys (more q e) = every_right xs ys e

  pub every_cond : (b : Bool) {xs : List A} → (T b → Every Q xs) → Every Q (cond b xs [])
  every_cond true f = f tt
  every_cond false f = none

  pub every_taken : (b : Bool) (xs : List A) → T b → Every Q (cond b xs []) → Every Q xs
  every_taken true xs t e = e
  every_taken false xs t e = absurd t

  pub every_head : {x : A} {xs : List A} → Every Q (x ∷ xs) → Q x
  every_head (more q e) = q

  pub every_tail : {x : A} {xs : List A} → Every Q (x ∷ xs) → Every Q xs
  every_tail (more q e) = e

pub true_of : (b : Bool) → T b → b ≡ true
true_of true t = refl
true_of false t = absurd t

pub and_both : (a b : Bool) → T a → T b → T (a && b)
and_both true b t u = u
and_both false b t u = absurd t

pub and_left : (a b : Bool) → T (a && b) → T a
and_left true b t = tt
and_left false b t = t

pub and_right : (a b : Bool) → T (a && b) → T b
and_right true b t = t
and_right false b t = absurd t
