-- Bytes that are stored through a reference: none, a run, and one run behind another.
-- Assumes nothing.
use mathlib.Core.Path.{◌≡◌, refl, sym, ap, ◌∙◌, subst⁻¹}
use mathlib.Core.List.{List, [], ◌∷◌, ◌++◌, append_assoc, append-nil}
use Prim.Native.Nat.{ℕ, ◌+◌}
use native.Mathlib.Omega.{arith}
use lib.ListN.{length}
use denote.Ref.{MutBor, at_last}
use Rattle.laws.specs.Lists.{splice}
use Rattle.laws.specs.Inner.Stores.{Stored}
use Rattle.laws.proofs.Stored.{stored-nothing, stored-length, room-left, room-right, stored-both}
use Rattle.clausal.specs.Clauses.{Literal, Clause}
use Rattle.walk.specs.Inner.Lists.{shown_all}
use Rattle.walk.specs.Inner.Written.{Fits, Put}

-- what is stored in the list behind the reference
pub put-stored : {xs : List ℕ} {r m : MutBor (List ℕ)} {at n : ℕ} → Put xs r at n m → Stored xs r.now at n m.now
put-stored p = record { place = p.place; list = ap (λ (x : MutBor (List ℕ)). x.now) p.ref }

pub put-nothing : (r : MutBor (List ℕ)) (at : ℕ) → Put [] r at at r
put-nothing r at = record {
  place = (stored-nothing r.now at).place;
  ref = ap (at_last r) (stored-nothing r.now at).list;
}

pub put-run : (xs : List ℕ) (r : MutBor (List ℕ)) (at n : ℕ) (l : List ℕ) → n ≡ at + length xs → l ≡ splice r.now at xs
    → Put xs r at n (at_last r l)
put-run xs r at n l e f = record { place = e; ref = ap (at_last r) f }

-- other bytes that are the same
pub put_as : {xs ys : List ℕ} {r m : MutBor (List ℕ)} {at n : ℕ} → xs ≡ ys → Put ys r at n m → Put xs r at n m
put_as {r = r} {m} {at} {n} e p = subst⁻¹ (λ (z : List ℕ). Put z r at n m) e p

pub fits_as : {xs ys l : List ℕ} {at : ℕ} → xs ≡ ys → Fits ys l at → Fits xs l at
fits_as {l = l} {at} e f = subst⁻¹ (λ (z : List ℕ). Fits z l at) e f

-- one run behind another
module _ (xs ys : List ℕ) (r : MutBor (List ℕ)) (at : ℕ) (f : Fits (xs ++ ys) r.now at) where
  pub fits-left : Fits xs r.now at
  fits-left = record { most = f.most; room = room-left xs ys r.now at f.room }

  pub fits-right : {m : MutBor (List ℕ)} {n : ℕ} → Put xs r at n m → Fits ys m.now n
  fits-right p = record {
    most = omega (arith, f.most, stored-length fits-left.room (put-stored p));
    room = room-right xs ys r.now at f.room (put-stored p);
  }

  pub put_both : {m o : MutBor (List ℕ)} {n q : ℕ} → Put xs r at n m → Put ys m n q o → Put (xs ++ ys) r at q o
  put_both {m} {o} {n} {q} v w =
      let first : Stored xs r.now at n (splice r.now at xs) = record { place = v.place; list = refl } in
      let second : Stored ys (splice r.now at xs) n q (splice (splice r.now at xs) n ys) = record { place = w.place; list = refl } in
      let both = stored-both xs ys r.now at f.room first second in
      record {
        place = both.place;
        ref =
            w.ref
            ∙ ap (λ (x : MutBor (List ℕ)). at_last x (splice x.now n ys)) v.ref
            ∙ ap (at_last r) both.list;
      }

-- the literals of a clause, one clause behind another
module _ (shown : Literal → List ℕ) where
  pub shown_append : (c d : Clause) → shown_all shown (c ++ d) ≡ shown_all shown c ++ shown_all shown d
  shown_append [] d = refl
  shown_append (l ∷ c) d =
      ap (λ (r : List ℕ). shown l ++ r) (shown_append c d) ∙ sym (append_assoc (shown l) (shown_all shown c) (shown_all shown d))

  pub shown-one : (l : Literal) → shown_all shown (l ∷ []) ≡ shown l
  shown-one l = append-nil (shown l)
