-- Runs of bytes that are stored: none, one byte, one run behind another, and a loop that stores run after run.
-- Assumes nothing.
use mathlib.Core.Path.{◌≡◌, refl, sym, ap, ◌∙◌, subst⁻¹}
use mathlib.Core.List.{List, [], ◌∷◌, ◌++◌, append_assoc, append-nil}
use Prim.Native.Nat.{ℕ, ◌+◌, ◌≤◌, ◌<◌}
use native.Mathlib.Nat.{add-zero}
use native.Mathlib.Numerals.{add-one}
use native.Mathlib.Omega.{arith}
use lib.ListN.{length, set, take, drop, length-append, take-append-drop}
use lib.Seq.{set_split, take_at}
use Rattle.laws.specs.Lists.{splice}
use Rattle.laws.specs.Inner.Stores.{Stored}
use Rattle.laws.proofs.Splices.{splice-splice, length-splice}

pub stored-nothing : (l : List ℕ) (at : ℕ) → Stored [] l at at l
stored-nothing l at = record {
  place = omega arith;
  list = sym (ap (λ (n : ℕ). take at l ++ drop n l) (add-zero at) ∙ take-append-drop at l);
}

pub stored-byte : (l : List ℕ) (at b : ℕ) → at < length l → Stored (b ∷ []) l at (at + 1) (set l at b)
stored-byte l at b h = record {
  place = refl;
  list = set_split l at b h ∙ ap (λ (n : ℕ). take at l ++ (b ∷ drop n l)) (sym (add-one at));
}

-- other bytes that are the same
pub stored_as : {xs ys l m : List ℕ} {at n : ℕ} → xs ≡ ys → Stored ys l at n m → Stored xs l at n m
stored_as {l = l} {m} {at} {n} e w = subst⁻¹ (λ (z : List ℕ). Stored z l at n m) e w

pub stored-length : {xs l m : List ℕ} {at n : ℕ} → at + length xs ≤ length l → Stored xs l at n m → length m ≡ length l
stored-length {xs} {l} {at = at} h w = ap length w.list ∙ length-splice l at xs h

-- one run behind another
module _ (xs ys l : List ℕ) (at : ℕ) (room : at + length (xs ++ ys) ≤ length l) where
  pub room-left : at + length xs ≤ length l
  room-left = omega (arith, length-append xs ys)

  pub room-right : {m : List ℕ} {n : ℕ} → Stored xs l at n m → n + length ys ≤ length m
  room-right w = omega (arith, length-append xs ys, w.place, stored-length room-left w)

  pub stored-both : {m o : List ℕ} {n q : ℕ} → Stored xs l at n m → Stored ys m n q o → Stored (xs ++ ys) l at q o
  stored-both {n = n} v w = record {
    place = w.place ∙ omega (arith, v.place, length-append xs ys);
    list = w.list ∙ ap (λ (z : List ℕ). splice z n ys) v.list ∙ splice-splice l at xs n ys room-left v.place;
  }

-- a loop that stores: of the whole, `rest` is still to come
pub record Storing (whole l : List ℕ) (start : ℕ) (rest m : List ℕ) (next : ℕ) : Type 0 where
  pub done : List ℕ
  pub stored : Stored done l start next m
  pub split : whole ≡ done ++ rest

pub storing_start : (whole l : List ℕ) (at : ℕ) → Storing whole l at whole l at
storing_start whole l at = record { done = []; stored = stored-nothing l at; split = refl }

module _ {whole l : List ℕ} {at : ℕ} {m : List ℕ} {n : ℕ} (fits : at + length whole ≤ length l) where
  storing_left : (rest : List ℕ) (w : Storing whole l at rest m n) → at + length (w.done ++ rest) ≤ length l
  storing_left rest w = omega (arith, ap length w.split)

  -- there is room for what comes next
  pub storing_room : (xs rest : List ℕ) → Storing whole l at (xs ++ rest) m n → n + length xs ≤ length m
  storing_room xs rest w =
      omega (arith, length-append xs rest, room-right w.done (xs ++ rest) l at (storing_left (xs ++ rest) w) w.stored)

  pub storing_length : (rest : List ℕ) → Storing whole l at rest m n → length m ≡ length l
  storing_length rest w = stored-length (room-left w.done rest l at (storing_left rest w)) w.stored

  pub storing_more : {o : List ℕ} {q : ℕ} (xs rest : List ℕ) → Storing whole l at (xs ++ rest) m n → Stored xs m n q o
      → Storing whole l at rest o q
  storing_more xs rest w v =
      let split : whole ≡ (w.done ++ xs) ++ rest = w.split ∙ sym (append_assoc w.done xs rest) in
      let room : at + length (w.done ++ xs) ≤ length l = omega (arith, ap length split ∙ length-append (w.done ++ xs) rest) in
      record { done = w.done ++ xs; stored = stored-both w.done xs l at room w.stored v; split = split }

pub storing_end : {whole l : List ℕ} {at : ℕ} {rest m : List ℕ} {n : ℕ} → Storing whole l at rest m n → rest ≡ [] → Stored whole l at n m
storing_end w e = stored_as (w.split ∙ ap (λ (x : List ℕ). w.done ++ x) e ∙ append-nil w.done) w.stored

-- what was stored in front is read again
pub take-stored : (l xs : List ℕ) (n : ℕ) → length xs ≡ n → take n (splice l 0 xs) ≡ xs
take-stored l xs n h = take_at xs (drop (0 + length xs) l) n h
