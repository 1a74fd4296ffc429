-- Clauses by their numbers: of a list followed by another by subtraction, of a join by quotient and remainder.
-- Of the output, by its parts: in Places.
-- Assumes nothing.
use mathlib.Core.Path.{◌≡◌, refl, sym, ap, ◌∙◌}
use mathlib.Core.Bool.{Bool, true, false}
use mathlib.Core.List.{List, [], ◌∷◌, ◌++◌, map}
use Prim.Native.Nat.{ℕ, zero, suc, ◌+◌, ◌*◌, ◌-◌, ◌/◌, ◌%◌, ◌≤◌, ◌<◌}
use native.Mathlib.Nat.{div-eq_of_lt, mod-eq_of_lt, add-div_left, add-mod_left, suc-mul, zero-mul, mul-zero, not-suc-le-zero, mod-lt}
use native.Mathlib.Nat.{div-lt_iff_lt-mul}
use native.Mathlib.Numerals.{add-one}
use native.Mathlib.Omega.{arith}
use lib.Dec.{ltb}
use lib.ListN.{length, get_or, length-map, get_or-append}
use lib.Seq.{get_or-append-add}
use borrow.Author.Tests.{ltb-true, ltb-false}
use Rattle.clausal.specs.Clauses.{join_all, Clause}

-- a list followed by another
pub clause-left : (cs ds : List Clause) (k : ℕ) → k < length cs → get_or (cs ++ ds) k [] ≡ get_or cs k []
clause-left cs ds k h = get_or-append cs ds [] k h

pub clause-right : (cs ds : List Clause) (k : ℕ) → length cs ≤ k → get_or (cs ++ ds) k [] ≡ get_or ds (k - length cs) []
clause-right cs ds k h =
    let e : k ≡ length cs + (k - length cs) = omega arith in
    ap (λ (j : ℕ). get_or (cs ++ ds) j []) e ∙ get_or-append-add cs ds (k - length cs) []

-- a join
clause-one : (c : Clause) (ds : List Clause) (k : ℕ) → k < length ds
    → get_or (map (λ d. c ++ d) ds) k [] ≡ c ++ get_or ds k []
clause-one c [] k h = absurd (not-suc-le-zero h)
clause-one c (d ∷ ds) zero h = refl
clause-one c (d ∷ ds) (suc k) h = clause-one c ds k (omega arith)

right-some : (a b k : ℕ) → k < a * b → 0 < b
right-some a zero k h = absurd (omega (arith, mul-zero a))
right-some a (suc b) k h = omega arith

-- clause k of a join, by the numbers of its left and its right clause
abbrev joined : List Clause → List Clause → ℕ → Clause
joined cs ds k = get_or cs (k / length ds) [] ++ get_or ds (k % length ds) []

pub clause-join : (cs ds : List Clause) (k : ℕ) → k < length cs * length ds
    → get_or (join_all cs ds) k [] ≡ get_or cs (k / length ds) [] ++ get_or ds (k % length ds) []
clause-join [] ds k h = absurd (omega (arith, zero-mul (length ds)))
clause-join (c ∷ cs) ds k h = go (ltb k (length ds)) refl (clause-join cs ds)
  where
    go : (b : Bool) → ltb k (length ds) ≡ b
        → ((j : ℕ) → j < length cs * length ds → get_or (join_all cs ds) j [] ≡ joined cs ds j)
        → get_or (join_all (c ∷ cs) ds) k [] ≡ joined (c ∷ cs) ds k
    go true e ih =
        let l : k < length ds = ltb-true k (length ds) e in
        clause-left (map (λ d. c ++ d) ds) (join_all cs ds) k (omega (arith, length-map ds (λ d. c ++ d)))
        ∙ clause-one c ds k l ∙ sym (rw (div-eq_of_lt l, mod-eq_of_lt l))
    go false e ih =
        let l : length ds ≤ k = ltb-false k (length ds) e in
        let j : ℕ = k - length ds in
        let p : 0 < length ds = right-some (suc (length cs)) (length ds) k h in
        let f : k ≡ length ds + j = omega arith in
        let q : k / length ds ≡ suc (j / length ds) =
        ap (λ (i : ℕ). i / length ds) f ∙ add-div_left j p ∙ add-one (j / length ds) in
        let r : k % length ds ≡ j % length ds = ap (λ (i : ℕ). i % length ds) f ∙ add-mod_left (length ds) j in
        clause-right (map (λ d. c ++ d) ds) (join_all cs ds) k (omega (arith, length-map ds (λ d. c ++ d)))
        ∙ ap (λ (i : ℕ). get_or (join_all cs ds) (k - i) []) (length-map ds (λ d. c ++ d))
        ∙ ih j (omega (arith, suc-mul (length cs) (length ds)))
        ∙ sym (λ i. get_or (c ∷ cs) (q i) [] ++ get_or ds (r i) [])

-- both numbers are in range
pub quotient_lt : (a b k : ℕ) → k < a * b → k / b < a
quotient_lt a b k h = (div-lt_iff_lt-mul (right-some a b k h)).1 h

pub remainder_lt : (a b k : ℕ) → k < a * b → k % b < b
remainder_lt a b k h = mod-lt k (right-some a b k h)
