-- A pass over clauses by their numbers: windows one behind the other, all clauses, and how much is put at most.
-- Assumes nothing.
use mathlib.Core.Path.{◌≡◌, refl, sym, ap, ◌∙◌}
use mathlib.Core.Bool.{Bool, true, false, cond}
use mathlib.Core.List.{List, [], ◌∷◌, ◌++◌, append_assoc, append-nil}
use Prim.Native.Nat.{ℕ, zero, suc, ◌+◌, ◌^◌, ◌≤◌, ◌<◌}
use native.Mathlib.Nat.{zero-add, add-zero}
use native.Mathlib.Omega.{arith}
use lib.ListN.{length, get_or, length-append}
use Rattle.clausal.specs.Clauses.{Clause, clauses_bytes}
use Rattle.clausal.specs.Totals.{literals_in}
use Rattle.clausebytes.specs.Words.{clauses_of, wrong_bytes}
use Rattle.clausebytes.proofs.Encoded.{Bytes, length-clauses, right_of_bytes, bytes_back}
use Rattle.tidied.specs.Tidying.{among, others_after, others_of, Fate, stays, tautology, repeats, fates_of}
use Rattle.tidied.specs.Tidying.{kept_of, kept_from, tidied, literal_changes, changes_by, changes_from, changes_of}
use Rattle.tidied.specs.Inner.Firsts.{fate_by}
use Rattle.tidied.proofs.Firsts.{fate_at, length_fates}
use Rattle.tidied.proofs.Right.{tidied-right}
use Rattle.kept.specs.Inner.Pens.{fate_for}
use Rattle.tidy.specs.Inner.Passes.{between, kept_in, changes_in}
use Rattle.tidy.specs.Inner.Windows.{first_of}

-- lists for numbers, one part behind the other
module _ {A : Type 0} (f : ℕ → List A) where
  pub between_split : (n j k : ℕ) → between f n (j + k) ≡ between f n j ++ between f (n + j) k
  unfolding between
  between_split n zero k = λ i. between f (sym (add-zero n) i) (zero-add k i)
  between_split n (suc j) k =
      let e : suc j + k ≡ suc (j + k) = omega arith in
      let s : suc n + j ≡ n + suc j = omega arith in
      ap (between f n) e
      ∙ ap (λ (l : List A). f n ++ l) (between_split (suc n) j k)
      ∙ sym (append_assoc (f n) (between f (suc n) j) (between f (suc n + j) k))
      ∙ ap (λ (m : ℕ). (f n ++ between f (suc n) j) ++ between f m k) s

  pub between-one : (n : ℕ) → between f n 1 ≡ f n
  unfolding between
  between-one n = append-nil (f n)

-- all clauses: what is left of them and of their fates from number n on
module _ (cs : List Clause) where
  abbrev Left : ℕ → List Fate → List Clause → Type 0
  Left n fs rest =
      (i : ℕ) → i < length rest → (get_or fs i stays ≡ fate_by cs (n + i)) × (get_or rest i [] ≡ get_or cs (n + i) [])

  left-first : (n : ℕ) (f : Fate) (fs : List Fate) (c : Clause) (rest : List Clause) → Left n (f ∷ fs) (c ∷ rest)
      → (f ≡ fate_by cs n) × (c ≡ get_or cs n [])
  left-first n f fs c rest left = rw add-zero at (left 0 (omega arith))

  left-next : (n : ℕ) (f : Fate) (fs : List Fate) (c : Clause) (rest : List Clause) → Left n (f ∷ fs) (c ∷ rest)
      → Left (suc n) fs rest
  left-next n f fs c rest left i h =
      let e : n + suc i ≡ suc n + i = omega arith in
      let here = left (suc i) (omega arith) in
      (here.0 ∙ ap (fate_by cs) e, here.1 ∙ ap (λ (k : ℕ). get_or cs k []) e)

  kept-left : (n : ℕ) (fs : List Fate) (rest : List Clause) → length fs ≡ length rest → Left n fs rest
      → kept_in cs n (length rest) ≡ kept_from fs rest
  unfolding kept_from between
  kept-left n [] [] h left = refl
  kept-left n [] (c ∷ rest) h left = absurd (omega arith)
  kept-left n (f ∷ fs) [] h left = absurd (omega arith)
  kept-left n (f ∷ fs) (c ∷ rest) h left =
      let here = left-first n f fs c rest left in
      let next = kept-left (suc n) fs rest (omega arith) (left-next n f fs c rest left) in
      λ i. kept_of (sym here.0 i) (sym here.1 i) ++ next i

  changes_left : (n : ℕ) (fs : List Fate) (rest : List Clause) → length fs ≡ length rest → Left n fs rest
      → changes_in cs n (length rest) ≡ changes_from n fs rest
  unfolding changes_from between
  changes_left n [] [] h left = refl
  changes_left n [] (c ∷ rest) h left = absurd (omega arith)
  changes_left n (f ∷ fs) [] h left = absurd (omega arith)
  changes_left n (f ∷ fs) (c ∷ rest) h left =
      let here = left-first n f fs c rest left in
      let next = changes_left (suc n) fs rest (omega arith) (left-next n f fs c rest left) in
      λ i. changes_by n (sym here.0 i) (sym here.1 i) ++ next i

  left-all : Left 0 (fates_of cs) cs
  left-all i h = rw zero-add (fate_at cs i h, refl)

  pub kept_in_all : kept_in cs 0 (length cs) ≡ tidied cs
  kept_in_all = kept-left 0 (fates_of cs) cs (length_fates cs) left-all

  pub changes_in_all : changes_in cs 0 (length cs) ≡ changes_of cs
  changes_in_all = changes_left 0 (fates_of cs) cs (length_fates cs) left-all

-- a clause has at most one change for each literal, or one where it goes
others_few : (p : ℕ) (seen c : Clause) → length (others_after p seen c) ≤ length c
unfolding others_after
others_few p seen [] = omega arith
others_few p seen (l ∷ c) = go (among l seen) (others_few (suc p) (l ∷ seen) c)
  where
    others : List ℕ
    others = others_after (suc p) (l ∷ seen) c

    go : (b : Bool) → length others ≤ length c → length (cond b (p ∷ others) others) ≤ suc (length c)
    go true h = omega arith
    go false h = omega arith

length_literal_changes : (n : ℕ) (ps : List ℕ) → length (literal_changes n ps) ≡ length ps
length_literal_changes n [] = refl
length_literal_changes n (p ∷ ps) = ap suc (length_literal_changes n ps)

changes_by_few : (n : ℕ) (f : Fate) (c : Clause) → length (changes_by n f c) ≤ length c + 1
changes_by_few n stays c = omega (arith, length_literal_changes n (others_of c), others_few 0 [] c)
changes_by_few n tautology c = omega arith
changes_by_few n (repeats m) c = omega arith

changes_from_few : (n : ℕ) (fs : List Fate) (cs : List Clause)
    → length (changes_from n fs cs) ≤ literals_in cs + length cs
unfolding changes_from
changes_from_few n [] cs = omega arith
changes_from_few n (f ∷ fs) [] = omega arith
changes_from_few n (f ∷ fs) (c ∷ cs) =
    omega (
      arith,
      length-append (changes_by n f c) (changes_from (suc n) fs cs),
      changes_by_few n f c,
      changes_from_few (suc n) fs cs,
    )

changes_few : (cs : List Clause) → length (changes_of cs) ≤ literals_in cs + length cs
changes_few cs = changes_from_few 0 (fates_of cs) cs

-- what is put of right bytes
module _ (bytes : List ℕ) (v : ℕ) (small : Bytes bytes) (right : wrong_bytes bytes v ≡ false) where
  pub bytes-short : length bytes < 2 ^ 32
  bytes-short =
      let cs = clauses_of bytes in
      let r = right_of_bytes bytes v small right in
      omega (arith, ap length (bytes_back bytes v small right), length-clauses cs, r.clauses, r.literals)

  pub changes_short : length (changes_of (clauses_of bytes)) < 2 ^ 31
  changes_short =
      let cs = clauses_of bytes in
      let r = right_of_bytes bytes v small right in
      omega (arith, changes_few cs, r.clauses, r.literals)

  pub kept-few : length (tidied (clauses_of bytes)) < 2 ^ 31
  kept-few = omega (arith, (tidied-right v (clauses_of bytes) (right_of_bytes bytes v small right)).clauses)

  pub kept-short : length (clauses_bytes (tidied (clauses_of bytes))) < 2 ^ 62
  kept-short =
      let kept = tidied (clauses_of bytes) in
      let r = tidied-right v (clauses_of bytes) (right_of_bytes bytes v small right) in
      omega (arith, length-clauses kept, r.clauses, r.literals)

-- the fate of clause n, by the first clause that was found
pub fate_for_lem : (bytes : List ℕ) (n first : ℕ) (c : Clause) → first ≡ first_of bytes n → c ≡ get_or (clauses_of bytes) n []
    → fate_for n first c ≡ fate_by (clauses_of bytes) n
fate_for_lem bytes n first c e f = λ i. fate_for n (e i) (f i)
