-- The changes tell the fate of every given clause, and the positions of the literals that went from kept clauses.
-- So do the lines. Assumes nothing.
use mathlib.Core.Path.{◌≡◌, refl, sym, ap, ◌∙◌}
use mathlib.Core.Bool.{Bool, true, false, cond}
use mathlib.Core.List.{List, [], ◌∷◌, ◌++◌, append-nil}
use Prim.Native.Nat.{ℕ, zero, suc, ◌+◌, ◌<◌}
use native.Mathlib.Nat.{zero-add}
use native.Mathlib.Omega.{arith}
use lib.Dec.{eqb}
use lib.ListN.{length, get_or, length-append}
use lib.Seq.{ext_get_or}
use borrow.Author.Tests.{eq-eqb, ne_eqb}
use Rattle.laws.specs.Lists.{Every, none, more, up_to}
use Rattle.laws.proofs.Upward.{length-up_to, get_d_up_to}
use Rattle.clausal.specs.Clauses.{Clause}
use Rattle.tidied.specs.Tidying.{others_after, others_of, Fate, stays, tautology, repeats, fates_of, kept_of, kept_from, tidied}
use Rattle.tidied.specs.Tidying.{Change, literal_changes, changes_by, changes_from, changes_of, change_lines}
use Rattle.tidied.specs.Told.{changes_at, told_fate, gone_in, told_fates, told_positions, positions_of, positions_at}
use Rattle.tidied.proofs.Firsts.{length_fates}
use Rattle.tidied.proofs.Lines.{lines-told}

-- the changes of clause n, of one part and of another
at_append : (n : ℕ) (xs ys : List Change) → changes_at n (xs ++ ys) ≡ changes_at n xs ++ changes_at n ys
unfolding changes_at
at_append n [] ys = refl
at_append n (x ∷ xs) ys = go (eqb x.clause n) (at_append n xs ys)
  where
    go : (b : Bool) → changes_at n (xs ++ ys) ≡ changes_at n xs ++ changes_at n ys
        → cond b (x ∷ changes_at n (xs ++ ys)) (changes_at n (xs ++ ys))
        ≡ cond b (x ∷ changes_at n xs) (changes_at n xs) ++ changes_at n ys
    go true ih = ap (◌∷◌ x) ih
    go false ih = ih

-- all changes are of clause m
abbrev Of : ℕ → List Change → Type 0
Of m xs = Every (λ (x : Change). x.clause ≡ m) xs

at_here : (m : ℕ) {xs : List Change} → Of m xs → changes_at m xs ≡ xs
unfolding changes_at
at_here m none = refl
at_here m (more {x = x} e r) = rw (eq-eqb x.clause m e) (ap (◌∷◌ x) (at_here m r))

at_other : (n m : ℕ) {xs : List Change} → (m ≡ n → ⊥) → Of m xs → changes_at n xs ≡ []
unfolding changes_at
at_other n m d none = refl
at_other n m d (more {x = x} e r) = rw (ne_eqb x.clause n (λ q. d (sym e ∙ q))) (at_other n m d r)

of_literals : (m : ℕ) (ps : List ℕ) → Of m (literal_changes m ps)
of_literals m [] = none
of_literals m (p ∷ ps) = more refl (of_literals m ps)

of_clause : (m : ℕ) (f : Fate) (c : Clause) → Of m (changes_by m f c)
of_clause m stays c = of_literals m (others_of c)
of_clause m tautology c = more refl none
of_clause m (repeats r) c = more refl none

at_before : (n m : ℕ) (fs : List Fate) (cs : List Clause) → n < m → changes_at n (changes_from m fs cs) ≡ []
unfolding changes_from changes_at
at_before n m [] cs h = refl
at_before n m (f ∷ fs) [] h = refl
at_before n m (f ∷ fs) (c ∷ cs) h =
    at_append n (changes_by m f c) (changes_from (suc m) fs cs)
    ∙ (λ i. at_other n m (λ e. omega arith) (of_clause m f c) i ++ at_before n (suc m) fs cs (omega arith) i)

-- the changes of a clause are those by its fate
at_from : (m i : ℕ) (fs : List Fate) (cs : List Clause) → length fs ≡ length cs
    → changes_at (m + i) (changes_from m fs cs) ≡ changes_by (m + i) (get_or fs i stays) (get_or cs i [])
unfolding changes_from changes_at others_after
at_from m i [] [] h = refl
at_from m i [] (c ∷ cs) h = absurd (omega arith)
at_from m i (f ∷ fs) [] h = absurd (omega arith)
at_from m zero (f ∷ fs) (c ∷ cs) h =
    let z : m + 0 ≡ m = omega arith in
    rw z (at_append m (changes_by m f c) (changes_from (suc m) fs cs)
    ∙ (λ i. at_here m (of_clause m f c) i ++ at_before m (suc m) fs cs (omega arith) i)
    ∙ append-nil (changes_by m f c))
at_from m (suc i) (f ∷ fs) (c ∷ cs) h =
    let s : m + suc i ≡ suc m + i = omega arith in
    rw s (at_append (suc m + i) (changes_by m f c) (changes_from (suc m) fs cs)
    ∙ (λ j. at_other (suc m + i) m (λ e. omega arith) (of_clause m f c) j ++ at_from (suc m) i fs cs (omega arith) j))

pub changes_at_lem : (cs : List Clause) (n : ℕ)
    → changes_at n (changes_of cs) ≡ changes_by n (get_or (fates_of cs) n stays) (get_or cs n [])
changes_at_lem cs n = rw zero-add at (at_from 0 n (fates_of cs) cs (length_fates cs))

-- what the changes of a clause tell
told-clause : (n : ℕ) (f : Fate) (c : Clause) → told_fate (changes_by n f c) ≡ f
told-clause n stays c = go (others_of c)
  where
    go : (ps : List ℕ) → told_fate (literal_changes n ps) ≡ stays
    go [] = refl
    go (p ∷ ps) = refl
told-clause n tautology c = refl
told-clause n (repeats m) c = refl

positions_clause : (n : ℕ) (f : Fate) (c : Clause) → told_positions (changes_by n f c) ≡ positions_of f c
positions_clause n stays c = go (others_of c)
  where
    go : (ps : List ℕ) → told_positions (literal_changes n ps) ≡ ps
    go [] = refl
    go (p ∷ ps) = ap (◌∷◌ p) (go ps)
positions_clause n tautology c = refl
positions_clause n (repeats m) c = refl

pub fate_told : (cs : List Clause) (n : ℕ) → told_fate (changes_at n (changes_of cs)) ≡ get_or (fates_of cs) n stays
fate_told cs n = ap told_fate (changes_at_lem cs n) ∙ told-clause n _ (get_or cs n [])

pub positions_told : (cs : List Clause) (n : ℕ) → told_positions (changes_at n (changes_of cs)) ≡ positions_at cs n
positions_told cs n =
    ap told_positions (changes_at_lem cs n) ∙ positions_clause n (get_or (fates_of cs) n stays) (get_or cs n [])

-- a given clause is kept, or a change tells that it went
gone_append : (xs ys : List Change) → gone_in (xs ++ ys) ≡ gone_in xs + gone_in ys
gone_append [] ys = sym (zero-add (gone_in ys))
gone_append (x ∷ xs) ys = omega (arith, gone_append xs ys)

gone-clause : (n : ℕ) (f : Fate) (c : Clause) → length (kept_of f c) + gone_in (changes_by n f c) ≡ 1
gone-clause n stays c = omega (arith, go (others_of c))
  where
    go : (ps : List ℕ) → gone_in (literal_changes n ps) ≡ 0
    go [] = refl
    go (p ∷ ps) = omega (arith, go ps)
gone-clause n tautology c = refl
gone-clause n (repeats m) c = refl

gone_from : (m : ℕ) (fs : List Fate) (cs : List Clause) → length fs ≡ length cs
    → length (kept_from fs cs) + gone_in (changes_from m fs cs) ≡ length cs
unfolding kept_from changes_from
gone_from m [] [] h = refl
gone_from m [] (c ∷ cs) h = absurd (omega arith)
gone_from m (f ∷ fs) [] h = absurd (omega arith)
gone_from m (f ∷ fs) (c ∷ cs) h =
    omega (
      arith,
      length-append (kept_of f c) (kept_from fs cs),
      gone_append (changes_by m f c) (changes_from (suc m) fs cs),
      gone-clause m f c,
      gone_from (suc m) fs cs (omega arith),
    )

pub length-told : (cs : List Clause) → length (tidied cs) + gone_in (changes_of cs) ≡ length cs
length-told cs = gone_from 0 (fates_of cs) cs (length_fates cs)

pub told_back : (cs : List Clause) → told_fates (length (tidied cs)) (changes_of cs) ≡ fates_of cs
told_back cs =
    ext_get_or stays (up_to at many) (fates_of cs) (length-up_to at many ∙ length-told cs ∙ sym (length_fates cs))
    (λ i h. get_d_up_to at stays i many (omega (arith, length-up_to at many)) ∙ fate_told cs i)
  where
    at : List Fate → ℕ → Fate
    at before n = told_fate (changes_at n (changes_of cs))

    many : ℕ
    many = length (tidied cs) + gone_in (changes_of cs)

-- so it is told by the number of kept clauses and the lines
module _ (cs ds : List Clause) (kept : length (tidied cs) ≡ length (tidied ds))
    (lines : change_lines (changes_of cs) ≡ change_lines (changes_of ds)) where
  changes_same : changes_of cs ≡ changes_of ds
  changes_same = lines-told (changes_of cs) (changes_of ds) lines

  pub told : fates_of cs ≡ fates_of ds
  told = sym (told_back cs) ∙ (λ i. told_fates (kept i) (changes_same i)) ∙ told_back ds

  pub told_positions_lem : (n : ℕ) → positions_at cs n ≡ positions_at ds n
  told_positions_lem n =
      sym (positions_told cs n)
      ∙ ap (λ (xs : List Change). told_positions (changes_at n xs)) changes_same
      ∙ positions_told ds n
