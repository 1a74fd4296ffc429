-- Kept clauses that are tidied again: all of them are kept, and there is no change.
-- Assumes nothing.
use mathlib.Core.Path.{◌≡◌, refl, sym, ap, ◌∙◌}
use mathlib.Core.Bool.{Bool, true, false, cond, ◌||◌}
use mathlib.Core.List.{List, [], ◌∷◌, ◌++◌}
use Prim.Native.Nat.{ℕ, suc}
use native.Mathlib.Omega.{arith}
use Rattle.laws.proofs.Choices.{chose_second, neither}
use Rattle.clausal.specs.Clauses.{Literal, Clause}
use Rattle.tidied.specs.Tidying.{same_literal, among, firsts_after, firsts_of, others_after, is_tautology, same_literals}
use Rattle.tidied.specs.Tidying.{Fate, stays, tautology, repeats, Kept, compared_with, fate_after, kept_by, fates_after, kept_of, kept_from, tidied}
use Rattle.tidied.specs.Tidying.{changes_from, changes_of}
use Rattle.tidied.proofs.Sets.{same_firsts, same-both, tautology-same}
use Rattle.tidied.proofs.Firsts.{or_else, compared_append}

-- no literal is there twice, nor among those seen before
data Distinct : Clause → Clause → Type 0 where
  no_literal : {seen : Clause} → Distinct seen []
  a_literal : {seen c : Clause} {l : Literal} → among l seen ≡ false → Distinct (l ∷ seen) c → Distinct seen (l ∷ c)

-- then all are firsts
distinct_firsts : {seen c : Clause} → Distinct seen c → firsts_after seen c ≡ c
unfolding firsts_after
distinct_firsts no_literal = refl
distinct_firsts (a_literal {l = l} e d) = rw e (ap (◌∷◌ l) (distinct_firsts d))

distinct_others : (p : ℕ) {seen c : Clause} → Distinct seen c → others_after p seen c ≡ []
unfolding others_after
distinct_others p no_literal = refl
distinct_others p (a_literal e d) = rw e (distinct_others (suc p) d)

-- the literals seen are among others
abbrev Part : Clause → Clause → Type 0
Part seen all = (l : Literal) → among l all ≡ false → among l seen ≡ false

part-less : (seen all : Clause) (m : Literal) → Part seen all → Part seen (m ∷ all)
unfolding among
part-less seen all m p l e = p l (neither (same_literal l m) (among l all) e).1

part-more : (seen all : Clause) (m : Literal) → Part seen all → Part (m ∷ seen) (m ∷ all)
unfolding among
part-more seen all m p l e =
    let c = neither (same_literal l m) (among l all) e in
    λ i. c.0 i || p l c.1 i

firsts_distinct : (c seen all : Clause) → Part seen all → Distinct seen (firsts_after all c)
unfolding firsts_after
firsts_distinct [] seen all p = no_literal
firsts_distinct (l ∷ c) seen all p = go (among l all) refl (λ s. firsts_distinct c s (l ∷ all))
  where
    go : (b : Bool) → among l all ≡ b → ((s : Clause) → Part s (l ∷ all) → Distinct s (firsts_after (l ∷ all) c))
        → Distinct seen (cond b (firsts_after (l ∷ all) c) (l ∷ firsts_after (l ∷ all) c))
    go true e ih = ih seen (part-less seen all l p)
    go false e ih = a_literal (p l e) (ih (l ∷ seen) (part-more seen all l p))

-- each clause stays, and so do all its literals; ks has the clauses before
data Tidy : List Kept → ℕ → List Clause → Type 0 where
  no_clause : {ks : List Kept} {n : ℕ} → Tidy ks n []
  a_clause : {ks : List Kept} {n : ℕ} {c : Clause} {cs : List Clause} → fate_after ks c ≡ stays → Distinct [] c
      → Tidy (ks ++ kept_by stays n c) (suc n) cs → Tidy ks n (c ∷ cs)

tidy-kept : {ks : List Kept} {n : ℕ} {cs : List Clause} → Tidy ks n cs → kept_from (fates_after ks n cs) cs ≡ cs
unfolding fates_after kept_from
tidy-kept no_clause = refl
tidy-kept (a_clause e d t) = rw e (λ i. distinct_firsts d i ∷ tidy-kept t i)

tidy_silent : {ks : List Kept} {n : ℕ} {cs : List Clause} → Tidy ks n cs → changes_from n (fates_after ks n cs) cs ≡ []
unfolding fates_after changes_from
tidy_silent no_clause = refl
tidy_silent (a_clause {n = n} e d t) = rw (e, distinct_others 0 d) (tidy_silent t)

-- two fates that come to staying
stays-both : (f g : Fate) → or_else f g ≡ stays → (f ≡ stays) × (g ≡ stays)
stays-both stays g e = (refl, e)
stays-both tautology g e = let z : ◌≡◌ {A = ℕ} 0 1 = cc in absurd (omega arith)
stays-both (repeats m) g e = let z : ◌≡◌ {A = ℕ} 0 1 = cc in absurd (omega arith)

-- a clause that repeats none of some clauses repeats none of each part of them
compared_parts : (ks : List Kept) (f : Fate) (n : ℕ) (d c : Clause) → compared_with (ks ++ kept_by f n d) c ≡ stays
    → (compared_with ks c ≡ stays) × (compared_with (kept_by f n d) c ≡ stays)
compared_parts ks f n d c e =
    stays-both (compared_with ks c) (compared_with (kept_by f n d) c) (sym (compared_append ks (kept_by f n d) c) ∙ e)

-- a clause that repeats none of ks repeats none of js when its firsts are taken
abbrev Alike : List Kept → List Kept → Type 0
Alike js ks = (c : Clause) → compared_with ks c ≡ stays → compared_with js (firsts_of c) ≡ stays

alike_more : (js ks : List Kept) (m n : ℕ) (d : Clause) → Alike js ks
    → Alike (js ++ kept_by stays m (firsts_of d)) (ks ++ kept_by stays n d)
unfolding compared_with
alike_more js ks m n d a c e =
    let b = compared_parts ks stays n d c e in
    let kept : repeats n ≡ stays → ⊥ = λ q. let z : ◌≡◌ {A = ℕ} 0 1 = cc in omega arith in
    let other = chose_second (repeats n) stays kept (same_literals d c) (sym b.1) in
    compared_append js (kept_by stays m (firsts_of d)) (firsts_of c)
    ∙ rw (a c b.0, same-both (firsts_of d) d (firsts_of c) c (same_firsts d) (same_firsts c), other)

-- a fate that is to stay
fate_parts : (b : Bool) (f : Fate) → cond b tautology f ≡ stays → (b ≡ false) × (f ≡ stays)
fate_parts true f e = let z : ◌≡◌ {A = ℕ} 0 1 = cc in absurd (omega arith)
fate_parts false f e = (refl, e)

fate_alike : (js ks : List Kept) (c : Clause) → Alike js ks → fate_after ks c ≡ stays → fate_after js (firsts_of c) ≡ stays
fate_alike js ks c a e =
    let b = fate_parts (is_tautology c) (compared_with ks c) e in
    rw (tautology-same (firsts_of c) c (same_firsts c), b.0, a c b.1)

kept-tidy : (cs : List Clause) (js ks : List Kept) (m n : ℕ) → Alike js ks
    → Tidy js m (kept_from (fates_after ks n cs) cs)
unfolding fates_after kept_from
kept-tidy [] js ks m n a = no_clause
kept-tidy (c ∷ cs) js ks m n a = go (fate_after ks c) refl (λ js ks m. kept-tidy cs js ks m (suc n))
  where
    -- a clause that goes is not compared with
    less : Alike js (ks ++ [])
    less d h = a d (compared_parts ks tautology n c d h).0

    go : (f : Fate) → fate_after ks c ≡ f
        → ((js ks : List Kept) (m : ℕ) → Alike js ks → Tidy js m (kept_from (fates_after ks (suc n) cs) cs))
        → Tidy js m (kept_of f c ++ kept_from (fates_after (ks ++ kept_by f n c) (suc n) cs) cs)
    go stays e ih =
        a_clause (fate_alike js ks c a e) (firsts_distinct c [] [] (λ l h. h))
        (ih (js ++ kept_by stays m (firsts_of c)) (ks ++ kept_by stays n c) (suc m) (alike_more js ks m n c a))
    go tautology e ih = ih js (ks ++ []) m less
    go (repeats r) e ih = ih js (ks ++ []) m less

tidied-tidy : (cs : List Clause) → Tidy [] 0 (tidied cs)
unfolding compared_with
tidied-tidy cs = kept-tidy cs [] [] 0 0 (λ c h. refl)

pub again_kept : (cs : List Clause) → tidied (tidied cs) ≡ tidied cs
again_kept cs = tidy-kept (tidied-tidy cs)

pub again_silent : (cs : List Clause) → changes_of (tidied cs) ≡ []
again_silent cs = tidy_silent (tidied-tidy cs)
