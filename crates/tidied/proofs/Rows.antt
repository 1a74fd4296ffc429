-- A row satisfies the clauses that are kept exactly where it satisfies the given ones.
-- Assumes nothing.
use mathlib.Core.Path.{◌≡◌, refl, sym, ap, ◌∙◌}
use mathlib.Core.Bool.{Bool, true, false, cond, not, ◌&&◌, beq, false≢true}
use mathlib.Core.List.{List, [], ◌∷◌, ◌++◌}
use mathlib.Mathlib.Data.Bool.Basic.{or_inl, or_inr, or-le}
use Prim.Native.Nat.{ℕ, suc}
use Rattle.laws.specs.Lists.{Every, none, more}
use Rattle.laws.proofs.Choices.{both}
use Rattle.laws.proofs.Every.{every_append}
use Rattle.clausal.specs.Clauses.{Literal, Clause}
use Rattle.clausal.specs.Meanings.{literal_true, clause_true, satisfies}
use Rattle.tidied.specs.Tidying.{same_literal, among, negation, some_negated, is_tautology, all_among, same_literals, firsts_of}
use Rattle.tidied.specs.Tidying.{Fate, stays, tautology, repeats, Kept, compared_with, fate_after, kept_by, fates_after, kept_of, kept_from, tidied}
use Rattle.tidied.proofs.Sets.{literal-equal, all-refl, same_parts, equal_tests, same_firsts}

-- what stands behind a test counts where the test holds
and_where : (a : Bool) {b c : Bool} → (a ≡ true → b ≡ c) → (a && b) ≡ (a && c)
and_where true f = f refl
and_where false f = refl

module _ (ρ : ℕ → Bool) where
  true-among : (l : Literal) (c : Clause) → among l c ≡ true → literal_true ρ l ≡ true → clause_true ρ c ≡ true
  unfolding among
  true-among l [] h t = h
  true-among l (m ∷ c) h t =
      or-le {x = same_literal l m} {y = among l c}
      (λ s. or_inl (literal_true ρ m) (clause_true ρ c) (ap (literal_true ρ) (sym (literal-equal l m s)) ∙ t))
      (λ s. or_inr (literal_true ρ m) (clause_true ρ c) (true-among l c s t)) h

  true-all : (a b : Clause) → all_among a b ≡ true → clause_true ρ a ≡ true → clause_true ρ b ≡ true
  unfolding all_among
  true-all [] b h t = absurd (false≢true t)
  true-all (l ∷ a) b h t =
      let c = both (among l b) (all_among a b) h in
      or-le {x = literal_true ρ l} {y = clause_true ρ a} (true-among l b c.0) (true-all a b c.1) t

  truth_same : (a b : Clause) → same_literals a b ≡ true → clause_true ρ a ≡ clause_true ρ b
  truth_same a b e = let c = same_parts a b e in equal_tests (true-all a b c.0) (true-all b a c.1)

  -- a literal or its negation is true
  negation-true : (l : Literal) → literal_true ρ l ≡ false → literal_true ρ (negation l) ≡ true
  negation-true l e = go l.plain (ρ l.variable) e
    where
      go : (p x : Bool) → beq p x ≡ false → beq (not p) x ≡ true
      go true true f = sym f
      go true false f = refl
      go false true f = refl
      go false false f = sym f

  negated-true : (ls c : Clause) → all_among ls c ≡ true → some_negated ls c ≡ true → clause_true ρ c ≡ true
  unfolding all_among some_negated
  negated-true [] c h t = absurd (false≢true t)
  negated-true (l ∷ ls) c h t =
      let b = both (among l c) (all_among ls c) h in
      or-le {x = among (negation l) c} {y = some_negated ls c}
      (go b.0 (literal_true ρ l) refl) (negated-true ls c b.1) t
    where
      go : among l c ≡ true → (t : Bool) → literal_true ρ l ≡ t → among (negation l) c ≡ true → clause_true ρ c ≡ true
      go i true e n = true-among l c i e
      go i false e n = true-among (negation l) c n (negation-true l e)

  -- the kept clauses are true
  abbrev Holds : List Kept → Type 0
  Holds ks = Every (λ (k : Kept). clause_true ρ k.clause ≡ true) ks

  -- then a clause that goes is true
  abbrev TrueIfGone : Fate → Clause → Type 0
  TrueIfGone stays c = Unit {0}
  TrueIfGone tautology c = clause_true ρ c ≡ true
  TrueIfGone (repeats m) c = clause_true ρ c ≡ true

  compared-true : {ks : List Kept} (c : Clause) → Holds ks → TrueIfGone (compared_with ks c) c
  unfolding compared_with
  compared-true c none = tt
  compared-true c (more {x = k} {xs = ks} t h) = go (same_literals k.clause c) refl (compared-true c h)
    where
      go : (b : Bool) → same_literals k.clause c ≡ b → TrueIfGone (compared_with ks c) c
          → TrueIfGone (cond b (repeats k.number) (compared_with ks c)) c
      go true s r = sym (truth_same k.clause c s) ∙ t
      go false s r = r

  fate_true : (ks : List Kept) (c : Clause) → Holds ks → TrueIfGone (fate_after ks c) c
  fate_true ks c h = go (is_tautology c) refl
    where
      go : (b : Bool) → is_tautology c ≡ b → TrueIfGone (cond b tautology (compared_with ks c)) c
      go true t = negated-true c c (all-refl c) t
      go false t = compared-true c h

  rows-after : (ks : List Kept) (n : ℕ) (cs : List Clause) → Holds ks
      → satisfies ρ (kept_from (fates_after ks n cs) cs) ≡ satisfies ρ cs
  unfolding kept_from fates_after
  rows-after ks n [] h = refl
  rows-after ks n (c ∷ cs) h =
      go (fate_after ks c) (fate_true ks c h) (rows-after (ks ++ kept_by (fate_after ks c) n c) (suc n) cs)
    where
      later : Fate → List Clause
      later f = kept_from (fates_after (ks ++ kept_by f n c) (suc n) cs) cs

      go : (f : Fate) → TrueIfGone f c → (Holds (ks ++ kept_by f n c) → satisfies ρ (later f) ≡ satisfies ρ cs)
          → satisfies ρ (kept_of f c ++ later f) ≡ (clause_true ρ c && satisfies ρ cs)
      go stays t ih =
          ap (λ (b : Bool). b && satisfies ρ (later stays)) (truth_same (firsts_of c) c (same_firsts c))
          ∙ and_where (clause_true ρ c) (λ e. ih (every_append h (more e none)))
      go tautology t ih = rw t (ih (every_append h none))
      go (repeats m) t ih = rw t (ih (every_append h none))

pub same_rows : (ρ : ℕ → Bool) (cs : List Clause) → satisfies ρ (tidied cs) ≡ satisfies ρ cs
same_rows ρ cs = rows-after ρ [] 0 cs none
