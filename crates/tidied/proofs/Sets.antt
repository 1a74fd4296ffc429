-- Clauses as sets of literals: one lies in another, both are the same set, and what sees only the set.
-- Assumes nothing.
use mathlib.Core.Path.{◌≡◌, refl, sym, ap, ◌∙◌, subst}
use mathlib.Core.Bool.{Bool, true, false, cond, ◌||◌, beq, false≢true}
use mathlib.Core.List.{[], ◌∷◌}
use mathlib.Mathlib.Data.Bool.Basic.{or_inl, or_inr, or-le, and_intro, partial_order_laws}
use lib.Dec.{eqb}
use borrow.Author.Tests.{eq-eqb, eqb-true}
use Rattle.laws.proofs.Choices.{both}
use Rattle.clausal.specs.Clauses.{Literal, Clause}
use Rattle.tidied.specs.Tidying.{same_literal, among, firsts_after, firsts_of, negation, some_negated, is_tautology, all_among, same_literals}

-- equal literals are one
same-plain : (a b : Bool) → beq a b ≡ true → a ≡ b
same-plain true true e = refl
same-plain true false e = sym e
same-plain false true e = e
same-plain false false e = refl

plain-same : (b : Bool) → beq b b ≡ true
plain-same true = refl
plain-same false = refl

pub literal-equal : (l m : Literal) → same_literal l m ≡ true → l ≡ m
literal-equal l m e =
    let c = both (beq l.plain m.plain) (eqb l.variable m.variable) e in
    let p = same-plain l.plain m.plain c.0 in
    let q = eqb-true l.variable m.variable c.1 in
    λ i. record { plain = p i; variable = q i }

pub literal-same : (l : Literal) → same_literal l l ≡ true
literal-same l = and_intro (plain-same l.plain) (eq-eqb l.variable l.variable refl)

-- what lies in a part lies in the whole, and a part is what has nothing else
pub among-all : (a b : Clause) (l : Literal) → all_among a b ≡ true → among l a ≡ true → among l b ≡ true
unfolding among all_among
among-all [] b l h e = absurd (false≢true e)
among-all (m ∷ a) b l h e =
    let c = both (among m b) (all_among a b) h in
    or-le {x = same_literal l m} {y = among l a}
    (λ s. subst (λ (x : Literal). among x b ≡ true) (sym (literal-equal l m s)) c.0) (among-all a b l c.1) e

pub all_among_lem : (a b : Clause) → ((l : Literal) → among l a ≡ true → among l b ≡ true) → all_among a b ≡ true
unfolding among all_among
all_among_lem [] b f = refl
all_among_lem (m ∷ a) b f =
    and_intro (f m (or_inl (same_literal m m) (among m a) (literal-same m)))
    (all_among_lem a b (λ l e. f l (or_inr (same_literal l m) (among l a) e)))

pub all-refl : (a : Clause) → all_among a a ≡ true
all-refl a = all_among_lem a a (λ l e. e)

all_trans : (a b c : Clause) → all_among a b ≡ true → all_among b c ≡ true → all_among a c ≡ true
all_trans a b c p q = all_among_lem a c (λ l e. among-all b c l q (among-all a b l p e))

-- both ways
pub same_parts : (a b : Clause) → same_literals a b ≡ true → (all_among a b ≡ true) × (all_among b a ≡ true)
same_parts a b e = both (all_among a b) (all_among b a) e

pub same_refl : (a : Clause) → same_literals a a ≡ true
same_refl a = and_intro (all-refl a) (all-refl a)

pub same-sym : (a b : Clause) → same_literals a b ≡ true → same_literals b a ≡ true
same-sym a b e = let c = same_parts a b e in and_intro c.1 c.0

pub same_trans : (a b c : Clause) → same_literals a b ≡ true → same_literals b c ≡ true → same_literals a c ≡ true
same_trans a b c e f =
    let p = same_parts a b e in
    let q = same_parts b c f in
    and_intro (all_trans a b c p.0 q.0) (all_trans c b a q.1 p.1)

-- tests that follow from one another
pub equal_tests : {x y : Bool} → (x ≡ true → y ≡ true) → (y ≡ true → x ≡ true) → x ≡ y
equal_tests f g = partial_order_laws.le_antisymm _ _ f g

pub among_same : (a b : Clause) (l : Literal) → same_literals a b ≡ true → among l a ≡ among l b
among_same a b l e = let c = same_parts a b e in equal_tests (among-all a b l c.0) (among-all b a l c.1)

-- the same sets are compared alike
pub same-both : (a b c d : Clause) → same_literals a b ≡ true → same_literals c d ≡ true
    → same_literals a c ≡ same_literals b d
same-both a b c d p q =
    equal_tests (λ e. same_trans b a d (same-sym a b p) (same_trans a c d e q))
    (λ e. same_trans a b c p (same_trans b d c e (same-sym c d q)))

-- a literal and its negation, each in its clause
some-negated : (ls c : Clause) (l : Literal) → among l ls ≡ true → among (negation l) c ≡ true → some_negated ls c ≡ true
unfolding among some_negated
some-negated [] c l h g = absurd (false≢true h)
some-negated (m ∷ ls) c l h g =
    let here = among (negation m) c in
    or-le {x = same_literal l m} {y = among l ls}
    (λ s. or_inl here (some_negated ls c) (subst (λ (x : Literal). among (negation x) c ≡ true) (literal-equal l m s) g))
    (λ t. or_inr here (some_negated ls c) (some-negated ls c l t g)) h

negated-all : (ls ms c d : Clause) → all_among ls ms ≡ true → all_among c d ≡ true
    → some_negated ls c ≡ true → some_negated ms d ≡ true
unfolding all_among some_negated
negated-all [] ms c d p q e = absurd (false≢true e)
negated-all (l ∷ ls) ms c d p q e =
    let t = both (among l ms) (all_among ls ms) p in
    or-le {x = among (negation l) c} {y = some_negated ls c}
    (λ s. some-negated ms d l t.0 (among-all c d (negation l) q s)) (negated-all ls ms c d t.1 q) e

pub tautology-same : (a b : Clause) → same_literals a b ≡ true → is_tautology a ≡ is_tautology b
tautology-same a b e =
    let c = same_parts a b e in
    equal_tests (negated-all a b a b c.0 c.0) (negated-all b a b a c.1 c.1)

-- the firsts of equal literals, with those seen before, are all of them
firsts_after_lem : (seen c : Clause) (l : Literal)
    → (among l seen || among l (firsts_after seen c)) ≡ (among l seen || among l c)
unfolding among firsts_after
firsts_after_lem seen [] l = refl
firsts_after_lem seen (m ∷ c) l = go (among m seen) refl (same_literal l m) refl (firsts_after_lem (m ∷ seen) c l)
  where
    firsts : Clause
    firsts = firsts_after (m ∷ seen) c

    go : (b : Bool) → among m seen ≡ b → (s : Bool) → same_literal l m ≡ s
        → (s || among l seen || among l firsts) ≡ (s || among l seen || among l c)
        → (among l seen || among l (cond b firsts (m ∷ firsts))) ≡ (among l seen || (s || among l c))
    go true e true s ih = rw (ap (λ (x : Literal). among x seen) (literal-equal l m s) ∙ e)
    go true e false s ih = ih
    go false e true s ih = rw s
    go false e false s ih = rw s ih

pub among_firsts : (c : Clause) (l : Literal) → among l (firsts_of c) ≡ among l c
unfolding among
among_firsts c l = firsts_after_lem [] c l

pub same_firsts : (c : Clause) → same_literals (firsts_of c) c ≡ true
same_firsts c =
    and_intro (all_among_lem (firsts_of c) c (λ l e. sym (among_firsts c l) ∙ e))
    (all_among_lem c (firsts_of c) (λ l e. among_firsts c l ∙ e))
