-- R23.18: kept clauses and kept literals stand in the order in which they were given.
-- Assumes nothing.
use mathlib.Core.Bool.{Bool, true, false, cond}
use mathlib.Core.List.{List, [], ◌∷◌, ◌++◌, map}
use Rattle.clausal.specs.Clauses.{Clause}
use Rattle.tidied.specs.Orders.{Subsequence, end, taken, left}
use Rattle.tidied.specs.Tidying.{among, firsts_after, firsts_of, Fate, stays, tautology, repeats, fates_of, kept_of, kept_from, tidied}

all_left : {A : Type 0} (ys : List A) → Subsequence [] ys
all_left [] = end
all_left (y ∷ ys) = left (all_left ys)

kept_from_lem : (fs : List Fate) (cs : List Clause) → Subsequence (kept_from fs cs) (map firsts_of cs)
unfolding kept_from
kept_from_lem [] cs = all_left (map firsts_of cs)
kept_from_lem (f ∷ fs) [] = end
kept_from_lem (f ∷ fs) (c ∷ cs) = go f (kept_from_lem fs cs)
  where
    go : (f : Fate) → Subsequence (kept_from fs cs) (map firsts_of cs)
        → Subsequence (kept_of f c ++ kept_from fs cs) (firsts_of c ∷ map firsts_of cs)
    go stays s = taken s
    go tautology s = left s
    go (repeats m) s = left s

pub kept_in_order : (cs : List Clause) → Subsequence (tidied cs) (map firsts_of cs)
kept_in_order cs = kept_from_lem (fates_of cs) cs

firsts_in_order : (seen c : Clause) → Subsequence (firsts_after seen c) c
unfolding firsts_after
firsts_in_order seen [] = end
firsts_in_order seen (l ∷ c) = go (among l seen) (firsts_in_order (l ∷ seen) c)
  where
    go : (b : Bool) → Subsequence (firsts_after (l ∷ seen) c) c
        → Subsequence (cond b (firsts_after (l ∷ seen) c) (l ∷ firsts_after (l ∷ seen) c)) (l ∷ c)
    go true s = left s
    go false s = taken s

pub literals_in_order : (c : Clause) → Subsequence (firsts_of c) c
literals_in_order c = firsts_in_order [] c
