-- Kept clauses are right where the given ones are: they are no more, have no more literals, and no other variables.
-- So their bytes are right, and are read as the kept clauses. Assumes nothing.
use mathlib.Core.Path.{◌≡◌}
use mathlib.Core.Bool.{false}
use mathlib.Core.List.{List, [], ◌∷◌, map}
use Prim.Native.Nat.{ℕ, ◌≤◌}
use native.Mathlib.Omega.{arith}
use lib.ListN.{length, length-map}
use Rattle.clausal.specs.Clauses.{Clause, clauses_bytes}
use Rattle.clausal.specs.Totals.{literals_in}
use Rattle.clausebytes.specs.Words.{clauses_of, wrong_bytes, Within, none, closed, literal, Right}
use Rattle.clausebytes.proofs.Encoded.{clauses_of_bytes, not_wrong_of_right}
use Rattle.tidied.specs.Orders.{Subsequence, end, taken, left}
use Rattle.tidied.specs.Tidying.{firsts_of, tidied}
use Rattle.tidied.proofs.Orders.{kept_in_order, literals_in_order}

all-taken : {A : Type 0} (xs : List A) → Subsequence xs xs
all-taken [] = end
all-taken (x ∷ xs) = taken (all-taken xs)

pub length_part : {A : Type 0} {xs ys : List A} → Subsequence xs ys → length xs ≤ length ys
length_part end = omega arith
length_part (taken s) = omega (arith, length_part s)
length_part (left s) = omega (arith, length_part s)

pub literals-part : {cs ds : List Clause} → Subsequence cs ds → literals_in cs ≤ literals_in ds
literals-part end = omega arith
literals-part (taken s) = omega (arith, literals-part s)
literals-part (left s) = omega (arith, literals-part s)

pub literals_firsts : (cs : List Clause) → literals_in (map firsts_of cs) ≤ literals_in cs
literals_firsts [] = omega arith
literals_firsts (c ∷ cs) = omega (arith, length_part (literals_in_order c), literals_firsts cs)

module _ (v : ℕ) where
  -- a part of a clause, in front of other clauses
  within-clause : {cs ds : List Clause} {b c : Clause} → Subsequence b c → (Within v ds → Within v cs)
      → Within v (c ∷ ds) → Within v (b ∷ cs)
  within-clause end f (closed w) = closed (f w)
  within-clause (taken s) f (literal h g w) = literal h g (within-clause s f w)
  within-clause (left s) f (literal h g w) = within-clause s f w

  within_firsts : (cs : List Clause) → Within v cs → Within v (map firsts_of cs)
  within_firsts [] w = none
  within_firsts (c ∷ cs) w = within-clause (literals_in_order c) (within_firsts cs) w

  within-rest : {cs : List Clause} (c : Clause) → Within v (c ∷ cs) → Within v cs
  within-rest [] (closed w) = w
  within-rest (l ∷ c) (literal h g w) = within-rest c w

  within-part : {cs ds : List Clause} → Subsequence cs ds → Within v ds → Within v cs
  within-part end w = none
  within-part (taken {x = c} s) w = within-clause (all-taken c) (within-part s) w
  within-part (left {y = c} s) w = within-part s (within-rest c w)

  module _ (cs : List Clause) (r : Right v cs) where
    pub tidied-right : Right v (tidied cs)
    tidied-right =
        let s = kept_in_order cs in
        record {
          variables = r.variables;
          clauses = omega (arith, length_part s, length-map cs firsts_of, r.clauses);
          literals = omega (arith, literals-part s, literals_firsts cs, r.literals);
          within = within-part s (within_firsts cs r.within);
        }

    pub tidied-written : wrong_bytes (clauses_bytes (tidied cs)) v ≡ false
    tidied-written = not_wrong_of_right v (tidied cs) tidied-right

    pub tidied-read : clauses_of (clauses_bytes (tidied cs)) ≡ tidied cs
    tidied-read = clauses_of_bytes v (tidied cs) tidied-right
