-- What the arrays tell of a node's lists: their numbers of clauses, read at the ceiling, and whether there is a literal at all.
-- Assumes nothing.
use mathlib.Core.Path.{◌≡◌, refl, sym, ap, ◌∙◌}
use mathlib.Core.Bool.{Bool, true, false, cond}
use mathlib.Core.List.{List, [], ◌∷◌}
use Prim.Native.Nat.{ℕ, zero, suc, ◌<◌}
use native.Mathlib.Omega.{arith}
use lib.Dec.{eqb, lit<}
use lib.ListN.{length, get_or}
use Rattle.laws.specs.Numbers.{cap}
use Rattle.formula.specs.declared.node.Node.{Node}
use Rattle.clausal.specs.Clauses.{Row, clauses, unit_row, Clause, row_of}
use Rattle.clausal.specs.Totals.{Size, literals_in, size_of, capped, shown, clause_ceiling, literal_ceiling}
use Rattle.clausal.proofs.Ceilings.{capped-row, read_under}
use Rattle.clausal.proofs.Totals.{size-row}
use Rattle.totals.specs.Inner.Columns.{row_in}
use Rattle.walk.specs.Inner.Lists.{signed, pair_in, names_in, own_list, seen_list}
use Rattle.walk.specs.Inner.Steps.{count_in}

-- no literal at all: every clause is empty
pub no_literals_lem : (cs : List Clause) (k : ℕ) → literals_in cs ≡ 0 → get_or cs k [] ≡ []
no_literals_lem [] k e = refl
no_literals_lem (c ∷ cs) zero e = empty c (omega arith)
  where
    empty : (c : Clause) → length c ≡ 0 → c ≡ []
    empty [] q = refl
    empty (l ∷ c) q = absurd (omega arith)
no_literals_lem (c ∷ cs) (suc k) e = no_literals_lem cs k (omega arith)

module _ (ns : List Node) (cs ls : List (List ℕ)) (helpers : List ℕ)
    (rows : (i : ℕ) → row_in cs ls i ≡ row_of capped (names_in helpers) ns i) where
  -- the totals of a node's own list
  own-size : (n : ℕ) (sign : Bool) → signed sign (row_in cs ls n) ≡ shown (size_of (own_list (names_in helpers) ns n sign))
  own-size n sign = ap (signed sign) row ∙ go sign
    where
      sizes : Row (List Clause) → Row Size
      sizes r = record { P = shown (size_of r.P); N = shown (size_of r.N) }

      row : row_in cs ls n ≡ record {
        P = shown (size_of (row_of clauses (names_in helpers) ns n).P);
        N = shown
            (size_of (row_of clauses (names_in helpers) ns n).N);
      }
      row =
          rows n
          ∙ capped-row clause_ceiling literal_ceiling (lit< tt) (lit< tt) (names_in helpers) ns n
          ∙ ap (λ (r : Row Size). record { P = shown r.P; N = shown r.N }) (sym (size-row (names_in helpers) ns n))

      go : (z : Bool)
          → signed z (record {
            P = shown (size_of (row_of clauses (names_in helpers) ns n).P);
            N = shown
                (size_of (row_of clauses (names_in helpers) ns n).N);
          })
          ≡ shown (size_of (own_list (names_in helpers) ns n z))
      go true = refl
      go false = refl

  clauses-part : (n : ℕ) (sign : Bool) → signed sign (pair_in cs n) ≡ (signed sign (row_in cs ls n)).clauses
  clauses-part n true = refl
  clauses-part n false = refl

  literals-part : (n : ℕ) (sign : Bool) → signed sign (pair_in ls n) ≡ (signed sign (row_in cs ls n)).literals
  literals-part n true = refl
  literals-part n false = refl

  -- a node's own list has as many clauses as the arrays tell, read at the ceiling
  pub own-count : (n : ℕ) (sign : Bool) → signed sign (pair_in cs n) ≡ cap clause_ceiling (length (own_list (names_in helpers) ns n sign))
  own-count n sign = clauses-part n sign ∙ ap (λ (x : Size). x.clauses) (own-size n sign)

  -- and so has the list as it is seen as a child
  pub seen-count : (n : ℕ) (sign : Bool) → count_in cs helpers n sign ≡ cap clause_ceiling (length (seen_list (names_in helpers) ns n sign))
  seen-count n sign = go (eqb (get_or helpers n 0) 0) sign
    where
      go : (b z : Bool) → cond b (signed z (pair_in cs n)) 1
          ≡ cap clause_ceiling (length (signed z (cond b (row_of clauses (names_in helpers) ns n) (unit_row clauses (get_or helpers n 0)))))
      go true z = own-count n z
      go false true = refl
      go false false = refl

  -- a literal total of 0, in a list below the ceiling, says that there is no literal
  pub literals_are : (n : ℕ) (sign : Bool) → length (own_list (names_in helpers) ns n sign) < clause_ceiling
      → signed sign (pair_in ls n) ≡ 0 → literals_in (own_list (names_in helpers) ns n sign) ≡ 0
  literals_are n sign h e =
      let list = own_list (names_in helpers) ns n sign in
      let read = read_under clause_ceiling literal_ceiling (lit< tt) (lit< tt) (size_of list) h in
      let total = literals-part n sign ∙ ap (λ (x : Size). x.literals) (own-size n sign ∙ read) in
      omega (arith, total)
