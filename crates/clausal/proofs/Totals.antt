-- Totals are those of the clause lists; and what the totals as reported say of the lists: the ceilings, refusals 5 and 6.
-- Assumes nothing.
use mathlib.Core.Path.{◌≡◌, refl, sym, ap, ◌∙◌}
use mathlib.Core.Logic.{◌↔◌}
use mathlib.Core.List.{List, [], ◌∷◌, ◌++◌, map}
use Prim.Native.Nat.{ℕ, ◌+◌, ◌*◌, ◌≤◌, ◌<◌}
use native.Mathlib.Nat.{zero-mul}
use native.Mathlib.Omega.{arith}
use lib.Dec.{lit<}
use lib.ListN.{length, length-append, length-map}
use Rattle.laws.specs.Numbers.{cap}
use Rattle.clausal.specs.Clauses.{join_all, clauses, Clause, row_of, Renaming}
use Rattle.clausal.specs.Output.{output_of}
use Rattle.clausal.specs.Totals.{Size, literals_in, size_of, sizes, clause_ceiling, literal_ceiling, shown, true_totals, totals}
use Rattle.clausal.proofs.Related.{Keeps, keeps_of_map, related_row_by, related_whole}
use Rattle.clausal.proofs.Ceilings.{read_under, read-over, capped-whole}
use Rattle.formula.specs.declared.node.Node.{Node}

-- one left clause with each right clause
abbrev join_one : Clause → List Clause → List Clause
join_one c ds = map (λ d. c ++ d) ds

pub length-join : (cs ds : List Clause) → length (join_all cs ds) ≡ length cs * length ds
length-join [] ds = sym (zero-mul (length ds))
length-join (c ∷ cs) ds =
    length-append (join_one c ds) (join_all cs ds)
    ∙ omega (arith, length-map ds (λ d. c ++ d), length-join cs ds)

literals_append : (cs ds : List Clause) → literals_in (cs ++ ds) ≡ literals_in cs + literals_in ds
literals_append [] ds = omega arith
literals_append (c ∷ cs) ds = omega (arith, literals_append cs ds)

literals-one : (c : Clause) (ds : List Clause) → literals_in (join_one c ds) ≡ length c * length ds + literals_in ds
literals-one c [] = omega arith
literals-one c (d ∷ ds) = omega (arith, length-append c d, literals-one c ds)

literals-join : (cs ds : List Clause)
    → literals_in (join_all cs ds) ≡ literals_in cs * length ds + length cs * literals_in ds
literals-join [] ds = omega arith
literals-join (c ∷ cs) ds =
    literals_append (join_one c ds) (join_all cs ds)
    ∙ omega (arith, literals-one c ds, literals-join cs ds)

pub sizes_keeps : (Known : ℕ → Type 0) → Keeps Known clauses sizes (λ cs x. size_of cs ≡ x)
sizes_keeps Known = keeps_of_map Known clauses sizes size_of refl refl (λ plain x. refl)
    (λ cs ds. λ i. record { clauses = length-append cs ds i; literals = literals_append cs ds i })
    (λ cs ds. λ i. record { clauses = length-join cs ds i; literals = literals-join cs ds i })

-- P(n) and N(n) of every node have the true totals
pub size-row : (name : ℕ → ℕ) (ns : List Node) (i : ℕ)
    → record { P = size_of (row_of clauses name ns i).P; N = size_of (row_of clauses name ns i).N } ≡ row_of sizes name ns i
size-row name ns i =
    let r = related_row_by (λ x. Unit {0}) clauses sizes (λ cs x. size_of cs ≡ x) (sizes_keeps _) name ns (λ j e. tt) (λ j e. tt) i in
    λ j. record { P = r.P tt j; N = r.N tt j }

module _ (u : Renaming) (ns : List Node) where
  -- the output has the true totals
  pub size-output : size_of (output_of u ns) ≡ true_totals u ns
  size-output = related_whole clauses sizes (λ cs x. size_of cs ≡ x) u ns (sizes_keeps _)

  -- the totals as reported are the true totals, read at the ceilings
  pub totals-shown : totals u ns ≡ shown (true_totals u ns)
  totals-shown = capped-whole clause_ceiling literal_ceiling (lit< tt) (lit< tt) u ns

  pub totals-output : totals u ns ≡ shown (size_of (output_of u ns))
  totals-output = totals-shown ∙ ap shown (sym size-output)

  -- R7.3
  pub clauses-read : (totals u ns).clauses ≡ cap clause_ceiling (length (output_of u ns))
  clauses-read = ap (λ (x : Size). x.clauses) totals-output

  -- R7.4, below the ceiling of clauses
  pub literals-stated : length (output_of u ns) < clause_ceiling
      → (totals u ns).literals ≡ cap literal_ceiling (literals_in (output_of u ns))
  literals-stated h =
      let read = read_under clause_ceiling literal_ceiling (lit< tt) (lit< tt) (size_of (output_of u ns)) h in
      ap (λ (x : Size). x.literals) (totals-output ∙ read)

  -- R7.5
  pub literals-not-stated : clause_ceiling ≤ length (output_of u ns) → (totals u ns).literals ≡ literal_ceiling
  literals-not-stated h =
      let read = read-over clause_ceiling literal_ceiling (lit< tt) (lit< tt) (size_of (output_of u ns)) h in
      ap (λ (x : Size). x.literals) (totals-output ∙ read)

  -- refusal 5 is decided by the true total
  pub clauses-refused : (clause_ceiling ≤ length (output_of u ns)) ↔ ((totals u ns).clauses ≡ clause_ceiling)
  clauses-refused = (λ h. clauses-read ∙ omega arith, λ e. omega (arith, clauses-read))

  -- and refusal 6, where 5 is not given
  pub literals-refused : length (output_of u ns) < clause_ceiling
      → (literal_ceiling ≤ literals_in (output_of u ns)) ↔ ((totals u ns).literals ≡ literal_ceiling)
  literals-refused h = (λ g. literals-stated h ∙ omega arith, λ e. omega (arith, literals-stated h))
