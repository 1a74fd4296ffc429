-- The rows of the nodes up to i depend only on the names of the nodes below i: what a trial of node i may use again.
-- Assumes nothing.
use mathlib.Core.Path.{◌≡◌, refl, sym, ap, ◌∙◌}
use mathlib.Core.Bool.{cond}
use mathlib.Core.List.{List, [], ◌∷◌, ◌++◌}
use Prim.Native.Nat.{ℕ, zero, suc, ◌+◌, ◌≤◌, ◌<◌}
use native.Mathlib.Decide.{dec_lt}
use native.Mathlib.Omega.{arith}
use lib.Dec.{eqb}
use lib.ListN.{length, get_or, set}
use Rattle.laws.specs.Lists.{grow, up_to}
use Rattle.formula.specs.Inner.Right.{Below}
use Rattle.formula.specs.Tables.{node_in}
use Rattle.marks.specs.Sets.{renamed}
use Rattle.clausal.specs.Clauses.{Algebra, Row, unit_row, no_row, Renaming, name_of, under, row_from, row_of}
use Rattle.clausal.proofs.Renamed.{below-same, renamed-set-other}
use Rattle.clausal.proofs.Rows.{rule_same, row-past, get_d_rows}
use Rattle.formula.specs.declared.node.Node.{Node}

-- whatever is collected, clauses as well as totals
module _ {C : Type 0} (A : Algebra C) (ns : List Node) (below : (i : ℕ) → Below i (node_in ns i)) where
  module _ (f g : ℕ → ℕ) (i : ℕ) (agree : (j : ℕ) → j < i → f j ≡ g j) where
    -- a row up to i, from the same rows before it
    row_same : (rows : List (Row C)) (j : ℕ) → j ≤ i → row_from A f ns rows j ≡ row_from A g ns rows j
    row_same rows j h =
        let see : ℕ → ℕ → Row C = λ k name. cond (eqb name 0) (get_or rows k (no_row A)) (unit_row A name) in
        rule_same A j (node_in ns j) (below j) _ _ (λ k l. ap (see k) (agree k (omega arith)))

    first-rows-same : (n : ℕ) → n ≤ suc i → up_to (row_from A f ns) n ≡ up_to (row_from A g ns) n
    unfolding up_to
    first-rows-same zero h = refl
    first-rows-same (suc n) h =
        let rows : List (Row C) = up_to (row_from A g ns) n in
        ap (grow (row_from A f ns) n) (first-rows-same n (omega arith))
        ∙ ap (λ (row : Row C). rows ++ (row ∷ [])) (row_same rows n (omega arith))

    -- P and N of each node up to i
    pub rows-same-below : (j : ℕ) → j ≤ i → row_of A f ns j ≡ row_of A g ns j
    rows-same-below j h = go (dec_lt j (length ns))
      where
        go : Dec (j < length ns) → row_of A f ns j ≡ row_of A g ns j
        go (yes l) =
            sym (get_d_rows A f ns (suc j) j l (omega arith))
            ∙ ap (λ (rows : List (Row C)). get_or rows j (no_row A)) (first-rows-same (suc j) (omega arith))
            ∙ get_d_rows A g ns (suc j) j l (omega arith)
        go (no l) = row-past A f ns j (omega arith) ∙ sym (row-past A g ns j (omega arith))

  -- the byte of node i changes no row up to i
  pub rows_kept_by_trial : (u : Renaming) (i byte j : ℕ) → j ≤ i
      → row_of A (name_of (under u (set u.set i byte))) ns j ≡ row_of A (name_of u) ns j
  rows_kept_by_trial u i byte j h = rows-same-below _ _ i agree j h
    where
      same : (k : ℕ) → k < i → renamed (set u.set i byte) k ≡ renamed u.set k
      same k l = renamed-set-other u.set i byte k (omega arith)

      agree : (k : ℕ) → k < i → name_of (under u (set u.set i byte)) k ≡ name_of u k
      agree k l =
          let count = below-same (set u.set i byte) u.set k (λ m g. same m (omega arith)) in
          λ d. cond (same k l d) (u.taken + 1 + count d) 0
