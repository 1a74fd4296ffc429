-- An array of two rows: an entry that is stored, the other entries, and arrays of zeros.
-- Assumes nothing.
use mathlib.Core.Path.{◌≡◌, refl, sym, ap, ◌∙◌}
use mathlib.Core.Logic.{◌≢◌}
use mathlib.Core.Bool.{Bool, true, false}
use mathlib.Core.List.{List, []}
use Prim.Native.Nat.{ℕ, zero, suc, ◌<◌}
use native.Mathlib.Omega.{arith}
use lib.Dec.{eqb}
use lib.ListN.{length, get_or, set, replicate, length-set, length-replicate, get_or-replicate}
use lib.Seq.{get_or-set_same, get_or-set_other, ext_get_or}
use borrow.Author.Tests.{eqb-true, eqb-false}
use Rattle.formula.specs.Tables.{most_nodes}
use Rattle.totals.specs.Inner.Columns.{cell, zeros, Shaped}

-- an entry is stored
abbrev pub put : List (List ℕ) → ℕ → ℕ → ℕ → List (List ℕ)
put l sign i x = set l sign (set (get_or l sign []) i x)

module _ (l : List (List ℕ)) (shaped : Shaped l) (sign i x : ℕ) (h : sign < 2) where
  own : get_or (put l sign i x) sign [] ≡ set (get_or l sign []) i x
  own = get_or-set_same l sign _ [] (omega (arith, shaped.signs))

  other : (z : ℕ) → z ≢ sign → get_or (put l sign i x) z [] ≡ get_or l z []
  other z d = get_or-set_other l sign z _ [] d

  cell_same : i < most_nodes → cell (put l sign i x) sign i ≡ x
  cell_same g =
      ap (λ (row : List ℕ). get_or row i 0) own
      ∙ get_or-set_same (get_or l sign []) i x 0 (omega (arith, shaped.entries sign h))

  cell-sign : (z j : ℕ) → z ≢ sign → cell (put l sign i x) z j ≡ cell l z j
  cell-sign z j d = ap (λ (row : List ℕ). get_or row j 0) (other z d)

  cell-node : (z j : ℕ) → j ≢ i → cell (put l sign i x) z j ≡ cell l z j
  cell-node z j d = go (eqb z sign) refl
    where
      at : ℕ → ℕ
      at y = cell (put l sign i x) y j

      go : (b : Bool) → eqb z sign ≡ b → cell (put l sign i x) z j ≡ cell l z j
      go false e = cell-sign z j (eqb-false z sign e)
      go true e =
          let q : z ≡ sign = eqb-true z sign e in
          rw q (ap (λ (row : List ℕ). get_or row j 0) own ∙ get_or-set_other (get_or l sign []) i j x 0 d)

  shaped_put : Shaped (put l sign i x)
  shaped_put = record { signs = length-set l sign _ ∙ shaped.signs; entries = λ z g. go z g (eqb z sign) refl }
    where
      go : (z : ℕ) → z < 2 → (b : Bool) → eqb z sign ≡ b → length (get_or (put l sign i x) z []) ≡ most_nodes
      go z g false e = ap length (other z (eqb-false z sign e)) ∙ shaped.entries z g
      go z g true e =
          let q : z ≡ sign = eqb-true z sign e in
          rw q (ap length own ∙ length-set (get_or l sign []) i x ∙ shaped.entries sign h)

-- an entry for P and one for N
abbrev pub put_both : List (List ℕ) → ℕ → ℕ → ℕ → List (List ℕ)
put_both l i x y = put (put l 0 i x) 1 i y

module _ (l : List (List ℕ)) (shaped : Shaped l) (i x y : ℕ) where
  first : Shaped (put l 0 i x)
  first = shaped_put l shaped 0 i x (omega arith)

  pub both_shaped : Shaped (put_both l i x y)
  both_shaped = shaped_put (put l 0 i x) first 1 i y (omega arith)

  pub both_positive : i < most_nodes → cell (put_both l i x y) 0 i ≡ x
  both_positive h =
      cell-sign (put l 0 i x) first 1 i y (omega arith) 0 i (λ e. omega arith)
      ∙ cell_same l shaped 0 i x (omega arith) h

  pub both_negative : i < most_nodes → cell (put_both l i x y) 1 i ≡ y
  both_negative h = cell_same (put l 0 i x) first 1 i y (omega arith) h

  pub both-other : (sign j : ℕ) → j ≢ i → cell (put_both l i x y) sign j ≡ cell l sign j
  both-other sign j d =
      cell-node (put l 0 i x) first 1 i y (omega arith) sign j d
      ∙ cell-node l shaped 0 i x (omega arith) sign j d

-- an array of zeros
pub zeros_shaped : Shaped zeros
zeros_shaped = record {
  signs = length-replicate {A = List ℕ} 2 (replicate most_nodes 0);
  entries = λ z h. ap length (get_or-replicate 2 z (replicate most_nodes 0) [] h) ∙ length-replicate {A = ℕ} most_nodes 0;
}

zero-at : (k j : ℕ) → ◌≡◌ {A = ℕ} (get_or (replicate k 0) j 0) 0
zero-at zero j = refl
zero-at (suc k) zero = refl
zero-at (suc k) (suc j) = zero-at k j

pub zeros-cell : (sign j : ℕ) → sign < 2 → cell zeros sign j ≡ 0
zeros-cell sign j h =
    ap (λ (row : List ℕ). get_or row j 0) (get_or-replicate 2 sign (replicate most_nodes 0) [] h) ∙ zero-at most_nodes j

-- two arrays with the same entries are the same
pub same_cells : (l m : List (List ℕ)) → Shaped l → Shaped m → ((sign j : ℕ) → sign < 2 → cell l sign j ≡ cell m sign j) → l ≡ m
same_cells l m a b e =
    ext_get_or [] l m (a.signs ∙ sym b.signs) (λ sign g. row sign (omega (arith, a.signs)))
  where
    row : (sign : ℕ) → sign < 2 → get_or l sign [] ≡ get_or m sign []
    row sign h = ext_get_or 0 _ _ (a.entries sign h ∙ sym (b.entries sign h)) (λ j g. e sign j h)
