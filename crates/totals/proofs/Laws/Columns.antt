-- The arrays of totals: the rule of a node read from them, one node more, and what a trial may use again.
-- Assumes nothing.
use mathlib.Core.Path.{◌≡◌, refl, sym, ap, ◌∙◌, subst⁻¹}
use mathlib.Core.Logic.{◌⊎◌, inl, inr, ⊎_elim, ◌≢◌}
use mathlib.Core.Bool.{Bool, true, false, cond}
use mathlib.Core.List.{List}
use Prim.Native.Nat.{ℕ, zero, suc, ◌+◌, ◌<◌, ◌≤◌}
use native.Mathlib.Decide.{dec_lt}
use native.Mathlib.Omega.{arith}
use lib.Dec.{eqb, ltb}
use lib.ListN.{length, get_or, set, get_or-eq_default}
use borrow.Author.Tests.{eqb-true, eqb-false, ltb-true, ltb-false}
use Rattle.laws.specs.Lists.{up_to}
use Rattle.laws.proofs.Upward.{length-up_to}
use Rattle.formula.specs.Inner.Right.{Below}
use Rattle.formula.specs.Tables.{most_nodes, node_in}
use Rattle.marks.specs.Sets.{renamed}
use Rattle.formula.specs.declared.node.Node.{Node}
use Rattle.clausal.specs.Clauses as algebra
use Rattle.clausal.specs.Clauses.{Renaming, renaming, name_of, seen, row_from}
use Rattle.clausal.specs.Totals.{Size, capped}
use Rattle.clausal.proofs.Reuse.{rows_kept_by_trial}
use Rattle.clausal.proofs.Rows.{get_d_rows, row_from_lem, row-past, seen_plain, seen-renamed}
use Rattle.totals.specs.Inner.Columns.{cell, row_in, child_in, row_next, row_totals, zeros, Ready}
use Rattle.totals.specs.Inner.Rowed.{rowed, as_row}
use Rattle.totals.specs.declared.rows.Row.{Row}
use Rattle.totals.proofs.Laws.Grids.{put_both, both_shaped, both_positive, both_negative, both-other, zeros_shaped, zeros-cell}
use Rattle.totals.proofs.Laws.Grids.{same_cells}

-- a row, entry by entry
entries : {a b c d e f g h : ℕ} → a ≡ e → b ≡ f → c ≡ g → d ≡ h
    → ◌≡◌ {A = algebra.Row Size}
    (record { P = record { clauses = a; literals = b }; N = record { clauses = c; literals = d } })
    (record { P = record { clauses = e; literals = f }; N = record { clauses = g; literals = h } })
entries p q r s = λ m. record { P = record { clauses = p m; literals = q m }; N = record { clauses = r m; literals = s m } }

-- the arrays with the row of one more node
abbrev pub clauses_with : List (List ℕ) → ℕ → Row → List (List ℕ)
clauses_with cs i r = put_both cs i r.p.clauses.n r.n.clauses.n

abbrev pub literals_with : List (List ℕ) → ℕ → Row → List (List ℕ)
literals_with ls i r = put_both ls i r.p.literals.n r.n.literals.n

module _ (s : List ℕ) (ns : List Node) where
  abbrev name : ℕ → ℕ
  name = name_of (renaming 0 s)

  -- the rows of the nodes below i
  abbrev first : ℕ → List (algebra.Row Size)
  first i = up_to (row_from capped name ns) i

  -- a child is read as the rows have it
  child-ready : (i : ℕ) (cs ls : List (List ℕ)) → i ≤ length ns → Ready s ns i cs ls → (j : ℕ)
      → child_in s cs ls i j ≡ seen capped name j (get_or (first i) j (algebra.no_row capped))
  child-ready i cs ls h r j = go (renamed s j) refl
    where
      read : (b : Bool) → ltb j i ≡ b → cond b (row_in cs ls j) (algebra.no_row capped) ≡ get_or (first i) j (algebra.no_row capped)
      read true e = let l : j < i = ltb-true j i e in r.rows j (inl l) ∙ sym (get_d_rows capped name ns i j h l)
      read false e =
          let l : length (first i) ≤ j = omega (arith, length-up_to (row_from capped name ns) i, ltb-false j i e) in
          sym (get_or-eq_default (first i) (algebra.no_row capped) l)

      go : (b : Bool) → renamed s j ≡ b
          → cond b (algebra.unit_row capped 0) (cond (ltb j i) (row_in cs ls j) (algebra.no_row capped))
          ≡ seen capped name j (get_or (first i) j (algebra.no_row capped))
      go true e = sym (seen-renamed capped (renaming 0 s) j _ e)
      go false e = read (ltb j i) refl ∙ sym (seen_plain capped (renaming 0 s) j _ e)

  -- the next node's row
  pub next-ready : (i : ℕ) (cs ls : List (List ℕ)) (m : Node) → i < length ns → Ready s ns i cs ls → m ≡ node_in ns i
      → row_next m s cs ls i ≡ row_totals s ns i
  next-ready i cs ls m h r e =
      let child = child-ready i cs ls (omega arith) r in
      ap (λ (k : Node). row_next k s cs ls i) e
      ∙ (λ j. algebra.row_by capped (node_in ns i).kind (node_in ns i).a (child (node_in ns i).a j) (child (node_in ns i).b j))
      ∙ sym (row_from_lem capped name ns i h)

  -- a turn of the loop that fills the arrays
  pub ready-more : (i : ℕ) (cs ls : List (List ℕ)) (x : Row) → i < length ns → length ns ≤ most_nodes → Ready s ns i cs ls
      → x ≡ as_row (row_totals s ns i)
      → Ready s ns (i + 1) (clauses_with cs i x) (literals_with ls i x)
  ready-more i cs ls x h l r e = record {
    clauses = both_shaped cs r.clauses i x.p.clauses.n x.n.clauses.n;
    literals = both_shaped ls r.literals i x.p.literals.n x.n.literals.n;
    rows = λ j q. at j q (eqb j i) refl;
  }
    where
      at : (j : ℕ) → (j < i + 1) ⊎ (length ns ≤ j) → (b : Bool) → eqb j i ≡ b
          → row_in (clauses_with cs i x) (literals_with ls i x) j ≡ row_totals s ns j
      at j q true f =
          let k : j ≡ i = eqb-true j i f in
          let g : i < most_nodes = omega arith in
          let cp = both_positive cs r.clauses i x.p.clauses.n x.n.clauses.n g in
          let cn = both_negative cs r.clauses i x.p.clauses.n x.n.clauses.n g in
          let lp = both_positive ls r.literals i x.p.literals.n x.n.literals.n g in
          let ln = both_negative ls r.literals i x.p.literals.n x.n.literals.n g in
          subst⁻¹ (λ (m : ℕ). row_in (clauses_with cs i x) (literals_with ls i x) m ≡ row_totals s ns m) k (entries cp lp cn ln ∙ ap rowed e)
      at j q false f =
          let d : j ≢ i = eqb-false j i f in
          let low : (j < i) ⊎ (length ns ≤ j) = ⊎_elim (λ a. inl (omega arith)) inr q in
          let c : (sign : ℕ) → cell (clauses_with cs i x) sign j ≡ cell cs sign j =
          λ sign. both-other cs r.clauses i x.p.clauses.n x.n.clauses.n sign j d in
          let l : (sign : ℕ) → cell (literals_with ls i x) sign j ≡ cell ls sign j =
          λ sign. both-other ls r.literals i x.p.literals.n x.n.literals.n sign j d in
          entries (c 0) (l 0) (c 1) (l 1) ∙ r.rows j low

  -- before the first node: two arrays of zeros
  pub ready-start : Ready s ns 0 zeros zeros
  ready-start = record {
    clauses = zeros_shaped;
    literals = zeros_shaped;
    rows = λ j q. ⊎_elim (λ a. absurd (omega arith)) (λ l. none j ∙ sym (row-past capped name ns j l)) q;
  }
    where
      none : (j : ℕ) → row_in zeros zeros j ≡ algebra.no_row capped
      none j =
          let p = zeros-cell 0 j (omega arith) in
          let n = zeros-cell 1 j (omega arith) in
          entries p p n n

  -- after the last node: the row of every node
  pub ready-row : (cs ls : List (List ℕ)) (n : ℕ) → length ns ≤ n → Ready s ns n cs ls → (j : ℕ) → row_in cs ls j ≡ row_totals s ns j
  ready-row cs ls n h r j = r.rows j (go (dec_lt j n))
    where
      go : Dec (j < n) → (j < n) ⊎ (length ns ≤ j)
      go (yes g) = inl g
      go (no g) = inr (omega arith)

  -- then the arrays are settled
  module _ (n : ℕ) (h : length ns ≤ n) (cs ls ds ms : List (List ℕ)) (a : Ready s ns n cs ls) (b : Ready s ns n ds ms) where
    same : (j : ℕ) → row_in cs ls j ≡ row_in ds ms j
    same j = ready-row cs ls n h a j ∙ sym (ready-row ds ms n h b j)

    pub ready-clauses : cs ≡ ds
    ready-clauses = same_cells cs ds a.clauses b.clauses go
      where
        go : (sign j : ℕ) → sign < 2 → cell cs sign j ≡ cell ds sign j
        go zero j g = ap (λ (r : algebra.Row Size). r.P.clauses) (same j)
        go (suc zero) j g = ap (λ (r : algebra.Row Size). r.N.clauses) (same j)
        go (suc (suc sign)) j g = absurd (omega arith)

    pub ready-literals : ls ≡ ms
    ready-literals = same_cells ls ms a.literals b.literals go
      where
        go : (sign j : ℕ) → sign < 2 → cell ls sign j ≡ cell ms sign j
        go zero j g = ap (λ (r : algebra.Row Size). r.P.literals) (same j)
        go (suc zero) j g = ap (λ (r : algebra.Row Size). r.N.literals) (same j)
        go (suc (suc sign)) j g = absurd (omega arith)

  -- arrays that hold more hold less
  pub ready-less : (i k : ℕ) (cs ls : List (List ℕ)) → i ≤ k → Ready s ns k cs ls → Ready s ns i cs ls
  ready-less i k cs ls l r = record {
    clauses = r.clauses;
    literals = r.literals;
    rows = λ j q. ⊎_elim (λ h. r.rows j (inl (omega arith))) (λ h. r.rows j (inr h)) q;
  }

-- the byte of node i: the rows up to that node serve before and after it is set
module _ (ns : List Node) (below : (i : ℕ) → Below i (node_in ns i)) (s : List ℕ) (i byte : ℕ) (cs ls : List (List ℕ)) where
  same-up-to : (j k : ℕ) → k ≤ i + 1 → (j < k) ⊎ (length ns ≤ j) → row_totals (set s i byte) ns j ≡ row_totals s ns j
  same-up-to j k h q =
      ⊎_elim (λ l. rows_kept_by_trial capped ns below (renaming 0 s) i byte j (omega arith))
      (λ l. row-past capped (name_of (renaming 0 (set s i byte))) ns j l ∙ sym (row-past capped (name_of (renaming 0 s)) ns j l)) q

  pub ready-trial : (k : ℕ) → k ≤ i + 1 → Ready s ns k cs ls → Ready (set s i byte) ns k cs ls
  ready-trial k h r = record {
    clauses = r.clauses;
    literals = r.literals;
    rows = λ j q. r.rows j q ∙ sym (same-up-to j k h q);
  }

  pub ready-back : (k : ℕ) → k ≤ i + 1 → Ready (set s i byte) ns k cs ls → Ready s ns k cs ls
  ready-back k h r = record {
    clauses = r.clauses;
    literals = r.literals;
    rows = λ j q. r.rows j q ∙ same-up-to j k h q;
  }
