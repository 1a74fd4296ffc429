-- Ways as numbers, what they weigh, and the ways of an array after one more was added.
-- Assumes nothing.
use mathlib.Core.Path.{◌≡◌, refl, sym, ap, ◌∙◌, subst, subst⁻¹}
use mathlib.Core.Bool.{Bool, true, false}
use mathlib.Core.List.{List, ◌++◌}
use Prim.Native.Nat.{ℕ, zero, suc, ◌+◌, ◌*◌, ◌<◌, ◌≤◌}
use native.Mathlib.Numerals.{add-one}
use native.Mathlib.Omega.{arith}
use lib.Dec.{ltb}
use lib.ListN.{length, get_or, length-set}
use lib.Seq.{get_or-set_same, get_or-set_other}
use borrow.Author.Tests.{ltb-true, ltb-false}
use Rattle.formula.specs.Tables.{most_nodes, nodes_of}
use Rattle.formula.specs.declared.node.Node.{Node}
use Rattle.std.specs.Prelude.{Some}
use Rattle.walk.specs.Inner.Lists.{names_in, seen_clause}
use Rattle.walk.specs.Inner.Steps.{way_clause}
use Rattle.walk.specs.declared.step.Way.{Way}
use Rattle.walk.specs.Inner.Packed.{packed, way_of}
use Rattle.walk.proofs.Laws.Packed.{way-packed}
use Rattle.walk.specs.declared.nodes.Nodes.{Nodes}
use Rattle.origin.specs.Inner.Ways.{Pushed, Popped, waiting_clause, waiting_of, weight, load, load_of, WayRight, Waiting}
use Rattle.origin.specs.declared.literal.Ways.{Ways}

-- a node weighs something, and three times what a lower one does or more
pub weight-some : (n : ℕ) → 0 < weight n
unfolding weight
weight-some zero = omega arith
weight-some (suc n) = omega (arith, weight-some n)

pub weight-lower : (m n : ℕ) → m < n → 3 * weight m ≤ weight n
unfolding weight
weight-lower m zero h = absurd (omega arith)
weight-lower m (suc n) h = go (ltb m n) refl (weight-lower m n)
  where
    go : (b : Bool) → ltb m n ≡ b → (m < n → 3 * weight m ≤ weight n) → 3 * weight m ≤ 3 * weight n
    go true e below = omega (arith, below (ltb-true m n e))
    go false e below =
        let f : m ≡ n = omega (arith, ltb-false m n e) in
        subst (λ (x : ℕ). 3 * weight m ≤ 3 * weight x) f (omega arith)

-- arrays with the same first ways
module _ (a b : List ℕ) where
  pub clause-same : (name : ℕ → ℕ) (ns : List Node) (d : ℕ) → ((i : ℕ) → i < d → get_or a i 0 ≡ get_or b i 0)
      → waiting_clause name ns a d ≡ waiting_clause name ns b d
  unfolding waiting_clause
  clause-same name ns zero h = refl
  clause-same name ns (suc d) h =
      let e = h d (omega arith) in
      let f = clause-same name ns d (λ i g. h i (omega arith)) in
      λ i. way_clause name ns (way_of (e i)) ++ f i

  pub load_same : (d : ℕ) → ((i : ℕ) → i < d → get_or a i 0 ≡ get_or b i 0) → load a d ≡ load b d
  unfolding load
  load_same zero h = refl
  load_same (suc d) h =
      let e = h d (omega arith) in
      let f = load_same d (λ i g. h i (omega arith)) in
      λ i. weight (way_of (e i)).node + f i

-- the last way of an array, and those before it
module _ (ways : List ℕ) (d : ℕ) where
  pub clause-last : (name : ℕ → ℕ) (ns : List Node)
      → waiting_clause name ns ways (d + 1) ≡ way_clause name ns (way_of (get_or ways d 0)) ++ waiting_clause name ns ways d
  unfolding waiting_clause
  clause-last name ns = ap (waiting_clause name ns ways) (add-one d)

  pub load-last : load ways (d + 1) ≡ weight (way_of (get_or ways d 0)).node + load ways d
  unfolding load
  load-last = ap (load ways) (add-one d)

-- one way more waits
module _ (w : Way) (before after : Ways) (node : w.node < most_nodes) (room : before.depth < length before.held)
    (p : Pushed w before after) where
  top : way_of (get_or after.held before.depth 0) ≡ w
  top =
      ap (λ (l : List ℕ). way_of (get_or l before.depth 0)) p.list
      ∙ ap way_of (get_or-set_same before.held before.depth (packed w) 0 room)
      ∙ way-packed w node

  below : (i : ℕ) → i < before.depth → get_or after.held i 0 ≡ get_or before.held i 0
  below i h =
      ap (λ (l : List ℕ). get_or l i 0) p.list ∙ get_or-set_other before.held before.depth i (packed w) 0 (λ e. omega arith)

  pub clause_pushed : (x : Nodes) → waiting_of x after ≡ seen_clause x w ++ waiting_of x before
  clause_pushed x =
      let name = names_in x.helpers.now in
      let ns = nodes_of x.table.now in
      let e = clause-same after.held before.held name ns before.depth below in
      ap (waiting_clause name ns after.held) p.place
      ∙ clause-last after.held before.depth name ns
      ∙ (λ i. way_clause name ns (top i) ++ e i)

  pub load_pushed : load_of after ≡ weight w.node + load_of before
  load_pushed =
      let e = load_same after.held before.held before.depth below in
      ap (load after.held) p.place ∙ load-last after.held before.depth ∙ (λ i. weight (top i).node + e i)

  pub waiting_pushed : (x : Nodes) → before.depth < most_nodes → Waiting x before → WayRight x before.depth w → Waiting x after
  waiting_pushed x h waits right = record {
    writable = waits.writable;
    shape = record {
      size = ap length p.list ∙ length-set before.held before.depth (packed w) ∙ waits.shape.size;
      most = omega (arith, p.place);
    };
    each = λ i g. go i (ltb i before.depth) refl (omega (arith, p.place));
  }
    where
      go : (i : ℕ) (b : Bool) → ltb i before.depth ≡ b → i ≤ before.depth → WayRight x i (way_of (get_or after.held i 0))
      go i true e g =
          let low = ltb-true i before.depth e in
          subst⁻¹ (λ (n : ℕ). WayRight x i (way_of n)) (below i low) (waits.each i low)
      go i false e g =
          let f : i ≡ before.depth = omega (arith, ltb-false i before.depth e) in
          subst⁻¹ (λ (j : ℕ). WayRight x j (way_of (get_or after.held j 0))) f (subst⁻¹ (WayRight x before.depth) top right)

-- the last way waits no longer
module _ (w : Way) (before after : Ways) (p : Popped before (Some w) after) where
  pub clause_popped : (x : Nodes) → waiting_of x before ≡ seen_clause x w ++ waiting_of x after
  clause_popped x =
      let name = names_in x.helpers.now in
      let ns = nodes_of x.table.now in
      let list = sym p.1 in
      let last = sym p.2 in
      ap (waiting_clause name ns before.held) p.0
      ∙ clause-last before.held after.depth name ns
      ∙ (λ i. way_clause name ns (last i) ++ waiting_clause name ns (list i) after.depth)

  pub load_popped : load_of before ≡ weight w.node + load_of after
  load_popped =
      let list = sym p.1 in
      let last = sym p.2 in
      ap (load before.held) p.0 ∙ load-last before.held after.depth ∙ (λ i. weight (last i).node + load (list i) after.depth)
