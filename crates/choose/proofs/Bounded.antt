-- With every node renamed that may be, each body is over literals alone: a definition has four clauses at most, and the root two.
-- So the mended choice ends below the ceiling. Assumes nothing.
use mathlib.Core.Path.{◌≡◌, refl, sym, ap, ◌∙◌, subst⁻¹}
use mathlib.Core.Bool.{Bool, true, false, cond, not, ◌&&◌, ◌||◌}
use mathlib.Core.List.{List}
use Prim.Native.Nat.{ℕ, zero, suc, ◌+◌, ◌*◌, ◌-◌, ◌<◌, ◌≤◌}
use native.Mathlib.Nat.{mul-le-mul}
use native.Mathlib.Numerals.{add-one}
use native.Mathlib.Omega.{arith}
use lib.Dec.{T, eqb}
use lib.ListN.{length}
use borrow.Author.Tests.{eq-eqb, ne_eqb}
use Rattle.formula.specs.Inner.Right.{FieldBelow, Below}
use Rattle.formula.specs.Tables.{node_in, most_nodes, use_of_a}
use Rattle.formula.specs.declared.node.Kind.{Kind}
use Rattle.formula.specs.declared.node.Kind.TheVariants.{False, True, Symbol, Not, And, Or, Implies, Equivalent, Unknown}
use Rattle.formula.specs.declared.node.Node.{Node}
use Rattle.marks.specs.Marks.{mark_of, to_a, to_b}
use Rattle.marks.specs.Paths.{has}
use Rattle.marks.specs.Sets.{renamed, operator, reached, may_rename}
use Rattle.marks.specs.declared.mark.Mark.{Mark}
use Rattle.marks.proofs.Laws.Marks.{doubled-has}
use Rattle.marks.proofs.Laws.Polarity.{passed_a, passed_b, root-positive}
use Rattle.clausal.specs.Clauses.{Row, Renaming, under, unit_row, row_by, name_of, row_of, helper_of, renamed_below}
use Rattle.clausal.specs.Output.{definitions}
use Rattle.clausal.specs.Totals.{Size, sizes, true_totals, clause_ceiling, total_under}
use Rattle.clausal.specs.Choosing.{Choice, all_of, everything, choose}
use Rattle.clausal.proofs.Renamed.{one_at_most, below_le}
use Rattle.clausal.proofs.Rows.{seen_of, row_at, a_below, b_below, seen_plain, seen-renamed}
use Rattle.clausal.proofs.Totals.{totals-shown}
use Rattle.totals.specs.Inner.Sums.{with_part, with_definition}
use Rattle.totals.proofs.Laws.Sums.{whole_to, with_node_at, whole-more}
use Rattle.choose.proofs.Laws.All.{all_renamed, all-next}
use Rattle.choose.proofs.Allowances.{Decides, low, few, mends, decides, second-total}

-- at most k clauses at each sign that a mark has
record Most (k : ℕ) (m : Mark) (r : Row Size) : Type 0 where
  P : T m.positive → r.P.clauses ≤ k
  N : T m.negative → r.N.clauses ≤ k

product : (a b : ℕ) → a ≤ 1 → b ≤ 1 → a * b ≤ 1
product a b p q = omega (arith, mul-le-mul p q)

-- a node over literals
rule_most : (k : Kind) (s : ℕ) (m : Mark) (x y : Row Size) → Most 1 (to_a k m) x → Most 1 (to_b k m) y → Most 2 m (row_by sizes k s x y)
rule_most False s m x y p q = record { P = λ t. omega arith; N = λ t. omega arith }
rule_most True s m x y p q = record { P = λ t. omega arith; N = λ t. omega arith }
rule_most Symbol s m x y p q = record { P = λ t. omega arith; N = λ t. omega arith }
rule_most Not s m x y p q = record { P = λ t. omega (arith, p.N t); N = λ t. omega (arith, p.P t) }
rule_most And s m x y p q = record {
  P = λ t. omega (arith, p.P t, q.P t);
  N = λ t. omega (arith, product _ _ (p.N t) (q.N t));
}
rule_most Or s m x y p q = record {
  P = λ t. omega (arith, product _ _ (p.P t) (q.P t));
  N = λ t. omega (arith, p.N t, q.N t);
}
rule_most Implies s m x y p q = record {
  P = λ t. omega (arith, product _ _ (p.N t) (q.P t));
  N = λ t. omega (arith, p.P t, q.N t);
}
rule_most Equivalent s m x y p q = record { P = λ t. (all true t).P tt; N = λ t. (all false t).N tt }
  where
    all : (z : Bool) → T (has z m) → Most 2 (record { positive = true; negative = true }) (row_by sizes Equivalent s x y)
    all z t =
        let x_p = p.P (doubled-has m z true t) in
        let x_n = p.N (doubled-has m z false t) in
        let y_p = q.P (doubled-has m z true t) in
        let y_n = q.N (doubled-has m z false t) in
        record {
          P = λ u. omega (arith, product _ _ x_n y_p, product _ _ y_n x_p);
          N = λ u. omega (arith, product _ _ x_n y_n, product _ _ x_p y_p);
        }
rule_most Unknown s m x y p q = record { P = λ t. omega arith; N = λ t. omega arith }

-- a node that has no child
leaf-most : (k : Kind) (s : ℕ) (m : Mark) (x y : Row Size) → operator k ≡ false → Most 1 m (row_by sizes k s x y)
leaf-most False s m x y e = record { P = λ t. omega arith; N = λ t. omega arith }
leaf-most True s m x y e = record { P = λ t. omega arith; N = λ t. omega arith }
leaf-most Symbol s m x y e = record { P = λ t. omega arith; N = λ t. omega arith }
leaf-most Unknown s m x y e = record { P = λ t. omega arith; N = λ t. omega arith }
leaf-most Not s m x y e = let z : ◌≡◌ {A = ℕ} 0 1 = cc in absurd (omega arith)
leaf-most And s m x y e = let z : ◌≡◌ {A = ℕ} 0 1 = cc in absurd (omega arith)
leaf-most Or s m x y e = let z : ◌≡◌ {A = ℕ} 0 1 = cc in absurd (omega arith)
leaf-most Implies s m x y e = let z : ◌≡◌ {A = ℕ} 0 1 = cc in absurd (omega arith)
leaf-most Equivalent s m x y e = let z : ◌≡◌ {A = ℕ} 0 1 = cc in absurd (omega arith)

-- a mark with a sign is that of a node that is reached
has-reached : (z : Bool) (m : Mark) → T (has z m) → reached m ≡ true
has-reached true m t = go m.positive t
  where
    go : (b : Bool) → T b → (b || m.negative) ≡ true
    go true t = refl
    go false t = absurd t
has-reached false m t = go m.positive m.negative t
  where
    go : (a b : Bool) → T b → (a || b) ≡ true
    go true b t = refl
    go false true t = refl
    go false false t = absurd t

module _ (u : Renaming) (ns : List Node) (some : 0 < length ns) (below : (j : ℕ) → Below j (node_in ns j)) where
  abbrev w : Renaming
  w = under u (all_of ns)

  abbrev row : ℕ → Row Size
  row i = row_of sizes (name_of w) ns i

  abbrev child : ℕ → Row Size
  child i = seen_of sizes (name_of w) ns i

  -- a child is seen as its helper, or it has no child itself
  child-most : (i : ℕ) → suc i < length ns → Most 1 (mark_of ns i) (child i)
  child-most i h = record { P = λ t. (at true t).P t; N = λ t. (at false t).N t }
    where
      at : (z : Bool) → T (has z (mark_of ns i)) → Most 1 (mark_of ns i) (child i)
      at z t = go (operator (node_in ns i).kind) refl
        where
          go : (b : Bool) → operator (node_in ns i).kind ≡ b → Most 1 (mark_of ns i) (child i)
          go true e =
              let last : eqb (suc i) (length ns) ≡ false = ne_eqb (suc i) (length ns) (λ q. omega arith) in
              let may : may_rename ns i ≡ true = rw (e, has-reached z (mark_of ns i) t, last) in
              let is : child i ≡ unit_row sizes (helper_of w i) =
              seen-renamed sizes w i (row i) (all_renamed ns i (omega arith) ∙ may) in
              subst⁻¹ (Most 1 (mark_of ns i)) is (record { P = λ s. omega arith; N = λ s. omega arith })
          go false e =
              let not-may : may_rename ns i ≡ false = rw e in
              let is : child i ≡ row_by sizes (node_in ns i).kind (node_in ns i).a (child (node_in ns i).a) (child (node_in ns i).b) =
              seen_plain sizes w i (row i) (all_renamed ns i (omega arith) ∙ not-may) ∙ row_at sizes (name_of w) ns i (omega arith) (below i) in
              subst⁻¹ (Most 1 (mark_of ns i)) is (leaf-most (node_in ns i).kind (node_in ns i).a (mark_of ns i) _ _ e)

  -- the body of a node
  body-most : (i : ℕ) → i < length ns → Most 2 (mark_of ns i) (row i)
  body-most i h =
      let n : Node = node_in ns i in
      let m : Mark = mark_of ns i in
      let a : (z : Bool) → T (has z (to_a n.kind m)) → Most 1 (mark_of ns n.a) (child n.a) =
      λ z t. child-most n.a (omega (arith, a_below i n m (below i) z t)) in
      let b : (z : Bool) → T (has z (to_b n.kind m)) → Most 1 (mark_of ns n.b) (child n.b) =
      λ z t. child-most n.b (omega (arith, b_below i n m (below i) z t)) in
      subst⁻¹ (Most 2 m) (row_at sizes (name_of w) ns i h (below i))
      (rule_most n.kind n.a m (child n.a) (child n.b)
      (record { P = λ t. (a true t).P (passed_a ns below i true t); N = λ t. (a false t).N (passed_a ns below i false t) })
      (record { P = λ t. (b true t).P (passed_b ns below i true t); N = λ t. (b false t).N (passed_b ns below i false t) }))

  -- the definition of a node adds four clauses at most
  part-most : (b : Bool) (part sum : Size) → (T b → part.clauses ≤ 2) → (with_part sizes b part sum).clauses ≤ sum.clauses + 2
  part-most true part sum h = omega (arith, h tt)
  part-most false part sum h = omega arith

  node-most : (i : ℕ) (sum : Size) → i < length ns
      → (with_node_at sizes w ns i sum).clauses ≤ sum.clauses + 4 * cond (renamed (all_of ns) i) 1 0
  node-most i sum h = go (renamed (all_of ns) i)
    where
      go : (b : Bool) → (cond b (with_definition sizes (helper_of w i) (mark_of ns i) (row i) sum) sum).clauses ≤ sum.clauses + 4 * cond b 1 0
      go true =
          let m : Mark = mark_of ns i in
          let most = body-most i h in
          let down : Size = sizes.join (sizes.unit false (helper_of w i)) (row i).P in
          let up : Size = sizes.join (row i).N (sizes.unit true (helper_of w i)) in
          let first = part-most m.positive down sum (λ t. omega (arith, most.P t)) in
          let second = part-most m.negative up (with_part sizes m.positive down sum) (λ t. omega (arith, most.N t)) in
          omega arith
      go false = omega arith

  sum-most : (n : ℕ) → n ≤ length ns → (whole_to sizes w ns n).clauses ≤ 2 + 4 * renamed_below (all_of ns) n
  unfolding definitions renamed_below
  sum-most zero h = omega (arith, (body-most (length ns - 1) (omega arith)).P (root-positive ns below some))
  sum-most (suc n) h =
      let more : whole_to sizes w ns (suc n) ≡ with_node_at sizes w ns n (whole_to sizes w ns n) =
      ap (whole_to sizes w ns) (sym (add-one n)) ∙ whole-more sizes w ns n in
      rw more (omega (arith, node-most n (whole_to sizes w ns n) h, sum-most n (omega arith)))

  -- R22.7: four clauses for each node that may be renamed, and two for the root
  pub all-clauses : (true_totals w ns).clauses ≤ 2 + 4 * (everything ns).picks
  all-clauses = sum-most (length ns) (omega arith)

  -- the lowest node has no child, and the root is no node to rename
  lowest-out : may_rename ns 0 ≡ false
  lowest-out = ap (λ (b : Bool). b && (reached (mark_of ns 0) && not (eqb 1 (length ns)))) (leaf (node_in ns 0).kind (below 0).0)
    where
      leaf : (k : Kind) → FieldBelow 0 (use_of_a k) (node_in ns 0).a → operator k ≡ false
      leaf False h = refl
      leaf True h = refl
      leaf Symbol h = refl
      leaf Not h = absurd (omega arith)
      leaf And h = absurd (omega arith)
      leaf Or h = absurd (omega arith)
      leaf Implies h = absurd (omega arith)
      leaf Equivalent h = absurd (omega arith)
      leaf Unknown h = refl

  root-out : (m : ℕ) → length ns ≡ suc m → may_rename ns m ≡ false
  root-out m e = no (operator (node_in ns m).kind) (reached (mark_of ns m)) (eqb (suc m) (length ns)) (eq-eqb (suc m) (length ns) (sym e))
    where
      no : (a b c : Bool) → c ≡ true → (a && (b && not c)) ≡ false
      no true true c q = ap not q
      no true false c q = refl
      no false b c q = refl

  -- what a node counts
  abbrev once : Bool → ℕ
  once b = cond b 1 0

  without_lowest : (k : ℕ) → k < length ns → renamed_below (all_of ns) (suc k) ≤ k
  without_lowest zero h =
      omega (arith, all-next ns 0 h, below_le (all_of ns) 0, ap once lowest-out)
  without_lowest (suc k) h =
      omega (arith, all-next ns (suc k) h, without_lowest k (omega arith), one_at_most (may_rename ns (suc k)))

  pub all_most : (everything ns).picks ≤ length ns - 2
  all_most = go (length ns) refl
    where
      go : (n : ℕ) → length ns ≡ n → renamed_below (all_of ns) (length ns) ≤ length ns - 2
      go zero e = absurd (omega (arith, some))
      go (suc zero) e = omega (arith, ap (renamed_below (all_of ns)) e, all-next ns 0 some, below_le (all_of ns) 0, ap once lowest-out)
      go (suc (suc k)) e =
          omega (
            arith,
            ap (renamed_below (all_of ns)) e,
            all-next ns (suc k) (omega arith),
            without_lowest k (omega arith),
            ap once (root-out (suc k) e),
          )

  -- R22.7: a table of up to 1,024 nodes
  pub all_bounded : length ns ≤ most_nodes → (true_totals w ns).clauses ≤ 4_090
  all_bounded h = omega (arith, all-clauses, all_most)

  -- R22.8: where every node is allowed, the choice ends below the ceiling
  pub chosen-below : length ns ≤ most_nodes → (a : ℕ) → (everything ns).picks ≤ a → total_under u ns (choose a u ns).chosen < clause_ceiling
  chosen-below h a enough = go _ (decides u ns a)
    where
      go : (c : Choice) → Decides u ns a c → total_under u ns c.chosen < clause_ceiling
      go c (low l) = l
      go c (few l) = absurd (omega arith)
      go c (mends l m) =
          omega (arith, second-total u ns, ap (λ (x : Size). x.clauses) (totals-shown w ns), all_bounded h)
