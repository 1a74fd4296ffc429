-- The row equation: a node's row is the rule at its children's rows, as they are seen; and the rows made first stay.
-- Assumes nothing.
use Rattle.laws.specs.Lists.{up_to}
use Rattle.laws.proofs.Upward.{length-up_to, take-up_to, get_d_up_to}
use Rattle.formula.specs.Inner.Right.{Below}
use Rattle.marks.specs.Marks.{unmarked, to_a, to_b, mark_in, pass_on}
use Rattle.formula.specs.Tables.{node_in}
use Rattle.marks.specs.Paths.{has}
use Rattle.marks.specs.Sets.{renamed}
use Rattle.marks.proofs.Laws.Marks.{unmarked-has, Passed, passed}
use Rattle.clausal.specs.Clauses.{Algebra, Row, unit_row, no_row, row_by, seen, row_from, rows_of, row_of, Renaming, helper_of, name_of}
use Rattle.clausal.proofs.Helpers.{helper-some, name-renamed, name-plain}
use Rattle.clausal.proofs.Related.{Keeps, Under, both, under_by}
use mathlib.Core.Path.{◌≡◌, refl, sym, ap, ◌∙◌, subst}
use mathlib.Core.Bool.{Bool, true, false, cond}
use mathlib.Core.List.{List}
use Prim.Native.Nat.{ℕ, ◌≤◌, ◌<◌}
use native.Mathlib.Decide.{dec_lt}
use native.Mathlib.Omega.{arith}
use lib.Dec.{T, eqb}
use lib.ListN.{length, get_or, take, replicate, length-replicate, get_or-eq_default}
use lib.Seq.{get_or-take}
use Rattle.marks.specs.declared.mark.Mark.{Mark}
use Rattle.formula.specs.declared.node.Node.{Node}

-- what a node passes on goes to children below it: in a list of as many nodes as stand below it, it has to show
module _ (k : ℕ) (n : Node) (m : Mark) (b : Below k n) where
  given : Passed k n m (replicate k unmarked) (pass_on n m (replicate k unmarked))
  given = passed k n m (replicate k unmarked) (omega (arith, length-replicate k unmarked)) b

  below_of : (z : Bool) (x : ℕ) → T (has z (mark_in (pass_on n m (replicate k unmarked)) x)) → x < k
  below_of z x t = go (dec_lt x k)
    where
      go : Dec (x < k) → x < k
      go (yes h) = h
      go (no h) =
          let past : length (replicate k unmarked) ≤ x = omega (arith, length-replicate k unmarked) in
          let none = get_or-eq_default (replicate k unmarked) unmarked past in
          absurd (unmarked-has z (subst (λ (y : Mark). T (has z y)) (given.stays x (omega arith) ∙ none) t))

  pub a_below : (z : Bool) → T (has z (to_a n.kind m)) → n.a < k
  a_below z t = below_of z n.a (given.gives_a z t)

  pub b_below : (z : Bool) → T (has z (to_b n.kind m)) → n.b < k
  b_below z t = below_of z n.b (given.gives_b z t)

-- the rule of a node at rows of its children
abbrev pub rule_at : {C : Type 0} → Algebra C → Node → (ℕ → Row C) → Row C
rule_at A n child = row_by A n.kind n.a (child n.a) (child n.b)

module _ {C : Type 0} (A : Algebra C) where
  same_keeps : Keeps (λ x. Unit {0}) A A ◌≡◌
  same_keeps = record {
    none = refl;
    empty = refl;
    unit = λ plain x k. refl;
    cat = λ x y z w p q. λ i. A.cat (p i) (q i);
    join = λ x y z w p q. λ i. A.join (p i) (q i);
  }

  under_same : (m : Mark) (x y : Row C) → ((z : Bool) → T (has z m) → x ≡ y) → Under ◌≡◌ m x y
  under_same m x y e = record {
    P = λ t. ap (λ (r : Row C). r.P) (e true t);
    N = λ t. ap (λ (r : Row C). r.N) (e false t);
  }

  -- it looks only at children below the node
  pub rule_same : (i : ℕ) (n : Node) → Below i n → (f g : ℕ → Row C) → ((j : ℕ) → j < i → f j ≡ g j)
      → rule_at A n f ≡ rule_at A n g
  rule_same i n b f g e =
      let u : Under ◌≡◌ both (rule_at A n f) (rule_at A n g) =
      under_by (λ x. Unit {0}) A A ◌≡◌ same_keeps n.kind n.a both _ _ _ _ (λ k. tt)
      (under_same _ _ _ (λ z t. e n.a (a_below i n both b z t)))
      (under_same _ _ _ (λ z t. e n.b (b_below i n both b z t))) in
      λ j. record { P = u.P tt j; N = u.N tt j }

module _ {C : Type 0} (A : Algebra C) (name : ℕ → ℕ) (ns : List Node) where
  pub length-rows : length (rows_of A name ns) ≡ length ns
  length-rows = length-up_to (row_from A name ns) (length ns)

  pub row-past : (i : ℕ) → length ns ≤ i → row_of A name ns i ≡ no_row A
  row-past i h = get_or-eq_default (rows_of A name ns) (no_row A) (omega (arith, length-rows))

  -- the rows of the nodes below i
  pub take-rows : (i : ℕ) → i ≤ length ns → take i (rows_of A name ns) ≡ up_to (row_from A name ns) i
  take-rows i h = take-up_to (row_from A name ns) i (length ns) h

  pub get_d_rows : (i j : ℕ) → i ≤ length ns → j < i → get_or (up_to (row_from A name ns) i) j (no_row A) ≡ row_of A name ns j
  get_d_rows i j h g =
      ap (λ (l : List (Row C)). get_or l j (no_row A)) (sym (take-rows i h))
      ∙ get_or-take i (rows_of A name ns) j (no_row A) g

  -- a row is made of the rows before it ..
  pub row_from_lem : (i : ℕ) → i < length ns → row_of A name ns i ≡ row_from A name ns (up_to (row_from A name ns) i) i
  row_from_lem i h = get_d_up_to (row_from A name ns) (no_row A) i (length ns) h

  -- .. and so of its children's rows, as they are seen
  abbrev pub seen_of : ℕ → Row C
  seen_of j = seen A name j (row_of A name ns j)

  pub row_at : (i : ℕ) → i < length ns → Below i (node_in ns i) → row_of A name ns i ≡ rule_at A (node_in ns i) seen_of
  row_at i h b = row_from_lem i h ∙ rule_same A i (node_in ns i) b _ _ (λ j g. ap (seen A name j) (get_d_rows i j (omega arith) g))

-- a node as a child: under a renaming it is seen as its helper, or as itself
module _ {C : Type 0} (A : Algebra C) (u : Renaming) (i : ℕ) (row : Row C) where
  see : ℕ → Row C
  see name = cond (eqb name 0) row (unit_row A name)

  pub seen_plain : renamed u.set i ≡ false → seen A (name_of u) i row ≡ row
  unfolding see
  seen_plain e = ap see (name-plain u i e)

  pub seen-renamed : renamed u.set i ≡ true → seen A (name_of u) i row ≡ unit_row A (helper_of u i)
  unfolding see
  seen-renamed e = ap see (name-renamed u i e) ∙ ap (λ (b : Bool). cond b row (unit_row A (helper_of u i))) (helper-some u i)
