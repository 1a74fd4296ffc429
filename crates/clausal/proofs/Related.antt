-- The one law: what the five operations keep is kept by every row of every list of nodes, for both signs and every set,
-- by every part of the output and by the whole. Its instances: totals, ceilings, names and truth.
-- Assumes nothing.
use mathlib.Core.Path.{◌≡◌, refl, ◌∙◌, subst⁻¹}
use mathlib.Core.Bool.{Bool, true, false, cond}
use mathlib.Core.List.{List, [], ◌∷◌, ◌++◌}
use Prim.Native.Nat.{ℕ, zero, suc, ◌-◌}
use native.Mathlib.Omega.{arith}
use lib.Dec.{T, eqb}
use lib.ListN.{length, get_or}
use Rattle.laws.proofs.Upward.{Each, none, more, each_at, each-up_to}
use Rattle.marks.specs.Marks.{to_a, to_b}
use Rattle.formula.specs.Tables.{node_in}
use Rattle.marks.specs.Paths.{has}
use Rattle.marks.specs.Sets.{renamed}
use Rattle.marks.proofs.Laws.Marks.{doubled-has}
use Rattle.clausal.specs.Clauses.{Algebra, Row, unit_row, no_row, row_by, Renaming, helper_of, name_of, seen, row_from, rows_of, row_of}
use Rattle.clausal.specs.Meanings.{Origin, option, helper}
use Rattle.clausal.specs.Output.{Part, down_part, up_part, definition, definitions, parts_of, gather, whole_of}
use Rattle.marks.specs.declared.mark.Mark.{Mark}
use Rattle.formula.specs.declared.node.Kind.{Kind}
use Rattle.formula.specs.declared.node.Kind.TheVariants.{False, True, Symbol, Not, And, Or, Implies, Equivalent, Unknown}
use Rattle.formula.specs.declared.node.Node.{Node}

-- a relation that the five operations keep; units are asked for only at known variables
pub record Keeps {C D : Type 0} (Known : ℕ → Type 0) (A : Algebra C) (B : Algebra D) (Q : C → D → Type 0) : Type 0 where
  pub none : Q A.none B.none
  pub empty : Q A.empty B.empty
  pub unit : (plain : Bool) (x : ℕ) → Known x → Q (A.unit plain x) (B.unit plain x)
  pub cat : (x y : C) (z w : D) → Q x z → Q y w → Q (A.cat x y) (B.cat z w)
  pub join : (x y : C) (z w : D) → Q x z → Q y w → Q (A.join x y) (B.join z w)

-- two rows, related at each sign that a mark has
pub record Under {C D : Type 0} (Q : C → D → Type 0) (m : Mark) (x : Row C) (y : Row D) : Type 0 where
  pub P : T m.positive → Q x.P y.P
  pub N : T m.negative → Q x.N y.N

-- the mark of both signs
abbrev pub both : Mark
both = record { positive = true; negative = true }

module _ {C D : Type 0} (Known : ℕ → Type 0) (A : Algebra C) (B : Algebra D) (Q : C → D → Type 0)
    (keeps : Keeps Known A B Q) where
  pub under-unit : (m : Mark) (x : ℕ) → Known x → Under Q m (unit_row A x) (unit_row B x)
  under-unit m x k = record { P = λ t. search keeps.unit; N = λ t. search keeps.unit }

  pub under_none : (m : Mark) → Under Q m (no_row A) (no_row B)
  under_none m = record { P = λ t. keeps.none; N = λ t. keeps.none }

  -- the rule of a node, at a mark: of its children only what the mark passes on is asked
  pub under_by : (k : Kind) (n : ℕ) (m : Mark) (x y : Row C) (z w : Row D) → (k ≡ Symbol → Known n)
      → Under Q (to_a k m) x z → Under Q (to_b k m) y w → Under Q m (row_by A k n x y) (row_by B k n z w)
  under_by False n m x y z w known p q = record { P = λ t. search; N = λ t. search }
  under_by True n m x y z w known p q = record { P = λ t. search; N = λ t. search }
  under_by Symbol n m x y z w known p q = under-unit m n (known refl)
  under_by Not n m x y z w known p q = record { P = p.N; N = p.P }
  under_by And n m x y z w known p q = record {
    P = λ t. keeps.cat _ _ _ _ (p.P t) (q.P t);
    N = λ t. keeps.join _ _ _ _ (p.N t) (q.N t);
  }
  under_by Or n m x y z w known p q = record {
    P = λ t. keeps.join _ _ _ _ (p.P t) (q.P t);
    N = λ t. keeps.cat _ _ _ _ (p.N t) (q.N t);
  }
  under_by Implies n m x y z w known p q = record {
    P = λ t. keeps.join _ _ _ _ (p.N t) (q.P t);
    N = λ t. keeps.cat _ _ _ _ (p.P t) (q.N t);
  }
  under_by Equivalent n m x y z w known p q = record { P = λ t. (all true t).P tt; N = λ t. (all false t).N tt }
    where
      -- a mark of any sign is passed on as both
      all : (sign : Bool) → T (has sign m) → Under Q both (row_by A Equivalent n x y) (row_by B Equivalent n z w)
      all sign t =
          let x_p = p.P (doubled-has m sign true t) in
          let x_n = p.N (doubled-has m sign false t) in
          let y_p = q.P (doubled-has m sign true t) in
          let y_n = q.N (doubled-has m sign false t) in
          record { P = λ u. search (keeps.cat, keeps.join); N = λ u. search (keeps.cat, keeps.join) }
  under_by Unknown n m x y z w known p q = under_none m

-- a name of a node is its helper, and only a renamed node has one
pub name-helper : (u : Renaming) (i : ℕ) → eqb (name_of u i) 0 ≡ false → (renamed u.set i ≡ true) × (name_of u i ≡ helper_of u i)
name-helper u i = go (renamed u.set i) refl
  where
    go : (b : Bool) → renamed u.set i ≡ b → eqb (cond b (helper_of u i) 0) 0 ≡ false
        → (renamed u.set i ≡ true) × (cond b (helper_of u i) 0 ≡ helper_of u i)
    go true e f = (e, refl)
    go false e f = let z : ◌≡◌ {A = ℕ} 0 1 = cc in absurd (omega arith)

named-origin : (u : Renaming) (ns : List Node) (i : ℕ) → eqb (name_of u i) 0 ≡ false → Origin u ns (name_of u i)
named-origin u ns i e =
    let n = name-helper u i e in
    subst⁻¹ (Origin u ns) n.1 (helper i n.0)

-- two parts from the same place, with related contents
pub record Parts {C D : Type 0} (Q : C → D → Type 0) (p : Part C) (q : Part D) : Type 0 where
  pub origin : p.origin ≡ q.origin
  pub helper : p.helper ≡ q.helper
  pub direction : p.direction ≡ q.direction
  pub content : Q p.content q.content

each_append : {A B : Type 0} {Q : A → B → Type 0} {x y : List A} {z w : List B} → Each Q x z → Each Q y w
    → Each Q (x ++ y) (z ++ w)
each_append none f = f
each_append (more q e) f = more q (each_append e f)

-- the rows: known are the symbols of the table, and every name as which a node is seen
module _ {C D : Type 0} (Known : ℕ → Type 0) (A : Algebra C) (B : Algebra D) (Q : C → D → Type 0) (keeps : Keeps Known A B Q)
    (name : ℕ → ℕ) (ns : List Node) (symbol : (i : ℕ) → (node_in ns i).kind ≡ Symbol → Known (node_in ns i).a)
    (named : (i : ℕ) → eqb (name i) 0 ≡ false → Known (name i)) where
  related_seen : (i : ℕ) (x : Row C) (y : Row D) → Under Q both x y → Under Q both (seen A name i x) (seen B name i y)
  related_seen i x y u = go (eqb (name i) 0) refl
    where
      go : (b : Bool) → eqb (name i) 0 ≡ b → Under Q both (cond b x (unit_row A (name i))) (cond b y (unit_row B (name i)))
      go true e = u
      go false e = under-unit Known A B Q keeps both (name i) (named i e)

  related_at : {xs : List (Row C)} {ys : List (Row D)} → Each (Under Q both) xs ys → (i : ℕ)
      → Under Q both (get_or xs i (no_row A)) (get_or ys i (no_row B))
  related_at e i = each_at (Under Q both) (no_row A) (no_row B) (under_none Known A B Q keeps both) e i

  related_rows : Each (Under Q both) (rows_of A name ns) (rows_of B name ns)
  related_rows = each-up_to (Under Q both) _ _ step (length ns)
    where
      step : (xs : List (Row C)) (ys : List (Row D)) (i : ℕ) → Each (Under Q both) xs ys
          → Under Q both (row_from A name ns xs i) (row_from B name ns ys i)
      step xs ys i e =
          let node : Node = node_in ns i in
          under_by Known A B Q keeps node.kind node.a both _ _ _ _ (symbol i) (child node.a) (child node.b)
        where
          child : {m : Mark} (j : ℕ)
              → Under Q m (seen A name j (get_or xs j (no_row A))) (seen B name j (get_or ys j (no_row B)))
          child j =
              let u = related_seen j _ _ (related_at e j) in
              record { P = λ t. u.P tt; N = λ t. u.N tt }

  -- every row, both signs
  pub related_row_by : (i : ℕ) → Under Q both (row_of A name ns i) (row_of B name ns i)
  related_row_by i = related_at related_rows i

module _ {C D : Type 0} (A : Algebra C) (B : Algebra D) (Q : C → D → Type 0) (u : Renaming) (ns : List Node)
    (keeps : Keeps (Origin u ns) A B Q) where
  pub related_row : (i : ℕ) → Under Q both (row_of A (name_of u) ns i) (row_of B (name_of u) ns i)
  related_row i = related_row_by (Origin u ns) A B Q keeps (name_of u) ns option (named-origin u ns) i

  related_down : (i : ℕ) → renamed u.set i ≡ true → Parts Q (down_part A u ns i) (down_part B u ns i)
  related_down i e =
      let row = (related_row i).P tt in
      record { origin = refl; helper = refl; direction = refl; content = search (keeps.join, keeps.unit, helper) }

  related_up : (i : ℕ) → renamed u.set i ≡ true → Parts Q (up_part A u ns i) (up_part B u ns i)
  related_up i e =
      let row = (related_row i).N tt in
      record { origin = refl; helper = refl; direction = refl; content = search (keeps.join, keeps.unit, helper) }

  -- two parts, each there under a condition of its own, and both under one
  each_two : (b d u : Bool) (p r : Part C) (q t : Part D) → (b ≡ true → Parts Q p q) → (b ≡ true → Parts Q r t)
      → Each (Parts Q)
      (cond b (cond d (p ∷ []) [] ++ cond u (r ∷ []) []) [])
      (cond b (cond d (q ∷ []) [] ++ cond u (t ∷ []) []) [])
  each_two false d u p r q t f g = none
  each_two true true true p r q t f g = more (f refl) (more (g refl) none)
  each_two true true false p r q t f g = more (f refl) none
  each_two true false true p r q t f g = more (g refl) none
  each_two true false false p r q t f g = none

  related_definition : (i : ℕ) → Each (Parts Q) (definition A u ns i) (definition B u ns i)
  related_definition i = search (each_two, related_down, related_up)

  related_definitions : (n : ℕ) → Each (Parts Q) (definitions A u ns n) (definitions B u ns n)
  unfolding definitions
  related_definitions zero = none
  related_definitions (suc n) =
      let before = related_definitions n in
      let last = related_definition n in
      search each_append

  -- every part
  pub related_parts : Each (Parts Q) (parts_of A u ns) (parts_of B u ns)
  related_parts =
      let root = (related_row (length ns - 1)).P tt in
      more (record { origin = refl; helper = refl; direction = refl; content = root }) (related_definitions (length ns))

  related_gather : (x : C) (y : D) {ps : List (Part C)} {qs : List (Part D)} → Q x y → Each (Parts Q) ps qs
      → Q (gather A x ps) (gather B y qs)
  related_gather x y q none = q
  related_gather x y q (more {x = x'} {y = y'} p e) =
      related_gather (A.cat x x'.content) (B.cat y y'.content) (keeps.cat _ _ _ _ q p.content) e

  -- the whole output
  pub related_whole : Q (whole_of A u ns) (whole_of B u ns)
  related_whole = related_gather _ _ keeps.none related_parts

-- a function that the five operations keep, as a relation
pub keeps_of_map : {C D : Type 0} (Known : ℕ → Type 0) (A : Algebra C) (B : Algebra D) (h : C → D)
    → h A.none ≡ B.none
    → h A.empty ≡ B.empty
    → ((plain : Bool) (x : ℕ) → h (A.unit plain x) ≡ B.unit plain x)
    → ((x y : C) → h (A.cat x y) ≡ B.cat (h x) (h y))
    → ((x y : C) → h (A.join x y) ≡ B.join (h x) (h y))
    → Keeps Known A B (λ x y. h x ≡ y)
keeps_of_map Known A B h nones empties units cats joins = record {
  none = nones;
  empty = empties;
  unit = λ plain x k. units plain x;
  cat = λ x y z w p q. cats x y ∙ (λ i. B.cat (p i) (q i));
  join = λ x y z w p q. joins x y ∙ (λ i. B.join (p i) (q i));
}
