-- Nodes that are stored one after the other: what a member, a fold and the end of a group add.
-- Assumes nothing.
use mathlib.Core.Path.{◌≡◌, refl, sym, ap, ◌∙◌, subst}
use mathlib.Core.Bool.{Bool, true, false, cond, false≢true}
use mathlib.Core.List.{List, [], ◌++◌, append-nil}
use Prim.Native.Nat.{ℕ, ◌+◌, ◌*◌, ◌-◌}
use native.Mathlib.Omega.{arith}
use lib.ListN.{length, take, drop, take-append-drop}
use borrow.Author.Tests.{eq-eqb, ne_eqb}
use Rattle.laws.specs.Lists.{splice}
use Rattle.laws.proofs.Splices.{splice-splice}
use Rattle.formula.specs.Tables.{node_bytes, node_record}
use Rattle.satfile.specs.Trees.{Join, And, Or, Tree, Empty, Not, Joined, size_of, empty_kind, records_from}
use Rattle.satfile.specs.Inner.Reads.{Partly, none, some, with_one, group_tree, join_of, leaf_of, is_full}
use Rattle.satfile.specs.Inner.Stores.{Adds, part_records, part_nodes, join_record, fold_records, fold_nodes, empty_records, empty_nodes}
use Rattle.satfile.specs.Inner.Stores.{end_records, end_nodes}
use Rattle.satfile.specs.Inner.Parts.{leaf_nodes}
use Rattle.satfile.specs.declared.lead.Group.{Group}
use Rattle.satfile.specs.declared.lead.Group.TheVariants as group
use Rattle.satfile.proofs.Laws.Records.{size-some, length_records}

-- nothing is stored
splice-none : (l : List ℕ) (k : ℕ) → l ≡ splice l k []
splice-none l k =
    let e : k + 0 ≡ k = omega arith in
    sym (ap (λ (n : ℕ). take k l ++ drop n l) e ∙ take-append-drop k l)

pub adds_none : (l : List ℕ) (i : ℕ) → Adds [] 0 l i i l
adds_none l i = record { nodes = omega arith; same = refl; stored = λ h. splice-none l (node_bytes * i) }

-- some nodes, and then more
pub adds_then : {xs ys a b c : List ℕ} {m n i j k : ℕ} → length xs ≡ node_bytes * m → Adds xs m a i j b → Adds ys n b j k c
    → Adds (xs ++ ys) (m + n) a i k c
adds_then {xs} {ys} {a} {b} {c} {m} {n} {i} {j} {k} e f g = record {
  nodes = omega (arith, f.nodes, g.nodes);
  same = g.same ∙ f.same;
  stored = λ h.
      let first : b ≡ splice a (node_bytes * i) xs = f.stored (omega (arith, f.nodes, g.nodes)) in
      g.stored (omega (arith, f.same)) ∙ ap (λ (l : List ℕ). splice l (node_bytes * j) ys) first
      ∙ splice-splice a (node_bytes * i) xs (node_bytes * j) ys (omega (arith, f.nodes, g.nodes)) (omega (arith, f.nodes));
}

-- the same nodes, said otherwise
adds_as : {xs ys a b : List ℕ} {m n i j : ℕ} → xs ≡ ys → m ≡ n → Adds xs m a i j b → Adds ys n a i j b
adds_as {xs} {ys} {a} {b} {m} {n} {i} {j} e f g =
    subst (λ (l : List ℕ). Adds l n a i j b) e (subst (λ (k : ℕ). Adds xs k a i j b) f g)

-- a symbol, negated or not
module _ (n i : ℕ) {a b : List ℕ} (symbol : Adds (node_record 2 n 0) 1 a i (i + 1) b) where
  pub adds-symbol : (negated : Bool) → negated ≡ false → Adds (records_from i (leaf_of n negated)) (leaf_nodes negated) a i (i + 1) b
  unfolding records_from
  adds-symbol false e = symbol
  adds-symbol true e = absurd (false≢true (sym e))

  pub adds-negated : (negated : Bool) → negated ≡ true → {c : List ℕ} → Adds (node_record 3 i 0) 1 b (i + 1) (i + 1 + 1) c
      → Adds (records_from i (leaf_of n negated)) (leaf_nodes negated) a i (i + 2) c
  unfolding records_from
  adds-negated false e f = absurd (false≢true e)
  adds-negated true e {c} f =
      let q : i ≡ i + 1 - 1 = omega arith in
      let k : i + 1 + 1 ≡ i + 2 = omega arith in
      subst (λ (j : ℕ). Adds (records_from i (leaf_of n true)) 2 a i j c) k
      (adds_as (ap (λ (x : ℕ). node_record 2 n 0 ++ node_record 3 x 0) q) refl (adds_then refl symbol f))

-- the records of two formulas that are joined
joined_records : (g : Group) (i : ℕ) (s t : Tree) (behind after : ℕ) → behind ≡ i + size_of s → after ≡ behind + size_of t
    → records_from i s ++ (records_from behind t ++ join_record g behind after) ≡ records_from i (Joined (join_of g) s t)
unfolding records_from
joined_records g i s t behind after p q =
    ap (λ (x : ℕ). records_from i s ++ (records_from behind t ++ join_record g behind x)) q
    ∙ ap (λ (x : ℕ). records_from i s ++ (records_from x t ++ join_record g x (x + size_of t))) p

-- a member is joined to those before it
module _ (g : Group) (i : ℕ) {a b c d : List ℕ} {behind after next : ℕ} (t : Tree) where
  pub adds-member : (p : Partly) → Adds (part_records i p) (part_nodes p) a i behind b
      → Adds (records_from behind t) (size_of t) b behind after c
      → Adds (fold_records g i behind after) (fold_nodes i behind) c after next d
      → Adds (part_records i (with_one g p t)) (part_nodes (with_one g p t)) a i next d
  adds-member none e f h =
      let z : behind ≡ i = e.nodes ∙ omega arith in
      let None-more = adds_as (ap (λ (b : Bool). cond b [] (join_record g behind after)) (eq-eqb behind i z))
      (ap (λ (b : Bool). cond b 0 1) (eq-eqb behind i z)) h in
      adds_as (append-nil (records_from behind t) ∙ ap (λ (k : ℕ). records_from k t) z) (omega arith)
      (adds_then refl e (adds_then (length_records behind t) f None-more))
  adds-member (some s) e f h =
      let far : (behind ≡ i → ⊥) = λ z. omega (arith, e.nodes, size-some s) in
      let joins = adds_as (ap (λ (b : Bool). cond b [] (join_record g behind after)) (ne_eqb behind i far))
      (ap (λ (b : Bool). cond b 0 1) (ne_eqb behind i far)) h in
      adds_as (joined_records g i s t behind after e.nodes f.nodes) (omega arith)
      (adds_then (length_records i s) e (adds_then (length_records behind t) f joins))

-- the end of a group
module _ (i : ℕ) {a b c : List ℕ} {behind next : ℕ} where
  nothing-more : (t : Tree) → Adds (records_from i t) (size_of t) a i behind b → Adds [] 0 b behind next c
      → Adds (records_from i t) (size_of t) a i next c
  nothing-more t e f = adds_as (append-nil (records_from i t)) (omega arith) (adds_then (length_records i t) e f)

  empty-list : (j : Join) → Adds [] 0 a i behind b → Adds (empty_records (empty_kind j) i behind) (empty_nodes i behind) b behind next c
      → Adds (records_from i (Empty j)) 1 a i next c
  unfolding records_from
  empty-list j e f =
      let z = eq-eqb behind i (e.nodes ∙ omega arith) in
      adds_then refl e
      (adds_as (ap (λ (s : Bool). cond s (node_record (empty_kind j) 0 0) []) z) (ap (λ (s : Bool). cond s 1 0) z) f)

  full-list : (j : Join) (t : Tree) → Adds (records_from i t) (size_of t) a i behind b
      → Adds (empty_records (empty_kind j) i behind) (empty_nodes i behind) b behind next c → Adds (records_from i t) (size_of t) a i next c
  full-list j t e f =
      let z = ne_eqb behind i (λ q. omega (arith, e.nodes, size-some t)) in
      nothing-more t e (adds_as (ap (λ (s : Bool). cond s (node_record (empty_kind j) 0 0) []) z) (ap (λ (s : Bool). cond s 1 0) z) f)

  negated-one : (t : Tree) → Adds (records_from i t) (size_of t) a i behind b → Adds (node_record 3 (behind - 1) 0) 1 b behind next c
      → Adds (records_from i (Not t)) (size_of (Not t)) a i next c
  unfolding records_from
  negated-one t e f =
      adds_as (ap (λ (x : ℕ). records_from i t ++ node_record 3 (x - 1) 0) e.nodes) refl (adds_then (length_records i t) e f)

  pub adds-end : (g : Group) (p : Partly) → is_full g p ≡ true → Adds (part_records i p) (part_nodes p) a i behind b
      → Adds (end_records g i behind) (end_nodes g i behind) b behind next c
      → Adds (records_from i (group_tree g p)) (size_of (group_tree g p)) a i next c
  adds-end group.And none q e f = empty-list And e f
  adds-end group.And (some t) q e f = full-list And t e f
  adds-end group.Or none q e f = empty-list Or e f
  adds-end group.Or (some t) q e f = full-list Or t e f
  adds-end group.One none q e f = absurd (false≢true q)
  adds-end group.One (some t) q e f = nothing-more t e f
  adds-end group.Not none q e f = absurd (false≢true q)
  adds-end group.Not (some t) q e f = negated-one t e f
  adds-end group.Whole none q e f = absurd (false≢true q)
  adds-end group.Whole (some t) q e f = nothing-more t e f
