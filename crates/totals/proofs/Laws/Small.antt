-- A node whose P and N have at most one clause each is no node to rename: the clause total does not fall.
-- Assumes nothing.
use mathlib.Core.Path.{◌≡◌, refl, sym, ap, ◌∙◌, subst⁻¹}
use mathlib.Core.Bool.{Bool, true, false}
use mathlib.Core.List.{List}
use Prim.Native.Nat.{ℕ, zero, suc, ◌-◌, ◌<◌, ◌≤◌}
use native.Mathlib.Decide.{dec_lt}
use native.Mathlib.Nat.{mul-le-mul}
use native.Mathlib.Numerals.{add-one}
use native.Mathlib.Omega.{arith}
use lib.Dec.{eqb}
use lib.ListN.{length, set}
use borrow.Author.Tests.{eqb-true, eqb-false}
use Rattle.formula.specs.Inner.Right.{Below}
use Rattle.marks.specs.Marks.{halves_of, mark_of}
use Rattle.formula.specs.Tables.{node_in}
use Rattle.marks.specs.Sets.{renamed}
use Rattle.marks.specs.declared.mark.Mark.{Mark}
use Rattle.formula.specs.declared.node.Node.{Node}
use Rattle.clausal.specs.Clauses.{Row, Renaming, under, name_of, row_of}
use Rattle.clausal.specs.Output.{definitions}
use Rattle.clausal.specs.Totals.{Size, capped, clause_ceiling, totals}
use Rattle.clausal.proofs.Related.{Keeps, Under, both, under_by, under_none}
use Rattle.clausal.proofs.Renamed.{renamed-set-same, renamed-set-other}
use Rattle.clausal.proofs.Rows.{seen_of, row_at, row-past, a_below, b_below, seen_plain, seen-renamed}
use Rattle.totals.specs.Inner.Sums.{with_part, with_definition}
use Rattle.totals.proofs.Laws.Sums.{whole_to, with_node_at, whole-more}

-- at most as many clauses
abbrev Fewer : Size → Size → Type 0
Fewer x y = x.clauses ≤ y.clauses

fewer_keeps : Keeps (λ x. Unit {0}) capped capped Fewer
fewer_keeps = record {
  none = omega arith;
  empty = omega arith;
  unit = λ plain x k. omega arith;
  cat = λ x y z w p q. omega arith;
  join = λ x y z w p q. omega (arith, mul-le-mul p q);
}

fewer_as : {x y p q : Row Size} → p ≡ x → q ≡ y → Under Fewer both x y → Under Fewer both p q
fewer_as {x} {q = q} e f u = subst⁻¹ (λ z. Under Fewer both z q) e (subst⁻¹ (λ z. Under Fewer both x z) f u)

-- a sum, never above the ceiling
record Rises (x y : Size) : Type 0 where
  rises : x.clauses ≤ y.clauses
  capped : x.clauses ≤ clause_ceiling

part_rises : (b : Bool) (p q x y : Size) → Fewer p q → Rises x y → Rises (with_part capped b p x) (with_part capped b q y)
part_rises true p q x y f r = record { rises = omega (arith, r.rises); capped = omega arith }
part_rises false p q x y f r = r

part-more : (b : Bool) (q x y : Size) → Rises x y → Rises x (with_part capped b q y)
part-more true q x y r = record { rises = omega (arith, r.rises, r.capped); capped = r.capped }
part-more false q x y r = r

defined_more : (m : Mark) (r : Row Size) (x y : Size) → Rises x y → Rises x (with_definition capped 0 m r y)
defined_more m r x y h =
    part-more (halves_of m).up (capped.join r.N (capped.unit true 0)) x _
    (part-more (halves_of m).down (capped.join (capped.unit false 0) r.P) x y h)

defined_rises : (m : Mark) (r z : Row Size) (x y : Size) → Under Fewer both r z → Rises x y
    → Rises (with_definition capped 0 m r x) (with_definition capped 0 m z y)
defined_rises m r z x y f h =
    let one : Size = capped.unit true 0 in
    let same : Fewer one one = omega arith in
    part_rises (halves_of m).up (capped.join r.N one) (capped.join z.N one) _ _
    (fewer_keeps.join r.N one z.N one (f.N tt) same)
    (part_rises (halves_of m).down (capped.join one r.P) (capped.join one z.P) x y
    (fewer_keeps.join one r.P one z.P same (f.P tt)) h)

module _ (ns : List Node) (below : (j : ℕ) → Below j (node_in ns j)) (u : Renaming) (i : ℕ) (inside : i < length u.set)
    (plain : renamed u.set i ≡ false) (positive : (row_of capped (name_of u) ns i).P.clauses ≤ 1)
    (negative : (row_of capped (name_of u) ns i).N.clauses ≤ 1) where
  -- with node i renamed too
  abbrev w : Renaming
  w = under u (set u.set i 1)

  abbrev row_u : ℕ → Row Size
  row_u j = row_of capped (name_of u) ns j

  abbrev row_w : ℕ → Row Size
  row_w j = row_of capped (name_of w) ns j

  there : renamed w.set i ≡ true
  there = renamed-set-same u.set i 1 inside

  elsewhere : (j : ℕ) → eqb j i ≡ false → renamed w.set j ≡ renamed u.set j
  elsewhere j e = renamed-set-other u.set i 1 j (eqb-false j i e)

  fewer_seen : (k : ℕ) → Under Fewer both (row_u k) (row_w k)
      → Under Fewer both (seen_of capped (name_of u) ns k) (seen_of capped (name_of w) ns k)
  fewer_seen k h = go (eqb k i) refl (renamed u.set k) refl
    where
      go : (b : Bool) → eqb k i ≡ b → (c : Bool) → renamed u.set k ≡ c
          → Under Fewer both (seen_of capped (name_of u) ns k) (seen_of capped (name_of w) ns k)
      go true e c f =
          let q : k ≡ i = eqb-true k i e in
          fewer_as (seen_plain capped u k _ (ap (renamed u.set) q ∙ plain))
          (seen-renamed capped w k _ (ap (renamed w.set) q ∙ there))
          (record { P = λ t. rw q positive; N = λ t. rw q negative })
      go false e true f =
          fewer_as (seen-renamed capped u k _ f) (seen-renamed capped w k _ (elsewhere k e ∙ f))
          (record { P = λ t. omega arith; N = λ t. omega arith })
      go false e false f = fewer_as (seen_plain capped u k _ f) (seen_plain capped w k _ (elsewhere k e ∙ f)) h

  -- a node whose children below it have no more clauses
  fewer_row : (j : ℕ) → ((k : ℕ) → k < j → Under Fewer both (row_u k) (row_w k)) → Under Fewer both (row_u j) (row_w j)
  fewer_row j ih = go (dec_lt j (length ns))
    where
      seen_at : (k : ℕ) → k < j → Under Fewer both (seen_of capped (name_of u) ns k) (seen_of capped (name_of w) ns k)
      seen_at k l = fewer_seen k (ih k l)

      go : Dec (j < length ns) → Under Fewer both (row_u j) (row_w j)
      go (no l) =
          fewer_as (row-past capped (name_of u) ns j (omega arith)) (row-past capped (name_of w) ns j (omega arith))
          (under_none (λ x. Unit {0}) capped capped Fewer fewer_keeps both)
      go (yes l) =
          let node : Node = node_in ns j in
          fewer_as (row_at capped (name_of u) ns j l (below j)) (row_at capped (name_of w) ns j l (below j))
          (under_by (λ x. Unit {0}) capped capped Fewer fewer_keeps node.kind node.a both _ _ _ _ (λ k. tt)
          (record {
            P = λ t. (seen_at node.a (a_below j node both (below j) true t)).P tt;
            N = λ t. (seen_at node.a (a_below j node both (below j) false t)).N tt;
          })
          (record {
            P = λ t. (seen_at node.b (b_below j node both (below j) true t)).P tt;
            N = λ t. (seen_at node.b (b_below j node both (below j) false t)).N tt;
          }))

  fewer_rows : (n j : ℕ) → j < n → Under Fewer both (row_u j) (row_w j)
  fewer_rows zero j h = absurd (omega arith)
  fewer_rows (suc n) j h = fewer_row j (λ k l. fewer_rows n k (omega arith))

  row_rises : (j : ℕ) → Under Fewer both (row_u j) (row_w j)
  row_rises j = fewer_rows (suc j) j (omega arith)

  -- what a node adds
  node_rises : (j : ℕ) (x y : Size) → Rises x y → Rises (with_node_at capped u ns j x) (with_node_at capped w ns j y)
  node_rises j x y r = go (eqb j i) refl (renamed u.set j) refl
    where
      go : (b : Bool) → eqb j i ≡ b → (c : Bool) → renamed u.set j ≡ c → Rises (with_node_at capped u ns j x) (with_node_at capped w ns j y)
      go true e c f =
          let q : j ≡ i = eqb-true j i e in
          rw (ap (renamed u.set) q ∙ plain, ap (renamed w.set) q ∙ there) (defined_more (mark_of ns j) (row_w j) x y r)
      go false e true f =
          rw (f, elsewhere j e ∙ f) (defined_rises (mark_of ns j) (row_u j) (row_w j) x y (row_rises j) r)
      go false e false f = rw (f, elsewhere j e ∙ f) r

  sum_rises : (n : ℕ) → Rises (whole_to capped u ns n) (whole_to capped w ns n)
  unfolding definitions
  sum_rises zero = record { rises = omega (arith, (row_rises (length ns - 1)).P tt); capped = omega arith }
  sum_rises (suc n) =
      let more : (v : Renaming) → whole_to capped v ns (suc n) ≡ with_node_at capped v ns n (whole_to capped v ns n) =
      λ v. ap (whole_to capped v ns) (sym (add-one n)) ∙ whole-more capped v ns n in
      let step = node_rises n _ _ (sum_rises n) in
      record { rises = rw (more u, more w) step.rises; capped = rw (more u) step.capped }

  -- the clause total, read at the ceiling
  pub small-stays : (totals u ns).clauses ≤ (totals w ns).clauses
  small-stays = (sum_rises (length ns)).rises
