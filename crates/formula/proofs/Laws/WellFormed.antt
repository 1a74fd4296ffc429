-- What an accepted table gives: every record is right, so children are below their parents and symbols are options.
-- Assumes nothing.
use mathlib.Core.Path.{◌≡◌, refl, ap, ◌∙◌, subst, subst⁻¹}
use mathlib.Core.Bool.{Bool, true, false, cond, not, ◌||◌}
use mathlib.Core.List.{List, []}
use Prim.Native.Nat.{ℕ, ◌*◌, ◌<◌, ◌≤◌, ◌%◌}
use native.Mathlib.Omega.{arith}
use lib.Dec.{eqb, leb, ltb}
use lib.ListN.{length, get_or-eq_default}
use borrow.Author.Tests.{eqb-true, eqb-false, ltb-true, ltb-false, leb-true, not-false}
use Rattle.std.specs.Prelude.{Option, Some, None, Err}
use Rattle.answer.specs.declared.Fault.{Fault}
use Rattle.answer.specs.declared.Refusal.TheVariants.{TableLength, Options}
use Rattle.laws.proofs.Choices.{neither}
use Rattle.laws.proofs.First.{first-before, first_fails}
use Rattle.answer.specs.Answers.{accepted_with, refuses}
use Rattle.answer.proofs.Laws.Order.{passes}
use Rattle.formula.specs.Tables.{node_bytes, most_nodes, most_options, node_at, node_count, nodes_of, node_in, use_of_a, use_of_b}
use Rattle.formula.specs.Tables.{field_right, fault_told, fault_found, fault_of}
use Rattle.formula.specs.Inner.Right.{FieldBelow, Below, WellFormed, RightLength}
use Rattle.formula.specs.Checks.{length_wrong, record_right, first_wrong, record_told, checked}
use Rattle.formula.proofs.Laws.Faults.{keeps_of_no_fault}
use Rattle.formula.proofs.Laws.Tables.{length-nodes_of, node_in-nodes_of}
use Rattle.formula.specs.declared.node.Kind.{Kind}
use Rattle.formula.specs.declared.node.Kind.TheVariants.{Symbol}
use Rattle.formula.specs.declared.node.Node.{Node}
use Rattle.formula.specs.declared.node.Use.{Use}
use Rattle.formula.specs.declared.node.Use.TheVariants as held

pub record Accepts (t : List ℕ) (v : ℕ) : Type 0 where
  pub lengths : length_wrong (length t) ≡ false
  pub options : v ≤ most_options
  pub records : (i : ℕ) → i < node_count t → fault_of v i (node_at t i) ≡ 0

-- the three tests of a check that does not refuse
record Passed (t : List ℕ) (v : ℕ) : Type 0 where
  lengths : length_wrong (length t) ≡ false
  options : ltb most_options v ≡ false
  records : ltb (first_wrong t v) (node_count t) ≡ false

-- a record with a fault is refused
refused_fault : (fault : Option Fault) (i : ℕ) → eqb (fault_told fault) 0 ≡ false → refuses (record_told fault i) ≡ true
refused_fault None i e = let z : ◌≡◌ {A = ℕ} 0 1 = cc in absurd (omega arith)
refused_fault (Some fault) i e = refl

passed : (t : List ℕ) (v : ℕ) → refuses (checked t v) ≡ false → Passed t v
passed t v e =
    let j = first_wrong t v in
    let wrong : ltb j (node_count t) ≡ true → refuses (record_told (fault_found v j (node_at t j)) j) ≡ true =
    λ p. refused_fault _ j (first_fails (record_right t v) (node_count t) (ltb-true j (node_count t) p)) in
    let e₁ = passes (length_wrong (length t)) (Err TableLength) _ (λ p. refl) e in
    let e₂ = passes (ltb most_options v) (Err Options) _ (λ p. refl) e₁.1 in
    let e₃ = passes (ltb j (node_count t)) _ (accepted_with 0 0) wrong e₂.1 in
    record { lengths = e₁.0; options = e₂.0; records = e₃.0 }

-- a check that does not refuse accepts, with two zeros
pub checked-accepted : (t : List ℕ) (v : ℕ) → refuses (checked t v) ≡ false → checked t v ≡ accepted_with 0 0
checked-accepted t v e =
    let p : Passed t v = passed t v e in
    rw (p.lengths, p.options, p.records)

pub accepts : (t : List ℕ) (v x y : ℕ) → checked t v ≡ accepted_with x y → Accepts t v
accepts t v x y e =
    let p : Passed t v = passed t v (ap refuses e) in
    let all : node_count t ≤ first_wrong t v = ltb-false (first_wrong t v) (node_count t) p.records in
    record {
      lengths = p.lengths;
      options = ltb-false most_options v p.options;
      records = λ i h. eqb-true (fault_of v i (node_at t i)) 0 (first-before (record_right t v) (node_count t) i (omega arith));
    }

-- a right length: some nodes, and no more than a table may have
pub right-length : (n : ℕ) → length_wrong n ≡ false → RightLength n
right-length n e =
    let empty = neither (eqb n 0) (not (eqb (n % node_bytes) 0) || ltb (node_bytes * most_nodes) n) e in
    let uneven = neither (not (eqb (n % node_bytes) 0)) (ltb (node_bytes * most_nodes) n) empty.1 in
    let z = eqb-false n 0 empty.0 in
    let even : n % node_bytes ≡ 0 = eqb-true (n % node_bytes) 0 (not-false (eqb (n % node_bytes) 0) uneven.0) in
    record { some = omega arith; even = even; most = ltb-false (node_bytes * most_nodes) n uneven.1 }

-- the length of a table whose check does not refuse
pub length-right : (t : List ℕ) (v : ℕ) → refuses (checked t v) ≡ false → RightLength (length t)
length-right t v e = right-length (length t) (passed t v e).lengths

field_below : (v i : ℕ) (u : Use) (x : ℕ) → field_right v i u x ≡ true → FieldBelow i u x
field_below v i held.Unused x e = tt
field_below v i held.Child x e = ltb-true x i e
field_below v i held.Symbol x e = tt

symbol-right : (v i x : ℕ) → field_right v i held.Symbol x ≡ true → (0 < x) × (x ≤ v)
symbol-right v i x e = go (eqb x 0) refl e
  where
    go : (b : Bool) → eqb x 0 ≡ b → cond b false (leb x v) ≡ true → (0 < x) × (x ≤ v)
    go true p q = let z : ◌≡◌ {A = ℕ} 0 1 = cc in absurd (omega arith)
    go false p q = let n = eqb-false x 0 p in (omega arith, leb-true x v q)

-- past the last node stands false, which has no fields
past : (ns : List Node) (i : ℕ) → length ns ≤ i → node_in ns i ≡ node_in [] i
past ns i h = get_or-eq_default ns (node_in [] i) h

pub accepted_well_formed : (t : List ℕ) (v x y : ℕ) → checked t v ≡ accepted_with x y → WellFormed v (nodes_of t)
accepted_well_formed t v x y e = record {
  some = omega (arith, length-nodes_of t, (right-length (length t) a.lengths).some);
  below = λ i. at i (ltb i (node_count t)) refl;
  symbols = λ i q. symbol i q (ltb i (node_count t)) refl;
}
  where
    a : Accepts t v
    a = accepts t v x y e

    right : (i : ℕ) → i < node_count t → fault_of v i (node_in (nodes_of t) i) ≡ 0
    right i h = ap (fault_of v i) (node_in-nodes_of t i h) ∙ a.records i h

    at : (i : ℕ) (b : Bool) → ltb i (node_count t) ≡ b → Below i (node_in (nodes_of t) i)
    at i true p =
        let r = keeps_of_no_fault v i (node_in (nodes_of t) i) (right i (ltb-true i (node_count t) p)) in (
          field_below v i (use_of_a (node_in (nodes_of t) i).kind) (node_in (nodes_of t) i).a r.a,
          field_below v i (use_of_b (node_in (nodes_of t) i).kind) (node_in (nodes_of t) i).b r.b,
        )
    at i false p =
        subst⁻¹ (Below i) (past (nodes_of t) i (omega (arith, length-nodes_of t, ltb-false i (node_count t) p))) (tt, tt)

    symbol : (i : ℕ) → (node_in (nodes_of t) i).kind ≡ Symbol → (b : Bool) → ltb i (node_count t) ≡ b
        → (0 < (node_in (nodes_of t) i).a) × ((node_in (nodes_of t) i).a ≤ v)
    symbol i q true p =
        let r = keeps_of_no_fault v i (node_in (nodes_of t) i) (right i (ltb-true i (node_count t) p)) in
        symbol-right v i (node_in (nodes_of t) i).a
        (subst (λ (k : Kind). field_right v i (use_of_a k) (node_in (nodes_of t) i).a ≡ true) q r.a)
    symbol i q false p =
        let f = ap (λ (n : Node). n.kind) (past (nodes_of t) i (omega (arith, length-nodes_of t, ltb-false i (node_count t) p))) in
        let z : ◌≡◌ {A = ℕ} 0 1 = cc in
        absurd (omega arith)
