-- The faults of a record (R10.12, R10.20 to R10.25): what has none, which number each has, and in what order. The lowest faulty
-- node decides.
-- What follows from a table without a fault is in WellFormed.
-- Assumes nothing.
use mathlib.Core.Path.{◌≡◌, refl, sym, ap, ◌∙◌}
use mathlib.Core.Bool.{Bool, true, false, cond, ◌&&◌, ◌||◌}
use mathlib.Core.List.{List}
use Prim.Native.Nat.{ℕ, ◌<◌, ◌≤◌}
use native.Mathlib.Omega.{arith}
use lib.Dec.{eqb}
use lib.ListN.{length}
use borrow.Author.Tests.{eqb-true, eq-eqb, ne_eqb, lt-ltb, le-ltb}
use Rattle.std.specs.Prelude.{Option, Some, None}
use Rattle.answer.specs.Answers.{accepted_with}
use Rattle.answer.specs.declared.Fault.{Fault}
use Rattle.answer.specs.declared.Fault.TheVariants.{UnknownKind, UnusedNotZero, ChildNotBelow, SymbolOutside}
use Rattle.laws.proofs.Choices.{both}
use Rattle.laws.proofs.First.{first-before, first_fails}
use Rattle.formula.specs.Tables.{most_options, node_at, node_count, known, use_of_a, use_of_b, field_right, fault_of}
use Rattle.formula.specs.Tables.{unused_not_zero, child_not_below, fault_in, fault_number, fault_told, field_fault}
use Rattle.formula.specs.Tables.{first_fault, fault_found}
use Rattle.formula.specs.Checks.{length_wrong, record_right, first_wrong, record_told, checked}
use Rattle.formula.specs.declared.node.Node.{Node}
use Rattle.formula.specs.declared.node.Use.{Use}
use Rattle.formula.specs.declared.node.Use.TheVariants as held

-- a fault of the first field is told, whatever the other one has
first_some : (u : Use) (y : Option Fault) → eqb (fault_told (first_fault true (Some (fault_in u)) y)) 0 ≡ false
first_some held.Unused y = refl
first_some held.Child y = go (eqb (fault_told y) unused_not_zero)
  where
    go : (p : Bool) → eqb (fault_told (cond p (Some UnusedNotZero) (Some ChildNotBelow))) 0 ≡ false
    go true = refl
    go false = refl
first_some held.Symbol y = go (eqb (fault_told y) unused_not_zero) (eqb (fault_told y) child_not_below)
  where
    go : (p q : Bool) → eqb (fault_told (cond p (Some UnusedNotZero) (cond q (Some ChildNotBelow) (Some SymbolOutside)))) 0 ≡ false
    go true q = refl
    go false true = refl
    go false false = refl

second-some : (u : Use) → eqb (fault_told (first_fault true None (Some (fault_in u)))) 0 ≡ false
second-some held.Unused = refl
second-some held.Child = refl
second-some held.Symbol = refl

-- no fault has the number 0
pub some_told : (fault : Fault) → eqb (fault_told (Some fault)) 0 ≡ false
some_told UnknownKind = refl
some_told UnusedNotZero = refl
some_told ChildNotBelow = refl
some_told SymbolOutside = refl

-- a record has no fault exactly where its kind is known and both fields are right
pub no_fault : (v i : ℕ) (n : Node) → eqb (fault_of v i n) 0
    ≡ (known n.kind && (field_right v i (use_of_a n.kind) n.a && field_right v i (use_of_b n.kind) n.b))
no_fault v i n =
    go (known n.kind) (use_of_a n.kind) (use_of_b n.kind) (field_right v i (use_of_a n.kind) n.a)
    (field_right v i (use_of_b n.kind) n.b)
  where
    go : (k : Bool) (s u : Use) (a b : Bool)
        → eqb (fault_told (first_fault k (cond a None (Some (fault_in s))) (cond b None (Some (fault_in u))))) 0 ≡ (k && (a && b))
    go false s u a b = refl
    go true s u true true = refl
    go true s u true false = second-some u
    go true s u false b = first_some s (cond b None (Some (fault_in u)))

-- what a record without a fault keeps
pub record Keeps (v i : ℕ) (n : Node) : Type 0 where
  pub kind : known n.kind ≡ true
  pub a : field_right v i (use_of_a n.kind) n.a ≡ true
  pub b : field_right v i (use_of_b n.kind) n.b ≡ true

pub keeps_of_no_fault : (v i : ℕ) (n : Node) → fault_of v i n ≡ 0 → Keeps v i n
keeps_of_no_fault v i n e =
    let all = both (known n.kind) _ (sym (no_fault v i n) ∙ eq-eqb (fault_of v i n) 0 e) in
    let fields = both (field_right v i (use_of_a n.kind) n.a) (field_right v i (use_of_b n.kind) n.b) all.1 in
    record { kind = all.0; a = fields.0; b = fields.1 }

-- a field of node i that holds u is wrong
pub data WrongField (v i : ℕ) (n : Node) (u : Use) : Type 0 where
  in_a : use_of_a n.kind ≡ u → field_right v i u n.a ≡ false → WrongField v i n u
  in_b : use_of_b n.kind ≡ u → field_right v i u n.b ≡ false → WrongField v i n u

-- each use has a number of its own
some_number : (u : Use) → fault_number u ≡ 0 → ⊥
some_number held.Unused e = omega arith
some_number held.Child e = omega arith
some_number held.Symbol e = omega arith

same_use : (s u : Use) → fault_number s ≡ fault_number u → s ≡ u
same_use held.Unused held.Unused e = refl
same_use held.Unused held.Child e = absurd (omega arith)
same_use held.Unused held.Symbol e = absurd (omega arith)
same_use held.Child held.Unused e = absurd (omega arith)
same_use held.Child held.Child e = refl
same_use held.Child held.Symbol e = absurd (omega arith)
same_use held.Symbol held.Unused e = absurd (omega arith)
same_use held.Symbol held.Child e = absurd (omega arith)
same_use held.Symbol held.Symbol e = refl

-- a wrong field has the number of its use, and no other field has it
wrong-number : (v i : ℕ) (s u : Use) (x : ℕ) → s ≡ u → field_right v i u x ≡ false → fault_told (field_fault v i s x) ≡ fault_number u
wrong-number v i s u x e f =
    ap (λ (w : Use). fault_told (field_fault v i w x)) e ∙ ap (λ (b : Bool). fault_told (cond b None (Some (fault_in u)))) f

wrong_of_number : (v i : ℕ) (s u : Use) (x : ℕ) → fault_told (field_fault v i s x) ≡ fault_number u
    → (s ≡ u) × (field_right v i u x ≡ false)
wrong_of_number v i s u x e = go (field_right v i s x) refl e
  where
    go : (b : Bool) → field_right v i s x ≡ b → fault_told (cond b None (Some (fault_in s))) ≡ fault_number u
        → (s ≡ u) × (field_right v i u x ≡ false)
    go true p q = absurd (some_number u (sym q))
    go false p q = let same = same_use s u q in (same, ap (λ (w : Use). field_right v i w x) (sym same) ∙ p)

module _ (v i : ℕ) (n : Node) where
  -- whether one of the two fields has a fault
  abbrev has : ℕ → Bool
  has k = eqb (fault_told (field_fault v i (use_of_a n.kind) n.a)) k || eqb (fault_told (field_fault v i (use_of_b n.kind) n.b)) k

  has-wrong : (u : Use) → WrongField v i n u → has (fault_number u) ≡ true
  has-wrong u (in_a e f) = ap (λ (p : Bool). p || eqb (fault_told (field_fault v i (use_of_b n.kind) n.b)) (fault_number u))
      (eq-eqb _ (fault_number u) (wrong-number v i (use_of_a n.kind) u n.a e f))
  has-wrong u (in_b e f) = or_right (eqb (fault_told (field_fault v i (use_of_a n.kind) n.a)) (fault_number u))
      (eq-eqb _ (fault_number u) (wrong-number v i (use_of_b n.kind) u n.b e f))
    where
      or_right : (p : Bool) {q : Bool} → q ≡ true → (p || q) ≡ true
      or_right true e = refl
      or_right false e = e

  has-none : (u : Use) → (WrongField v i n u → ⊥) → has (fault_number u) ≡ false
  has-none u none = rw (ne_eqb _ (fault_number u) not_a, ne_eqb _ (fault_number u) not_b)
    where
      not_a : fault_told (field_fault v i (use_of_a n.kind) n.a) ≡ fault_number u → ⊥
      not_a e = let w = wrong_of_number v i (use_of_a n.kind) u n.a e in none (in_a w.0 w.1)

      not_b : fault_told (field_fault v i (use_of_b n.kind) n.b) ≡ fault_number u → ⊥
      not_b e = let w = wrong_of_number v i (use_of_b n.kind) u n.b e in none (in_b w.0 w.1)

  -- an unknown kind is refusal 3, whatever the fields are
  pub unknown_kind_is_3 : known n.kind ≡ false → fault_of v i n ≡ 3
  unknown_kind_is_3 e = rw e

  -- else an unused field that is not zero is refusal 12, whatever the other field is
  pub unused_is_12 : known n.kind ≡ true → WrongField v i n held.Unused → fault_of v i n ≡ 12
  unused_is_12 k w = rw (k, has-wrong held.Unused w)

  -- else a child that is not below its node is refusal 13
  pub child_is_13 : known n.kind ≡ true → (WrongField v i n held.Unused → ⊥) → WrongField v i n held.Child → fault_of v i n ≡ 13
  child_is_13 k unused w = rw (k, has-none held.Unused unused, has-wrong held.Child w)

  -- else a symbol outside 1 to V is refusal 14
  pub symbol_is_14 : known n.kind ≡ true → (WrongField v i n held.Unused → ⊥) → (WrongField v i n held.Child → ⊥)
      → WrongField v i n held.Symbol → fault_of v i n ≡ 14
  symbol_is_14 k unused child w = rw (k, has-none held.Unused unused, has-none held.Child child, has-wrong held.Symbol w)

-- the node that is found has a fault
found-wrong : (t : List ℕ) (v : ℕ) → first_wrong t v < node_count t → fault_of v (first_wrong t v) (node_at t (first_wrong t v)) ≡ 0 → ⊥
found-wrong t v h e =
    let wrong = first_fails (record_right t v) (node_count t) h in
    let right = eq-eqb (fault_of v (first_wrong t v) (node_at t (first_wrong t v))) 0 e in
    let z : ◌≡◌ {A = ℕ} 0 1 = cc in
    omega arith

-- a table whose length and V are right
module _ (t : List ℕ) (v : ℕ) (lengths : length_wrong (length t) ≡ false) (options : v ≤ most_options) where
  -- the lowest faulty node decides, whatever its fault
  pub lowest-decides : (j : ℕ) → j < node_count t → ((i : ℕ) → i < j → fault_of v i (node_at t i) ≡ 0)
      → (fault_of v j (node_at t j) ≡ 0 → ⊥) → checked t v ≡ record_told (fault_found v j (node_at t j)) j
  lowest-decides j within before here =
      rw (lengths, le-ltb most_options v options, sym found, lt-ltb j (node_count t) within)
    where
      not-below : first_wrong t v < j → ⊥
      not-below h = found-wrong t v (omega arith) (before (first_wrong t v) h)

      not_above : j < first_wrong t v → ⊥
      not_above h = here (eqb-true (fault_of v j (node_at t j)) 0 (first-before (record_right t v) (node_count t) j h))

      found : j ≡ first_wrong t v
      found = omega (arith, not-below, not_above)

  -- a table is accepted where no record has a fault; `accepts` of WellFormed says that it is accepted nowhere else
  pub accepted_of_no_fault : ((i : ℕ) → i < node_count t → fault_of v i (node_at t i) ≡ 0) → checked t v ≡ accepted_with 0 0
  accepted_of_no_fault right = rw (lengths, le-ltb most_options v options, le-ltb (first_wrong t v) (node_count t) none)
    where
      found : first_wrong t v < node_count t → ⊥
      found h = found-wrong t v h (right (first_wrong t v) h)

      none : node_count t ≤ first_wrong t v
      none = omega (arith, found)
