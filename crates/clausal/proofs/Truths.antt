-- Truth in a row of truth values: a clause list is satisfied where the algebra of truths says so, and the rule of a node at
-- that algebra is the node's truth.
-- Assumes nothing.
use mathlib.Core.Path.{◌≡◌, refl, sym, ap, ◌∙◌}
use mathlib.Core.Bool.{Bool, true, false, not, ◌&&◌, ◌||◌, beq, and_assoc, or_assoc, or-false, and-true, or-true, or-and_distrib_left}
use mathlib.Core.Bool.{or-and_distrib_right}
use mathlib.Core.List.{List, [], ◌∷◌, ◌++◌, map}
use Prim.Native.Nat.{ℕ, ◌<◌, ◌≤◌}
use native.Mathlib.Omega.{arith}
use lib.ListN.{length, get_or}
use lib.Seq.{get_or-take}
use Rattle.laws.specs.Lists.{up_to}
use Rattle.laws.proofs.Upward.{Each, each_at, each-up_to, take-up_to, get_d_up_to}
use Rattle.answer.specs.Answers.{accepted_with}
use Rattle.formula.specs.Checks.{checked}
use Rattle.formula.proofs.Laws.WellFormed.{accepted_well_formed}
use Rattle.formula.specs.Tables.{nodes_of, node_in, known}
use Rattle.formula.specs.Inner.Right.{Below}
use Rattle.formula.specs.Truths.{truth_by, truth_from, truths_of, truth_of}
use Rattle.clausal.specs.Clauses.{Row, row_by, join_all, clauses, Clause, Renaming}
use Rattle.clausal.specs.Output.{whole_of, output_of}
use Rattle.clausal.specs.Meanings.{literal_true, clause_true, satisfies}
use Rattle.clausal.specs.Inner.Extended.{truths}
use Rattle.clausal.proofs.Related.{Keeps, keeps_of_map, related_whole}
use Rattle.clausal.proofs.Rows.{rule_at, rule_same}
use Rattle.formula.specs.declared.node.Kind.{Kind}
use Rattle.formula.specs.declared.node.Kind.TheVariants.{False, True, Symbol, Not, And, Or, Implies, Equivalent, Unknown}
use Rattle.formula.specs.declared.node.Node.{Node}

module _ (ρ : ℕ → Bool) where
  clause_append : (c d : Clause) → clause_true ρ (c ++ d) ≡ (clause_true ρ c || clause_true ρ d)
  clause_append [] d = refl
  clause_append (l ∷ c) d =
      ap (λ (b : Bool). literal_true ρ l || b) (clause_append c d)
      ∙ sym (or_assoc (literal_true ρ l) (clause_true ρ c) (clause_true ρ d))

  pub satisfies_append : (cs ds : List Clause) → satisfies ρ (cs ++ ds) ≡ (satisfies ρ cs && satisfies ρ ds)
  satisfies_append [] ds = refl
  satisfies_append (c ∷ cs) ds =
      ap (λ (b : Bool). clause_true ρ c && b) (satisfies_append cs ds)
      ∙ sym (and_assoc (clause_true ρ c) (satisfies ρ cs) (satisfies ρ ds))

  satisfies-one : (c : Clause) (ds : List Clause) → satisfies ρ (map (λ d. c ++ d) ds) ≡ (clause_true ρ c || satisfies ρ ds)
  satisfies-one c [] = sym (or-true (clause_true ρ c))
  satisfies-one c (d ∷ ds) =
      (λ i. clause_append c d i && satisfies-one c ds i)
      ∙ sym (or-and_distrib_left (clause_true ρ c) (clause_true ρ d) (satisfies ρ ds))

  satisfies-join : (cs ds : List Clause) → satisfies ρ (join_all cs ds) ≡ (satisfies ρ cs || satisfies ρ ds)
  satisfies-join [] ds = refl
  satisfies-join (c ∷ cs) ds =
      satisfies_append (map (λ d. c ++ d) ds) (join_all cs ds)
      ∙ (λ i. satisfies-one c ds i && satisfies-join cs ds i)
      ∙ sym (or-and_distrib_right (clause_true ρ c) (satisfies ρ cs) (satisfies ρ ds))

  pub satisfies_keeps : (Known : ℕ → Type 0) → Keeps Known clauses (truths ρ) (λ cs b. satisfies ρ cs ≡ b)
  satisfies_keeps Known =
      keeps_of_map Known clauses (truths ρ) (satisfies ρ) refl refl (λ plain x. and-true _ ∙ or-false _)
      satisfies_append satisfies-join

  -- a row satisfies the output where the output, collected as truth, is true
  pub satisfies-output : (u : Renaming) (ns : List Node) → satisfies ρ (output_of u ns) ≡ whole_of (truths ρ) u ns
  satisfies-output u ns = related_whole clauses (truths ρ) (λ cs b. satisfies ρ cs ≡ b) u ns (satisfies_keeps _)

-- a truth value as a row: itself, and its negation
abbrev pub signed : Bool → Row Bool
signed b = record { P = b; N = not b }

pub signed-unit : (b : Bool) → record { P = beq true b; N = beq false b } ≡ signed b
signed-unit true = refl
signed-unit false = refl

module _ (ρ : ℕ → Bool) where
  -- the rule of a node, at truth values, is its truth
  truth_by_lem : (k : Kind) (n : ℕ) (x y : Bool) → known k ≡ true
      → row_by (truths ρ) k n (signed x) (signed y) ≡ signed (truth_by k (ρ n) x y)
  truth_by_lem False n x y e = refl
  truth_by_lem True n x y e = refl
  truth_by_lem Symbol n x y e = signed-unit (ρ n)
  truth_by_lem Not n true y e = refl
  truth_by_lem Not n false y e = refl
  truth_by_lem And n true y e = refl
  truth_by_lem And n false y e = refl
  truth_by_lem Or n true y e = refl
  truth_by_lem Or n false y e = refl
  truth_by_lem Implies n true y e = refl
  truth_by_lem Implies n false y e = refl
  truth_by_lem Equivalent n true true e = refl
  truth_by_lem Equivalent n true false e = refl
  truth_by_lem Equivalent n false true e = refl
  truth_by_lem Equivalent n false false e = refl
  truth_by_lem Unknown n x y e = let z : ◌≡◌ {A = ℕ} 0 1 = cc in absurd (omega arith)

  module _ (ns : List Node) (i : ℕ) (h : i < length ns)
      (b : Below i (node_in ns i)) (k : known (node_in ns i).kind ≡ true) where
    abbrev earlier : ℕ → Bool
    earlier j = get_or (up_to (truth_from ρ ns) i) j false

    before : (j : ℕ) → j < i → earlier j ≡ truth_of ρ ns j
    before j g =
        ap (λ (l : List Bool). get_or l j false) (sym (take-up_to (truth_from ρ ns) i (length ns) (omega arith)))
        ∙ get_or-take i (truths_of ρ ns) j false g

    -- a node's truth is the rule at its children's truths
    pub truth_at : signed (truth_of ρ ns i) ≡ rule_at (truths ρ) (node_in ns i) (λ j. signed (truth_of ρ ns j))
    truth_at =
        ap signed (get_d_up_to (truth_from ρ ns) false i (length ns) h)
        ∙ sym (truth_by_lem (node_in ns i).kind (node_in ns i).a _ _ k)
        ∙ rule_same (truths ρ) i (node_in ns i) b (λ j. signed (earlier j)) _ (λ j g. ap signed (before j g))

-- a formula reads a row only at the symbols of its table
module _ (ρ τ : ℕ → Bool) where
  same_by : (k : Kind) (n : ℕ) {x y z w : Bool} → (k ≡ Symbol → ρ n ≡ τ n) → x ≡ z → y ≡ w → truth_by k (ρ n) x y ≡ truth_by k (τ n) z w
  same_by False n s p q = refl
  same_by True n s p q = refl
  same_by Symbol n s p q = s refl
  same_by Not n s p q = λ i. not (p i)
  same_by And n s p q = λ i. p i && q i
  same_by Or n s p q = λ i. p i || q i
  same_by Implies n s p q = λ i. not (p i) || q i
  same_by Equivalent n s p q = λ i. beq (p i) (q i)
  same_by Unknown n s p q = refl

  pub truth_same : (ns : List Node) → ((i : ℕ) → (node_in ns i).kind ≡ Symbol → ρ (node_in ns i).a ≡ τ (node_in ns i).a)
      → (i : ℕ) → truth_of ρ ns i ≡ truth_of τ ns i
  truth_same ns s i = each_at ◌≡◌ false false refl (each-up_to ◌≡◌ (truth_from ρ ns) (truth_from τ ns) step (length ns)) i
    where
      step : (xs ys : List Bool) (j : ℕ) → Each ◌≡◌ xs ys → truth_from ρ ns xs j ≡ truth_from τ ns ys j
      step xs ys j e =
          let n : Node = node_in ns j in
          same_by n.kind n.a (s j) (each_at ◌≡◌ false false refl e n.a) (each_at ◌≡◌ false false refl e n.b)

-- so a row of the options 1 to V alone is enough for an accepted table
pub truth_options : (t : List ℕ) (v : ℕ) → checked t v ≡ accepted_with 0 0 → (ρ τ : ℕ → Bool)
    → ((x : ℕ) → 0 < x → x ≤ v → ρ x ≡ τ x) → (i : ℕ) → truth_of ρ (nodes_of t) i ≡ truth_of τ (nodes_of t) i
truth_options t v accepted ρ τ same i =
    truth_same ρ τ (nodes_of t) (λ j e. let r = (accepted_well_formed t v 0 0 accepted).symbols j e in same (node_in (nodes_of t) j).a r.0
    r.1) i
