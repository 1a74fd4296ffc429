-- The clauses mean the formula: a row that satisfies them satisfies the formula; and a row that satisfies the formula
-- satisfies them, with each helper at its node's truth. Both are one induction along the nodes: with implication and the
-- polarities, and with equality and both signs.
-- Assumes nothing.
use mathlib.Core.Path.{◌≡◌, refl, ap, ◌∙◌, subst, subst⁻¹}
use mathlib.Core.Bool.{Bool, true, false, not, ◌&&◌, ◌||◌, beq}
use mathlib.Core.List.{List}
use Prim.Native.Nat.{ℕ, zero, suc, ◌-◌, ◌≤◌, ◌<◌}
use native.Mathlib.Omega.{arith}
use lib.Dec.{T}
use lib.ListN.{length}
use Rattle.answer.specs.Answers.{accepted_with}
use Rattle.formula.specs.Checks.{checked}
use Rattle.marks.specs.Sets.{renamed}
use Rattle.marks.specs.Marks.{to_a, to_b, mark_of}
use Rattle.formula.specs.Tables.{nodes_of, node_in, known}
use Rattle.marks.specs.Paths.{has}
use Rattle.formula.specs.Inner.Right.{WellFormed}
use Rattle.formula.specs.Truths.{truth_of, formula_true}
use Rattle.marks.proofs.Laws.Polarity.{passed_a, passed_b, root-positive}
use Rattle.formula.proofs.Laws.WellFormed.{accepted_well_formed}
use Rattle.clausal.specs.Clauses.{Row, helper_of, Renaming, name_of, row_of}
use Rattle.clausal.specs.Output.{output_of}
use Rattle.clausal.specs.Meanings.{satisfies, Extends}
use Rattle.clausal.specs.Inner.Extended.{truths, extended}
use Rattle.clausal.proofs.Extended.{extends}
use Rattle.clausal.proofs.Halves.{Defines, AllTrue, whole-true}
use Rattle.clausal.proofs.Known.{accepted-known}
use Rattle.clausal.proofs.Related.{Keeps, Under, both, under_by}
use Rattle.clausal.proofs.Rows.{rule_at, seen_of, a_below, b_below, row_at, seen_plain, seen-renamed}
use Rattle.clausal.proofs.Truths.{satisfies-output, signed, signed-unit, truth_at}
use Rattle.marks.specs.declared.mark.Mark.{Mark}
use Rattle.formula.specs.declared.node.Node.{Node}

-- a list of nodes under a set: its rows in the row τ, seen as children or not, and its truths in the row ρ
module _ (ns : List Node) (u : Renaming) where
  abbrev row : (ℕ → Bool) → ℕ → Row Bool
  row τ i = row_of (truths τ) (name_of u) ns i

  abbrev child : (ℕ → Bool) → ℕ → Row Bool
  child τ j = seen_of (truths τ) (name_of u) ns j

  abbrev rule : (ℕ → Bool) → ℕ → Row Bool
  rule τ i = rule_at (truths τ) (node_in ns i) (child τ)

  abbrev truth : (ℕ → Bool) → ℕ → Row Bool
  truth ρ i = signed (truth_of ρ ns i)

  module _ (v : ℕ) (wf : WellFormed v ns) (kinds : (i : ℕ) → known (node_in ns i).kind ≡ true) where
    -- the induction: a relation that is kept holds at every node, for the signs that m gives it, if it goes over to the node
    -- seen as a child
    module _ (ρ τ : ℕ → Bool) (Q : Bool → Bool → Type 0) (keeps : Keeps (λ x. (0 < x) × (x ≤ v)) (truths τ) (truths ρ) Q)
        (m : ℕ → Mark)
        (to_a_lem : (i : ℕ) (z : Bool) → T (has z (to_a (node_in ns i).kind (m i))) → T (has z (m (node_in ns i).a)))
        (to_b_lem : (i : ℕ) (z : Bool) → T (has z (to_b (node_in ns i).kind (m i))) → T (has z (m (node_in ns i).b)))
        (as_seen : (j : ℕ) → j < length ns → Under Q (m j) (row τ j) (truth ρ j) → Under Q (m j) (child τ j) (truth ρ j)) where
      passed_on : (i j : ℕ) (given : Mark) → ((z : Bool) → T (has z given) → j < i)
          → ((z : Bool) → T (has z given) → T (has z (m j)))
          → (j < i → Under Q (m j) (child τ j) (truth ρ j)) → Under Q given (child τ j) (truth ρ j)
      passed_on i j given below to known = record {
        P = λ t. (known (below true t)).P (to true t);
        N = λ t. (known (below false t)).N (to false t);
      }

      at-node : (i : ℕ) → i < length ns → ((j : ℕ) → j < i → Under Q (m j) (child τ j) (truth ρ j))
          → Under Q (m i) (row τ i) (truth ρ i)
      at-node i h known =
          let n : Node = node_in ns i in
          subst⁻¹ (λ (x : Row Bool). Under Q (m i) x (truth ρ i)) (row_at (truths τ) (name_of u) ns i h (wf.below i))
          (subst⁻¹ (λ (y : Row Bool). Under Q (m i) (rule τ i) y) (truth_at ρ ns i h (wf.below i) (kinds i))
          (under_by (λ x. (0 < x) × (x ≤ v)) _ _ Q keeps n.kind n.a (m i) _ _ _ _ (wf.symbols i)
          (passed_on i n.a (to_a n.kind (m i)) (a_below i n (m i) (wf.below i)) (to_a_lem i) (known n.a))
          (passed_on i n.b (to_b n.kind (m i)) (b_below i n (m i) (wf.below i)) (to_b_lem i) (known n.b))))

      means : (n i : ℕ) → i < n → n ≤ length ns → Under Q (m i) (row τ i) (truth ρ i)
      means zero i h l = absurd (omega arith)
      means (suc n) i h l = at-node i (omega arith) λ j g.
          as_seen j (omega arith) (means n j (omega arith) (omega arith))

-- implication is kept
abbrev Gives : Bool → Bool → Type 0
Gives x y = T x → T y

and-gives : (x y z w : Bool) → Gives x z → Gives y w → Gives (x && y) (z && w)
and-gives true y true w f g t = g t
and-gives true y false w f g t = absurd (f tt)
and-gives false y z w f g t = absurd t

or_gives : (x y z w : Bool) → Gives x z → Gives y w → Gives (x || y) (z || w)
or_gives x y true w f g t = tt
or_gives true y false w f g t = absurd (f tt)
or_gives false y false w f g t = g t

gives_keeps : (Known : ℕ → Type 0) (ρ : ℕ → Bool) → Keeps Known (truths ρ) (truths ρ) Gives
gives_keeps Known ρ = record {
  none = λ t. t;
  empty = λ t. t;
  unit = λ plain x k t. t;
  cat = and-gives;
  join = or_gives;
}

-- a helper that is true, under its half down, and one that is false, under its half up
down-half : (h p : Bool) → T (beq false h || p) → Gives (beq true h) p
down-half true p d t = d
down-half false p d t = absurd t

up-half : (h n : Bool) → T (n || beq true h) → Gives (beq false h) n
up-half true n u t = absurd t
up-half false true u t = tt
up-half false false u t = absurd u

-- where a helper has its node's truth, both halves hold
down_holds : (b : Bool) → T (beq false b || b)
down_holds true = tt
down_holds false = tt

up-holds : (b : Bool) → T (not b || beq true b)
up-holds true = tt
up-holds false = tt

has_both : (z : Bool) → T (has z both)
has_both true = tt
has_both false = tt

module _ (ns : List Node) (u : Renaming) (ρ : ℕ → Bool)
    (v : ℕ) (wf : WellFormed v ns) (kinds : (i : ℕ) → known (node_in ns i).kind ≡ true) where
  -- where the definitions hold, a row gives the truth, along the polarities
  sound-rows : AllTrue ρ u ns → (i : ℕ) → i < length ns → Under Gives (mark_of ns i) (row ns u ρ i) (truth ns u ρ i)
  sound-rows all i h =
      means ns u v wf kinds ρ ρ Gives (gives_keeps _ ρ)
      (mark_of ns) (passed_a ns wf.below) (passed_b ns wf.below) as_seen (length ns) i h (omega arith)
    where
      as_seen : (j : ℕ) → j < length ns → Under Gives (mark_of ns j) (row ns u ρ j) (truth ns u ρ j)
          → Under Gives (mark_of ns j) (child ns u ρ j) (truth ns u ρ j)
      as_seen j l own = go (renamed u.set j) refl
        where
          go : (b : Bool) → renamed u.set j ≡ b → Under Gives (mark_of ns j) (child ns u ρ j) (truth ns u ρ j)
          go false e = subst⁻¹ (λ (x : Row Bool). Under Gives (mark_of ns j) x (truth ns u ρ j))
              (seen_plain (truths ρ) u j (row ns u ρ j) e) own
          go true e =
              let d : Defines ρ u ns j = all.defines j l e in
              subst⁻¹ (λ (x : Row Bool). Under Gives (mark_of ns j) x (truth ns u ρ j)) (seen-renamed (truths ρ) u j (row ns u ρ j) e)
              (record {
                P = λ z t. own.P z (down-half (ρ (helper_of u j)) (row ns u ρ j).P (d.down z) t);
                N = λ z t. own.N z (up-half (ρ (helper_of u j)) (row ns u ρ j).N (d.up z) t);
              })

  sound-nodes : T (satisfies ρ (output_of u ns)) → T (formula_true ρ ns)
  sound-nodes t =
      let all : AllTrue ρ u ns = (whole-true ρ u ns).0 (subst T (satisfies-output ρ u ns) t) in
      (sound-rows all (length ns - 1) (omega (arith, wf.some))).P (root-positive ns wf.below wf.some) all.root

  -- a row with the same options, and each helper at its node's truth
  module _ (τ : ℕ → Bool) (ext : Extends v u ns ρ τ) where
    equal_keeps : Keeps (λ x. (0 < x) × (x ≤ v)) (truths τ) (truths ρ) ◌≡◌
    equal_keeps = record {
      none = refl;
      empty = refl;
      unit = λ plain x k. ap (beq plain) (ext.options x k.0 k.1);
      cat = λ x y z w p q. λ i. p i && q i;
      join = λ x y z w p q. λ i. p i || q i;
    }

    -- in it every row is the truth
    complete-rows : (i : ℕ) → i < length ns → Under ◌≡◌ both (row ns u τ i) (truth ns u ρ i)
    complete-rows i h =
        means ns u v wf kinds ρ τ ◌≡◌ equal_keeps
        (λ j. both) (λ j z t. has_both z) (λ j z t. has_both z) as_seen (length ns) i h (omega arith)
      where
        as_seen : (j : ℕ) → j < length ns → Under ◌≡◌ both (row ns u τ j) (truth ns u ρ j)
            → Under ◌≡◌ both (child ns u τ j) (truth ns u ρ j)
        as_seen j l own = go (renamed u.set j) refl
          where
            go : (b : Bool) → renamed u.set j ≡ b → Under ◌≡◌ both (child ns u τ j) (truth ns u ρ j)
            go false e = subst⁻¹ (λ (x : Row Bool). Under ◌≡◌ both x (truth ns u ρ j)) (seen_plain (truths τ) u j (row ns u τ j) e) own
            go true e =
                let q = seen-renamed (truths τ) u j (row ns u τ j) e ∙ signed-unit (τ (helper_of u j)) ∙ ap signed (ext.helpers j l e) in
                record { P = λ t. ap (λ (x : Row Bool). x.P) q; N = λ t. ap (λ (x : Row Bool). x.N) q }

    complete-nodes : T (formula_true ρ ns) → T (satisfies τ (output_of u ns))
    complete-nodes t = subst⁻¹ T (satisfies-output τ u ns) ((whole-true τ u ns).1 (record {
      root = subst⁻¹ T ((complete-rows (length ns - 1) (omega (arith, wf.some))).P tt) t;
      defines = λ i h r.
          let own = complete-rows i h in
          let e : τ (helper_of u i) ≡ truth_of ρ ns i = ext.helpers i h r in
          record {
            down = λ m. subst⁻¹ T (λ j. beq false (e j) || own.P tt j) (down_holds (truth_of ρ ns i));
            up = λ m. subst⁻¹ T (λ j. own.N tt j || beq true (e j)) (up-holds (truth_of ρ ns i));
          };
    }))

-- for every accepted table, every renaming and every row of truth values
module _ (t : List ℕ) (v : ℕ) (accepted : checked t v ≡ accepted_with 0 0) (u : Renaming) (ρ : ℕ → Bool) where
  -- a row that satisfies the clauses satisfies the formula
  pub sound : T (satisfies ρ (output_of u (nodes_of t))) → T (formula_true ρ (nodes_of t))
  sound = sound-nodes (nodes_of t) u ρ v (accepted_well_formed t v 0 0 accepted) (accepted-known t v 0 0 accepted)

  -- a row that satisfies the formula satisfies the clauses, with each helper at its node's truth
  pub complete_by : (τ : ℕ → Bool) → Extends v u (nodes_of t) ρ τ → T (formula_true ρ (nodes_of t)) → T (satisfies τ (output_of u (nodes_of t)))
  complete_by = complete-nodes (nodes_of t) u ρ v (accepted_well_formed t v 0 0 accepted) (accepted-known t v 0 0 accepted)

  pub complete : v ≤ u.taken → T (formula_true ρ (nodes_of t)) → T (satisfies (extended ρ u (nodes_of t)) (output_of u (nodes_of t)))
  complete all = complete_by (extended ρ u (nodes_of t)) (extends ρ u (nodes_of t) v all)
