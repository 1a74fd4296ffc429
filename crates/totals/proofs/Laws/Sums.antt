-- What is collected of a formula, gathered node by node.
-- Assumes nothing.
use mathlib.Core.Path.{◌≡◌, refl, sym, ap, ◌∙◌}
use mathlib.Core.Bool.{Bool, true, false, cond}
use mathlib.Core.List.{List, [], ◌∷◌, ◌++◌}
use Prim.Native.Nat.{ℕ, zero, suc, ◌+◌, ◌-◌}
use native.Mathlib.Numerals.{add-one}
use native.Mathlib.Omega.{arith}
use lib.ListN.{length}
use Rattle.marks.specs.Marks.{mark_of, halves_of}
use Rattle.marks.specs.Sets.{renamed}
use Rattle.formula.specs.declared.node.Node.{Node}
use Rattle.clausal.specs.Clauses.{Algebra, Renaming, helper_of, name_of, row_of}
use Rattle.clausal.specs.Output.{root_part, down_part, up_part, definition, definitions, gather}
use Rattle.clausal.proofs.Options.{gather_append}
use Rattle.totals.specs.Inner.Sums.{with_part, with_node, Low}

module _ {C : Type 0} (A : Algebra C) (u : Renaming) (ns : List Node) where
  -- what is collected of the root and of the nodes below i
  abbrev pub whole_to : ℕ → C
  whole_to i = gather A A.none (root_part A u ns ∷ definitions A u ns i)

  -- a sum with what node i adds
  abbrev pub with_node_at : ℕ → C → C
  with_node_at i sum = with_node A (renamed u.set i) (helper_of u i) (mark_of ns i) (row_of A (name_of u) ns i) sum

  gather-definition : (sum : C) (i : ℕ) → gather A sum (definition A u ns i) ≡ with_node_at i sum
  gather-definition sum i = go (renamed u.set i) (halves_of (mark_of ns i)).down (halves_of (mark_of ns i)).up
    where
      go : (r d p : Bool)
          → gather A sum (cond r (cond d (down_part A u ns i ∷ []) [] ++ cond p (up_part A u ns i ∷ []) []) [])
          ≡ cond r (with_part A p (up_part A u ns i).content (with_part A d (down_part A u ns i).content sum)) sum
      go true true true = refl
      go true true false = refl
      go true false true = refl
      go true false false = refl
      go false d p = refl

  -- a turn of the loop that gathers
  pub whole-more : (i : ℕ) → whole_to (i + 1) ≡ with_node_at i (whole_to i)
  unfolding definitions
  whole-more i =
      ap whole_to (add-one i)
      ∙ gather_append A A.none (root_part A u ns ∷ definitions A u ns i) (definition A u ns i)
      ∙ gather-definition (whole_to i) i

  -- no node below i is renamed
  pub whole-start : (i : ℕ) → Low u.set i → A.cat A.none (row_of A (name_of u) ns (length ns - 1)).P ≡ whole_to i
  unfolding definitions
  whole-start zero low = refl
  whole-start (suc i) low =
      whole-start i (λ j h. low j (omega arith)) ∙ sym (whole-more i ∙ rw (low i (omega arith))) ∙ ap whole_to (add-one i)
