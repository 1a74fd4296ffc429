-- What the array of marks holds while the nodes, from the root down, pass their marks on.
-- Assumes nothing.
use mathlib.Core.Path.{◌≡◌, sym, ap, ◌∙◌}
use mathlib.Core.List.{List}
use Prim.Native.Nat.{ℕ, suc, ◌-◌, ◌≤◌, ◌<◌}
use native.Mathlib.Omega.{arith}
use lib.ListN.{length, set, replicate, length-set, length-replicate}
use Rattle.formula.specs.Tables.{most_nodes, node_at, node_count, nodes_of, node_in}
use Rattle.marks.specs.Marks.{unmarked, positive, mark_in, pass_on, down_from, root_marked, marks_of}
use Rattle.marks.specs.Inner.Held.{held, held_passed}
use Rattle.marks.proofs.Laws.Held.{held_passed-held, held-root}
use Rattle.formula.proofs.Laws.Tables.{length-nodes_of, node_in-nodes_of}
use Rattle.marks.specs.declared.mark.Mark.{Mark}
use Rattle.formula.specs.declared.node.Node.{Node}

-- the array holds marks, and what is left to do with them gives the marks of all nodes
pub record Passing (t : List ℕ) (i : ℕ) (all : List ℕ) : Type 0 where
  pub now : List Mark
  pub size : length now ≡ node_count t
  pub is : all ≡ held now
  pub rest : down_from (nodes_of t) i now ≡ marks_of (nodes_of t)

length-pass_on : (n : Node) (m : Mark) (ms : List Mark) → length (pass_on n m ms) ≡ length ms
length-pass_on n m ms = simp length-set

module _ (t : List ℕ) where
  pub passing_start : (marks : List ℕ) → marks ≡ replicate most_nodes 0 → 0 < node_count t → node_count t ≤ most_nodes
      → Passing t (node_count t) (set marks (node_count t - 1) 1)
  passing_start marks z p h = record {
    now = root_marked (node_count t);
    size = length-set (replicate (node_count t) unmarked) (node_count t - 1) positive ∙ length-replicate (node_count t) unmarked;
    is = ap (λ (l : List ℕ). set l (node_count t - 1) 1) z ∙ held-root (node_count t) p h;
    rest = ap (λ (n : ℕ). down_from (nodes_of t) n (root_marked n)) (sym (length-nodes_of t));
  }

  pub passing_step : (i : ℕ) (all after : List ℕ) (n : Node) → Passing t i all → 0 < i → i ≤ node_count t → n ≡ node_at t (i - 1)
      → after ≡ held_passed (node_count t) all (i - 1) n → Passing t (i - 1) after
  unfolding down_from
  passing_step i all after n p q h e f =
      let ms : List Mark = p.now in
      let k : i ≡ suc (i - 1) = omega arith in
      let same : n ≡ node_in (nodes_of t) (i - 1) = e ∙ sym (node_in-nodes_of t (i - 1) (omega arith)) in
      record {
        now = pass_on (node_in (nodes_of t) (i - 1)) (mark_in ms (i - 1)) ms;
        size = length-pass_on (node_in (nodes_of t) (i - 1)) (mark_in ms (i - 1)) ms ∙ p.size;
        is =
            f
            ∙ (λ j. held_passed (sym p.size j) (p.is j) (i - 1) (same j))
            ∙ held_passed-held ms (i - 1) (node_in (nodes_of t) (i - 1));
        rest = ap (λ (j : ℕ). down_from (nodes_of t) j ms) (sym k) ∙ p.rest;
      }

  pub passing_end : (all : List ℕ) → Passing t 0 all → all ≡ held (marks_of (nodes_of t))
  unfolding down_from
  passing_end all p = p.is ∙ ap held p.rest
