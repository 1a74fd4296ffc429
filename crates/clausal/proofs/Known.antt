-- The kinds of an accepted table are known.
-- Assumes nothing.
use mathlib.Core.Path.{◌≡◌, ap, ◌∙◌}
use mathlib.Core.Bool.{true}
use mathlib.Core.List.{List, []}
use Prim.Native.Nat.{ℕ, ◌<◌}
use native.Mathlib.Decide.{dec_lt}
use native.Mathlib.Omega.{arith}
use lib.ListN.{get_or-eq_default}
use Rattle.answer.specs.Answers.{accepted_with}
use Rattle.formula.specs.Checks.{checked}
use Rattle.formula.specs.Tables.{node_at, node_count, nodes_of, node_in, known}
use Rattle.formula.proofs.Laws.Faults.{keeps_of_no_fault}
use Rattle.formula.proofs.Laws.Tables.{length-nodes_of, node_in-nodes_of}
use Rattle.formula.proofs.Laws.WellFormed.{accepts}
use Rattle.formula.specs.declared.node.Node.{Node}

pub accepted-known : (t : List ℕ) (v x y : ℕ) → checked t v ≡ accepted_with x y
    → (i : ℕ) → known (node_in (nodes_of t) i).kind ≡ true
accepted-known t v x y e i = go (dec_lt i (node_count t))
  where
    kind_of : {n m : Node} → n ≡ m → known n.kind ≡ known m.kind
    kind_of q = ap (λ (n : Node). known n.kind) q

    go : Dec (i < node_count t) → known (node_in (nodes_of t) i).kind ≡ true
    go (yes h) = kind_of (node_in-nodes_of t i h) ∙ (keeps_of_no_fault v i (node_at t i) ((accepts t v x y e).records i h)).kind
    go (no h) = kind_of (get_or-eq_default (nodes_of t) (node_in [] i) (omega (arith, length-nodes_of t)))
