-- The nodes of a table's bytes: how many, and each one.
-- Assumes nothing.
use mathlib.Core.Path.{◌≡◌}
use mathlib.Core.List.{List}
use Prim.Native.Nat.{ℕ, ◌<◌}
use lib.ListN.{length}
use Rattle.laws.proofs.Upward.{length-up_to, get_d_up_to}
use Rattle.formula.specs.Tables.{node_at, node_count, nodes_of, node_in}

pub length-nodes_of : (t : List ℕ) → length (nodes_of t) ≡ node_count t
length-nodes_of t = length-up_to (λ before i. node_at t i) (node_count t)

pub node_in-nodes_of : (t : List ℕ) (i : ℕ) → i < node_count t → node_in (nodes_of t) i ≡ node_at t i
node_in-nodes_of t i h = get_d_up_to (λ before j. node_at t j) _ i (node_count t) h
