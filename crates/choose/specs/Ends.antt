-- R22.9: what the second pass ends with, node by node.
-- Assumes nothing: these are definitions.
use Rattle.std.specs.Prelude.{true, false, List, ◌≡◌, ℕ, ◌≤◌, ◌<◌, length, get_or, set}
use Rattle.formula.specs.declared.node.Node.{Node}
use Rattle.marks.specs.Sets.{renamed}
use Rattle.clausal.specs.Clauses.{Renaming}
use Rattle.clausal.specs.Totals.{total_under}
use Rattle.clausal.specs.Choosing.{all_of}

-- t is the set after the visit of node i: the nodes below i are in, where they may be renamed, and the others are as in s
pub record Visiting (ns : List Node) (s : List ℕ) (i : ℕ) (t : List ℕ) : Type 0 where
  pub size : length t ≡ length ns
  pub lower : (j : ℕ) → j < i → get_or t j 0 ≡ get_or (all_of ns) j 0
  pub upper : (j : ℕ) → i ≤ j → get_or t j 0 ≡ get_or s j 0

-- a node of s is worth its definition there, and a node that is not in s is not
pub record Ends (u : Renaming) (ns : List Node) (s : List ℕ) (i : ℕ) : Type 0 where
  pub kept : (t : List ℕ) → Visiting ns s i t → renamed s i ≡ true → total_under u ns t < total_under u ns (set t i 0)
  pub gone : (t : List ℕ) → Visiting ns s i t → renamed s i ≡ false → total_under u ns t ≤ total_under u ns (set t i 1)
