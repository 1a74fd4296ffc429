-- The helpers of renamed nodes, as an array holds them.
-- Assumes nothing: these are definitions.
use Rattle.std.specs.Prelude.{List, ◌≡◌, ℕ, ◌≤◌, length, replicate}
use Rattle.laws.specs.Lists.{up_to}
use Rattle.laws.specs.Inner.Stores.{pad_to}
use Rattle.formula.specs.Tables.{most_nodes, most_options}
use Rattle.clausal.specs.Clauses.{Renaming, name_of}

-- the helper as which each of the first n nodes is seen, 0 for one that is not renamed, and zeros behind
abbrev pub helpers_of : Renaming → ℕ → List ℕ
helpers_of u n = pad_to most_nodes 0 (up_to (λ before i. name_of u i) n)

-- a set of no more nodes than a table may have, and an array that no helper has been put into
pub record Unnamed (taken : ℕ) (s helpers : List ℕ) : Type 0 where
  pub most : taken ≤ most_options
  pub few : length s ≤ most_nodes
  pub zeros : helpers ≡ replicate most_nodes 0
