-- The parts of the output one after the other, by direction and node; a part that the output does not have counts no clause.
-- Assumes nothing: these are definitions.
use Rattle.std.specs.Prelude.{Bool, true, false, cond, List, ◌≡◌, ℕ, zero, suc, ◌+◌, ◌-◌, ◌<◌, ◌≤◌, length}
use Rattle.formula.specs.Tables.{most_nodes}
use Rattle.marks.specs.Inner.Held.{held_at}
use Rattle.marks.specs.Marks.{halves_of}
use Rattle.marks.specs.Sets.{renamed}
use Rattle.clausal.specs.Output as output
use Rattle.walk.specs.Inner.Lists.{signed, pair_in}
use Rattle.origin.specs.declared.part.Direction.{Direction}
use Rattle.origin.specs.declared.part.Direction.TheVariants.{Root, Down, Up}
use Rattle.origin.specs.declared.part.Spot.{Spot}

-- the direction of the rules, and the sign of the node's list
abbrev pub direction_of : Direction → output.Direction
direction_of Root = output.root
direction_of Down = output.down
direction_of Up = output.up

abbrev pub sign_of : Direction → Bool
sign_of Root = true
sign_of Down = true
sign_of Up = false

abbrev pub spot : Direction → ℕ → ℕ → Spot
spot d i number = record { direction = d; node = i; number = number }

-- the part behind a part
abbrev pub onward_of : Direction → ℕ → ℕ → Spot
onward_of Root i number = spot Down 0 number
onward_of Down i number = spot Up i number
onward_of Up i number = spot Down (i + 1) number

-- how many clauses a half of a definition has
abbrev pub half_count : List ℕ → List (List ℕ) → ℕ → Bool → Bool → ℕ
half_count s cs i has sign = cond (renamed s i) (cond has (signed sign (pair_in cs i)) 0) 0

module _ (s marks : List ℕ) (cs : List (List ℕ)) where
  -- how many clauses a part has
  abbrev pub count_at : Direction → ℕ → ℕ
  count_at Root i = signed true (pair_in cs i)
  count_at Down i = half_count s cs i (halves_of (held_at marks i)).down true
  count_at Up i = half_count s cs i (halves_of (held_at marks i)).up false

  -- how many clauses the definitions of the nodes below i have
  unfoldable pub defined_below : ℕ → ℕ
  defined_below zero = 0
  defined_below (suc i) = defined_below i + count_at Down i + count_at Up i

  -- how many clauses stand before a part; the root is the last node
  abbrev pub start_at : Direction → ℕ → ℕ
  start_at Root i = 0
  start_at Down i = count_at Root (length s - 1) + defined_below i
  start_at Up i = count_at Root (length s - 1) + defined_below i + count_at Down i

  -- there is such a part
  abbrev pub Inside : Direction → ℕ → Type 0
  Inside Root i = i ≡ length s - 1
  Inside Down i = i < length s
  Inside Up i = i < length s

  -- a place in the output: some clauses behind the beginning of a part
  pub record Sought (f : Spot) : Type 0 where
    pub some : 0 < length s
    pub few : length s ≤ most_nodes
    pub inside : Inside f.direction f.node
    pub below : start_at f.direction f.node + f.number < start_at Down (length s)

  -- the same place, in the part in which it stands
  pub record Stood (f g : Spot) : Type 0 where
    pub inside : Inside g.direction g.node
    pub has : g.number < count_at g.direction g.node
    pub same : start_at g.direction g.node + g.number ≡ start_at f.direction f.node + f.number
