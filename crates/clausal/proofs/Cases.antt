-- R8, R22: both passes and the choice on small tables, by computing. Each table is one on which a rule that is nearly right differs.
-- Assumes nothing.
use mathlib.Core.Bool.{◌&&◌}
use mathlib.Core.List.{List, [], ◌∷◌, ◌++◌}
use Prim.Native.Nat.{ℕ}
use lib.Dec.{T, eqb}
use Rattle.laws.specs.Lists.{first_from, up_to}
use Rattle.marks.specs.Marks.{down_from}
use Rattle.formula.specs.Checks.{checked}
use Rattle.formula.specs.Tables.{nodes_of}
use Rattle.clausal.specs.Clauses.{renaming, renamed_below}
use Rattle.clausal.specs.Output.{definitions}
use Rattle.clausal.specs.Totals.{total_under}
use Rattle.clausal.specs.Choosing.{Choice, visits_from, second_pass, choose}
use Rattle.clausal.proofs.Notation.{accepted, same, true-node, symbol, and_of, or_of}

abbrev second_of : List ℕ → Choice
second_of t = second_pass (renaming 0 []) (nodes_of t)

abbrev chosen_of : ℕ → List ℕ → Choice
chosen_of allowance t = choose allowance (renaming 0 []) (nodes_of t)

abbrev total_of : List ℕ → List ℕ → ℕ
total_of t s = total_under (renaming 0 []) (nodes_of t) s

-- the table is right, and the choice has these picks, this set and this clause total
abbrev Is : List ℕ → Choice → ℕ → List ℕ → ℕ → Type 0
Is t c picks s total = T (accepted (checked t 2) && eqb c.picks picks && same eqb c.chosen s && eqb (total_of t s) total)

-- s1 and s2, then four times the node before or itself, which has 65,536 clauses; the same once more; and both together. No single
-- renaming brings the total below the ceiling
abbrev twice : List ℕ
twice =
    symbol 1 ++ symbol 2
    ++ and_of 0 1 ++ or_of 2 2 ++ or_of 3 3 ++ or_of 4 4 ++ or_of 5 5
    ++ and_of 0 1 ++ or_of 7 7 ++ or_of 8 8 ++ or_of 9 9 ++ or_of 10 10
    ++ and_of 6 11

-- R22.1: nine of ten nodes are allowed, and nothing is mended
pub one_too_few : Is twice (chosen_of 9 twice) 0 (0 ∷ 0 ∷ 0 ∷ 0 ∷ 0 ∷ 0 ∷ 0 ∷ 0 ∷ 0 ∷ 0 ∷ 0 ∷ 0 ∷ 0 ∷ []) 65_535
unfolding up_to first_from down_from renamed_below definitions visits_from
one_too_few = tt

-- R22.2 to R22.4: with ten allowed only the two conjunctions stay
pub all-allowed : Is twice (chosen_of 10 twice) 2 (0 ∷ 0 ∷ 1 ∷ 0 ∷ 0 ∷ 0 ∷ 0 ∷ 1 ∷ 0 ∷ 0 ∷ 0 ∷ 0 ∷ 0 ∷ []) 6
unfolding up_to first_from down_from renamed_below definitions visits_from
all-allowed = tt

-- R22.3: s1, 0 and 0, 0 and 1, 2 and 2. The highest node goes first, and both go. With the lowest first node 2 would stay
abbrev ordered : List ℕ
ordered = symbol 1 ++ and_of 0 0 ++ and_of 0 1 ++ and_of 2 2

pub highest_first : Is ordered (second_of ordered) 0 (0 ∷ 0 ∷ 0 ∷ 0 ∷ []) 6
unfolding up_to first_from down_from renamed_below definitions visits_from
highest_first = tt

-- R22.4: s1, 0 and 0, 1 and 1. There are four clauses with node 1 and four without it, so it goes
abbrev even : List ℕ
even = symbol 1 ++ and_of 0 0 ++ and_of 1 1

pub tie_goes : Is even (second_of even) 0 (0 ∷ 0 ∷ 0 ∷ []) 4
unfolding up_to first_from down_from renamed_below definitions visits_from
tie_goes = tt

-- R22.5: s1, 0 and 0, 1 and 1, 1 and 2. At first there are six clauses, and without node 2 five. Without node 1 too there were six
abbrev fallen : List ℕ
fallen = symbol 1 ++ and_of 0 0 ++ and_of 1 1 ++ and_of 1 2

pub just-before : Is fallen (second_of fallen) 1 (0 ∷ 1 ∷ 0 ∷ 0 ∷ []) 5
unfolding up_to first_from down_from renamed_below definitions visits_from
just-before = tt

-- true, then the node before and itself twice, and the root, that or itself
abbrev vanishing : List ℕ
vanishing = true-node ++ and_of 0 0 ++ and_of 1 1 ++ or_of 2 2

-- R22.10: node 2 is kept, since two clauses joined with two are four. Then node 1 goes, and has no clause ..
pub kept_early : Is vanishing (second_of vanishing) 1 (0 ∷ 0 ∷ 1 ∷ 0 ∷ []) 1
unfolding up_to first_from down_from renamed_below definitions visits_from
kept_early = tt

-- .. and now node 2 could go too. It has been visited
pub droppable_later : T (eqb (total_of vanishing (0 ∷ 0 ∷ 0 ∷ 0 ∷ [])) 0)
unfolding up_to first_from down_from renamed_below definitions visits_from
droppable_later = tt
