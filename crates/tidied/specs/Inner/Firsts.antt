-- What becomes of a clause, by the first clause of the whole list that has the same literals.
-- Assumes nothing: these are definitions.
use Rattle.std.specs.Prelude.{Bool, cond, not, List, [], ℕ, ltb, get_or}
use Rattle.laws.specs.Lists.{first}
use Rattle.clausal.specs.Clauses.{Clause}
use Rattle.tidied.specs.Tidying.{is_tautology, same_literals, Fate, stays, tautology, repeats}

-- clause j is another set than c
abbrev pub differs : List Clause → Clause → ℕ → Bool
differs cs c j = not (same_literals (get_or cs j []) c)

-- the lowest number below n of a clause that has the same literals as c, or n where there is none
abbrev pub first_below : List Clause → Clause → ℕ → ℕ
first_below cs c n = first (differs cs c) n

-- what becomes of clause n
abbrev pub fate_by : List Clause → ℕ → Fate
fate_by cs n =
    let c = get_or cs n [] in
    let m = first_below cs c n in
    cond (is_tautology c) tautology (cond (ltb m n) (repeats m) stays)
