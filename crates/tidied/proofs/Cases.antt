-- Tidying on small lists. Assumes nothing.
use mathlib.Core.Path.{◌≡◌, refl}
use mathlib.Core.Bool.{true, false}
use mathlib.Core.List.{List, [], ◌∷◌}
use Prim.Native.Nat.{ℕ}
use Rattle.text.specs.Texts.{digits}
use Rattle.clausal.specs.Clauses.{Literal, Clause}
use Rattle.tidied.specs.Tidying.{among, firsts_after, others_after, some_negated, all_among, stays, tautology, repeats, compared_with}
use Rattle.tidied.specs.Tidying.{fates_after, fates_of, kept_from, tidied, Cause, equal, both, again, Change, changes_from, changes_of, change_lines}

abbrev plain : ℕ → Literal
plain x = record { plain = true; variable = x }

abbrev negated : ℕ → Literal
negated x = record { plain = false; variable = x }

abbrev change : ℕ → Cause → ℕ → Change
change n c m = record { clause = n; cause = c; number = m }

-- equal literals, a tautology, a repeat in another order, a tautology again, two empty clauses, and a repeat of a repeat
abbrev list : List Clause
list =
    (plain 1 ∷ negated 2 ∷ negated 2 ∷ plain 1 ∷ [])
    ∷ (plain 3 ∷ plain 3 ∷ negated 3 ∷ [])
    ∷ (negated 2 ∷ negated 2 ∷ plain 1 ∷ [])
    ∷ (plain 3 ∷ negated 3 ∷ [])
    ∷ []
    ∷ []
    ∷ (negated 2 ∷ plain 1 ∷ [])
    ∷ (plain 2 ∷ plain 1 ∷ [])
    ∷ []

pub fates : fates_of list ≡ stays ∷ tautology ∷ repeats 0 ∷ tautology ∷ stays ∷ repeats 4 ∷ repeats 0 ∷ stays ∷ []
unfolding fates_after compared_with some_negated all_among among
fates = refl

pub kept : tidied list ≡ (plain 1 ∷ negated 2 ∷ []) ∷ [] ∷ (plain 2 ∷ plain 1 ∷ []) ∷ []
unfolding fates_after compared_with some_negated all_among among kept_from firsts_after
kept = refl

pub changes : changes_of list
    ≡ change 0 equal 2 ∷ change 0 equal 3 ∷ change 1 both 0 ∷ change 2 again 0 ∷ change 3 both 0
    ∷ change 5 again 4 ∷ change 6 again 0 ∷ []
unfolding fates_after compared_with some_negated all_among among changes_from others_after
changes = refl

-- `0|literal|3`, `1|tautology|0` and `12|repeat|10`, where | is a tab
pub lines : change_lines (change 0 equal 3 ∷ change 1 both 0 ∷ change 12 again 10 ∷ [])
    ≡ 48 ∷ 9 ∷ 108 ∷ 105 ∷ 116 ∷ 101 ∷ 114 ∷ 97 ∷ 108 ∷ 9 ∷ 51 ∷ 10
    ∷ 49 ∷ 9 ∷ 116 ∷ 97 ∷ 117 ∷ 116 ∷ 111 ∷ 108 ∷ 111 ∷ 103 ∷ 121 ∷ 9 ∷ 48 ∷ 10
    ∷ 49 ∷ 50 ∷ 9 ∷ 114 ∷ 101 ∷ 112 ∷ 101 ∷ 97 ∷ 116 ∷ 9 ∷ 49 ∷ 48 ∷ 10
    ∷ []
unfolding change_lines digits
lines = refl
