-- The definitions on one small table: its marks, a right set, and wrong sets.
-- Assumes nothing.
use mathlib.Core.Path.{◌≡◌, refl}
use mathlib.Core.List.{[], ◌∷◌, map}
use Rattle.answer.specs.Answers.{accepted_with}
use Rattle.std.specs.Prelude.{Err}
use Rattle.answer.specs.declared.Refusal.TheVariants.{Set}
use Rattle.laws.specs.Lists.{first_from, up_to}
use Rattle.formula.specs.Tables.{nodes_of}
use Rattle.formula.proofs.Cases.{guard}
use Rattle.marks.specs.Marks.{down_from, marks_of}
use Rattle.marks.specs.Sets.{set_checked}
use Rattle.marks.specs.Inner.Held.{byte_of}

-- 1 is positive, 2 negative, 3 both
marks_of_guard : map byte_of (marks_of (nodes_of guard)) ≡ 3 ∷ 3 ∷ 1 ∷ 2 ∷ 0 ∷ 1 ∷ 1 ∷ []
unfolding first_from up_to down_from
marks_of_guard = refl

set-right : set_checked (nodes_of guard) (0 ∷ 0 ∷ 1 ∷ 1 ∷ 0 ∷ 1 ∷ 0 ∷ []) ≡ accepted_with 0 0
unfolding first_from up_to down_from
set-right = refl

-- of the wrong bytes the lowest counts: a symbol, a node that is not reached, the root, a byte over 1
set-wrong : set_checked (nodes_of guard) (0 ∷ 0 ∷ 1 ∷ 0 ∷ 1 ∷ 2 ∷ 1 ∷ []) ≡ Err (Set 4)
unfolding first_from up_to down_from
set-wrong = refl

set-symbol : set_checked (nodes_of guard) (0 ∷ 1 ∷ 0 ∷ 0 ∷ 0 ∷ 2 ∷ 1 ∷ []) ≡ Err (Set 1)
unfolding first_from up_to down_from
set-symbol = refl

set-root : set_checked (nodes_of guard) (0 ∷ 0 ∷ 0 ∷ 0 ∷ 0 ∷ 0 ∷ 1 ∷ []) ≡ Err (Set 6)
unfolding first_from up_to down_from
set-root = refl

set-short : set_checked (nodes_of guard) (0 ∷ 0 ∷ []) ≡ Err (Set 7)
unfolding first_from up_to down_from
set-short = refl
