-- The definitions on small tables: a right one, and one for each refusal; truth.
-- Assumes nothing.
use mathlib.Core.Path.{◌≡◌, refl}
use mathlib.Core.Bool.{true, false}
use mathlib.Core.List.{List, [], ◌∷◌, ◌++◌}
use Prim.Native.Nat.{ℕ}
use lib.Dec.{eqb}
use Rattle.laws.specs.Lists.{first_from, up_to}
use Rattle.formula.specs.Tables.{nodes_of}
use Rattle.formula.specs.Checks.{checked}
use Rattle.formula.specs.Truths.{formula_true}
use Rattle.std.specs.Prelude.{Err}
use Rattle.answer.specs.Answers as answers
use Rattle.answer.specs.declared.Fault.TheVariants.{UnknownKind, UnusedNotZero, ChildNotBelow, SymbolOutside}
use Rattle.answer.specs.declared.Refusal.TheVariants.{TableLength, Options, Record}

-- the record of a node whose fields are below 256
abbrev node : ℕ → ℕ → ℕ → List ℕ
node kind a b = kind ∷ a ∷ 0 ∷ b ∷ 0 ∷ []

-- not (s1 and s2) implies (s1 equivalent s2), and an or that the root does not reach
abbrev pub guard : List ℕ
guard = node 2 1 0 ++ node 2 2 0 ++ node 4 0 1 ++ node 3 2 0 ++ node 5 0 1 ++ node 7 0 1 ++ node 6 3 5

accepted : checked guard 2 ≡ answers.accepted_with 0 0
unfolding first_from up_to
accepted = refl

empty-first : checked [] 32001 ≡ Err TableLength
unfolding first_from up_to
empty-first = refl

uneven : checked (guard ++ (0 ∷ [])) 2 ≡ Err TableLength
unfolding first_from up_to
uneven = refl

too_many_options : checked guard 32001 ≡ Err Options
unfolding first_from up_to
too_many_options = refl

-- each fault by itself: with V = 1 node 1 is the lowest that is wrong; a symbol 0, a kind over 7, a child at its own number, also where
-- it is only the right one, a field that is not zero
symbol-over : checked guard 1 ≡ Err (Record SymbolOutside 1)
unfolding first_from up_to
symbol-over = refl

symbol-zero : checked (guard ++ node 2 0 0) 2 ≡ Err (Record SymbolOutside 7)
unfolding first_from up_to
symbol-zero = refl

unknown_kind_lem : checked (guard ++ node 8 0 0) 2 ≡ Err (Record UnknownKind 7)
unfolding first_from up_to
unknown_kind_lem = refl

own-child : checked (guard ++ node 4 0 7) 2 ≡ Err (Record ChildNotBelow 7)
unfolding first_from up_to
own-child = refl

unused_field : checked (guard ++ node 3 0 1) 2 ≡ Err (Record UnusedNotZero 7)
unfolding first_from up_to
unused_field = refl

-- two faults in a record: a kind over 7 before a field, an unused field before a child and before a symbol
kind_first : checked (guard ++ node 8 9 9) 2 ≡ Err (Record UnknownKind 7)
unfolding first_from up_to
kind_first = refl

unused_before_child : checked (guard ++ node 3 7 1) 2 ≡ Err (Record UnusedNotZero 7)
unfolding first_from up_to
unused_before_child = refl

unused_before_symbol : checked (guard ++ node 2 0 1) 2 ≡ Err (Record UnusedNotZero 7)
unfolding first_from up_to
unused_before_symbol = refl

-- two faulty nodes: the lower one decides, whatever its fault
lowest-first : checked (guard ++ node 2 3 0 ++ node 8 0 0) 2 ≡ Err (Record SymbolOutside 7)
unfolding first_from up_to
lowest-first = refl

-- the guard holds where both options are on, and fails where only one is
true_in_both : formula_true (λ s. true) (nodes_of guard) ≡ true
unfolding up_to
true_in_both = refl

false_in_one : formula_true (λ s. eqb s 1) (nodes_of guard) ≡ false
unfolding up_to
false_in_one = refl
