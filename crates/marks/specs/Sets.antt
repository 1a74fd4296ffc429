-- R3.8, R3.9, R10.6, R10.13, R10.14: sets of renamed nodes, which nodes may be renamed, and the check of a set.
-- Assumes nothing: these are definitions.
use Rattle.std.specs.Prelude.{Bool, cond, not, ◌||◌, true, false, ◌&&◌, List, ℕ, suc, eqb, ltb, length, get_or}
use Rattle.laws.specs.Lists.{first}
use Rattle.answer.specs.Answers.{Answer}
use Rattle.answer.specs.Answers.{accepted_with}
use Rattle.std.specs.Prelude.{Err}
use Rattle.answer.specs.declared.Refusal.TheVariants.{Set}
use Rattle.formula.specs.Tables.{node_in}
use Rattle.formula.specs.declared.node.Kind.{Kind}
use Rattle.formula.specs.declared.node.Kind.TheVariants.{False, True, Symbol, Not, And, Or, Implies, Equivalent, Unknown}
use Rattle.formula.specs.declared.node.Node.{Node}
use Rattle.marks.specs.Marks.{mark_of}
use Rattle.marks.specs.declared.mark.Mark.{Mark}

-- R3.8
abbrev pub renamed : List ℕ → ℕ → Bool
renamed s i = eqb (get_or s i 0) 1

-- R3.9: a kind of 3 to 7
abbrev pub operator : Kind → Bool
operator False = false
operator True = false
operator Symbol = false
operator Not = true
operator And = true
operator Or = true
operator Implies = true
operator Equivalent = true
operator Unknown = false

-- the root reaches it
abbrev pub reached : Mark → Bool
reached m = m.positive || m.negative

-- R3.9: whether node i may be renamed
abbrev pub may_rename : List Node → ℕ → Bool
may_rename ns i = operator (node_in ns i).kind && (reached (mark_of ns i) && not (eqb (suc i) (length ns)))

-- R10.6
abbrev pub byte_right : List Node → List ℕ → ℕ → Bool
byte_right ns s i = eqb (get_or s i 0) 0 || (renamed s i && may_rename ns i)

-- the lowest node whose byte is wrong, or the node count
abbrev pub first_wrong_byte : List Node → List ℕ → ℕ
first_wrong_byte ns s = first (byte_right ns s) (length ns)

-- R10.13, then R10.14
abbrev pub set_checked : List Node → List ℕ → Answer
set_checked ns s =
    cond (eqb (length s) (length ns))
    (cond (ltb (first_wrong_byte ns s) (length ns)) (Err (Set (first_wrong_byte ns s))) (accepted_with 0 0))
    (Err (Set (length ns)))
