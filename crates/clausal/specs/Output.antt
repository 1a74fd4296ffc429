-- R5: the output, as a list of parts, and whatever is collected of the parts one after the other.
-- Assumes nothing: these are definitions.
use Rattle.std.specs.Prelude.{true, false, cond, List, [], ◌∷◌, ◌++◌, ℕ, zero, suc, ◌-◌, length}
use Rattle.marks.specs.Marks.{mark_of, halves_of}
use Rattle.marks.specs.Sets.{renamed}
use Rattle.clausal.specs.Clauses.{Algebra, clauses, Renaming, helper_of, name_of, Clause, row_of}
use Rattle.formula.specs.declared.node.Node.{Node}

-- R5.1, R5.3, R5.4: the root part, the half of a definition from helper to body, and the half back
pub data Direction : Type 0 where
  root : Direction
  down : Direction
  up : Direction

-- a part of the output: the node it comes from, its helper or 0, its direction, and what is collected
pub record Part (C : Type 0) : Type 0 where
  pub origin : ℕ
  pub helper : ℕ
  pub direction : Direction
  pub content : C

module _ {C : Type 0} (A : Algebra C) (u : Renaming) (ns : List Node) where
  -- R5.1
  abbrev pub root_part : Part C
  root_part = record { origin = length ns - 1; helper = 0; direction = root; content = (row_of A (name_of u) ns (length ns - 1)).P }

  -- a half of the definition of node i
  abbrev pub half_part : ℕ → Direction → C → Part C
  half_part i direction content = record { origin = i; helper = helper_of u i; direction = direction; content = content }

  -- R5.3
  abbrev pub down_part : ℕ → Part C
  down_part i = half_part i down (A.join (A.unit false (helper_of u i)) (row_of A (name_of u) ns i).P)

  -- R5.4
  abbrev pub up_part : ℕ → Part C
  up_part i = half_part i up (A.join (row_of A (name_of u) ns i).N (A.unit true (helper_of u i)))

  -- R5.5 to R5.7: the definition of node i, where it is renamed
  abbrev pub definition : ℕ → List (Part C)
  definition i =
      cond (renamed u.set i)
      (cond (halves_of (mark_of ns i)).down (down_part i ∷ []) [] ++ cond (halves_of (mark_of ns i)).up (up_part i ∷ []) [])
      []

  -- the definitions of the nodes below n, by rising node number
  unfoldable pub definitions : ℕ → List (Part C)
  definitions zero = []
  definitions (suc n) = definitions n ++ definition n

  -- R5.1, R5.2
  abbrev pub parts_of : List (Part C)
  parts_of = root_part ∷ definitions (length ns)

-- parts put behind what is collected already
abbrev pub gather : {C : Type 0} → Algebra C → C → List (Part C) → C
gather A sum [] = sum
gather A sum (p ∷ ps) = gather A (A.cat sum p.content) ps

-- what is collected of the whole output
abbrev pub whole_of : {C : Type 0} → Algebra C → Renaming → List Node → C
whole_of A u ns = gather A A.none (parts_of A u ns)

-- the clauses of a formula under a renaming
abbrev pub output_of : Renaming → List Node → List Clause
output_of u ns = whole_of clauses u ns
