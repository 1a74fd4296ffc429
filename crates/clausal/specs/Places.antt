-- R4.6, R5: the clauses of the output by their numbers. Each stands in one part, under one number there.
-- Assumes nothing: these are definitions.
use Rattle.std.specs.Prelude.{◌≡◌, cond, List, [], ◌∷◌, ◌++◌, map, ℕ, zero, suc, ◌+◌, ◌-◌, ◌<◌, ltb, length, get_or}
use Rattle.clausal.specs.Clauses.{Clause}
use Rattle.clausal.specs.Output.{Part, root}

-- the number of a part, and a clause's number in it
pub record Place : Type 0 where
  pub part : ℕ
  pub number : ℕ

-- one part further on
abbrev pub further : Place → Place
further p = record { part = suc p.part; number = p.number }

-- the place of clause k, from the parts' numbers of clauses
abbrev pub place_in : List ℕ → ℕ → Place
place_in [] k = record { part = 0; number = k }
place_in (c ∷ cs) k = cond (ltb k c) (record { part = 0; number = k }) (further (place_in cs (k - c)))

-- how many clauses stand before part j
abbrev pub start_of : List ℕ → ℕ → ℕ
start_of [] j = 0
start_of (c ∷ cs) zero = 0
start_of (c ∷ cs) (suc j) = c + start_of cs j

-- the parts' clauses, and their numbers of clauses; past the last part there is no clause
abbrev pub contents_of : List (Part (List Clause)) → List Clause
contents_of [] = []
contents_of (p ∷ ps) = p.content ++ contents_of ps

abbrev pub counts_of : List (Part (List Clause)) → List ℕ
counts_of ps = map (λ p. length p.content) ps

abbrev pub content_in : List (Part (List Clause)) → ℕ → List Clause
content_in ps j = (get_or ps j (record { origin = 0; helper = 0; direction = root; content = [] })).content

-- clause k of the parts stands at a place
pub record Stands (ps : List (Part (List Clause))) (k : ℕ) (p : Place) : Type 0 where
  pub part : p.part < length ps
  pub number : p.number < length (content_in ps p.part)
  pub sum : start_of (counts_of ps) p.part + p.number ≡ k
