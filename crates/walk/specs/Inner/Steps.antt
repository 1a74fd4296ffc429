-- R4.6 to R4.8: clause k of a node is found through its children, whose numbers are lower.
-- Assumes nothing: these are definitions.
use Rattle.std.specs.Prelude.{Bool, true, false, cond, not, List, [], ◌∷◌, ◌++◌, ◌≡◌, ℕ, ◌*◌, ◌-◌, ◌/◌, ◌%◌, ◌<◌, ◌≤◌, eqb, ltb, length, get_or}
use Rattle.formula.specs.Inner.Right.{RightLength, Below}
use Rattle.formula.specs.Tables.{most_nodes, most_options, node_at, node_count}
use Rattle.formula.specs.declared.node.Kind.{Kind}
use Rattle.formula.specs.declared.node.Kind.TheVariants as kind
use Rattle.formula.specs.declared.node.Node.{Node}
use Rattle.clausal.specs.Clauses.{Clause}
use Rattle.clausal.specs.Totals.{clause_ceiling}
use Rattle.walk.specs.Inner.Lists.{signed, pair_in, seen_list}
use Rattle.walk.specs.declared.step.Step.TheVariants.{Nothing, Literal, Left, Right, Both}
use Rattle.walk.specs.declared.step.Step.{Step}
use Rattle.walk.specs.declared.step.Way.{Way}

-- clause k of the list of node n for a sign
abbrev pub way : ℕ → Bool → ℕ → Way
way n sign k = record { node = n; sign = sign; k = k }

-- how many clauses a child's list has, as the arrays tell
abbrev pub count_in : List (List ℕ) → List ℕ → ℕ → Bool → ℕ
count_in cs helpers n sign = cond (eqb (get_or helpers n 0) 0) (signed sign (pair_in cs n)) 1

module _ (cs : List (List ℕ)) (helpers : List ℕ) where
  -- R4.7: the step to clause k of one list followed by another
  abbrev pub cat_step : ℕ → Bool → ℕ → Bool → ℕ → Step
  cat_step a x b y k =
      cond (ltb k (count_in cs helpers a x)) (Left (way a x k)) (Right (way b y (k - count_in cs helpers a x)))

  -- R4.8: the step to clause k of a join
  abbrev pub join_step : ℕ → Bool → ℕ → Bool → ℕ → Step
  join_step a x b y k =
      cond (eqb (count_in cs helpers b y) 0) Nothing
      (Both (way a x (k / count_in cs helpers b y)) (way b y (k % count_in cs helpers b y)))

  -- R4.16: the step to clause k of two joins, one behind the other
  abbrev pub joins_step : ℕ → ℕ → Bool → ℕ → Step
  joins_step a b sign k =
      cond (ltb k (count_in cs helpers a false * count_in cs helpers b sign))
      (join_step a false b sign k)
      (cond sign
      (join_step b false a true (k - count_in cs helpers a false * count_in cs helpers b sign))
      (join_step a true b true (k - count_in cs helpers a false * count_in cs helpers b sign)))

-- R4.9 to R4.16: the step to clause k of a node's own list for a sign, by its kind
abbrev pub step_by : Kind → List (List ℕ) → List ℕ → ℕ → ℕ → Bool → ℕ → Step
step_by kind.False cs helpers a b sign k = Nothing
step_by kind.True cs helpers a b sign k = Nothing
step_by kind.Symbol cs helpers a b sign k = Literal a
step_by kind.Not cs helpers a b sign k = Left (way a (not sign) k)
step_by kind.And cs helpers a b sign k = cond sign (cat_step cs helpers a true b true k) (join_step cs helpers a false b false k)
step_by kind.Or cs helpers a b sign k = cond sign (join_step cs helpers a true b true k) (cat_step cs helpers a false b false k)
step_by kind.Implies cs helpers a b sign k = cond sign (join_step cs helpers a false b true k) (cat_step cs helpers a true b false k)
step_by kind.Equivalent cs helpers a b sign k = joins_step cs helpers a b sign k
step_by kind.Unknown cs helpers a b sign k = Nothing

-- the step of the writer: nothing where the literal total says so, else by the kind
abbrev pub lead_step : Node → List (List ℕ) → List (List ℕ) → List ℕ → ℕ → Bool → ℕ → Step
lead_step m cs ls helpers n sign k =
    cond (eqb (signed sign (pair_in ls n)) 0) Nothing (step_by m.kind cs helpers m.a m.b sign k)

-- a node whose children have places in the arrays, and whose symbol is an option
pub record Walkable (m : Node) : Type 0 where
  pub children : Below most_nodes m
  pub symbol : m.kind ≡ kind.Symbol → (0 < m.a) × (m.a ≤ most_options)

-- such a node of a table
pub record Leadable (t : List ℕ) (n : ℕ) : Type 0 where
  pub size : RightLength (length t)
  pub inside : n < node_count t
  pub walkable : Walkable (node_at t n)

module _ (name : ℕ → ℕ) (ns : List Node) where
  -- the clause of a way
  abbrev pub way_clause : Way → Clause
  way_clause w = get_or (seen_list name ns w.node w.sign) w.k []

  -- a child's way: there, in a list below the ceiling
  pub record Lower (n : ℕ) (w : Way) : Type 0 where
    pub before : w.node < n
    pub has : w.k < length (seen_list name ns w.node w.sign)
    pub short : length (seen_list name ns w.node w.sign) < clause_ceiling

  -- what a step says of a clause of node n for a sign
  abbrev pub LeadsTo : ℕ → Bool → Clause → Step → Type 0
  LeadsTo n sign c Nothing = c ≡ []
  LeadsTo n sign c (Literal x) = (0 < x) × (c ≡ record { plain = sign; variable = x } ∷ [])
  LeadsTo n sign c (Left w) = Lower n w × (c ≡ way_clause w)
  LeadsTo n sign c (Right w) = Lower n w × (c ≡ way_clause w)
  LeadsTo n sign c (Both w x) = Lower n w × Lower n x × (c ≡ way_clause w ++ way_clause x)
