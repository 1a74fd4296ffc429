-- The writer's step leads to clause k of a node's own list: for every kind and both signs.
-- Assumes nothing.
use mathlib.Core.Path.{◌≡◌, refl, sym, ap, ◌∙◌, subst, subst⁻¹}
use mathlib.Core.Logic.{◌⊎◌, inl, inr}
use mathlib.Core.Bool.{Bool, true, false, cond}
use mathlib.Core.List.{List, [], ◌∷◌}
use Prim.Native.Nat.{ℕ, zero, suc, ◌<◌}
use native.Mathlib.Omega.{arith}
use lib.Dec.{eqb}
use lib.ListN.{length, get_or}
use borrow.Author.Tests.{eqb-true}
use Rattle.laws.specs.Numbers.{cap}
use Rattle.formula.specs.Inner.Right.{FieldBelow}
use Rattle.formula.specs.Tables.{most_nodes, node_at, node_count, node_in, nodes_of, use_of_a, use_of_b}
use Rattle.formula.specs.declared.node.Kind.{Kind}
use Rattle.formula.specs.declared.node.Kind.TheVariants.{False, True, Symbol, Not, And, Or, Implies, Equivalent, Unknown}
use Rattle.formula.specs.declared.node.Node.{Node}
use Rattle.formula.specs.declared.node.Use.{Use}
use Rattle.formula.specs.declared.node.Use.TheVariants as held
use Rattle.formula.proofs.Laws.Tables.{length-nodes_of, node_in-nodes_of}
use Rattle.clausal.specs.Clauses.{Row, clauses, row_by, Clause, row_of}
use Rattle.clausal.specs.Totals.{clause_ceiling}
use Rattle.clausal.proofs.Rows.{seen_of, row_at}
use Rattle.walk.specs.Inner.Lists.{signed, pair_in, names_in, own_list, seen_list}
use Rattle.walk.specs.Inner.Steps.{count_in, step_by, lead_step, LeadsTo, Lower, way_clause, Walkable}
use Rattle.walk.specs.Inner.Written.{Writable}
use Rattle.walk.specs.declared.nodes.Nodes.{Nodes}
use Rattle.walk.specs.declared.step.Step.TheVariants.{Nothing, Left, Right}
use Rattle.walk.specs.declared.step.Step.{Step}
use Rattle.walk.specs.declared.step.Way.{Way}
use Rattle.walk.proofs.Laws.Counts.{no_literals_lem, seen-count, literals_are}
use Rattle.walk.proofs.Laws.Found.{cat-leads, join-leads, joins_leads}

-- the only clause of a list of one
pub only : (c : Clause) (k : ℕ) → k < 1 → get_or (c ∷ []) k [] ≡ c
only c zero h = refl
only c (suc k) h = absurd (omega arith)

empty-only : (k : ℕ) → ◌≡◌ {A = Clause} (get_or ([] ∷ []) k []) []
empty-only zero = refl
empty-only (suc k) = refl

-- a step to one child, on either side
pub one-child : (name : ℕ → ℕ) (ns : List Node) (n : ℕ) (sign : Bool) (c : Clause) (step : Step) (w : Way)
    → (step ≡ Left w) ⊎ (step ≡ Right w) → LeadsTo name ns n sign c step → Lower name ns n w × (c ≡ way_clause name ns w)
one-child name ns n sign c step w (inl e) l = subst (LeadsTo name ns n sign c) e l
one-child name ns n sign c step w (inr e) l = subst (LeadsTo name ns n sign c) e l

module _ (ns : List Node) (cs : List (List ℕ)) (helpers : List ℕ)
    (counts : (n : ℕ) (sign : Bool) → count_in cs helpers n sign ≡ cap clause_ceiling (length (seen_list (names_in helpers) ns n sign)))
    (n : ℕ) where
  -- the rule of a node at its children, as they are seen
  abbrev ruled : Kind → ℕ → ℕ → Row (List Clause)
  ruled kind a b = row_by clauses kind a (seen_of clauses (names_in helpers) ns a) (seen_of clauses (names_in helpers) ns b)

  kind_leads : (kind : Kind) (a b : ℕ) (sign : Bool) (k : ℕ) → FieldBelow n (use_of_a kind) a → FieldBelow n (use_of_b kind) b
      → (kind ≡ Symbol → 0 < a) → k < length (signed sign (ruled kind a b)) → length (signed sign (ruled kind a b)) < clause_ceiling
      → LeadsTo (names_in helpers) ns n sign (get_or (signed sign (ruled kind a b)) k []) (step_by kind cs helpers a b sign k)
  kind_leads False a b true k ha hb s h l = empty-only k
  kind_leads False a b false k ha hb s h l = refl
  kind_leads True a b true k ha hb s h l = refl
  kind_leads True a b false k ha hb s h l = empty-only k
  kind_leads Symbol a b true k ha hb s h l = (s refl, only (record { plain = true; variable = a } ∷ []) k h)
  kind_leads Symbol a b false k ha hb s h l = (s refl, only (record { plain = false; variable = a } ∷ []) k h)
  kind_leads Not a b true k ha hb s h l = (record { before = ha; has = h; short = l }, refl)
  kind_leads Not a b false k ha hb s h l = (record { before = ha; has = h; short = l }, refl)
  kind_leads And a b true k ha hb s h l = cat-leads ns cs helpers counts n true a true b true k ha hb h l
  kind_leads And a b false k ha hb s h l = join-leads ns cs helpers counts n false a false b false k ha hb h l
  kind_leads Or a b true k ha hb s h l = join-leads ns cs helpers counts n true a true b true k ha hb h l
  kind_leads Or a b false k ha hb s h l = cat-leads ns cs helpers counts n false a false b false k ha hb h l
  kind_leads Implies a b true k ha hb s h l = join-leads ns cs helpers counts n true a false b true k ha hb h l
  kind_leads Implies a b false k ha hb s h l = cat-leads ns cs helpers counts n false a true b false k ha hb h l
  kind_leads Equivalent a b true k ha hb s h l = joins_leads ns cs helpers counts n true a b true k ha hb h l
  kind_leads Equivalent a b false k ha hb s h l = joins_leads ns cs helpers counts n false a b false k ha hb h l
  kind_leads Unknown a b true k ha hb s h l = refl
  kind_leads Unknown a b false k ha hb s h l = refl

module _ (x : Nodes) (ok : Writable x) (n : ℕ) (inside : n < node_count x.table.now) where
  abbrev t : List ℕ
  t = x.table.now

  abbrev cs : List (List ℕ)
  cs = x.columns.now.clauses

  abbrev ls : List (List ℕ)
  ls = x.columns.now.literals

  abbrev helpers : List ℕ
  helpers = x.helpers.now

  abbrev ns : List Node
  ns = nodes_of t

  node-is : node_in ns n ≡ node_at t n
  node-is = node_in-nodes_of t n inside

  -- the writer may walk the node
  pub walkable : Walkable (node_at t n)
  walkable = subst Walkable node-is (record {
    children = (
      up (use_of_a (node_in ns n).kind) _ (ok.right.formed.below n).0,
      up (use_of_b (node_in ns n).kind) _
          (ok.right.formed.below n).1,
    );
    symbol = λ e. let r = ok.right.formed.symbols n e in (r.0, omega (arith, r.1, ok.right.options));
  })
    where
      up : (use-of : Use) (x : ℕ) → FieldBelow n use-of x → FieldBelow most_nodes use-of x
      up held.Unused x h = tt
      up held.Child x h = omega (arith, inside, ok.right.size.most)
      up held.Symbol x h = tt

  -- the step leads to the clause
  pub leads : (sign : Bool) (k : ℕ) (step : Step) → k < length (own_list (names_in helpers) ns n sign)
      → length (own_list (names_in helpers) ns n sign) < clause_ceiling
      → step ≡ lead_step (node_at t n) cs ls helpers n sign k
      → LeadsTo (names_in helpers) ns n sign (get_or (own_list (names_in helpers) ns n sign) k []) step
  leads sign k step h l e =
      subst⁻¹ (LeadsTo (names_in helpers) ns n sign (get_or (own_list (names_in helpers) ns n sign) k []))
      (e ∙ ap (λ (m : Node). lead_step m cs ls helpers n sign k) (sym node-is)) (go (eqb (signed sign (pair_in ls n)) 0) refl)
    where
      rule : row_of clauses (names_in helpers) ns n ≡ ruled ns cs helpers (seen-count ns cs ls helpers ok.rows) n (node_in ns n).kind
          (node_in ns n).a (node_in ns n).b
      rule = row_at clauses (names_in helpers) ns n (omega (arith, inside, length-nodes_of t)) (ok.right.formed.below n)

      go : (b : Bool) → eqb (signed sign (pair_in ls n)) 0 ≡ b
          → LeadsTo (names_in helpers) ns n sign (get_or (own_list (names_in helpers) ns n sign) k [])
          (cond b Nothing (step_by (node_in ns n).kind cs helpers (node_in ns n).a (node_in ns n).b sign k))
      go true f = no_literals_lem (own_list (names_in helpers) ns n sign) k (literals_are ns cs ls helpers ok.rows n sign l (eqb-true _ _ f))
      go false f =
          subst⁻¹ (λ (r : Row (List Clause)). LeadsTo (names_in helpers) ns n sign (get_or (signed sign r) k [])
          (step_by (node_in ns n).kind cs helpers (node_in ns n).a (node_in ns n).b sign k)) rule
          (kind_leads ns cs helpers (seen-count ns cs ls helpers ok.rows) n (node_in ns n).kind (node_in ns n).a (node_in ns n).b sign k
          (ok.right.formed.below n).0 (ok.right.formed.below n).1 (λ q. (ok.right.formed.symbols n q).0)
          (subst (λ (r : Row (List Clause)). k < length (signed sign r)) rule h)
          (subst (λ (r : Row (List Clause)). length (signed sign r) < clause_ceiling) rule l))
