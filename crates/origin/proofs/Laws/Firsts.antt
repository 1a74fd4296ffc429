-- From steps to the first literal of a clause: it is found, or a later step finds it, or no way waits.
-- Assumes nothing.
use mathlib.Core.Path.{◌≡◌, sym, ap, ◌∙◌, subst⁻¹}
use mathlib.Core.List.{◌++◌, append-nil}
use Prim.Native.Nat.{ℕ, ◌+◌, ◌<◌}
use native.Mathlib.Omega.{arith}
use Rattle.std.specs.Prelude.{Option, Some, None}
use Rattle.clausal.specs.Clauses.{Clause}
use Rattle.formula.specs.Tables.{nodes_of}
use Rattle.walk.specs.Inner.Lists.{names_in, seen_clause}
use Rattle.walk.specs.declared.nodes.Nodes.{Nodes}
use Rattle.walk.specs.declared.step.Way.{Way}
use Rattle.origin.specs.Inner.Ways.{blank, Popped, waiting_clause, waiting_of, weight, load_of, Waiting}
use Rattle.origin.specs.Inner.Ways.{Opened, Parts, FirstOf}
use Rattle.origin.specs.declared.literal.Literal.{Literal}
use Rattle.origin.specs.declared.literal.Ways.{Ways}
use Rattle.origin.proofs.Laws.Ways.{clause_popped, load_popped}

module _ (x : Nodes) where
  -- a literal was found, in a clause that is equal to the one that is walked
  pub first_found : (b c : Clause) (most : ℕ) (l : Literal) (w : Ways) → b ≡ c → Opened x c most (Some l) w → FirstOf x b (Some l) w
  first_found b c most l w e o = record { waiting = o.waiting; clause = (o.clause.0, e ∙ o.clause.1) }

  -- nothing waits behind it
  module _ (c : Clause) (ways : Ways) (e : ways ≡ blank) where
    pub start-alone : c ≡ c ++ waiting_of x ways
    unfolding waiting_clause
    start-alone = subst⁻¹ (λ (v : Ways). c ≡ c ++ waiting_of x v) e (sym (append-nil c))

  pub first_as : (b c : Clause) (f : Option Literal) (w : Ways) → b ≡ c → FirstOf x c f w → FirstOf x b f w
  first_as b c f w e o = record { waiting = o.waiting; clause = begun f o.clause }
    where
      begun : (f : Option Literal) → Parts c f (waiting_of x w) → Parts b f (waiting_of x w)
      begun None g = e ∙ g
      begun (Some l) g = (g.0, e ∙ g.1)

  -- a walk through a clause, which is what waited at first: the last way was taken
  module _ (c : Clause) (before middle : Ways) (w : Way) (e : c ≡ waiting_of x before) (p : Popped before (Some w) middle) where
    pub next_found : (l : Literal) (after : Ways)
        → Opened x (seen_clause x w ++ waiting_of x middle) (weight w.node + load_of middle) (Some l) after → FirstOf x c (Some l) after
    next_found l after o = first_found c _ _ l after (e ∙ clause_popped w before middle p x) o

    module _ (after : Ways) (o : Opened x (seen_clause x w ++ waiting_of x middle) (weight w.node + load_of middle) None after) where
      pub next_same : c ≡ waiting_of x after
      next_same = e ∙ clause_popped w before middle p x ∙ o.clause

      pub next_less : load_of after < load_of before
      next_less = omega (arith, o.less, load_popped w before middle p)

  -- no way waits
  pub first-none : (c : Clause) (before after : Ways) → Waiting x before → c ≡ waiting_of x before → Popped before None after
      → FirstOf x c None after
  unfolding waiting_clause
  first-none c before after waits e p = record {
    waiting = subst⁻¹ (Waiting x) p.1 waits;
    clause = e ∙ ap (waiting_clause (names_in x.helpers.now) (nodes_of x.table.now) before.held) p.0;
  }
