-- One step into a clause: what may be done, and what is left, for each kind of step, and for a way that waited last. The
-- first literal, after many steps, is in `Firsts`. Assumes nothing.
use mathlib.Core.Path.{◌≡◌, sym, ap, ◌∙◌, subst⁻¹}
use mathlib.Core.Logic.{◌⊎◌}
use mathlib.Core.List.{List, [], ◌∷◌, ◌++◌, append_assoc}
use Prim.Native.Nat.{ℕ, ◌+◌, ◌<◌, ◌≤◌}
use native.Mathlib.Omega.{arith}
use lib.ListN.{length, get_or}
use Rattle.std.specs.Prelude.{Option, Some, None}
use Rattle.formula.specs.Tables.{most_nodes, node_at, nodes_of}
use Rattle.formula.specs.declared.node.Node.{Node}
use Rattle.formula.proofs.Laws.Tables.{length-nodes_of}
use Rattle.clausal.specs.Clauses.{Clause}
use Rattle.walk.specs.Inner.Lists.{names_in, own_at, own_clause, seen_at, seen_clause}
use Rattle.walk.specs.Inner.Packed.{step_of, Packable, Led}
use Rattle.walk.specs.Inner.Steps.{lead_step, Leadable, Lower, LeadsTo}
use Rattle.walk.specs.declared.nodes.Nodes.{Nodes}
use Rattle.walk.specs.declared.step.Step.TheVariants.{Left, Right}
use Rattle.walk.specs.declared.step.Step.{Step}
use Rattle.walk.specs.declared.step.Way.{Way}
use Rattle.walk.proofs.Laws.Leads.{walkable, leads, one-child}
use Rattle.walk.proofs.Laws.Writes.{seen-own, seen-helper}
use Rattle.origin.specs.Inner.Ways.{Pushed, waiting_of, weight, load_of, WayRight, Waiting, Goable, Openable, as_literal, Opened}
use Rattle.origin.specs.declared.literal.Literal.{Literal}
use Rattle.origin.specs.declared.literal.Ways.{Ways}
use Rattle.origin.proofs.Laws.Ways.{weight-some, weight-lower, clause_pushed, load_pushed, waiting_pushed}

module _ (x : Nodes) where
  abbrev name : ℕ → ℕ
  name = names_in x.helpers.now

  abbrev ns : List Node
  ns = nodes_of x.table.now

  -- a step into a node's own list
  module _ (ways : Ways) (w : Way) (o : Openable x ways w) where
    abbrev clause : Clause
    clause = own_clause x w

    abbrev rest : Clause
    rest = waiting_of x ways

    abbrev most : ℕ
    most = weight w.node + load_of ways

    pub open-lead : Leadable x.table.now w.node
    open-lead = record {
      size = o.start.writable.right.size;
      inside = o.start.inside;
      walkable = walkable x o.start.writable w.node o.start.inside;
    }

    -- what the step of a number says
    pub open-leads : (step : Step) (code : ℕ) → step ≡ step_of code
        → Led (lead_step (node_at x.table.now w.node) x.columns.now.clauses x.columns.now.literals x.helpers.now w.node w.sign w.k) code
        → LeadsTo name ns w.node w.sign clause step
    open-leads step code e f = leads x o.start.writable w.node o.start.inside w.sign w.k step o.start.has o.start.short (e ∙ f.back)

    pub open-child : (step : Step) (code : ℕ) (v : Way) → (step ≡ Left v) ⊎ (step ≡ Right v) → step ≡ step_of code
        → Led (lead_step (node_at x.table.now w.node) x.columns.now.clauses x.columns.now.literals x.helpers.now w.node w.sign w.k) code
        → Lower name ns w.node v × (clause ≡ seen_clause x v)
    open-child step code v s e f = one-child name ns w.node w.sign clause step v s (open-leads step code e f)

    -- a lower way may wait
    pub lower_packable : (y : Way) → Lower name ns w.node y → Packable y
    lower_packable y l = record { node = omega (arith, l.before, o.room); k = omega (arith, l.has, l.short) }

    lower-right : (y : Way) (i : ℕ) → Lower name ns w.node y → i ≤ ways.depth + 1 → WayRight x i y
    lower-right y i l h = record {
      room = omega (arith, l.before, o.room);
      inside = omega (arith, l.before, o.start.inside, length-nodes_of x.table.now);
      has = l.has;
      short = l.short;
    }

    pub open-nothing : clause ≡ [] → Opened x (clause ++ rest) most None ways
    open-nothing e = record {
      waiting = o.waiting;
      less = omega (arith, weight-some w.node);
      clause = ap (λ (c : Clause). c ++ rest) e;
    }

    pub open-literal : (l : Literal) → (0 < l.variable) × (clause ≡ as_literal l ∷ []) → Opened x (clause ++ rest) most (Some l) ways
    open-literal l e = record {
      waiting = o.waiting;
      less = omega (arith, weight-some w.node);
      clause = (e.0, ap (λ (c : Clause). c ++ rest) e.1);
    }

    -- one way more
    module _ (y : Way) (l : Lower name ns w.node y) (middle : Ways) (p : Pushed y ways middle) where
      node : y.node < most_nodes
      node = (lower_packable y l).node

      place : ways.depth < length ways.held
      place = omega (arith, o.room, o.waiting.shape.size)

      waits : Waiting x middle
      waits =
          waiting_pushed y ways middle node place p x (omega (arith, o.room)) o.waiting
          (lower-right y ways.depth l (omega arith))

      pub open-one : clause ≡ seen_clause x y → Opened x (clause ++ rest) most None middle
      open-one e = record {
        waiting = waits;
        less = omega (arith, load_pushed y ways middle node place p, weight-lower y.node w.node l.before, weight-some y.node);
        clause = ap (λ (c : Clause). c ++ rest) e ∙ sym (clause_pushed y ways middle node place p x);
      }

      -- and another
      module _ (z : Way) (m : Lower name ns w.node z) where
        pub open-room : middle.depth < 1_024
        open-room = omega (arith, p.place, m.before, o.room)

        pub open-both : (after : Ways) → Pushed z middle after → clause ≡ seen_clause x z ++ seen_clause x y
            → Opened x (clause ++ rest) most None after
        open-both after q e =
            let low = (lower_packable z m).node in
            let top : middle.depth < length middle.held = omega (arith, open-room, waits.shape.size) in
            record {
              waiting = waiting_pushed z middle after low top q x open-room waits (lower-right z middle.depth m (omega (arith, p.place)));
              less = omega (
                arith,
                load_pushed y ways middle node place p,
                load_pushed z middle after low top q,
                weight-lower y.node w.node l.before,
                weight-lower z.node w.node m.before,
                weight-some w.node,
              );
              clause =
                  ap (λ (c : Clause). c ++ rest) e
                  ∙ append_assoc (seen_clause x z) (seen_clause x y) rest
                  ∙ ap (λ (c : Clause). seen_clause x z ++ c) (sym (clause_pushed y ways middle node place p x))
                  ∙ sym (clause_pushed z middle after low top q x);
            }

  -- a way that waited last
  module _ (ways : Ways) (w : Way) (g : Goable x ways w) where
    -- the literal of a helper
    pub gone-helper : (l : Literal) → ¬ (name w.node ≡ 0) → l ≡ record { plain = w.sign; variable = name w.node }
        → Opened x (seen_clause x w ++ waiting_of x ways) (weight w.node + load_of ways) (Some l) ways
    gone-helper l h e = record {
      waiting = g.waiting;
      less = omega (arith, weight-some w.node);
      clause = (
        omega (arith, h, ap (λ (k : Literal). k.variable) e),
        ap (λ (c : Clause). c ++ waiting_of x ways)
            (seen-helper name ns w.node w.sign w.k h g.right.has ∙ ap (λ (k : Literal). as_literal k ∷ []) (sym e)),
      );
    }

    -- the node's own list
    module _ (h : name w.node ≡ 0) where
      lists : seen_at x w.node w.sign ≡ own_at x w.node w.sign
      lists = seen-own name ns w.node w.sign h

      pub gone_openable : Openable x ways w
      gone_openable = record {
        start = record {
          writable = g.waiting.writable;
          inside = omega (arith, g.right.inside, length-nodes_of x.table.now);
          has = omega (arith, g.right.has, ap length lists);
          short = omega (arith, g.right.short, ap length lists);
        };
        waiting = g.waiting;
        room = g.right.room;
      }

      pub gone_opened : (f : Option Literal) (after : Ways)
          → Opened x (own_clause x w ++ waiting_of x ways) (weight w.node + load_of ways) f after
          → Opened x (seen_clause x w ++ waiting_of x ways) (weight w.node + load_of ways) f after
      gone_opened f after =
          subst⁻¹ (λ (list : List Clause). Opened x (get_or list w.k [] ++ waiting_of x ways) (weight w.node + load_of ways) f after) lists
