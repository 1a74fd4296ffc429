-- A pass between two visits: what is left to do gives the whole choice.
-- Assumes nothing.
use mathlib.Core.Path.{◌≡◌, refl, sym, ap, ◌∙◌, subst}
use mathlib.Core.List.{List}
use Prim.Native.Nat.{ℕ, suc, ◌+◌, ◌-◌, ◌<◌, ◌≤◌}
use native.Mathlib.Omega.{arith}
use lib.Dec.{eqb}
use lib.ListN.{length, get_or, replicate, length-replicate}
use Rattle.answer.specs.Answers.{accepted_with}
use Rattle.formula.specs.Tables.{node_count, nodes_of}
use Rattle.formula.specs.declared.node.Node.{Node}
use Rattle.formula.proofs.Laws.Tables.{length-nodes_of}
use Rattle.marks.specs.Sets.{renamed}
use Rattle.clausal.specs.Clauses.{renamed_below}
use Rattle.clausal.specs.Totals.{total_under}
use Rattle.clausal.specs.Choosing.{Choice, visits_from}
use Rattle.clausal.specs.Calls.{told}
use Rattle.clausal.proofs.Renamed.{below_none}
use Rattle.totals.specs.Inner.Columns.{Ready}
use Rattle.totals.specs.Inner.Sums.{Low}
use Rattle.choose.specs.declared.pass.Way.{Way}
use Rattle.choose.specs.declared.pass.Way.TheVariants.{Adds, Drops}
use Rattle.choose.specs.Inner.Visits.{bare, lowest, turn_of, start_of, pass_of, Passable, Standing, Visitable, Visited}
use Rattle.choose.proofs.Laws.All.{all-size}
use Rattle.choose.proofs.Laws.Visits.{zeros}

-- what a pass begins with has a byte a node, and as many picks as nodes
start-size : (w : Way) (ns : List Node) → length (start_of w ns).chosen ≡ length ns
start-size Drops ns = all-size ns
start-size (Adds allowance) ns = length-replicate {A = ℕ} (length ns) 0

start-counted : (w : Way) (ns : List Node) → (start_of w ns).picks ≡ renamed_below (start_of w ns).chosen (length ns)
start-counted Drops ns = refl
start-counted (Adds allowance) ns =
    sym (below_none (replicate (length ns) 0) (length ns) (λ i h. ap (λ (b : ℕ). eqb b 1) (zeros (length ns) i)))

module _ (t marks : List ℕ) (w : Way) (first : ℕ) (set₀ : List ℕ) where
  abbrev ns : List Node
  ns = nodes_of t

  -- the nodes below i are left
  pub record Passing (i picks sum : ℕ) (s : List ℕ) (cs ls : List (List ℕ)) : Type 0 where
    pub asked : Passable w t marks first set₀
    pub rest : visits_from (turn_of w ns) i (record { picks = picks; chosen = s }) ≡ pass_of w ns
    pub stands : Standing w ns i (record { picks = picks; chosen = s }) sum cs ls
    pub within : i ≤ node_count t

  -- while nodes are put in, none is renamed at first
  pub start-low : Passable w t marks first set₀ → (from : ℕ) → from ≡ lowest w (node_count t) → Low set₀ from
  start-low asked from e = rw e (go w (ap (λ (c : Choice). c.chosen) asked.begins))
    where
      go : (v : Way) → set₀ ≡ (start_of v ns).chosen → Low set₀ (lowest v (node_count t))
      go Drops e j h = absurd (omega arith)
      go (Adds allowance) e j h = ap (λ (l : List ℕ). renamed l j) e ∙ ap (λ (b : ℕ). eqb b 1) (zeros (length ns) j)

  pub start-within : (from : ℕ) → from ≡ lowest w (node_count t) → from ≤ node_count t
  start-within from e = go w e
    where
      go : (v : Way) → from ≡ lowest v (node_count t) → from ≤ node_count t
      go Drops f = omega arith
      go (Adds allowance) f = omega arith

  pub passing_start : (sum : ℕ) (cs ls : List (List ℕ)) → Passable w t marks first set₀ → Ready set₀ ns (node_count t) cs ls
      → sum ≡ total_under bare ns set₀ → Passing (node_count t) first sum set₀ cs ls
  passing_start sum cs ls asked ready e =
      let chosen : set₀ ≡ (start_of w ns).chosen = ap (λ (c : Choice). c.chosen) asked.begins in
      record {
        asked = asked;
        rest =
            ap (visits_from (turn_of w ns) (node_count t)) asked.begins
            ∙ ap (λ (n : ℕ). visits_from (turn_of w ns) n (start_of w ns)) (sym (length-nodes_of t));
        stands = record {
          size = ap length chosen ∙ start-size w ns;
          unvisited = λ j h. ap (λ (l : List ℕ). get_or l j 0) chosen;
          counted =
              ap (λ (c : Choice). c.picks) asked.begins ∙ start-counted w ns
              ∙ ap (λ (l : List ℕ). renamed_below l (length ns)) (sym chosen);
          total = e;
          ready = ready;
        };
        within = omega arith;
      }

  module _ (i picks sum : ℕ) (s : List ℕ) (cs ls : List (List ℕ)) (g : Passing i picks sum s cs ls) where
    pub passing_next : 0 < i → Visitable w t marks (i - 1) picks sum s cs ls
    passing_next h =
        let k : i ≡ i - 1 + 1 = omega arith in
        record {
          marked = g.asked.marked;
          below = g.asked.below;
          inside = omega (arith, g.within);
          stands = subst (λ (j : ℕ). Standing w ns j (record { picks = picks; chosen = s }) sum cs ls) k g.stands;
        }

    pub passing_step : (next after : ℕ) (r : List ℕ) (ds ms : List (List ℕ)) → 0 < i
        → Visited w ns (i - 1) (record { picks = picks; chosen = s }) (record { picks = next; chosen = r }) after ds ms
        → Passing (i - 1) next after r ds ms
    unfolding visits_from
    passing_step next after r ds ms h v =
        let k : i ≡ suc (i - 1) = omega arith in
        let before : Choice = record { picks = picks; chosen = s } in
        record {
          asked = g.asked;
          rest =
              ap (visits_from (turn_of w ns) (i - 1)) v.choice
              ∙ ap (λ (j : ℕ). visits_from (turn_of w ns) j before) (sym k)
              ∙ g.rest;
          stands = v.stands;
          within = omega (arith, g.within);
        }

    pub passing_end : i ≡ 0 → record { answer = accepted_with picks sum; output = s } ≡ told bare ns (pass_of w ns)
    unfolding visits_from
    passing_end e =
        ap (λ (x : ℕ). record { answer = accepted_with picks x; output = s }) g.stands.total
        ∙ ap (λ (j : ℕ). told bare ns (visits_from (turn_of w ns) j (record { picks = picks; chosen = s }))) (sym e)
        ∙ ap (told bare ns) g.rest
