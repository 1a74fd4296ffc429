-- A text leads from state to state: one byte on, one way behind another, and its end. What is dead stays.
-- Assumes nothing.
use mathlib.Core.Path.{◌≡◌, refl, sym, ap, ◌∙◌}
use mathlib.Core.Bool.{Bool, true, false, false≢true}
use mathlib.Core.List.{List, [], ◌∷◌}
use Prim.Native.Nat.{ℕ, ◌+◌, ◌-◌, ◌≤◌, ◌<◌}
use native.Mathlib.Omega.{arith}
use lib.ListN.{length, drop}
use Rattle.laws.specs.Automata.{run}
use Rattle.laws.proofs.Automata.{run-next, run_end}
use Rattle.body.specs.Inner.Table.{Act, sort_of, act_of, is_dead}
use Rattle.body.specs.Inner.States.{move_of, step_of}
use Rattle.body.specs.declared.phase.Phase.{Phase}
use Rattle.body.specs.declared.phase.Phase.TheVariants.{Between, Closed, Sign, Plain, Negated, Dead}
use Rattle.body.specs.declared.state.State.{State}
use Rattle.body.proofs.Laws.Places.{alive, live_state, dead-only, dead-step, body_placed}
use Rattle.dimacs.specs.Inner.Walks.{state_from, next_in, Leads, Over, dead, end}

-- what is dead stays as it is
dead-still : (s : State) (b : ℕ) → live_state s ≡ false → step_of s b ≡ s
dead-still s b e =
    dead-step s b e
    ∙ (λ i. record {
      phase = sym (dead-only s.phase e) i;
      place = s.place;
      value = s.value;
      variables = s.variables;
      declared = s.declared;
      clauses = s.clauses;
      literals = s.literals;
    })

pub run-dead : (s : State) (t : List ℕ) → live_state s ≡ false → run step_of s t ≡ s
run-dead s [] e = refl
run-dead s (b ∷ t) e = ap (λ (r : State). run step_of r t) (dead-still s b e) ∙ run-dead s t e

pub dead-live : (p : Phase) → is_dead p ≡ true → alive p ≡ false
dead-live Between e = absurd (false≢true e)
dead-live Closed e = absurd (false≢true e)
dead-live Sign e = absurd (false≢true e)
dead-live Plain e = absurd (false≢true e)
dead-live Negated e = absurd (false≢true e)
dead-live Dead e = refl

-- one byte on
module _ (text : List ℕ) (s r : State) (h : s.place < length text) (e : r ≡ step_of s (next_in text s)) where
  next-state : state_from s text s.place ≡ state_from r text (s.place + 1)
  next-state = sym (run-next step_of s r text s.place h e)

  by_place : (b : Bool) → live_state r ≡ b → Leads text s r
  by_place true l =
      let q : r.place ≡ s.place + 1 =
      ap (λ (x : State). x.place) e ∙ body_placed.on s (next_in text s) refl (sym (ap live_state e) ∙ l) in
      record { state = next-state ∙ ap (state_from r text) (sym q); onward = omega arith; within = omega arith }
  by_place false l =
      let q : r.place ≡ s.place =
      ap (λ (x : State). x.place) e ∙ body_placed.off s (next_in text s) (sym (ap live_state e) ∙ l) in
      record {
        state = next-state ∙ run-dead r (drop (s.place + 1) text) l ∙ sym (run-dead r (drop r.place text) l);
        onward = omega arith;
        within = omega arith;
      }

  leads-step : Leads text s r
  leads-step = by_place (live_state r) refl

-- where it is not dead, the place is one more
not_dead : (p : Phase) → is_dead p ≡ false → alive p ≡ true
not_dead Between e = refl
not_dead Closed e = refl
not_dead Sign e = refl
not_dead Plain e = refl
not_dead Negated e = refl
not_dead Dead e = absurd (false≢true (sym e))

-- a byte with a known act, which is done
step_by : (s r : State) (b : ℕ) (a : Act) → act_of s.phase (sort_of b) ≡ a → r ≡ move_of a s (b - 48) → r ≡ step_of s b
step_by s r b a e m = m ∙ sym (ap (λ (x : Act). move_of x s (b - 48)) e)

module _ (text : List ℕ) (s r : State) (a : Act) where
  pub leads_by : s.place < length text → act_of s.phase (sort_of (next_in text s)) ≡ a → r ≡ move_of a s (next_in text s - 48)
      → Leads text s r
  leads_by h e m = leads-step text s r h (step_by s r (next_in text s) a e m)

  pub further_by : act_of s.phase (sort_of (next_in text s)) ≡ a → r ≡ move_of a s (next_in text s - 48) → is_dead r.phase ≡ false
      → r.place ≡ s.place + 1
  further_by e m l =
      let q = step_by s r (next_in text s) a e m in
      ap (λ (x : State). x.place) q ∙ body_placed.on s (next_in text s) refl (sym (ap live_state q) ∙ not_dead r.phase l)

-- one way behind another
pub leads_on : {text : List ℕ} {s m r : State} → Leads text s m → Leads text m r → Leads text s r
leads_on a b = record { state = a.state ∙ b.state; onward = omega (arith, a.onward, b.onward); within = b.within }

pub leads-none : (text : List ℕ) (s : State) → s.place ≤ length text → Leads text s s
leads-none text s h = record { state = refl; onward = omega arith; within = h }

-- where it is over, the way is the whole
over-state : {text : List ℕ} {r : State} → Over text r → state_from r text r.place ≡ r
over-state {text} {r} (dead e) = run-dead r (drop r.place text) (dead-live r.phase e)
over-state {text} {r} (end h) = run_end step_of r text r.place h

pub leads-over : {text : List ℕ} {s r : State} → Leads text s r → Over text r → r ≡ state_from s text s.place
leads-over a o = sym (a.state ∙ over-state o)
