-- The place of the reader behind a header: each byte goes one place on, or is the end, and what is dead stays.
-- Assumes nothing.
use mathlib.Core.Path.{◌≡◌, refl, sym, ap, ◌∙◌}
use mathlib.Core.Bool.{Bool, true, false, cond, false≢true}
use Prim.Native.Nat.{ℕ, ◌+◌, ◌-◌}
use lib.Dec.{eqb, ltb}
use Rattle.text.specs.Inner.Numbers.{grown_of}
use Rattle.std.specs.Prelude.{Option, Some, None}
use Rattle.header.proofs.Laws.Readers.{Placed}
use Rattle.clausebytes.specs.Words.{most_literals}
use Rattle.body.specs.Inner.Table.{sort_of, act_of, Act, Die, Go, Close, Begin, Turn, Lead, Grow, EndPlain, EndNegated}
use Rattle.body.specs.Inner.States.{dead_of, taken_of, open_of, begun_of, move_of, step_of}
use Rattle.body.specs.declared.phase.Phase.{Phase}
use Rattle.body.specs.declared.phase.Phase.TheVariants.{Between, Closed, Sign, Plain, Negated, Dead}
use Rattle.body.specs.declared.state.State.{State}

-- which states are live
abbrev pub alive : Phase → Bool
alive Between = true
alive Closed = true
alive Sign = true
alive Plain = true
alive Negated = true
alive Dead = false

abbrev pub live_state : State → Bool
live_state s = alive s.phase

-- a byte goes one place on, or is the end
data Moved (s : State) : State → Type 0 where
  on : {r : State} → live_state r ≡ true → r.place ≡ s.place + 1 → Moved s r
  off : Moved s (dead_of s)

module _ (s : State) where
  either : (b : Bool) (x y : State) → Moved s x → Moved s y → Moved s (cond b x y)
  either true x y m n = m
  either false x y m n = n

  opened : (p : Phase) (x : ℕ) → alive p ≡ true → Moved s (open_of s p x)
  opened p x h =
      either (ltb s.clauses s.declared) _ (dead_of s) (either (ltb s.literals most_literals) _ (dead_of s) (on h refl) off) off

  taken : (p : Phase) → alive p ≡ true → (z : Option ℕ) → Moved s (taken_of s p z)
  taken p h None = off
  taken p h (Some x) = on h refl

  begun : (z : Option ℕ) → Moved s (begun_of s z)
  begun None = off
  begun (Some x) = opened Plain x refl

  moved : (a : Act) (d : ℕ) → live_state s ≡ true → Moved s (move_of a s d)
  moved Die d h = off
  moved Go d h = on refl refl
  moved Close d h = either (ltb s.clauses s.declared) _ (dead_of s) (on refl refl) off
  moved Begin d h = begun (grown_of false 0 d s.variables)
  moved Turn d h = either (eqb s.variables 0) (dead_of s) _ off (opened Sign 0 refl)
  moved Lead d h = taken Negated refl (grown_of false 0 d s.variables)
  moved Grow d h = taken s.phase h (grown_of true s.value d s.variables)
  moved EndPlain d h = on refl refl
  moved EndNegated d h = on refl refl

-- what is dead stays as it is
pub dead-only : (p : Phase) → alive p ≡ false → p ≡ Dead
dead-only Between e = absurd (false≢true (sym e))
dead-only Closed e = absurd (false≢true (sym e))
dead-only Sign e = absurd (false≢true (sym e))
dead-only Plain e = absurd (false≢true (sym e))
dead-only Negated e = absurd (false≢true (sym e))
dead-only Dead e = refl

pub dead-step : (s : State) (b : ℕ) → live_state s ≡ false → step_of s b ≡ dead_of s
dead-step s b e = ap (λ (p : Phase). move_of (act_of p (sort_of b)) s (b - 48)) (dead-only s.phase e)

-- by its moves
by_move : {A : Type 0} (s : State) (b : ℕ) → (Moved s (step_of s b) → A) → (step_of s b ≡ dead_of s → A) → A
by_move {A} s b moves dies = go (live_state s) refl
  where
    go : (c : Bool) → live_state s ≡ c → A
    go true e = moves (moved s (act_of s.phase (sort_of b)) (b - 48) e)
    go false e = dies (dead-step s b e)

on_place : {s r : State} → Moved s r → live_state r ≡ true → r.place ≡ s.place + 1
on_place (on h e) l = e
on_place off l = absurd (false≢true l)

off_place : {s r : State} → Moved s r → live_state r ≡ false → r.place ≡ s.place
off_place (on h e) l = absurd (false≢true (sym l ∙ h))
off_place off l = refl

pub body_placed : Placed step_of live_state (λ s. false) (λ s. s.place)
body_placed = record {
  on = λ s b n l. by_move s b (λ m. on_place m l) (λ d. absurd (false≢true (sym (ap live_state d) ∙ l)));
  off = λ s b l. by_move s b (λ m. off_place m l) (λ d. ap (λ (q : State). q.place) d);
}
