-- A reading on its way through a text: where it started leads to where it is.
-- Assumes nothing.
use mathlib.Core.Path.{◌≡◌, sym, ◌∙◌}
use mathlib.Core.Bool.{true, false, false≢true}
use mathlib.Core.List.{List}
use mathlib.Core.Logic.{◌⊎◌, inl, inr}
use Prim.Native.Nat.{◌≤◌, ◌<◌}
use native.Mathlib.Omega.{arith}
use Prim.Native.Nat.{ℕ}
use lib.ListN.{length}
use Rattle.classes.specs.Inner.Classes.{class_of, is_white}
use Rattle.body.specs.Inner.Table.{is_dead, is_number}
use Rattle.body.specs.declared.phase.Phase.TheVariants.{Between}
use Rattle.body.specs.declared.state.State.{State}
use Rattle.dimacs.specs.Inner.Walks.{next_in, Leads, Over, dead, end}
use Rattle.dimacs.proofs.Laws.Leads.{leads-none, leads_on}

-- the reading is at s, between literals or at the end of the text
pub record OnWay (text : List ℕ) (start s : State) : Type 0 where
  pub leads : Leads text start s
  pub next : (length text ≤ s.place) ⊎ (s.phase ≡ Between)

pub way-start : (text : List ℕ) (s : State) → s.place ≤ length text → s.phase ≡ Between → OnWay text s s
way-start text s h p = record { leads = leads-none text s h; next = inr p }

pub way-phase : {text : List ℕ} {start s : State} → OnWay text start s → s.place < length text → s.phase ≡ Between
way-phase {text} {start} {s} w h = go w.next
  where
    go : (length text ≤ s.place) ⊎ (s.phase ≡ Between) → s.phase ≡ Between
    go (inl n) = absurd (omega arith)
    go (inr e) = e

pub way-more : {text : List ℕ} {start s r : State} → OnWay text start s → Leads text s r → (length text ≤ r.place) ⊎ (r.phase ≡ Between)
    → OnWay text start r
way-more w a n = record { leads = leads_on w.leads a; next = n }

-- what is not dead goes on; and what white space comes behind
pub goes_on : (text : List ℕ) (r : State) → is_dead r.phase ≡ false → Over text r ⊎ (r.phase ≡ Between)
    → (length text ≤ r.place) ⊎ (r.phase ≡ Between)
goes_on text r l (inl (dead e)) = absurd (false≢true (sym l ∙ e))
goes_on text r l (inl (end h)) = inl h
goes_on text r l (inr e) = inr e

pub behind : (text : List ℕ) (r : State) → is_dead r.phase ≡ false → r.place < length text
    → Over text r ⊎ ((is_number r.phase ≡ true) × (is_white (class_of (next_in text r)) ≡ true))
    → (is_number r.phase ≡ true) × (is_white (class_of (next_in text r)) ≡ true)
behind text r l h (inl (dead e)) = absurd (false≢true (sym l ∙ e))
behind text r l h (inl (end n)) = absurd (omega arith)
behind text r l h (inr e) = e
