-- Literals and zeros, byte by byte: in which phase the reader is behind each byte of one, and what reading one gives in each of its cases.
-- Assumes nothing.
use mathlib.Core.Path.{◌≡◌, refl, sym, ap, ◌∙◌, subst⁻¹}
use mathlib.Core.Bool.{Bool, true, false, cond, false≢true, ◌&&◌}
use mathlib.Core.List.{List}
use mathlib.Core.Logic.{◌⊎◌, inl, inr}
use Prim.Native.Nat.{ℕ, ◌+◌, ◌*◌, ◌-◌, ◌≤◌, ◌<◌}
use native.Mathlib.Omega.{arith}
use lib.Dec.{eqb, ltb}
use lib.ListN.{length}
use Rattle.text.specs.Inner.Numbers.{grown_of}
use Rattle.std.specs.Prelude.{Option, Some, None}
use Rattle.classes.specs.Inner.Classes.{class_of, code, is_white, is_digit}
use Rattle.clausebytes.specs.Words.{most_literals}
use Rattle.body.specs.Inner.Table.{Sort, Nought, Digit, Minus, White, Act, sort_of, act_of, is_dead, is_number}
use Rattle.body.specs.Inner.Table as act
use Rattle.body.specs.Inner.States.{to_of, dead_of, taken_of, close_of, open_of, begun_of, turn_of, move_of}
use Rattle.body.specs.declared.phase.Phase.{Phase}
use Rattle.body.specs.declared.phase.Phase.TheVariants.{Between, Closed, Sign, Plain, Negated}
use Rattle.body.specs.declared.state.State.{State}
use Rattle.dimacs.specs.Inner.Walks.{next_in, Leads, Over, dead, end, Zeroed, Begun, Ended, Spelt}
use Rattle.dimacs.proofs.Laws.Bytes.{white_sort, nought_sort, digit_sort, minus_sort, between-dies, closed-dies, sign-dies}
use Rattle.dimacs.proofs.Laws.Bytes.{number_grows, number-dies, number-ends}
use Rattle.dimacs.proofs.Laws.Leads.{leads_by, leads_on, further_by}

-- the value after a digit, or a wrong number
by_grown : (begun : Bool) (x d most : ℕ) (Q : Option ℕ → Type 0) → Q None → Q (Some (x * 10 + d)) → Q (grown_of begun x d most)
by_grown begun x d most Q wrong is = go (begun && eqb x 0) (ltb most (x * 10 + d))
  where
    go : (a b : Bool) → Q (cond a None (cond b None (Some (x * 10 + d))))
    go true b = wrong
    go false true = wrong
    go false false = is

-- a state that is in a phase, with this read of a literal, unless it is dead
abbrev pub Gives : Phase → ℕ → State → Type 0
Gives p x r = is_dead r.phase ≡ false → (r.phase ≡ p) × (r.value ≡ x)

module _ (s : State) where
  dead-gives : (p : Phase) (x : ℕ) → Gives p x (dead_of s)
  dead-gives p x e = absurd (false≢true (sym e))

  either : (p : Phase) (x : ℕ) (c : Bool) (r : State) → Gives p x r → Gives p x (cond c r (dead_of s))
  either p x true r g = g
  either p x false r g = dead-gives p x

  open_gives : (p : Phase) (x : ℕ) → Gives p x (open_of s p x)
  open_gives p x =
      either p x (ltb s.clauses s.declared) _ (either p x (ltb s.literals most_literals) _ (λ _. (refl, refl)))

  pub close-gives : Gives Closed 0 (close_of s)
  close-gives = either Closed 0 (ltb s.clauses s.declared) _ (λ _. (refl, refl))

  pub turn-gives : Gives Sign 0 (turn_of s)
  turn-gives = go (eqb s.variables 0)
    where
      go : (c : Bool) → Gives Sign 0 (cond c (dead_of s) (open_of s Sign 0))
      go true = dead-gives Sign 0
      go false = open_gives Sign 0

  pub begin-gives : (d : ℕ) → Gives Plain (0 * 10 + d) (move_of act.Begin s d)
  begin-gives d =
      by_grown false 0 d s.variables (λ z. Gives Plain (0 * 10 + d) (begun_of s z)) (dead-gives Plain (0 * 10 + d))
      (open_gives Plain (0 * 10 + d))

  taken-gives : (p : Phase) (begun : Bool) (x d : ℕ) → Gives p (x * 10 + d) (taken_of s p (grown_of begun x d s.variables))
  taken-gives p begun x d =
      by_grown begun x d s.variables (λ z. Gives p (x * 10 + d) (taken_of s p z)) (dead-gives p (x * 10 + d)) (λ _. (refl, refl))

  pub lead-gives : (d : ℕ) → Gives Negated (0 * 10 + d) (move_of act.Lead s d)
  lead-gives d = taken-gives Negated false 0 d

  pub grow-gives : (d : ℕ) → Gives s.phase (s.value * 10 + d) (move_of act.Grow s d)
  grow-gives d = taken-gives s.phase true s.value d

-- the act in a phase, for a byte of a sort and for any byte
pub act_in : (s : State) (b : ℕ) (p : Phase) (k : Sort) → s.phase ≡ p → sort_of b ≡ k → act_of s.phase (sort_of b) ≡ act_of p k
act_in s b p k e f = λ i. act_of (e i) (f i)

pub act_at : (s : State) (b : ℕ) (p : Phase) (a : Act) → s.phase ≡ p → act_of p (sort_of b) ≡ a → act_of s.phase (sort_of b) ≡ a
act_at s b p a e f = ap (λ (x : Phase). act_of x (sort_of b)) e ∙ f

-- a state that is dead; and one of which no text is left
pub dead-is : (s r : State) → r ≡ dead_of s → is_dead r.phase ≡ true
dead-is s r e = ap (λ (x : State). is_dead x.phase) e

-- white space between literals
pub white-leads : (text : List ℕ) (s r : State) → s.place < length text → s.phase ≡ Between → is_white (class_of (next_in text s)) ≡ true
    → r ≡ to_of s Between 0
    → Leads text s r
white-leads text s r h p w q =
    leads_by text s r act.Go h (act_in s (next_in text s) Between White p (white_sort (class_of (next_in text s)) w)) q

-- a zero, at a byte that is one
module _ (text : List ℕ) (s r : State) (h : s.place < length text) (p : s.phase ≡ Between)
    (z : eqb (code (class_of (next_in text s))) 9 ≡ true) (q : r ≡ close_of s) where
  act_zero : act_of s.phase (sort_of (next_in text s)) ≡ act.Close
  act_zero = act_in s (next_in text s) Between Nought p (nought_sort (class_of (next_in text s)) z)

  zero-leads : Leads text s r
  zero-leads = leads_by text s r act.Close h act_zero q

  pub zero-dead : is_dead r.phase ≡ true → Zeroed text s r
  zero-dead e = record { leads = zero-leads; next = inl (dead e); further = λ f. absurd (false≢true (sym f ∙ e)) }

  -- it closed a clause
  module _ (l : is_dead r.phase ≡ false) where
    closed : r.phase ≡ Closed
    closed = (subst⁻¹ (Gives Closed 0) q (close-gives s) l).0

    pub zero-place : r.place ≡ s.place + 1
    zero-place = further_by text s r act.Close act_zero q l

    pub zero-end : length text ≤ r.place → Zeroed text s r
    zero-end e = record { leads = zero-leads; next = inl (end e); further = λ _. omega (arith, zero-place) }

    module _ (x : State) (g : r.place < length text) where
      pub zero-wrong : is_white (class_of (next_in text r)) ≡ false → x ≡ dead_of r → Zeroed text s x
      zero-wrong w e = record {
        leads =
            leads_on zero-leads
            (leads_by text r x act.Die g (act_at r (next_in text r) Closed act.Die closed (closed-dies (class_of (next_in text r)) w)) e);
        next = inl (dead (dead-is r x e));
        further = λ f. absurd (false≢true (sym f ∙ dead-is r x e));
      }

      pub zero-apart : is_white (class_of (next_in text r)) ≡ true → x ≡ to_of r Between 0 → Zeroed text s x
      zero-apart w e = record {
        leads =
            leads_on zero-leads
            (leads_by text r x act.Go g (act_in r (next_in text r) Closed White closed (white_sort (class_of (next_in text r)) w)) e);
        next = inr (ap (λ (y : State). y.phase) e);
        further = λ _. omega (arith, zero-place, ap (λ (y : State). y.place) e);
      }

-- what a first digit gives, in its phase or dead
begun_by : (text : List ℕ) (s r : State) (p : Phase) (x : ℕ) → is_number p ≡ true → Leads text s r → Gives p x r → Begun text s r
begun_by text s r p x n a g = go (is_dead r.phase) refl
  where
    go : (c : Bool) → is_dead r.phase ≡ c → Begun text s r
    go true e = record { leads = a; next = inl (dead e) }
    go false e = record { leads = a; next = inr (ap is_number (g e).0 ∙ n) }

-- a literal, at a byte that is neither white space nor a zero
module _ (text : List ℕ) (s r : State) (h : s.place < length text) (p : s.phase ≡ Between) where
  pub literal-plain : eqb (code (class_of (next_in text s))) 10 ≡ true → r ≡ move_of act.Begin s (next_in text s - 48) → Begun text s r
  literal-plain d q =
      begun_by text s r Plain (0 * 10 + (next_in text s - 48)) refl
      (leads_by text s r act.Begin h (act_in s (next_in text s) Between Digit p (digit_sort (class_of (next_in text s)) d)) q)
      (subst⁻¹ (Gives Plain (0 * 10 + (next_in text s - 48))) q (begin-gives s (next_in text s - 48)))

  pub literal-wrong : is_white (class_of (next_in text s)) ≡ false → eqb (code (class_of (next_in text s))) 9 ≡ false
      → eqb (code (class_of (next_in text s))) 10 ≡ false
      → eqb (code (class_of (next_in text s))) 3 ≡ false
      → r ≡ dead_of s
      → Begun text s r
  literal-wrong w z d m q = record {
    leads =
        leads_by text s r act.Die h
        (act_at s (next_in text s) Between act.Die p (between-dies (class_of (next_in text s)) w z d m)) q;
    next = inl (dead (dead-is s r q));
  }

  -- its `-`
  module _ (m : eqb (code (class_of (next_in text s))) 3 ≡ true) (q : r ≡ turn_of s) where
    minus-leads : Leads text s r
    minus-leads = leads_by text s r act.Turn h (act_in s (next_in text s) Between Minus p (minus_sort (class_of (next_in text s)) m)) q

    pub minus-over : Over text r → Begun text s r
    minus-over o = record { leads = minus-leads; next = inl o }

    -- the byte behind it
    module _ (l : is_dead r.phase ≡ false) (x : State) (g : r.place < length text) where
      signed : r.phase ≡ Sign
      signed = (subst⁻¹ (Gives Sign 0) q (turn-gives s) l).0

      pub minus-wrong : eqb (code (class_of (next_in text r))) 10 ≡ false → x ≡ dead_of r → Begun text s x
      minus-wrong d e = record {
        leads =
            leads_on minus-leads
            (leads_by text r x act.Die g (act_at r (next_in text r) Sign act.Die signed (sign-dies (class_of (next_in text r)) d)) e);
        next = inl (dead (dead-is r x e));
      }

      pub minus-digit : eqb (code (class_of (next_in text r))) 10 ≡ true → x ≡ move_of act.Lead r (next_in text r - 48) → Begun text s x
      minus-digit d e =
          begun_by text s x Negated (0 * 10 + (next_in text r - 48)) refl
          (leads_on minus-leads
          (leads_by text r x act.Lead g (act_in r (next_in text r) Sign Digit signed (digit_sort (class_of (next_in text r)) d)) e))
          (subst⁻¹ (Gives Negated (0 * 10 + (next_in text r - 48))) e (lead-gives r (next_in text r - 48)))

-- a further digit
module _ (text : List ℕ) (s r : State) (h : s.place < length text) (n : is_number s.phase ≡ true)
    (d : is_digit (class_of (next_in text s)) ≡ true) (q : r ≡ move_of act.Grow s (next_in text s - 48)) where
  act_digit : act_of s.phase (sort_of (next_in text s)) ≡ act.Grow
  act_digit = number_grows s.phase n (class_of (next_in text s)) d

  pub digit-leads : Leads text s r
  digit-leads = leads_by text s r act.Grow h act_digit q

  pub digit-place : is_dead r.phase ≡ false → r.place ≡ s.place + 1
  digit-place l = further_by text s r act.Grow act_digit q l

  pub digit-number : is_dead r.phase ≡ false → is_number r.phase ≡ true
  digit-number l =
      let d = next_in text s - 48 in
      ap is_number (subst⁻¹ (Gives s.phase (s.value * 10 + d)) q (grow-gives s d) l).0 ∙ n

-- the byte behind a literal
module _ (text : List ℕ) (s r : State) (h : s.place < length text) (n : is_number s.phase ≡ true) where
  pub end-white : is_white (class_of (next_in text s)) ≡ true → r ≡ to_of s Between 0 → Leads text s r
  end-white w q =
      leads_by text s r (act_of s.phase White) h (ap (act_of s.phase) (white_sort (class_of (next_in text s)) w))
      (q ∙ number-ends s.phase n s (next_in text s - 48))

  pub end-wrong : is_white (class_of (next_in text s)) ≡ false → is_digit (class_of (next_in text s)) ≡ false → r ≡ dead_of s → Leads text s r
  end-wrong w d q = leads_by text s r act.Die h (number-dies s.phase n (class_of (next_in text s)) w d) q

-- a whole literal: its first digit, its further digits, and the byte behind it
begun_over : (text : List ℕ) (s r : State) → Begun text s r → is_number r.phase ≡ false → Over text r
begun_over text s r b f = go b.next
  where
    go : Over text r ⊎ (is_number r.phase ≡ true) → Over text r
    go (inl o) = o
    go (inr e) = absurd (false≢true (sym f ∙ e))

ended-number : (text : List ℕ) (s r : State) → Ended text s r → is_dead r.phase ≡ false → is_number r.phase ≡ true
ended-number text s r b f = go b.next
  where
    go : (is_dead r.phase ≡ true) ⊎ (is_number r.phase ≡ true) → is_number r.phase ≡ true
    go (inl e) = absurd (false≢true (sym f ∙ e))
    go (inr n) = n

pub spelt_begun : (text : List ℕ) (s r : State) → Begun text s r → is_number r.phase ≡ false → Spelt text s r
spelt_begun text s r b f = record { leads = b.leads; next = inl (begun_over text s r b f) }

module _ (text : List ℕ) (s m r : State) (b : Begun text s m) (e : Ended text m r) where
  spelt_leads : Leads text s r
  spelt_leads = leads_on b.leads e.leads

  pub spelt_over : Over text r → Spelt text s r
  spelt_over o = record { leads = spelt_leads; next = inl o }

  module _ (l : is_dead r.phase ≡ false) (h : r.place < length text) where
    pub spelt_wrong : (x : State) → is_white (class_of (next_in text r)) ≡ false → x ≡ dead_of r → Spelt text s x
    spelt_wrong x w q = record {
      leads = leads_on spelt_leads (end-wrong text r x h (ended-number text m r e l) w (e.stops l h) q);
      next = inl (dead (dead-is r x q));
    }

    pub spelt_white : is_white (class_of (next_in text r)) ≡ true → Spelt text s r
    spelt_white w = record { leads = spelt_leads; next = inr (ended-number text m r e l, w) }
