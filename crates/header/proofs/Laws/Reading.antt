-- A head on its way through a text: what is still to be read leads from it to where the whole text leads.
-- One byte on keeps that, and less is left. What a byte does to the place is in `Steps`.
-- Assumes nothing.
use mathlib.Core.Path.{◌≡◌, refl, sym, ap, subst⁻¹, ◌∙◌}
use mathlib.Core.Bool.{Bool, true, false, cond, false≢true}
use mathlib.Core.List.{List}
use Prim.Native.Nat.{ℕ, ◌+◌, ◌-◌, ◌≤◌, ◌<◌}
use native.Mathlib.Omega.{arith}
use lib.ListN.{length, get_or, drop}
use Rattle.laws.specs.Automata.{run}
use Rattle.laws.proofs.Automata.{run-next}
use Rattle.header.specs.Inner.Heads.{is_done, is_over, is_comment_at, is_comment, start_of, comment_of, step_in, step_of, head_of}
use Rattle.header.specs.declared.Form.{Form}
use Rattle.header.specs.declared.Head.{Head}
use Rattle.header.specs.declared.Phase.{Phase}
use Rattle.header.specs.declared.Phase.TheVariants.{At, Done, Dead}
use Rattle.header.specs.declared.Spot.{Spot}
use Rattle.header.specs.declared.Spot.TheVariants as spot
use Rattle.header.proofs.Laws.Heads.{alive, live}
use Rattle.header.proofs.Laws.Steps.{head_placed, run-over}

pub record Reading (f : Form) (text : List ℕ) (s : Head) : Type 0 where
  pub within : s.place ≤ length text
  pub leads : run (step_of f) s (drop s.place text) ≡ head_of f text

pub reading_start : (f : Form) (text : List ℕ) (r : Head) → r ≡ start_of f → Reading f text r
reading_start f text r e = subst⁻¹ (Reading f text) e (record { within = omega arith; leads = refl })

-- the bytes that are left, and one more where the head is not over: a byte of which it dies is not passed
abbrev pub left : List ℕ → Head → ℕ
left text s = length text - s.place + cond (is_over s.phase) 0 1

pub left-more : (text : List ℕ) (s : Head) → is_over s.phase ≡ false → left text s ≡ length text - s.place + 1
left-more text s e = ap (λ (c : Bool). length text - s.place + cond c 0 1) e

left_over : (text : List ℕ) (s : Head) → is_over s.phase ≡ true → left text s ≡ length text - s.place
left_over text s e = ap (λ (c : Bool). length text - s.place + cond c 0 1) e ∙ omega arith

left-most : (text : List ℕ) (s : Head) → left text s ≤ length text - s.place + 1
left-most text s = go (is_over s.phase)
  where
    go : (c : Bool) → length text - s.place + cond c 0 1 ≤ length text - s.place + 1
    go true = omega arith
    go false = omega arith

not_done : (p : Phase) → is_over p ≡ false → is_done p ≡ false
not_done (At p) e = refl
not_done Done e = e
not_done Dead e = refl

over_of_dead : (p : Phase) → alive p ≡ false → is_over p ≡ true
over_of_dead (At p) e = absurd (false≢true (sym e))
over_of_dead Done e = refl
over_of_dead Dead e = refl

-- a byte after the place i: what is left is no more than the bytes behind i
pub record Nearer (f : Form) (text : List ℕ) (i : ℕ) (r : Head) : Type 0 where
  pub reading : Reading f text r
  pub less : left text r ≤ length text - i

module _ (f : Form) (text : List ℕ) (s : Head) (h : Reading f text s) (inside : s.place < length text)
    (more : is_over s.phase ≡ false) where
  abbrev next : Head
  next = step_of f s (get_or text s.place 0)

  on : run (step_of f) next (drop (s.place + 1) text) ≡ head_of f text
  on = run-next (step_of f) s next text s.place inside refl ∙ h.leads

  nearer_live : live next ≡ true → Nearer f text s.place next
  nearer_live l =
      let e : next.place ≡ s.place + 1 = (head_placed f).on s (get_or text s.place 0) (not_done s.phase more) l in
      record {
        reading = record {
          within = omega (arith, e, inside);
          leads = ap (λ (n : ℕ). run (step_of f) next (drop n text)) e ∙ on;
        };
        less = omega (arith, e, inside, left-most text next);
      }

  nearer_dead : live next ≡ false → Nearer f text s.place next
  nearer_dead l =
      let e : next.place ≡ s.place = (head_placed f).off s (get_or text s.place 0) l in
      let o : is_over next.phase ≡ true = over_of_dead next.phase l in
      record {
        reading = record {
          within = omega (arith, e, inside);
          leads = run-over f next (drop next.place text) o ∙ sym (run-over f next (drop (s.place + 1) text) o) ∙ on;
        };
        less = omega (arith, e, left_over text next o);
      }

  nearer_by : (c : Bool) → live next ≡ c → Nearer f text s.place next
  nearer_by true l = nearer_live l
  nearer_by false l = nearer_dead l

  pub nearer_step : (r : Head) → r ≡ next → Nearer f text s.place r
  nearer_step r e = subst⁻¹ (Nearer f text s.place) e (nearer_by (live next) refl)

-- a comment is not over, and its step is the step
more_of_comment : (p : Phase) → is_comment p ≡ true → is_over p ≡ false
more_of_comment (At p) e = refl
more_of_comment Done e = absurd (false≢true e)
more_of_comment Dead e = absurd (false≢true e)

comment-at : (p : Spot) → is_comment_at p ≡ true → p ≡ spot.Comment
comment-at spot.Line e = absurd (false≢true e)
comment-at spot.Comment e = refl
comment-at spot.Problem e = absurd (false≢true e)
comment-at spot.BeforeWord e = absurd (false≢true e)
comment-at spot.Second e = absurd (false≢true e)
comment-at spot.Third e = absurd (false≢true e)
comment-at spot.Word e = absurd (false≢true e)
comment-at spot.BeforeNumber e = absurd (false≢true e)
comment-at spot.Number e = absurd (false≢true e)
comment-at spot.After e = absurd (false≢true e)

step-comment : (f : Form) (p : Phase) (s : Head) (b : ℕ) → is_comment p ≡ true → step_in p f s b ≡ comment_of s b
step-comment f (At p) s b e = ap (λ (q : Spot). step_in (At q) f s b) (comment-at p e)
step-comment f Done s b e = absurd (false≢true e)
step-comment f Dead s b e = absurd (false≢true e)

pub nearer_comment : (f : Form) (text : List ℕ) (s : Head) → Reading f text s → s.place < length text → is_comment s.phase ≡ true
    → (r : Head)
    → r ≡ comment_of s (get_or text s.place 0)
    → Nearer f text s.place r
nearer_comment f text s h inside c r e =
    nearer_step f text s h inside (more_of_comment s.phase c) r (e ∙ sym (step-comment f s.phase s (get_or text s.place 0) c))

pub left-comment : (text : List ℕ) (s : Head) → is_comment s.phase ≡ true → left text s ≡ length text - s.place + 1
left-comment text s c = left-more text s (more_of_comment s.phase c)
