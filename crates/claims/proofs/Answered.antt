-- What a contract of the entries' shape says of a call: how it answers, and what an acceptance has passed.
-- Assumes nothing.
use mathlib.Core.Path.{◌≡◌, refl, sym, ap, ◌∙◌}
use mathlib.Core.Bool.{Bool, true, false, cond, not}
use mathlib.Core.List.{List, [], ◌++◌}
use mathlib.Core.Logic.{◌≢◌}
use Prim.Native.Nat.{ℕ, ◌+◌, ◌<◌, ◌≤◌, ◌^◌}
use native.Mathlib.Omega.{arith}
use lib.Dec.{eqb}
use lib.ListN.{length, drop}
use borrow.Author.Tests.{eqb-true, eqb-false, eq-eqb, ne_eqb}
use Rattle.laws.specs.Lists.{splice}
use Rattle.laws.specs.Numbers.{little, little_at}
use Rattle.laws.proofs.Bytes.{little_at-little}
use Rattle.answer.proofs.Laws.Order.{refuses-number}
use Rattle.answer.specs.Answers.{told_of, refuses, after, bytes_of, Wrote, stored, Left, leaves}
use Rattle.answer.specs.Answers.{Answer}
use Rattle.answer.specs.Answers.{accepted_with}
use Rattle.answer.proofs.Laws.Order.{Kept, accepted-stored}
use Rattle.answer.proofs.Laws.Part.{stored-fits}
use Rattle.claims.specs.Calls.{Seen, first, second, over}
use Rattle.claims.specs.Claims.{Answers, Gives}

-- a test of two outcomes, each of which keeps the outputs where it refuses
pub kept_either : {O : Type 0} (b : Bool) (before : O) (x y : Wrote O) → Kept before x → Kept before y → Kept before (cond b x y)
kept_either true before x y p q = p
kept_either false before x y p q = q

-- what accepts does not refuse
pub not-both : {A : Type 0} → ◌≡◌ {A = Bool} false true → A
not-both e = let z : ◌≡◌ {A = ℕ} 0 1 = cc in absurd (omega arith)

-- what is equal to what does not refuse does not refuse
pub passed : {O : Type 0} {x y : Wrote O} → x ≡ y → refuses x.answer ≡ false → refuses y.answer ≡ false
passed {O} q e = sym (ap (λ (w : Wrote O). refuses w.answer) q) ∙ e

-- what an acceptance has passed
pub accepted-after : (a next : Answer) → refuses (after a next) ≡ false → (refuses a ≡ false) × (after a next ≡ next)
accepted-after a next = go (refuses a) refl
  where
    go : (b : Bool) → refuses a ≡ b → refuses (cond b a next) ≡ false → (refuses a ≡ false) × (cond b a next ≡ next)
    go true e f = let z : ◌≡◌ {A = ℕ} 0 1 = cc in absurd (omega arith)
    go false e f = (e, refl)

pub accepted-right : {O : Type 0} (b : Bool) (x y : Wrote O) → refuses x.answer ≡ true → refuses (cond b x y).answer ≡ false
    → (b ≡ false) × (cond b x y ≡ y)
accepted-right true x y r e = let z : ◌≡◌ {A = ℕ} 0 1 = cc in absurd (omega arith)
accepted-right false x y r e = (refl, refl)

pub accepted-left : {O : Type 0} (b : Bool) (x y : Wrote O) → refuses y.answer ≡ true → refuses (cond b x y).answer ≡ false
    → (b ≡ true) × (cond b x y ≡ x)
accepted-left true x y r e = (refl, refl)
accepted-left false x y r e = let z : ◌≡◌ {A = ℕ} 0 1 = cc in absurd (omega arith)

-- bytes that are stored lead the buffer
pub stored-over : (a : Answer) (bytes before : List ℕ) → refuses (stored a bytes before).answer ≡ false
    → stored a bytes before ≡ record { answer = a; output = over bytes before }
stored-over a bytes before e =
    let k : 0 + length bytes ≡ length bytes = omega arith in
    (accepted-stored a bytes before e).1 ∙ ap (λ (n : ℕ). record { answer = a; output = bytes ++ drop n before }) k

pub stored-room : (a : Answer) (bytes before : List ℕ) → refuses a ≡ false → length bytes ≤ length before
    → stored a bytes before ≡ record { answer = a; output = over bytes before }
stored-room a bytes before n h =
    let fits = stored-fits a bytes before (splice before 0 bytes) h refl in
    stored-over a bytes before (sym (ap (λ (w : Wrote (List ℕ)). refuses w.answer) fits) ∙ n)

-- the two values are read from the part
pub first-told : {O : Type 0} {s : Seen O} {x y : ℕ} {after : O} → Gives s x y after → x < 2 ^ 32 → first s ≡ x
first-told {x = x} {y = y} g h = ap (λ (l : List ℕ). little_at 4 l 8) g.values ∙ little_at-little 4 x (little 4 y) (omega arith)

pub second-told : {O : Type 0} {s : Seen O} {x y : ℕ} {after : O} → Gives s x y after → y < 2 ^ 32 → second s ≡ y
second-told {y = y} g h = ap (λ (l : List ℕ). little_at 4 l 12) g.values ∙ little_at-little 4 y [] (omega arith)

module _ {O : Type 0} (s : Seen O) (w : Wrote O)
    (e : record { result = s.returned; output = s.after; part = s.told } ≡ leaves s.part s.before w) where
  abbrev left : Bool → Left O
  left b =
      cond b
      (record { result = (told_of w.answer).number; output = w.output; part = bytes_of (told_of w.answer) })
      (record { result = 11; output = s.before; part = s.part })

  -- a call whose part is right, and one whose part is wrong
  right : length s.part ≡ 16 → record { result = s.returned; output = s.after; part = s.told } ≡ left true
  right h = e ∙ ap left (eq-eqb (length s.part) 16 h)

  wrong : length s.part ≢ 16 → record { result = s.returned; output = s.after; part = s.told } ≡ left false
  wrong h = e ∙ ap left (ne_eqb (length s.part) 16 h)

  number_refuses : (told_of w.answer).number ≢ 0 → refuses w.answer ≡ true
  number_refuses h = refuses-number w.answer ∙ ap not (ne_eqb (told_of w.answer).number 0 h)

  pub answers : Kept s.before w → Answers w.answer s
  answers kept = record {
    wrong_part = λ h. let f = wrong h in
        (ap (λ (l : Left O). l.result) f, ap (λ (l : Left O). l.part) f, ap (λ (l : Left O). l.output) f);
    right_part = λ h. let f = right h in (ap (λ (l : Left O). l.result) f, ap (λ (l : Left O). l.part) f);
    kept = λ n. go (eqb (length s.part) 16) refl n;
  }
    where
      go : (b : Bool) → eqb (length s.part) 16 ≡ b → s.returned ≢ 0 → s.after ≡ s.before
      go true p n =
          let f = right (eqb-true (length s.part) 16 p) in
          let number : s.returned ≡ (told_of w.answer).number = ap (λ (l : Left O). l.result) f in
          ap (λ (l : Left O). l.output) f ∙ kept (number_refuses (λ z. n (number ∙ z)))
      go false p n = ap (λ (l : Left O). l.output) (wrong (eqb-false (length s.part) 16 p))

  -- 0 is returned: the part was right, the call accepted, and its own outputs stand
  pub record Zero : Type 0 where
    pub size : length s.part ≡ 16
    pub accepted : refuses w.answer ≡ false
    pub outputs : s.after ≡ w.output
    pub values : s.told ≡ bytes_of (told_of w.answer)

  pub zero : s.returned ≡ 0 → Zero
  zero z = go (eqb (length s.part) 16) refl
    where
      go : (b : Bool) → eqb (length s.part) 16 ≡ b → Zero
      go true p =
          let h = eqb-true (length s.part) 16 p in
          let f = right h in
          record {
            size = h;
            accepted = refuses-number w.answer ∙ ap (λ (n : ℕ). not (eqb n 0)) (sym (ap (λ (l : Left O). l.result) f) ∙ z);
            outputs = ap (λ (l : Left O). l.output) f;
            values = ap (λ (l : Left O). l.part) f;
          }
      go false p =
          let f = ap (λ (l : Left O). l.result) (wrong (eqb-false (length s.part) 16 p)) in
          absurd (omega arith)

  -- it gives what it wrote
  pub gives : (x y : ℕ) (after : O) → Zero → w ≡ record { answer = accepted_with x y; output = after } → Gives s x y after
  gives x y after z q = record {
    values = z.values ∙ ap (λ (v : Wrote O). bytes_of (told_of v.answer)) q;
    outputs = z.outputs ∙ ap (λ (v : Wrote O). v.output) q;
  }
