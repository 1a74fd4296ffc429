-- The order of the checks: what an answer that does not refuse has passed.
-- Assumes nothing.
use mathlib.Core.Path.{◌≡◌, refl, sym, ap, ◌∙◌}
use mathlib.Core.Bool.{Bool, true, false, cond, not}
use mathlib.Core.List.{List}
use Prim.Native.Nat.{ℕ, ◌≤◌}
use native.Mathlib.Omega.{arith}
use Rattle.std.specs.Prelude.{Ok, Err}
use Rattle.answer.specs.Answers.{Answer, told_of, refuses, after, Wrote, afterwards, stored}
use lib.Dec.{eqb, ltb}
use lib.ListN.{length}
use borrow.Author.Tests.{ltb-false}
use Rattle.laws.specs.Lists.{splice}
use Rattle.answer.specs.declared.Accepted.{Accepted}
use Rattle.answer.specs.declared.Fault.TheVariants.{UnknownKind, UnusedNotZero, ChildNotBelow, SymbolOutside}
use Rattle.answer.specs.declared.Refusal.{Refusal}
use Rattle.answer.specs.declared.Refusal.TheVariants.{TableLength, Options, Record, Set, Clauses, Literals, Room, Text}
use Rattle.answer.specs.declared.Refusal.TheVariants.{ClauseBytes, Line, AnswerPart, NoClause, Names, SatText, Nodes}

-- a test whose answer would refuse did not hold
pub passes : (b : Bool) (a rest : Answer) → (b ≡ true → refuses a ≡ true) → refuses (cond b a rest) ≡ false → (b ≡ false)
    × (refuses rest ≡ false)
passes true a rest r e = let f = r refl in let z : ◌≡◌ {A = ℕ} 0 1 = cc in absurd (omega arith)
passes false a rest r e = (refl, e)

-- a refusal is what has a number that is not 0
pub refuses-number : (a : Answer) → refuses a ≡ not (eqb (told_of a).number 0)
refuses-number (Ok x) = refl
refuses-number (Err TableLength) = refl
refuses-number (Err Options) = refl
refuses-number (Err (Record UnknownKind node)) = refl
refuses-number (Err (Record UnusedNotZero node)) = refl
refuses-number (Err (Record ChildNotBelow node)) = refl
refuses-number (Err (Record SymbolOutside node)) = refl
refuses-number (Err (Set node)) = refl
refuses-number (Err Clauses) = refl
refuses-number (Err Literals) = refl
refuses-number (Err Room) = refl
refuses-number (Err (Text place)) = refl
refuses-number (Err ClauseBytes) = refl
refuses-number (Err (Line line)) = refl
refuses-number (Err AnswerPart) = refl
refuses-number (Err (NoClause clause)) = refl
refuses-number (Err Names) = refl
refuses-number (Err (SatText place)) = refl
refuses-number (Err Nodes) = refl

-- a refusal stands, and after acceptance the next check decides; a is what was answered, and b what the rules say
module _ (a b : Answer) (e : a ≡ b) where
  pub accepts_of : (x : Accepted) → a ≡ Ok x → refuses b ≡ false
  accepts_of x g = ap refuses (sym e ∙ g)

  pub refused-first : (r : Refusal) (next : Answer) → a ≡ Err r → Err r ≡ after b next
  refused-first r next g = rw (sym e ∙ g) refl

  pub accepted-first : (x : Accepted) (y next : Answer) → a ≡ Ok x → y ≡ next → y ≡ after b next
  accepted-first x y next g q = rw (sym e ∙ g) q

  -- the same with lent outputs
  pub refused-wrote : {O : Type 0} (r : Refusal) (before : O) (w : Wrote O) → a ≡ Err r
      → record { answer = Err r; output = before } ≡ afterwards b before w
  refused-wrote r before w g = rw (sym e ∙ g) refl

  pub accepted-wrote : {O : Type 0} (x : Accepted) (before : O) (y w : Wrote O) → a ≡ Ok x → y ≡ w → y ≡ afterwards b before w
  accepted-wrote x before y w g q = rw (sym e ∙ g) q

-- a refusal left the outputs as they were
abbrev pub Kept : {O : Type 0} → O → Wrote O → Type 0
Kept before w = refuses w.answer ≡ true → w.output ≡ before

pub kept-afterwards : {O : Type 0} (a : Answer) (before : O) (w : Wrote O) → Kept before w → Kept before (afterwards a before w)
kept-afterwards a before w k = go (refuses a)
  where
    go : (b : Bool) → Kept before (cond b (record { answer = a; output = before }) w)
    go true e = refl
    go false e = k e

pub kept-stored : (a : Answer) (bytes before : List ℕ) → refuses a ≡ false → Kept before (stored a bytes before)
kept-stored a bytes before n = go (ltb (length before) (length bytes))
  where
    go : (b : Bool) → Kept before (cond b (record { answer = Err Room; output = before })
        (record { answer = a; output = splice before 0 bytes }))
    go true e = refl
    go false e = let z : ◌≡◌ {A = ℕ} 0 1 = cc in absurd (omega arith)

-- what an acceptance has passed
pub accepted-afterwards : {O : Type 0} (a : Answer) (before : O) (w : Wrote O) → refuses (afterwards a before w).answer ≡ false
    → (refuses a ≡ false) × (afterwards a before w ≡ w)
accepted-afterwards a before w = go (refuses a) refl
  where
    go : (b : Bool) → refuses a ≡ b → refuses (cond b (record { answer = a; output = before }) w).answer ≡ false
        → (refuses a ≡ false) × (cond b (record { answer = a; output = before }) w ≡ w)
    go true e f = let z : ◌≡◌ {A = ℕ} 0 1 = cc in absurd (omega arith)
    go false e f = (e, refl)

pub accepted-stored : (a : Answer) (bytes before : List ℕ) → refuses (stored a bytes before).answer ≡ false
    → (length bytes ≤ length before) × (stored a bytes before ≡ record { answer = a; output = splice before 0 bytes })
accepted-stored a bytes before = go (ltb (length before) (length bytes)) refl
  where
    wrote : Bool → Wrote (List ℕ)
    wrote b = cond b (record { answer = Err Room; output = before }) (record { answer = a; output = splice before 0 bytes })

    go : (b : Bool) → ltb (length before) (length bytes) ≡ b → refuses (wrote b).answer ≡ false
        → (length bytes ≤ length before) × (wrote b ≡ record { answer = a; output = splice before 0 bytes })
    go true e f = let z : ◌≡◌ {A = ℕ} 0 1 = cc in absurd (omega arith)
    go false e f = (ltb-false (length before) (length bytes) e, refl)
