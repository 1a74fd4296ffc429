-- Refusals 5 to 7: totals read at their ceilings decide as the true ones do, and room is asked for the bytes of the output.
-- Assumes nothing.
use mathlib.Core.Path.{◌≡◌, refl, sym, ap, ◌∙◌}
use mathlib.Core.Bool.{Bool, true, false, cond}
use mathlib.Core.List.{List, [], ◌∷◌}
use Prim.Native.Nat.{ℕ, ◌<◌, ◌≤◌}
use native.Mathlib.Omega.{arith}
use lib.Dec.{ltb}
use lib.ListN.{length, length-append}
use borrow.Author.Tests.{ltb-true, ltb-false, lt-ltb, le-ltb}
use Rattle.laws.specs.Lists.{splice}
use Rattle.laws.specs.Numbers.{cap}
use Rattle.answer.specs.Answers.{refuses, afterwards, stored}
use Rattle.answer.specs.Answers.{Answer}
use Rattle.answer.specs.Answers.{accepted_with}
use Rattle.std.specs.Prelude.{Err}
use Rattle.answer.specs.declared.Refusal.TheVariants.{Clauses, Literals, Room}
use Rattle.clausal.specs.Clauses.{Clause, clause_bytes, clauses_bytes}
use Rattle.clausal.specs.Totals.{Size, size_of, shown, clause_ceiling, literal_ceiling}
use Rattle.clausal.specs.Calls.{ceilings}
use Rattle.parts.proofs.Laws.Parts.{length-clause}
use Rattle.convert.specs.Inner.Fitted.{bytes_for, fitted}

-- which of the refusals comes: 5, 6, 7 or none
data Case (x : Size) (room : ℕ) : Type 0 where
  many-clauses : clause_ceiling ≤ x.clauses → Case x room
  many-literals : x.clauses < clause_ceiling → literal_ceiling ≤ x.literals → Case x room
  no_room : x.clauses < clause_ceiling → x.literals < literal_ceiling → room < bytes_for x → Case x room
  fits : x.clauses < clause_ceiling → x.literals < literal_ceiling → bytes_for x ≤ room → Case x room

case : (x : Size) (room : ℕ) → Case x room
case x room = go (ltb x.clauses clause_ceiling) refl (ltb x.literals literal_ceiling) refl (ltb room (bytes_for x)) refl
  where
    go : (a : Bool) → ltb x.clauses clause_ceiling ≡ a → (b : Bool) → ltb x.literals literal_ceiling ≡ b → (c : Bool)
        → ltb room (bytes_for x) ≡ c → Case x room
    go false p b q c r = many-clauses (ltb-false _ _ p)
    go true p false q c r = many-literals (ltb-true _ _ p) (ltb-false _ _ q)
    go true p true q true r = no_room (ltb-true _ _ p) (ltb-true _ _ q) (ltb-true _ _ r)
    go true p true q false r = fits (ltb-true _ _ p) (ltb-true _ _ q) (ltb-false _ _ r)

over-clauses : (x : Size) → clause_ceiling ≤ x.clauses → ceilings x ≡ Err Clauses
over-clauses x h = rw (le-ltb x.clauses clause_ceiling h)

over-literals : (x : Size) → x.clauses < clause_ceiling → literal_ceiling ≤ x.literals → ceilings x ≡ Err Literals
over-literals x h g = rw (lt-ltb x.clauses clause_ceiling h, le-ltb x.literals literal_ceiling g)

refused-clauses : (x : Size) (room : ℕ) → clause_ceiling ≤ x.clauses → fitted x room ≡ Err Clauses
refused-clauses x room h = rw (le-ltb x.clauses clause_ceiling h)

refused-literals : (x : Size) (room : ℕ) → x.clauses < clause_ceiling → literal_ceiling ≤ x.literals → fitted x room ≡ Err Literals
refused-literals x room h g = rw (lt-ltb x.clauses clause_ceiling h, le-ltb x.literals literal_ceiling g)

-- below both ceilings the totals as reported are the true ones
shown-below : (x : Size) → x.clauses < clause_ceiling → x.literals < literal_ceiling → shown x ≡ x
shown-below x h g =
    let c : cap clause_ceiling x.clauses ≡ x.clauses = omega arith in
    let l : cap literal_ceiling x.literals ≡ x.literals = omega arith in
    rw (c, l, lt-ltb x.clauses clause_ceiling h)

-- totals read at their ceilings decide as the true ones do
pub fitted-shown : (x : Size) (room : ℕ) → fitted (shown x) room ≡ fitted x room
fitted-shown x room = go (case x room)
  where
    below : x.clauses < clause_ceiling → (shown x).literals ≡ cap literal_ceiling x.literals
    below h = ap (λ (b : Bool). cond b (cap literal_ceiling x.literals) literal_ceiling) (lt-ltb x.clauses clause_ceiling h)

    go : Case x room → fitted (shown x) room ≡ fitted x room
    go (many-clauses h) = refused-clauses (shown x) room (omega arith) ∙ sym (refused-clauses x room h)
    go (many-literals h g) = refused-literals (shown x) room (omega arith) (omega (arith, below h)) ∙ sym (refused-literals x room h g)
    go (no_room h g r) = ap (λ (y : Size). fitted y room) (shown-below x h g)
    go (fits h g r) = ap (λ (y : Size). fitted y room) (shown-below x h g)

-- the same of refusals 5 and 6 alone
pub ceilings-shown : (x : Size) → ceilings (shown x) ≡ ceilings x
ceilings-shown x = go (case x 0)
  where
    below : x.clauses < clause_ceiling → (shown x).literals ≡ cap literal_ceiling x.literals
    below h = ap (λ (b : Bool). cond b (cap literal_ceiling x.literals) literal_ceiling) (lt-ltb x.clauses clause_ceiling h)

    go : Case x 0 → ceilings (shown x) ≡ ceilings x
    go (many-clauses h) = over-clauses (shown x) (omega arith) ∙ sym (over-clauses x h)
    go (many-literals h g) = over-literals (shown x) (omega arith) (omega (arith, below h)) ∙ sym (over-literals x h g)
    go (no_room h g r) = ap ceilings (shown-below x h g)
    go (fits h g r) = ap ceilings (shown-below x h g)

-- what passing refusals 5 and 6 says
pub sizes-below : (x : Size) → refuses (ceilings x) ≡ false
    → (x.clauses < clause_ceiling) × (x.literals < literal_ceiling) × (shown x ≡ x)
sizes-below x e = go (case x 0)
  where
    never : (a : Answer) → ceilings x ≡ a → refuses a ≡ true → ⊥
    never a f g = let h = ap refuses f in let z : ◌≡◌ {A = ℕ} 0 1 = cc in omega arith

    go : Case x 0 → (x.clauses < clause_ceiling) × (x.literals < literal_ceiling) × (shown x ≡ x)
    go (many-clauses h) = absurd (never (Err Clauses) (over-clauses x h) refl)
    go (many-literals h g) = absurd (never (Err Literals) (over-literals x h g) refl)
    go (no_room h g r) = (h, g, shown-below x h g)
    go (fits h g r) = (h, g, shown-below x h g)

-- what an acceptance says
pub record Below (x : Size) (n : ℕ) : Type 0 where
  pub clauses : x.clauses < clause_ceiling
  pub same : shown x ≡ x
  pub room : bytes_for x ≤ n

pub fitted-below : (x : Size) (room : ℕ) → refuses (fitted x room) ≡ false → Below x room
fitted-below x room e = go (case x room)
  where
    never : (a : Answer) → fitted x room ≡ a → refuses a ≡ true → ⊥
    never a f g = let h = ap refuses f in let z : ◌≡◌ {A = ℕ} 0 1 = cc in omega arith

    go : Case x room → Below x room
    go (many-clauses h) = absurd (never (Err Clauses) (refused-clauses x room h) refl)
    go (many-literals h g) = absurd (never (Err Literals) (refused-literals x room h g) refl)
    go (no_room h g r) = absurd (never (Err Room)
        (rw (lt-ltb x.clauses clause_ceiling h, lt-ltb x.literals literal_ceiling g, lt-ltb room (bytes_for x) r)) refl)
    go (fits h g r) = record { clauses = h; same = shown-below x h g; room = r }

-- the bytes of the output
pub length-bytes : (cs : List Clause) → length (clauses_bytes cs) ≡ bytes_for (size_of cs)
length-bytes [] = refl
length-bytes (c ∷ cs) = length-append (clause_bytes c) (clauses_bytes cs) ∙ omega (arith, length-clause c, length-bytes cs)

-- refusals 5, 6 and 7 in a row are 5 and 6, and then bytes that are stored where there is room
pub fitted-stored : (x : Size) (a : Answer) (bytes before : List ℕ) → length bytes ≡ bytes_for x
    → afterwards (fitted x (length before)) before (record { answer = a; output = splice before 0 bytes })
    ≡ afterwards (ceilings x) before (stored a bytes before)
fitted-stored x a bytes before e = go (ceilings x)
  where
    go : (c : Answer)
        → afterwards (cond (refuses c) c (cond (ltb (length before) (bytes_for x)) (Err Room) (accepted_with 0 0))) before
        (record { answer = a; output = splice before 0 bytes })
        ≡ afterwards c before (stored a bytes before)
    go c = at (refuses c) refl
      where
        at : (b : Bool) → refuses c ≡ b
            → afterwards (cond b c (cond (ltb (length before) (bytes_for x)) (Err Room) (accepted_with 0 0))) before
            (record { answer = a; output = splice before 0 bytes })
            ≡ cond b (record { answer = c; output = before }) (stored a bytes before)
        at true f = rw f
        at false f = ap (λ (n : ℕ). afterwards (cond (ltb (length before) n) (Err Room) (accepted_with 0 0)) before
            (record { answer = a; output = splice before 0 bytes })) (sym e) ∙ tested (ltb (length before) (length bytes))
          where
            tested : (z : Bool) → afterwards (cond z (Err Room) (accepted_with 0 0)) before (record { answer = a; output = splice before 0 bytes })
                ≡ cond z (record { answer = Err Room; output = before }) (record { answer = a; output = splice before 0 bytes })
            tested true = refl
            tested false = refl
