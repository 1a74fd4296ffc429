-- Printing a table under a set: what converting answers, and how many clause bytes there are.
-- Assumes nothing.
use mathlib.Core.Path.{◌≡◌, sym, ap, ◌∙◌}
use mathlib.Core.Bool.{Bool, false, cond}
use mathlib.Core.List.{List}
use Prim.Native.Nat.{ℕ, ◌≤◌}
use native.Mathlib.Omega.{arith}
use lib.ListN.{length, take}
use borrow.Author.Tests.{le-ltb}
use Rattle.laws.specs.Lists.{splice}
use Rattle.laws.proofs.Splices.{length-splice}
use Rattle.laws.proofs.Stored.{take-stored}
use Rattle.answer.specs.Answers.{told_of, refuses, after, Wrote, afterwards, stored}
use Rattle.answer.specs.Answers.{Answer}
use Rattle.answer.specs.Answers.{accepted_with}
use Rattle.answer.proofs.Laws.Order.{accepted-afterwards, accepted-stored}
use Rattle.formula.specs.Checks.{checked}
use Rattle.marks.specs.Sets.{set_checked}
use Rattle.formula.specs.Tables.{nodes_of}
use Rattle.formula.specs.declared.node.Node.{Node}
use Rattle.clausal.specs.Clauses.{Clause, clauses_bytes, Renaming, renaming, variables_of}
use Rattle.clausal.specs.Output.{output_of}
use Rattle.clausal.specs.Totals.{Size, size_of, totals}
use Rattle.clausal.proofs.Totals.{totals-output}
use Rattle.clausebytes.specs.Inner.Checks.{room_of}
use Rattle.clausebytes.proofs.Encoded.{length-clauses}
use Rattle.clausal.specs.Calls.{measured, ceilings, converted_under, converted}
use Rattle.convert.specs.Inner.Fitted.{bytes_for}
use Rattle.convert.proofs.Laws.Fitted.{fitted-below}
use Rattle.program.specs.Inner.Sizes.{size_told}

module _ (t : List ℕ) (v : ℕ) (s before : List ℕ) (ok : refuses (converted t v s before).answer ≡ false) where
  abbrev u : Renaming
  u = renaming v s

  abbrev ns : List Node
  ns = nodes_of t

  abbrev output : List Clause
  output = output_of u ns

  abbrev bytes : List ℕ
  bytes = clauses_bytes output

  abbrev said : Answer
  said = accepted_with (variables_of u (length ns)) (length output)

  -- the checks that were passed, one behind the other
  abbrev fitting : Wrote (List ℕ)
  fitting = afterwards (ceilings (size_of output)) before (stored said bytes before)

  table : (refuses (checked t v) ≡ false) × (converted t v s before ≡ converted_under u ns before)
  table = accepted-afterwards (checked t v) before (converted_under u ns before) ok

  set : (refuses (set_checked ns s) ≡ false) × (converted_under u ns before ≡ fitting)
  set =
      accepted-afterwards (set_checked ns s) before fitting
      (sym (ap (λ (w : Wrote (List ℕ)). refuses w.answer) table.1) ∙ ok)

  size : (refuses (ceilings (size_of output)) ≡ false) × (fitting ≡ stored said bytes before)
  size =
      accepted-afterwards (ceilings (size_of output)) before (stored said bytes before)
      (sym (ap (λ (w : Wrote (List ℕ)). refuses w.answer) (table.1 ∙ set.1)) ∙ ok)

  room : (length bytes ≤ length before) × (stored said bytes before ≡ record { answer = said; output = splice before 0 bytes })
  room =
      accepted-stored said bytes before
      (sym (ap (λ (w : Wrote (List ℕ)). refuses w.answer) (table.1 ∙ set.1 ∙ size.1)) ∙ ok)

  made : converted t v s before ≡ record { answer = said; output = splice before 0 bytes }
  made = table.1 ∙ set.1 ∙ size.1 ∙ room.1

  -- the totals are below their ceilings
  whole : totals u ns ≡ size_of output
  whole =
      let x = size_of output in
      totals-output u ns ∙ (fitted-below x (bytes_for x) (rw (size.0, le-ltb (bytes_for x) (bytes_for x) (omega arith)))).same

  -- what measuring tells is the number of clause bytes
  pub sized : size_told t v s ≡ length bytes
  sized =
      ap (λ (a : Answer). room_of (told_of a).first (told_of a).second) told
      ∙ ap (λ (x : Size). room_of x.clauses x.literals) whole
      ∙ sym (length-clauses output)
    where
      told : measured t v s ≡ accepted_with (totals u ns).clauses (totals u ns).literals
      told =
          let sum : Answer = accepted_with (totals u ns).clauses (totals u ns).literals in
          ap (λ (b : Bool). cond b (checked t v) (after (set_checked ns s) sum)) table.0
          ∙ ap (λ (b : Bool). cond b (set_checked ns s) sum) set.0

  module _ (a : Answer) (o : List ℕ) (e : record { answer = a; output = o } ≡ converted t v s before) where
    -- the leading bytes
    pub taken : (n : ℕ) → n ≡ length bytes → take n o ≡ bytes
    taken n q = ap (λ (w : Wrote (List ℕ)). take n w.output) (e ∙ made) ∙ take-stored before bytes n (sym q)

    pub within : length bytes ≤ length o
    within =
        let same = ap (λ (w : Wrote (List ℕ)). length w.output) (e ∙ made) in
        omega (arith, room.0, same, length-splice before 0 bytes (omega (arith, room.0)))

    pub variables : (told_of a).first ≡ variables_of u (length ns)
    variables = ap (λ (w : Wrote (List ℕ)). (told_of w.answer).first) (e ∙ made)
