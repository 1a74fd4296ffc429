-- Every call that is handed a table passes its lowest fault on.
-- Assumes nothing.
use mathlib.Core.Path.{◌≡◌, refl, sym, ap, ◌∙◌}
use mathlib.Core.Logic.{◌≢◌}
use Prim.Native.Nat.{ℕ}
use Rattle.std.specs.Prelude.{Err, Option, Some, None}
use Rattle.answer.specs.declared.Told.{Told}
use Rattle.answer.specs.Answers.{Answer, told_of, refused, after, bytes_of, Wrote, afterwards}
use Rattle.answer.specs.declared.Refusal.{Refusal}
use Rattle.answer.specs.declared.Refusal.TheVariants.{Record}
use Rattle.answer.proofs.Laws.Order.{refused-first, refused-wrote}
use Rattle.answer.specs.declared.Fault.{Fault}
use Rattle.formula.specs.Checks.{checked, record_told}
use Rattle.formula.specs.Tables.{node_at, fault_of, fault_told, fault_found}
use Rattle.formula.proofs.Laws.Faults.{lowest-decides}
use Rattle.claims.specs.Calls.{Seen, Guard, check_guard, measure_guard, choose_guard, convert_guard, after_guard, origin_guard}
use Rattle.claims.specs.Calls.{origins_guard}
use Rattle.claims.specs.Claims.{Answers, Faulty, TellsFault, Faults}
use Rattle.claims.proofs.Demands.{demand1}

-- a record that has a number other than 0 is a refusal, which tells that number and the record's place
record Refuses (f : Option Fault) (j : ℕ) : Type 0 where
  refusal : Refusal
  is : record_told f j ≡ Err refusal
  tells : told_of (Err refusal) ≡ refused (fault_told f) j

fault_refuses : (f : Option Fault) (j : ℕ) → fault_told f ≢ 0 → Refuses f j
fault_refuses None j h = absurd (h refl)
fault_refuses (Some fault) j h = record { refusal = Record fault j; is = refl; tells = refl }

module _ (g : Guard) (j : ℕ) (h : Faulty g j) where
  abbrev fault : Option Fault
  fault = fault_found g.options j (node_at g.table j)

  told : Refuses fault j
  told = fault_refuses fault j h.here

  found : checked g.table g.options ≡ Err told.refusal
  found = lowest-decides g.table g.options h.lengths h.options j h.within h.below h.here ∙ told.is

  -- of a call that has to answer what the check of its table says
  tells : {O : Type 0} {s : Seen O} (a : Answer) → Answers a s → a ≡ Err told.refusal → TellsFault g j s
  tells a says e size =
      let right = says.right_part size in
      let is : told_of a ≡ refused (fault_of g.options j (node_at g.table j)) j = ap told_of e ∙ told.tells in
      (right.0 ∙ ap (λ (t : Told). t.number) is, right.1 ∙ ap bytes_of is)

  -- a refusal stands, whatever comes after it
  tells_after : {O : Type 0} {s : Seen O} (next : Answer) → Answers (after (checked g.table g.options) next) s → TellsFault g j s
  tells_after next says =
      tells _ says (sym (refused-first (Err told.refusal) (checked g.table g.options) (sym found) told.refusal next refl))

  tells_afterwards : {O P : Type 0} {s : Seen O} (before : P) (w : Wrote P)
      → Answers (afterwards (checked g.table g.options) before w).answer s → TellsFault g j s
  tells_afterwards {P = P} before w says =
      let stands = refused-wrote (Err told.refusal) (checked g.table g.options) (sym found) told.refusal before w refl in
      tells _ says (sym (ap (λ (x : Wrote P). x.answer) stands))

pub faults : Faults
faults = record {
  check = λ c j h. tells (check_guard c) j h _ (demand1.check c) (found (check_guard c) j h);
  measure = λ c j h. tells_after (measure_guard c) j h _ (demand1.measure c);
  choose = λ c j h. tells_afterwards (choose_guard c) j h _ _ (demand1.choose c);
  convert = λ c j h. tells_afterwards (convert_guard c) j h _ _ (demand1.convert c);
  convert_after = λ c j h. tells_afterwards (after_guard c) j h _ _ (demand1.convert_after c);
  origin = λ c j h. tells_afterwards (origin_guard c) j h _ _ (demand1.origin c);
  origins = λ c j h. tells_afterwards (origins_guard c) j h _ _ (demand1.origins c);
}
