-- The mended rule of choosing, said of the calls: where it changes nothing, and that no chosen set has too many clauses.
-- Assumes nothing.
use mathlib.Core.Path.{◌≡◌, refl, sym, ap, ◌∙◌, subst}
use mathlib.Core.Logic.{◌≢◌}
use mathlib.Core.Bool.{Bool, true, false, cond}
use mathlib.Core.List.{List, []}
use Prim.Native.Nat.{ℕ, ◌≤◌, ◌<◌, ◌^◌}
use native.Mathlib.Omega.{arith}
use lib.Dec.{eqb, ltb}
use lib.ListN.{length}
use borrow.Author.Tests.{lt-ltb, eqb-true, eqb-false}
use Rattle.answer.specs.Answers.{refuses, told_of, Wrote, afterwards, stored}
use Rattle.answer.specs.Answers.{accepted_with}
use Rattle.std.specs.Prelude.{Err}
use Rattle.answer.specs.declared.Refusal.TheVariants.{Literals, Room}
use Rattle.answer.proofs.Laws.Order.{accepted-afterwards}
use Rattle.formula.specs.Checks.{checked}
use Rattle.formula.specs.Inner.Right.{WellFormed}
use Rattle.formula.specs.Tables.{most_nodes, nodes_of}
use Rattle.formula.specs.declared.node.Node.{Node}
use Rattle.formula.proofs.Laws.Tables.{length-nodes_of}
use Rattle.formula.proofs.Laws.WellFormed.{checked-accepted, length-right, accepted_well_formed}
use Rattle.marks.specs.Sets.{set_checked}
use Rattle.clausal.specs.Calls.{chosen_under, ceilings, converted_under, converted}
use Rattle.clausal.specs.Clauses.{Clause, Renaming, renaming, clauses_bytes, variables_of}
use Rattle.clausal.specs.Output.{output_of}
use Rattle.clausal.specs.Totals.{clause_ceiling, literal_ceiling, literals_in, size_of, total_under, totals}
use Rattle.clausal.specs.Choosing.{Choice, first_pass, everything, choose}
use Rattle.clausal.proofs.Totals.{clauses-read}
use Rattle.choose.proofs.Allowances.{unchanged}
use Rattle.choose.proofs.Bounded.{all_most, chosen-below}
use Rattle.choose.proofs.Laws.Chosen.{chosen-right}
use Rattle.claims.specs.Calls.{Guard, nodes, names, second, Choose, choose_seen, choose_guard, allowance, Convert, convert_seen, convert_guard}
use Rattle.claims.specs.Claims.{Gives, Mended}
use Rattle.claims.proofs.Answered.{zero, second-told}
use Rattle.claims.proofs.Demands.{demand1, demand2, choose_wrote}

-- a conversion that passes the check of its set, and has clauses below the ceiling, is accepted or is refusal 6 or 7
module _ (u : Renaming) (ns : List Node) (before : List ℕ) (set : set_checked ns u.set ≡ accepted_with 0 0)
    (few : length (output_of u ns) < clause_ceiling) where
  abbrev number_of : Wrote (List ℕ) → ℕ
  number_of w = (told_of w.answer).number

  stores : Wrote (List ℕ)
  stores = stored (accepted_with (variables_of u (length ns)) (length (output_of u ns))) (clauses_bytes (output_of u ns)) before

  room : number_of stores ≢ 5
  unfolding stores
  room = go (ltb (length before) (length (clauses_bytes (output_of u ns)))) _
    where
      go : (b : Bool) (after : List ℕ)
          → number_of (cond b (record { answer = Err Room; output = before })
          (record { answer = accepted_with (variables_of u (length ns)) (length (output_of u ns)); output = after })) ≢ 5
      go true after e = absurd (omega arith)
      go false after e = absurd (omega arith)

  not_5 : number_of (converted_under u ns before) ≢ 5
  unfolding stores
  not_5 e = go (ltb (literals_in (output_of u ns)) literal_ceiling) (sym passed ∙ e)
    where
      passed : number_of (converted_under u ns before)
          ≡ number_of (afterwards (cond (ltb (literals_in (output_of u ns)) literal_ceiling) (accepted_with 0 0) (Err Literals)) before stores)
      passed = rw (set, lt-ltb (length (output_of u ns)) clause_ceiling few)

      go : (b : Bool) → number_of (afterwards (cond b (accepted_with 0 0) (Err Literals)) before stores) ≡ 5 → ⊥
      go true f = room f
      go false f = omega arith

-- a call of choosing that returned 0
module _ (c : Choose) (z : (choose_seen c).returned ≡ 0) where
  abbrev g : Guard
  g = choose_guard c

  abbrev ns : List Node
  ns = nodes g

  abbrev chosen : List ℕ
  chosen = (choose (allowance c) (names g) ns).chosen

  passed : refuses (checked g.table g.options) ≡ false
  passed =
      (accepted-afterwards (checked g.table g.options) (choose_seen c).before
      (chosen_under g.options ns (allowance c) (choose_seen c).before)
      (zero (choose_seen c) (choose_wrote c) c.promise z).accepted).0

  formed : WellFormed g.options ns
  formed = accepted_well_formed g.table g.options 0 0 (checked-accepted g.table g.options passed)

  few-nodes : length ns ≤ most_nodes
  few-nodes = omega (arith, length-nodes_of g.table, (length-right g.table g.options passed).most)

  given : Gives (choose_seen c) (choose (allowance c) (names g) ns).picks (total_under (names g) ns chosen) chosen
  given = demand2.choose c z

  same : total_under (names g) ns (first_pass (allowance c) (names g) ns).chosen < clause_ceiling
      → let d : Choice = first_pass (allowance c) (names g) ns in
      Gives (choose_seen c) d.picks (total_under (names g) ns d.chosen) d.chosen
  same h =
      subst (λ (d : Choice). Gives (choose_seen c) d.picks (total_under (names g) ns d.chosen) d.chosen)
      (unchanged (names g) ns (allowance c) h) given

  enough : (everything ns).picks ≤ 1_022
  enough = omega (arith, all_most (names g) ns formed.some formed.below, few-nodes)

  module _ (all : (everything ns).picks ≤ allowance c) where
    low : total_under (names g) ns chosen < clause_ceiling
    low = chosen-below (names g) ns formed.some formed.below few-nodes (allowance c) all

    below : second (choose_seen c) < clause_ceiling
    below = omega (arith, second-told given (omega (arith, low)), low)

    converts : (d : Convert) → (convert_guard d).table ≡ g.table → (convert_guard d).options ≡ g.options
        → (convert_guard d).set ≡ (choose_seen c).after → (convert_seen d).returned ≢ 5
    converts d table options set = go (eqb (length (convert_seen d).part) 16) refl
      where
        not_so : (before : List ℕ) → (told_of (converted g.table g.options chosen before).answer).number ≢ 5
        not_so before e =
            let u : Renaming = renaming g.options chosen in
            let right : set_checked ns chosen ≡ accepted_with 0 0 = chosen-right (names g) ns (allowance c) in
            let out : length (output_of u ns) < clause_ceiling = omega (arith, clauses-read u ns, low) in
            not_5 u ns before right out
            (sym (ap (λ (b : Bool). (told_of (cond b (record { answer = checked g.table g.options; output = before })
            (converted_under u ns before)).answer).number) passed) ∙ e)

        go : (b : Bool) → eqb (length (convert_seen d).part) 16 ≡ b → (convert_seen d).returned ≢ 5
        go true p e =
            not_so (convert_seen d).before
            ((λ i. (told_of (converted (sym table i) (sym options i) (sym (set ∙ given.outputs) i) (convert_seen d).before).answer).number)
            ∙ sym ((demand1.convert d).right_part (eqb-true _ _ p)).0 ∙ e)
        go false p e =
            let part = ((demand1.convert d).wrong_part (eqb-false _ _ p)).0 in
            absurd (omega (arith, part))

pub mended : Mended
mended = record {
  unchanged = same;
  enough = enough;
  below = below;
  converts = λ c d z all. converts c z all d;
}
