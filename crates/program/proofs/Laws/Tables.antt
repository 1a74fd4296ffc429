-- Printing a table: what choosing answers.
-- Assumes nothing.
use mathlib.Core.Path.{◌≡◌, sym, ap, ◌∙◌}
use mathlib.Core.Bool.{Bool, false, cond}
use mathlib.Core.List.{List, []}
use Prim.Native.Nat.{ℕ, ◌≤◌}
use native.Mathlib.Omega.{arith}
use lib.ListN.{length, take, replicate, length-replicate}
use lib.Seq.{length-take-le}
use borrow.Author.Tests.{eq-eqb}
use Rattle.answer.specs.Answers.{refuses, Wrote}
use Rattle.std.specs.Prelude.{Err}
use Rattle.answer.specs.declared.Refusal.TheVariants.{Set}
use Rattle.answer.proofs.Laws.Order.{accepted-afterwards}
use Rattle.formula.specs.Checks.{checked}
use Rattle.formula.specs.Tables.{node_count, nodes_of}
use Rattle.formula.specs.declared.node.Node.{Node}
use Rattle.formula.proofs.Laws.Tables.{length-nodes_of}
use Rattle.clausal.specs.Choosing.{choose}
use Rattle.clausal.specs.Clauses.{renaming}
use Rattle.clausal.specs.Calls.{told, chosen_under, chosen_by}
use Rattle.program.specs.Printed.{allowance, unless_refused, set_printed, table_printed}
use Rattle.program.proofs.Laws.Shows.{unless_checked}

-- the start of a fresh buffer
pub length-start : (k n : ℕ) → k ≤ n → length (take k (replicate {A = ℕ} n 0)) ≡ k
length-start k n h = length-take-le k (replicate n 0) (omega (arith, length-replicate {A = ℕ} n 0))

module _ (t : List ℕ) (v : ℕ) (before : List ℕ) (size : length before ≡ node_count t) where
  abbrev ns : List Node
  ns = nodes_of t

  abbrev chosen : Wrote (List ℕ)
  chosen = told (renaming v []) ns (choose allowance (renaming v []) ns)

  -- the buffer for the set is never refused
  under : chosen_under v ns allowance before ≡ chosen
  under =
      ap (λ (b : Bool). cond b chosen (record { answer = Err (Set (length ns)); output = before }))
      (eq-eqb (length before) (length ns) (size ∙ sym (length-nodes_of t)))

  pub choose-printed : table_printed t v ≡ unless_refused (chosen_by t v allowance before).answer (set_printed t v chosen.output)
  choose-printed =
      unless_checked (checked t v) before (chosen_under v ns allowance before) (set_printed t v chosen.output)
      (λ _. ap (λ (w : Wrote (List ℕ)). refuses w.answer) under)

  pub choose-accepted : refuses (chosen_by t v allowance before).answer ≡ false → chosen_by t v allowance before ≡ chosen
  choose-accepted r = (accepted-afterwards (checked t v) before (chosen_under v ns allowance before) r).1 ∙ under
