-- No answer to a choice depends on V, which only names helpers.
-- Assumes nothing.
use mathlib.Core.Path.{◌≡◌, ap, ◌∙◌}
use mathlib.Core.Bool.{cond}
use mathlib.Core.List.{List, []}
use Prim.Native.Nat.{ℕ}
use lib.Dec.{eqb}
use lib.ListN.{length}
use Rattle.answer.specs.Answers.{Wrote}
use Rattle.answer.specs.Answers.{accepted_with}
use Rattle.std.specs.Prelude.{Err}
use Rattle.answer.specs.declared.Refusal.TheVariants.{Set}
use Rattle.formula.specs.declared.node.Node.{Node}
use Rattle.clausal.specs.Choosing.{Choice, choose}
use Rattle.clausal.specs.Clauses.{renaming}
use Rattle.clausal.specs.Calls.{told, chosen_under}
use Rattle.choose.proofs.Allowances.{total-options, choose-options}

module _ (v w : ℕ) (ns : List Node) (allowance : ℕ) where
  told-options : (c : Choice) → told (renaming v []) ns c ≡ told (renaming w []) ns c
  told-options c =
      ap (λ (x : ℕ). record { answer = accepted_with c.picks x; output = c.chosen })
      (total-options allowance (renaming v []) w ns c.chosen)

  pub chosen-options : (before : List ℕ) → chosen_under v ns allowance before ≡ chosen_under w ns allowance before
  chosen-options before =
      ap (λ (x : Wrote (List ℕ)). cond (eqb (length before) (length ns)) x (record { answer = Err (Set (length ns)); output = before }))
      (told-options (choose allowance (renaming v []) ns)
      ∙ ap (told (renaming w []) ns) (choose-options allowance (renaming v []) w ns))
