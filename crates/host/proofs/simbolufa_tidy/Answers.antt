-- `host::simbolufa_tidy` meets its contract: a wrong answer part is looked at first, and what was tidied is given. Assumes nothing.
use Prim.Native.Nat.{ℕ, ◌<◌}
use native.Mathlib.Omega.{arith}
use lib.ListN.{get_or}
use Rattle.answer.specs.Answers.{Wrote}
use Rattle.answer.proofs.Laws.Part.{leaves-wrong, leaves-right, part_right}
use Rattle.tidied.specs.Calls.{Outputs, tidy_call}
use Rattle.host.proofs.simbolufa_tidy.Goals.{After-is_part_wrong, Start}
use Rattle.host.proofs.simbolufa_tidy.Goals as goal

abbrev lent_of : Start → Outputs
lent_of s = record { kept = s.args.out.now; lines = s.args.changes.now }

abbrev wrote : Start → Wrote Outputs
wrote s = tidy_call s.args.clauses.now s.args.variables (lent_of s)

-- what is lent is bytes
lent : (c : After-is_part_wrong) (i : ℕ) → get_or c.args.clauses.now i 0 < 256
lent c i = omega (arith, c.shared_slice_known-1.given i)

pub returns-then-is_part_wrong : goal.returns-then-is_part_wrong
returns-then-is_part_wrong c =
    record { settled = leaves-wrong c.args.answer.now (lent_of (goal.at.returns-then-is_part_wrong c).Start) (wrote (goal.at.returns-then-is_part_wrong c).Start) _ c.is_part_wrong.ensures c.if-is_part_wrong.true; bytes = lent (goal.at.returns-then-is_part_wrong c).After-is_part_wrong }

pub give-requires : goal.give-requires
give-requires c =
    part_right c.args.answer.now _ c.is_part_wrong.ensures c.if-is_part_wrong.false

pub returns : goal.returns
returns c =
    record {
      settled = leaves-right c.args.answer.now (lent_of (goal.at.returns c).Start) (wrote (goal.at.returns c).Start)
          (record { answer = c.tidy.result; output = record { kept = c.tidy.new.out; lines = c.tidy.new.changes } })
          _ c.is_part_wrong.ensures c.if-is_part_wrong.false c.tidy.ensures c.give.ensures;
      bytes = lent (goal.at.returns c).After-is_part_wrong;
    }
