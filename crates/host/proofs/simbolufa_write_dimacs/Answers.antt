-- `host::simbolufa_write_dimacs` meets its contract: a wrong answer part is looked at first, and what was written is given. Assumes nothing.
use mathlib.Core.List.{List}
use Prim.Native.Nat.{ℕ, ◌<◌}
use native.Mathlib.Omega.{arith}
use lib.ListN.{get_or}
use Rattle.answer.specs.Answers.{Wrote}
use Rattle.answer.proofs.Laws.Part.{leaves-wrong, leaves-right, part_right}
use Rattle.dimacs.specs.Texts.{write_call}
use Rattle.host.proofs.simbolufa_write_dimacs.Goals.{After-shared_slice_known-1, Start}
use Rattle.host.proofs.simbolufa_write_dimacs.Goals as goal

abbrev wrote : Start → Wrote (List ℕ)
wrote start = let a = start.args in write_call a.clauses.now a.variables a.text.now

-- what is lent is bytes
lent : (c : After-shared_slice_known-1) (i : ℕ) → get_or c.args.clauses.now i 0 < 256
lent c i = omega (arith, c.shared_slice_known-1.given i)

pub returns-then-is_part_wrong : goal.returns-then-is_part_wrong
returns-then-is_part_wrong c =
    record { settled = leaves-wrong c.args.answer.now c.args.text.now (wrote (goal.at.returns-then-is_part_wrong c).Start) _ c.is_part_wrong.ensures c.if-is_part_wrong.true; bytes = lent (goal.at.returns-then-is_part_wrong c).After-shared_slice_known-1 }

pub give-requires : goal.give-requires
give-requires c =
    part_right c.args.answer.now _ c.is_part_wrong.ensures c.if-is_part_wrong.false

pub returns : goal.returns
returns c =
    record {
      settled = leaves-right c.args.answer.now c.args.text.now (wrote (goal.at.returns c).Start)
          (record { answer = c.write.result; output = c.write.new.text })
          _ c.is_part_wrong.ensures c.if-is_part_wrong.false c.write.ensures c.give.ensures;
      bytes = lent (goal.at.returns c).After-shared_slice_known-1;
    }
