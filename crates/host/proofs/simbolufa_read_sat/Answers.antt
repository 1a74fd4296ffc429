-- `host::simbolufa_read_sat` meets its contract: a wrong answer part is looked at first, and what was read is given. Assumes nothing.
use mathlib.Core.List.{List}
use Prim.Native.Nat.{ℕ}
use Rattle.answer.specs.Answers.{Wrote}
use Rattle.answer.proofs.Laws.Part.{leaves-wrong, leaves-right, part_right}
use Rattle.satfile.specs.Inner.Calls.{read_call}
use Rattle.host.proofs.simbolufa_read_sat.Goals.{Start}
use Rattle.host.proofs.simbolufa_read_sat.Goals as goal

abbrev wrote : Start → Wrote (List ℕ)
wrote start = let a = start.args in read_call a.text.now a.table.now

pub returns-then-is_part_wrong : goal.returns-then-is_part_wrong
returns-then-is_part_wrong c =
    leaves-wrong c.args.answer.now c.args.table.now (wrote (goal.at.returns-then-is_part_wrong c).Start) _ c.is_part_wrong.ensures c.if-is_part_wrong.true

pub give-requires : goal.give-requires
give-requires c =
    part_right c.args.answer.now _ c.is_part_wrong.ensures c.if-is_part_wrong.false
