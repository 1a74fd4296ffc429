-- `host::simbolufa_convert_after` meets its contract: a wrong answer part is looked at first, and the conversion is given. Assumes nothing.
use mathlib.Core.List.{List}
use Prim.Native.Nat.{ℕ}
use Rattle.answer.specs.Answers.{Wrote}
use Rattle.answer.proofs.Laws.Part.{leaves-wrong, leaves-right, part_right}
use Rattle.clausal.specs.Calls.{converted_after}
use Rattle.host.proofs.simbolufa_convert_after.Goals.{Start}
use Rattle.host.proofs.simbolufa_convert_after.Goals as goal

abbrev wrote : Start → Wrote (List ℕ)
wrote start = let a = start.args in converted_after a.table.now a.options a.taken a.set.now a.out.now

pub returns-then-is_part_wrong : goal.returns-then-is_part_wrong
returns-then-is_part_wrong c =
    leaves-wrong c.args.answer.now c.args.out.now (wrote (goal.at.returns-then-is_part_wrong c).Start) _ c.is_part_wrong.ensures c.if-is_part_wrong.true

pub give-requires : goal.give-requires
give-requires c =
    part_right c.args.answer.now _ c.is_part_wrong.ensures c.if-is_part_wrong.false

pub returns : goal.returns
returns c =
    leaves-right c.args.answer.now c.args.out.now (wrote (goal.at.returns c).Start)
    (record { answer = c.convert_after.result; output = c.convert_after.new.out })
    _ c.is_part_wrong.ensures c.if-is_part_wrong.false c.convert_after.ensures c.give.ensures
