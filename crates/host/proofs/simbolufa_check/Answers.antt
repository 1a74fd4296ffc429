-- `host::simbolufa_check` meets its contract: a wrong answer part is looked at first, and the check's answer is given. Assumes nothing.
use mathlib.Core.Path.{ap}
use Rattle.answer.specs.Answers.{Wrote, only}
use Rattle.answer.proofs.Laws.Part.{leaves-wrong, leaves-right, part_right}
use Rattle.formula.specs.Checks.{checked}
use Rattle.host.proofs.simbolufa_check.Goals.{Start}
use Rattle.host.proofs.simbolufa_check.Goals as goal

abbrev wrote : Start → Wrote (Unit {0})
wrote start = let a = start.args in only (checked a.table.now a.options)

pub returns-then-is_part_wrong : goal.returns-then-is_part_wrong
returns-then-is_part_wrong c =
    leaves-wrong c.args.answer.now tt (wrote (goal.at.returns-then-is_part_wrong c).Start) _ c.is_part_wrong.ensures c.if-is_part_wrong.true

pub give-requires : goal.give-requires
give-requires c =
    part_right c.args.answer.now _ c.is_part_wrong.ensures c.if-is_part_wrong.false

pub returns : goal.returns
returns c =
    leaves-right c.args.answer.now tt (wrote (goal.at.returns c).Start) (record { answer = c.check.result; output = tt })
    _ c.is_part_wrong.ensures c.if-is_part_wrong.false (ap only c.check.ensures) c.give.ensures
