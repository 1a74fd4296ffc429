-- `program::size` meets its contract: the room for what measuring tells. Assumes nothing.
use mathlib.Core.Path.{ap, ◌∙◌}
use Rattle.answer.specs.Answers.{told_of}
use Rattle.answer.specs.Answers.{Answer}
use Rattle.answer.specs.declared.Told.{Told}
use Rattle.clausebytes.specs.Inner.Checks.{room_of}
use Rattle.program.proofs.size.Goals as goal

pub returns : goal.returns
returns c =
    c.room.ensures
    ∙ ap (λ (x : Told). room_of x.first x.second) c.tell-told.ensures
    ∙ ap (λ (a : Answer). room_of (told_of a).first (told_of a).second) c.measure.ensures
