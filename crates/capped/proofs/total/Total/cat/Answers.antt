-- `capped::total::Total::cat` meets its contract: the sums, read at the ceilings. Assumes nothing.
use mathlib.Core.Path.{◌∙◌}
use Rattle.capped.proofs.Laws.Stated.{stated-shown}
use Rattle.capped.proofs.total.Total.cat.Goals as goal

pub returns : goal.returns
returns c = c.stated.ensures ∙ stated-shown _ _ _ _ c.add.ensures c.add-2.ensures
