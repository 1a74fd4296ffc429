-- `classes::Classes::new` meets its contract: the array is the table, which one computation shows of all entries. Assumes nothing.
use mathlib.Core.Path.{refl}
use Rattle.laws.specs.Lists.{up_to}
use Rattle.classes.proofs.Classes.new.Goals as goal

pub invariant_of-result : goal.invariant_of-result
unfolding up_to
invariant_of-result c = record { right = refl }
