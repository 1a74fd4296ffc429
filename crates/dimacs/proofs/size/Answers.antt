-- `dimacs::size` meets its contract: the header, and the lines behind it. Assumes nothing.
use Prim.Native.Nat.{◌≤◌}
use native.Mathlib.Omega.{arith}
use Rattle.text.proofs.Laws.Decimals.{width-least}
use Rattle.dimacs.proofs.size.Goals.{After-width, After-width-2}
use Rattle.dimacs.proofs.size.Goals as goal

first-few : (c : After-width) → c.width.result ≤ 10
first-few c = omega (arith, c.width.ensures, width-least c.args.variables c.ranges.variables.fits)

second-few : (c : After-width-2) → c.width-2.result ≤ 10
second-few c = omega (arith, c.width-2.ensures, width-least c.args.count c.ranges.count.fits)

pub overflow_add-result : goal.overflow_add-result
overflow_add-result c =
    omega (arith, first-few c)

pub overflow_add-result-2 : goal.overflow_add-result-2
overflow_add-result-2 c =
    omega (arith, first-few (goal.at.overflow_add-result-2 c).After-width, second-few c)

pub overflow_add-result-3 : goal.overflow_add-result-3
overflow_add-result-3 c =
    omega (arith, first-few (goal.at.overflow_add-result-3 c).After-width, second-few c, c.requires)
