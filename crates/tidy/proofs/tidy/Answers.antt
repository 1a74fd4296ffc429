-- `tidy::tidy` meets its contract: what the check found decides, then what was measured: refusal 9, refusal 7, or both
-- outputs are written. Assumes nothing.
use mathlib.Core.Path.{◌≡◌, sym, ◌∙◌}
use mathlib.Core.Bool.{true, ◌&&◌}
use lib.Dec.{leb}
use lib.ListN.{length}
use Rattle.clausebytes.proofs.Laws.Checking.{Found, found_of_checked}
use Rattle.tidy.proofs.Laws.Calls.{whole-written}
use Rattle.tidy.proofs.tidy.Goals.{In-Some, Else-not-fits}
use Rattle.tidy.proofs.tidy.Goals as goal

-- what the check found
found : (c : In-Some) → let x = c.args in
    Found x.clauses.now x.variables c.in-Some.counted.clauses c.in-Some.counted.literals
found c =
    let x = c.args in
    found_of_checked x.clauses.now x.variables _ _ (sym c.check.ensures ∙ c.in-Some.is)

fit : (c : Else-not-fits) → let pen = c.put_all-measured.result in
    (leb pen.kept (length c.put_all-measured.new.out) && leb pen.lines (length c.put_all-measured.new.lines)) ≡ true
fit c = sym c.fits.ensures ∙ c.if-not-fits.false

pub put_all-requires : goal.put_all-requires
put_all-requires c =
    whole-written (found (goal.at.put_all-requires c).In-Some) c.put_all-measured.ensures (fit (goal.at.put_all-requires c).Else-not-fits)
