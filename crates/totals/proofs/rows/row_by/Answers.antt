-- `totals::rows::row_by` meets its contract: each kind has its rule. Assumes nothing.
use Rattle.totals.proofs.rows.row_by.Goals as goal

pub returns-in-False : goal.returns-in-False
returns-in-False c = rw (c.in-False.is) (λ i. record { p = c.empty.ensures i; n = c.none.ensures i })

pub returns-in-True : goal.returns-in-True
returns-in-True c = rw (c.in-True.is) (λ i. record { p = c.none-in-True.ensures i; n = c.empty-in-True.ensures i })

pub returns-in-Symbol : goal.returns-in-Symbol
returns-in-Symbol c = rw (c.in-Symbol.is) c.unit.ensures

pub returns-in-Unknown : goal.returns-in-Unknown
returns-in-Unknown c = rw (c.in-Unknown.is) c.none-in-Unknown.ensures
