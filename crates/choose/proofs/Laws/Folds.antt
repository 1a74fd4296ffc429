-- Visits from the highest node down: what every visit keeps, and visits that are the same.
-- Assumes nothing.
use mathlib.Core.Path.{◌≡◌, refl, ap, ◌∙◌}
use Prim.Native.Nat.{ℕ, zero, suc}
use Rattle.clausal.specs.Choosing.{Choice, visits_from}

-- what every visit keeps holds at the end
pub visits_keep : (visit : ℕ → Choice → Choice) (Q : ℕ → Choice → Type 0) → ((k : ℕ) (c : Choice) → Q (suc k) c → Q k (visit k c))
    → (k : ℕ) (c : Choice) → Q k c → Q 0 (visits_from visit k c)
unfolding visits_from
visits_keep visit Q step zero c q = q
visits_keep visit Q step (suc k) c q = visits_keep visit Q step k (visit k c) (step k c q)

pub visits_same : (v w : ℕ → Choice → Choice) → ((k : ℕ) (c : Choice) → v k c ≡ w k c) → (k : ℕ) (c : Choice)
    → visits_from v k c ≡ visits_from w k c
unfolding visits_from
visits_same v w e zero c = refl
visits_same v w e (suc k) c = ap (visits_from v k) (e k c) ∙ visits_same v w e k (w k c)
