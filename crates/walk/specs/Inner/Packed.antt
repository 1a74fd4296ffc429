-- Steps as numbers, so that a writer that calls itself has a step in a register and not in its frame.
-- Assumes nothing: these are definitions.
use Rattle.std.specs.Prelude.{cond, ◌≡◌, ℕ, ◌+◌, ◌*◌, ◌/◌, ◌%◌, ◌<◌, eqb}
use Rattle.formula.specs.Tables.{most_nodes}
use Rattle.walk.specs.declared.step.Step.TheVariants.{Nothing, Literal, Left, Right, Both}
use Rattle.walk.specs.declared.step.Step.{Step}
use Rattle.walk.specs.declared.step.Way.{Way}

-- a way as one number: the clause's number, the node, and the sign
abbrev pub packed : Way → ℕ
packed w = (w.k * 1_024 + w.node) * 2 + cond w.sign 1 0

abbrev pub way_of : ℕ → Way
way_of x = record { node = x / 2 % 1_024; sign = eqb (x % 2) 1; k = x / 2_048 }

-- a way whose number fits
pub record Packable (w : Way) : Type 0 where
  pub node : w.node < most_nodes
  pub k : w.k < 65_536

-- a step as one number: what the clause is made of is its remainder by 8, and a way has 27 bits
abbrev pub packed_step : Step → ℕ
packed_step Nothing = 0
packed_step (Literal x) = x * 8 + 1
packed_step (Left w) = packed w * 8 + 2
packed_step (Right w) = packed w * 8 + 3
packed_step (Both w x) = (packed w * 134_217_728 + packed x) * 8 + 4

abbrev pub step_of : ℕ → Step
step_of c =
    cond (eqb (c % 8) 0) Nothing
    (cond (eqb (c % 8) 1) (Literal (c / 8 % 4_294_967_296))
    (cond (eqb (c % 8) 2) (Left (way_of (c / 8 % 134_217_728)))
    (cond (eqb (c % 8) 3) (Right (way_of (c / 8 % 134_217_728)))
    (Both (way_of (c / 8 / 134_217_728 % 134_217_728)) (way_of (c / 8 % 134_217_728))))))

-- a step whose number fits: its ways and its variable do
abbrev pub Made : Step → Type 0
Made Nothing = Unit {0}
Made (Literal x) = x < 4_294_967_296
Made (Left w) = Packable w
Made (Right w) = Packable w
Made (Both w x) = Packable w × Packable x

-- the number of a step, from which it comes back
pub record Led (s : Step) (code : ℕ) : Type 0 where
  pub number : code ≡ packed_step s
  pub back : step_of code ≡ s
