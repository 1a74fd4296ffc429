-- The reader behind a header, at a limit that no short text comes to.
-- Assumes nothing.
use mathlib.Core.Path.{◌≡◌, refl}
use Rattle.body.specs.Inner.States.{step_of}
use Rattle.body.specs.declared.phase.Phase.TheVariants.{Between, Dead}
use Rattle.body.specs.declared.state.State.{State}

-- the literal past 999,999, at its first byte; a `-` too
full : State
full = record { phase = Between; place = 50; value = 0; variables = 9; declared = 1; clauses = 0; literals = 999999 }

literal_past_the_limit : (step_of full 49).phase ≡ Dead
unfolding full
literal_past_the_limit = refl

minus_past_the_limit : (step_of full 45).phase ≡ Dead
unfolding full
minus_past_the_limit = refl
