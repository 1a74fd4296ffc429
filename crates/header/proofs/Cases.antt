-- The head of a text on small inputs, with one number and with two.
-- Assumes nothing.
use mathlib.Core.Path.{◌≡◌, refl}
use mathlib.Core.Bool.{true, false}
use mathlib.Core.List.{[], ◌∷◌}
use Rattle.std.specs.Prelude.{Some, None}
use Rattle.header.specs.Inner.Heads.{head_of}
use Rattle.header.specs.declared.Form.{Form}
use Rattle.header.specs.declared.Phase.TheVariants.{Done, Dead}

-- `sat` and one number up to 99; `cnf` and two, up to 9 and up to 99
abbrev sat : Form
sat = record { first = 115; second = 97; third = 116; before = None; last = 99 }

abbrev cnf : Form
cnf = record { first = 99; second = 110; third = 102; before = Some 9; last = 99 }

-- `p sat 42\n(`: over with the newline
one_number : head_of sat (112 ∷ 32 ∷ 115 ∷ 97 ∷ 116 ∷ 32 ∷ 52 ∷ 50 ∷ 10 ∷ 40 ∷ [])
    ≡ record { phase = Done; place = 9; value = 42; before = 0; last = true }
one_number = refl

-- `c\np cnf 7 42 \n`
two_numbers : head_of cnf (99 ∷ 10 ∷ 112 ∷ 32 ∷ 99 ∷ 110 ∷ 102 ∷ 32 ∷ 55 ∷ 32 ∷ 52 ∷ 50 ∷ 32 ∷ 10 ∷ [])
    ≡ record { phase = Done; place = 14; value = 42; before = 7; last = true }
two_numbers = refl

-- `p sat 1 2`: no second number; `p cnf 7\n`: no first alone; `p sat 100`: over the limit
second-number : head_of sat (112 ∷ 32 ∷ 115 ∷ 97 ∷ 116 ∷ 32 ∷ 49 ∷ 32 ∷ 50 ∷ [])
    ≡ record { phase = Dead; place = 8; value = 1; before = 0; last = true }
second-number = refl

number-missing : head_of cnf (112 ∷ 32 ∷ 99 ∷ 110 ∷ 102 ∷ 32 ∷ 55 ∷ 10 ∷ [])
    ≡ record { phase = Dead; place = 7; value = 7; before = 0; last = false }
number-missing = refl

over_limit : head_of sat (112 ∷ 32 ∷ 115 ∷ 97 ∷ 116 ∷ 32 ∷ 49 ∷ 48 ∷ 48 ∷ [])
    ≡ record { phase = Dead; place = 8; value = 10; before = 0; last = true }
over_limit = refl
