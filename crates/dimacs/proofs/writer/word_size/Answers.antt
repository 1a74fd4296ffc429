-- `dimacs::writer::word_size` meets its contract: digits, one byte behind them, and the minus of a negated literal. Assumes nothing.
use mathlib.Core.Path.{◌≡◌, ap, ◌∙◌}
use Prim.Native.Nat.{ℕ, ◌≤◌}
use native.Mathlib.Omega.{arith}
use lib.ListN.{length}
use Rattle.text.specs.Texts.{decimal}
use Rattle.clausebytes.specs.Words.{literal_of}
use Rattle.text.proofs.Laws.Decimals.{width-least}
use Rattle.dimacs.proofs.Laws.Written.{sign_is, word_size}
use Rattle.dimacs.proofs.writer.word_size.Goals.{After-width}
use Rattle.dimacs.proofs.writer.word_size.Goals as goal

-- the digits
few : (c : After-width) → c.width.result ≤ 10
few c = omega (arith, c.width.ensures, width-least c.magnitude.result (omega arith))

sized : (c : After-width) → c.width.result ≡ length (decimal (literal_of c.args.word).variable)
sized c = c.width.ensures ∙ ap (λ (x : ℕ). length (decimal x)) c.magnitude.ensures

pub returns : goal.returns
returns c =
    omega (arith, sized c, sign_is c.args.word c.ranges.word.fits, word_size c.args.word)

pub overflow_add-result : goal.overflow_add-result
overflow_add-result c =
    omega (arith, few c)

pub overflow_add-result-2 : goal.overflow_add-result-2
overflow_add-result-2 c =
    omega (arith, few c)
