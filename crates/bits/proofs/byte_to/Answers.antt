-- `bits::byte_to` meets its contract: a power of two is added or taken away, or the bit is as it shall be. Assumes nothing.
-- the bit is there, and stays or is taken out
use mathlib.Core.Path.{sym, ap, ◌∙◌}
use mathlib.Core.Bool.{true}
use Prim.Native.Nat.{ℕ, ◌+◌, ◌-◌, ◌<◌}
use native.Mathlib.Omega.{arith}
use Rattle.bits.proofs.Laws.Bytes.{byte-to, power_within, shifted, to-there, to-missing}
use Rattle.bits.proofs.byte_to.Goals as goal

pub overflow_add-result : goal.overflow_add-result
overflow_add-result c =
    let x = c.args in
    let small : x.byte < 256 = omega (arith, c) in
    record { fits = omega (arith, (let x = c.args in ap (λ (p : ℕ). x.byte + p) (shifted x.k c.requires) ∙ sym (to-missing x.byte x.k x.there c.if-byte-k-eq1.false ∙ rw c.if-there-2.true)), byte-to x.there x.byte x.k small c.requires) }
