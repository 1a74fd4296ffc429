-- The bits of a byte of which one was set: computed once over all bytes and all bits. Assumes nothing.
use mathlib.Core.Path.{◌≡◌, refl}
use mathlib.Core.Bool.{Bool, true, false, false≢true, cond, ◌&&◌, beq}
use Prim.Native.Nat.{ℕ, ◌+◌, ◌-◌, ◌*◌, ◌/◌, ◌%◌, ◌^◌, ◌<◌, ◌≤◌}
use native.Mathlib.Nat.{pow-le-pow_right}
use native.Mathlib.Omega.{arith}
use lib.Dec.{eqb, ltb, leb}
use borrow.Author.Tests.{eqb-true, ltb-true, leb-true, eq-eqb, ne_eqb}
use Rattle.laws.specs.Lists.{first, first_from}
use Rattle.laws.proofs.Choices.{both}
use Rattle.laws.proofs.First.{first-before}
use Rattle.bits.specs.Inner.Rows.{bit_of, byte_to}

beq-is : (a b : Bool) → beq a b ≡ true → a ≡ b
beq-is true true e = refl
beq-is true false e = absurd (false≢true e)
beq-is false true e = absurd (false≢true e)
beq-is false false e = refl

-- byte b with bit k set: it is a byte, bit k is as it was set, and any other bit m as it was; a bit that is there can be taken out
abbrev right : Bool → ℕ → ℕ → ℕ → Bool
right v k m b = beq (bit_of (byte_to b k v) m) (cond (eqb m k) v (bit_of b m)) && (ltb (byte_to b k v) 256
    && leb (cond (bit_of b k) (2 ^ k) 0) b)

all_right : (v : Bool) → first (λ k. eqb (first (λ m. eqb (first (right v k m) 256) 256) 8) 8) 8 ≡ 8
unfolding first_from
all_right true = refl
all_right false = refl

module _ (v : Bool) (b k : ℕ) (h : b < 256) (g : k < 8) where
  right-at : (m : ℕ) → m < 8 → right v k m b ≡ true
  right-at m l =
      let of-k = first-before (λ x. eqb (first (λ y. eqb (first (right v x y) 256) 256) 8) 8) 8 k (omega (arith, all_right v)) in
      let of-m = first-before (λ y. eqb (first (right v k y) 256) 256) 8 m
      (omega (arith, eqb-true (first (λ y. eqb (first (right v k y) 256) 256) 8) 8 of-k)) in
      first-before (right v k m) 256 b (omega (arith, eqb-true (first (right v k m) 256) 256 of-m))

  parts : (m : ℕ) → m < 8
      → (beq (bit_of (byte_to b k v) m) (cond (eqb m k) v (bit_of b m)) ≡ true)
      × ((ltb (byte_to b k v) 256 && leb (cond (bit_of b k) (2 ^ k) 0) b) ≡ true)
  parts m l = both (beq (bit_of (byte_to b k v) m) (cond (eqb m k) v (bit_of b m)))
      (ltb (byte_to b k v) 256 && leb (cond (bit_of b k) (2 ^ k) 0) b) (right-at m l)

  pub bit_to : (m : ℕ) → m < 8 → bit_of (byte_to b k v) m ≡ cond (eqb m k) v (bit_of b m)
  bit_to m l = beq-is _ _ (parts m l).0

  sizes : (ltb (byte_to b k v) 256 ≡ true) × (leb (cond (bit_of b k) (2 ^ k) 0) b ≡ true)
  sizes = both (ltb (byte_to b k v) 256) (leb (cond (bit_of b k) (2 ^ k) 0) b) (parts 0 (omega arith)).1

  pub byte-to : byte_to b k v < 256
  byte-to = ltb-true (byte_to b k v) 256 sizes.0

  pub power_within : b / 2 ^ k % 2 ≡ 1 → 2 ^ k ≤ b
  power_within e =
      let there : cond (bit_of b k) (2 ^ k) 0 ≡ 2 ^ k = rw (eq-eqb (b / 2 ^ k % 2) 1 e) in
      omega (arith, there, leb-true (cond (bit_of b k) (2 ^ k) 0) b sizes.1)

-- a power as the machine shifts it
pub shifted : (k : ℕ) → k < 8 → 1 * 2 ^ k % 256 ≡ 2 ^ k
shifted k h =
    let two : 0 < 2 = omega arith in
    let most : k ≤ 7 = omega arith in
    omega (arith, pow-le-pow_right two most)

-- where the bit was there, and where it was not
module _ (b k : ℕ) (v : Bool) where
  pub to-there : b / 2 ^ k % 2 ≡ 1 → byte_to b k v ≡ cond v b (b - 2 ^ k)
  to-there e = rw (eq-eqb (b / 2 ^ k % 2) 1 e)

  pub to-missing : (b / 2 ^ k % 2 ≡ 1 → ⊥) → byte_to b k v ≡ cond v (b + 2 ^ k) b
  to-missing n = rw (ne_eqb (b / 2 ^ k % 2) 1 n)
