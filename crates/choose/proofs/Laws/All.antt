-- The set of all nodes that may be renamed: its bytes, its length, and how many nodes it has.
-- Assumes nothing.
use mathlib.Core.Path.{◌≡◌, refl, ap, ◌∙◌}
use mathlib.Core.Bool.{Bool, true, false, cond}
use mathlib.Core.List.{List}
use Prim.Native.Nat.{ℕ, suc, ◌+◌, ◌<◌}
use native.Mathlib.Numerals.{add-one}
use mir.Val.{bool_byte}
use lib.Dec.{eqb}
use lib.ListN.{length, get_or}
use Rattle.laws.proofs.Upward.{length-up_to, get_d_up_to}
use Rattle.formula.specs.declared.node.Node.{Node}
use Rattle.marks.specs.Sets.{renamed, may_rename}
use Rattle.clausal.specs.Clauses.{renamed_below}
use Rattle.clausal.specs.Choosing.{all_of}

-- the byte of a test
pub test-byte : (b : Bool) → bool_byte b ≡ cond b 1 0
test-byte true = refl
test-byte false = refl

module _ (ns : List Node) where
  byte : List ℕ → ℕ → ℕ
  byte before i = cond (may_rename ns i) 1 0

  pub all-size : length (all_of ns) ≡ length ns
  unfolding byte
  all-size = length-up_to byte (length ns)

  pub all-byte : (i : ℕ) → i < length ns → get_or (all_of ns) i 0 ≡ cond (may_rename ns i) 1 0
  unfolding byte
  all-byte i h = get_d_up_to byte 0 i (length ns) h

  pub all_renamed : (i : ℕ) → i < length ns → renamed (all_of ns) i ≡ may_rename ns i
  all_renamed i h = ap (λ (b : ℕ). eqb b 1) (all-byte i h) ∙ one (may_rename ns i)
    where
      one : (b : Bool) → eqb (cond b 1 0) 1 ≡ b
      one true = cc
      one false = cc

  -- one node more
  pub all-next : (i : ℕ) → i < length ns → renamed_below (all_of ns) (suc i) ≡ renamed_below (all_of ns) i + cond (may_rename ns i) 1 0
  unfolding renamed_below
  all-next i h = ap (λ (b : Bool). renamed_below (all_of ns) i + cond b 1 0) (all_renamed i h)

  pub all_more : (i : ℕ) → i < length ns → renamed_below (all_of ns) (i + 1) ≡ renamed_below (all_of ns) i + cond (may_rename ns i) 1 0
  all_more i h = ap (renamed_below (all_of ns)) (add-one i) ∙ all-next i h
