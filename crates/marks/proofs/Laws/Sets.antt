-- What an accepted set gives: as many bytes as nodes, and each one right.
-- Assumes nothing.
use mathlib.Core.Path.{◌≡◌, refl, ap}
use mathlib.Core.Bool.{Bool, true, false, cond}
use mathlib.Core.List.{List}
use Prim.Native.Nat.{ℕ, ◌<◌, ◌≤◌}
use native.Mathlib.Omega.{arith}
use lib.Dec.{eqb, ltb}
use lib.ListN.{length}
use borrow.Author.Tests.{eqb-true, ltb-false}
use Rattle.laws.proofs.First.{first-before}
use Rattle.answer.specs.Answers.{refuses}
use Rattle.answer.proofs.Laws.Order.{passes}
use Rattle.marks.specs.Sets.{byte_right, first_wrong_byte, set_checked}
use Rattle.answer.specs.Answers.{accepted_with}
use Rattle.std.specs.Prelude.{Err}
use Rattle.answer.specs.declared.Refusal.TheVariants.{Set}
use Rattle.formula.specs.declared.node.Node.{Node}

module _ (ns : List Node) (s : List ℕ) where
  record Passed : Type 0 where
    size : eqb (length s) (length ns) ≡ true
    bytes : ltb (first_wrong_byte ns s) (length ns) ≡ false

  passed : refuses (set_checked ns s) ≡ false → Passed
  passed e = go (eqb (length s) (length ns)) refl e
    where
      go : (b : Bool) → eqb (length s) (length ns) ≡ b
          → refuses (cond b (cond (ltb (first_wrong_byte ns s) (length ns)) (Err (Set (first_wrong_byte ns s))) (accepted_with 0 0)) (Err (Set (length ns))))
          ≡ false → Passed
      go true p q = record {
        size = p;
        bytes = (passes (ltb (first_wrong_byte ns s) (length ns)) (Err (Set (first_wrong_byte ns s))) (accepted_with 0 0)
            (λ z. refl) q).0;
      }
      go false p q = let z : ◌≡◌ {A = ℕ} 0 1 = cc in absurd (omega arith)

  -- a check that does not refuse accepts, with two zeros
  pub set-accepted : refuses (set_checked ns s) ≡ false → set_checked ns s ≡ accepted_with 0 0
  set-accepted e = let p : Passed = passed e in rw (p.size, p.bytes)

  pub record RightSet : Type 0 where
    pub size : length s ≡ length ns
    pub bytes : (i : ℕ) → i < length ns → byte_right ns s i ≡ true

  pub right_set : (x y : ℕ) → set_checked ns s ≡ accepted_with x y → RightSet
  right_set x y e =
      let p : Passed = passed (ap refuses e) in
      let all : length ns ≤ first_wrong_byte ns s = ltb-false (first_wrong_byte ns s) (length ns) p.bytes in
      record {
        size = eqb-true (length s) (length ns) p.size;
        bytes = λ i h. first-before (byte_right ns s) (length ns) i (omega arith);
      }
