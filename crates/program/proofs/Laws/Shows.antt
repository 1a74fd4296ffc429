-- What is shown: the line of a refusal, or what comes after acceptance.
-- Assumes nothing.
use mathlib.Core.Path.{◌≡◌, refl, sym, ap, ◌∙◌, subst⁻¹}
use mathlib.Core.Bool.{Bool, true, false, cond}
use mathlib.Core.List.{List, [], ◌∷◌}
use Prim.Native.Nat.{ℕ, ◌≤◌, ◌<◌}
use native.Mathlib.Omega.{arith}
use lib.ListN.{length, length-append}
use Rattle.laws.specs.Inner.Stores.{Stored}
use Rattle.laws.proofs.Stored.{stored-length}
use Rattle.text.specs.Texts.{decimal}
use Rattle.text.proofs.Laws.Decimals.{length_decimal_le}
use Rattle.answer.specs.Answers.{refuses, Wrote, afterwards}
use Rattle.answer.specs.Answers.{Answer}
use Rattle.std.specs.Prelude.{Ok, Err}
use Rattle.answer.specs.declared.Accepted.{Accepted}
use Rattle.answer.specs.declared.Refusal.{Refusal}
use Rattle.program.specs.Printed.{field, refusal_line, unless_refused, Shows}

pub shows_stored : {xs before after : List ℕ} {count : ℕ} → length xs ≤ length before → Stored xs before 0 count after
    → Shows xs before count after
shows_stored {xs} {before} room s = record {
  stored = s;
  within = omega (arith, s.place, stored-length {xs = xs} {l = before} {at = 0} (omega arith) s);
}

-- the same bytes in the same buffer
pub shows_as : {xs ys before was after : List ℕ} {count : ℕ} → xs ≡ ys → before ≡ was
    → Shows ys was count after → Shows xs before count after
shows_as {ys = ys} {before} {after = after} {count} e f s =
    subst⁻¹ (λ (l : List ℕ). Shows l before count after) e (subst⁻¹ (λ (l : List ℕ). Shows ys l count after) f s)

-- what is printed goes by an answer b; a is b
module _ (line : List ℕ) (b : Answer) (next : List ℕ) (q : line ≡ unless_refused b next) (a : Answer) (e : a ≡ b) where
  pub line_refused : (r : Refusal) → a ≡ Err r → line ≡ refusal_line (Err r)
  line_refused r g = q ∙ ap (λ (x : Answer). unless_refused x next) (sym e ∙ g)

  pub line-accepted : (x : Accepted) → a ≡ Ok x → line ≡ next
  line-accepted x g = q ∙ ap (λ (y : Answer). unless_refused y next) (sym e ∙ g)

-- a call that checks first refuses as its check does
pub unless_checked : {O : Type 0} (c : Answer) (before : O) (w : Wrote O) (next : List ℕ)
    → (refuses c ≡ false → refuses w.answer ≡ false)
    → unless_refused c next ≡ unless_refused (afterwards c before w).answer next
unless_checked c before w next h = go (refuses c) refl
  where
    go : (b : Bool) → refuses c ≡ b
        → cond b (refusal_line c) next ≡ unless_refused (cond b (record { answer = c; output = before }) w).answer next
    go true p = rw p
    go false p = rw (h p)

-- a field of a 32-bit number has at most 11 bytes
pub field-short : (n end : ℕ) → n < 4_294_967_296 → length (field n end) ≤ 11
field-short n end h = omega (arith, length-append (decimal n) (end ∷ []), length_decimal_le 9 n (omega arith))
