-- What is put of a clause by its fate. Assumes nothing.
use mathlib.Core.Path.{◌≡◌, subst, subst⁻¹}
use mathlib.Core.Bool.{true, false}
use mathlib.Core.List.{List}
use Prim.Native.Nat.{ℕ, ◌<◌, ◌≤◌}
use lib.ListN.{length}
use borrow.Author.Tests.{lt-ltb, le-ltb}
use Rattle.clausal.specs.Clauses.{Clause, clauses_bytes}
use Rattle.tidied.specs.Tidying.{is_tautology, Fate, stays, tautology, repeats, kept_of, changes_by}
use Rattle.kept.specs.Inner.Pens.{fate_for, Drawn, Drawable}
use Rattle.kept.specs.declared.pen.Pen.{Pen}

-- the fate, by what is asked
module _ (n first : ℕ) (c : Clause) where
  pub fate_tautology : is_tautology c ≡ true → fate_for n first c ≡ tautology
  fate_tautology e = rw e

  pub fate_repeats : is_tautology c ≡ false → first < n → fate_for n first c ≡ repeats first
  fate_repeats e h = rw (e, lt-ltb first n h)

  pub fate_stays : is_tautology c ≡ false → n ≤ first → fate_for n first c ≡ stays
  fate_stays e h = rw (e, le-ltb first n h)

-- what is put is that of the fate
module _ (n : ℕ) (c : Clause) {f g : Fate} (e : f ≡ g) {out lines : List ℕ} {p : Pen} where
  pub fate_room : Drawable (clauses_bytes (kept_of f c)) (length (kept_of f c)) (changes_by n f c) out lines p
      → Drawable (clauses_bytes (kept_of g c)) (length (kept_of g c)) (changes_by n g c) out lines p
  fate_room h = subst (λ (x : Fate). Drawable (clauses_bytes (kept_of x c)) (length (kept_of x c)) (changes_by n x c) out lines p) e h

  pub fate_drawn : {mid left : List ℕ} {q : Pen}
      → Drawn (clauses_bytes (kept_of g c)) (length (kept_of g c)) (changes_by n g c) out lines p mid left q
      → Drawn (clauses_bytes (kept_of f c)) (length (kept_of f c)) (changes_by n f c) out lines p mid left q
  fate_drawn {mid} {left} {q} d =
      subst⁻¹ (λ (x : Fate). Drawn (clauses_bytes (kept_of x c)) (length (kept_of x c)) (changes_by n x c) out lines p mid left q) e d
