-- Bytes put with a pen: where they do not fit, where they do, and one run behind another.
-- Assumes nothing.
use mathlib.Core.Path.{◌≡◌, refl, sym, ap, ◌∙◌, subst⁻¹}
use mathlib.Core.Bool.{Bool, true, false, ◌&&◌}
use mathlib.Core.List.{List, [], ◌++◌}
use Prim.Native.Nat.{ℕ, ◌+◌, ◌≤◌}
use native.Mathlib.Nat.{zero-add}
use native.Mathlib.Omega.{arith}
use lib.Dec.{leb}
use lib.ListN.{length, take, length-append}
use borrow.Author.Tests.{le-leb, leb-true}
use Rattle.laws.specs.Lists.{splice}
use Rattle.laws.specs.Inner.Stores.{Stored}
use Rattle.laws.proofs.Choices.{both}
use Rattle.laws.proofs.Splices.{splice-splice}
use Rattle.laws.proofs.Stored.{stored-nothing, stored-length, take-stored}
use Rattle.origin.specs.Inner.Pens.{Standing, Drawn}
use Rattle.origin.specs.declared.pen.Pen.{Pen}

-- two truths that exclude each other
pub never : {A : Type 0} (b : Bool) → b ≡ true → b ≡ false → A
never b e f = let z : ◌≡◌ {A = ℕ} 0 1 = cc in absurd (omega arith)

-- two truths that follow from each other
same_truth : (a b : Bool) → (a ≡ true → b ≡ true) → (b ≡ true → a ≡ true) → a ≡ b
same_truth true b f g = sym (f refl)
same_truth false true f g = g refl
same_truth false false f g = refl

-- a pen that has left its buffer puts nothing
pub drawn-out : (bytes out : List ℕ) (p : Pen) → Standing p out → p.fits ≡ false → Drawn bytes out p out p
drawn-out bytes out p s e = record {
  mode = refl;
  fits = e ∙ ap (λ (b : Bool). b && leb (p.at + length bytes) (length out)) (sym e);
  place = λ f. never p.fits f e;
  standing = s;
  size = refl;
  wrote = λ w f. never p.fits f e;
  kept = λ w. refl;
}

-- no byte at all, for a pen that has not left its buffer or has
pub drawn-nothing : (out : List ℕ) (p : Pen) → Standing p out → Drawn [] out p out p
drawn-nothing out p s = go p.fits refl
  where
    go : (b : Bool) → p.fits ≡ b → Drawn [] out p out p
    go false e = drawn-out [] out p s e
    go true e = record {
      mode = refl;
      fits = e ∙ sym (ap (λ (b : Bool). b && leb (p.at + 0) (length out)) e ∙ le-leb (p.at + 0) (length out) (omega arith));
      place = λ f. omega arith;
      standing = s;
      size = refl;
      wrote = λ w f. (stored-nothing out p.at).list;
      kept = λ w. refl;
    }

pub drawn_as : {xs ys out after : List ℕ} {p q : Pen} → xs ≡ ys → Drawn ys out p after q → Drawn xs out p after q
drawn_as {out = out} {after = after} {p = p} {q = q} e d = subst⁻¹ (λ (l : List ℕ). Drawn l out p after q) e d

-- one run behind another
module _ (xs ys before middle after : List ℕ) (p q r : Pen) (d : Drawn xs before p middle q) (f : Drawn ys middle q after r) where
  -- all of it fits where the pen has not left the buffer in the end
  record Whole : Type 0 where
    first : q.fits ≡ true
    begun : p.fits ≡ true
    place : q.at ≡ p.at + length xs
    room : p.at + length xs + length ys ≤ length before

  whole : r.fits ≡ true → Whole
  whole e =
      let second = both q.fits (leb (q.at + length ys) (length middle)) (sym f.fits ∙ e) in
      let begun = both p.fits (leb (p.at + length xs) (length before)) (sym d.fits ∙ second.0) in
      let place = d.place second.0 in
      let room = leb-true (q.at + length ys) (length middle) second.1 in
      record { first = second.0; begun = begun.0; place = place; room = omega (arith, d.size) }

  sum : length (xs ++ ys) ≡ length xs + length ys
  sum = length-append xs ys

  all-fits : (p.fits && leb (p.at + length (xs ++ ys)) (length before)) ≡ true → r.fits ≡ true
  all-fits e =
      let begun = both p.fits (leb (p.at + length (xs ++ ys)) (length before)) e in
      let room = leb-true (p.at + length (xs ++ ys)) (length before) begun.1 in
      let first : q.fits ≡ true = d.fits ∙ ap (λ (b : Bool). b && leb (p.at + length xs) (length before)) begun.0
      ∙ le-leb (p.at + length xs) (length before) (omega (arith, sum)) in
      let place = d.place first in
      f.fits ∙ ap (λ (b : Bool). b && leb (q.at + length ys) (length middle)) first
      ∙ le-leb (q.at + length ys) (length middle) (omega (arith, sum, d.size))

  one-fits : r.fits ≡ true → (p.fits && leb (p.at + length (xs ++ ys)) (length before)) ≡ true
  one-fits e =
      let w = whole e in
      ap (λ (b : Bool). b && leb (p.at + length (xs ++ ys)) (length before)) w.begun
      ∙ le-leb (p.at + length (xs ++ ys)) (length before) (omega (arith, sum, w.room))

  pub drawn-both : Drawn (xs ++ ys) before p after r
  drawn-both = record {
    mode = f.mode ∙ d.mode;
    fits = same_truth r.fits (p.fits && leb (p.at + length (xs ++ ys)) (length before)) one-fits all-fits;
    place = λ e. f.place e ∙ (let w = whole e in omega (arith, sum, w.place));
    standing = omega (arith, f.standing, d.size);
    size = f.size ∙ d.size;
    wrote = λ w e. let h = whole e in
        f.wrote (d.mode ∙ w) e
        ∙ (λ i. splice (d.wrote w h.first i) (h.place i) ys)
        ∙ splice-splice before p.at xs (p.at + length xs) ys (omega (arith, h.room)) refl;
    kept = λ w. f.kept (d.mode ∙ w) ∙ d.kept w;
  }

-- a run that was stored in front of an array of ten bytes
module _ (xs l after : List ℕ) (next : ℕ) (few : length xs ≤ length l) (s : Stored xs l 0 next after) where
  end : next ≡ length xs
  end = s.place ∙ zero-add (length xs)

  pub digits-few : next ≤ length after
  digits-few = omega (arith, end, stored-length {at = 0} (omega arith) s)

  pub digits_are : xs ≡ take next after
  digits_are = sym (ap (take next) s.list ∙ take-stored l xs next (sym end))

  pub digits-length : next ≡ length (take next after)
  digits-length = end ∙ ap length digits_are
