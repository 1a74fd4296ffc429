-- Numbers that are read digit by digit: what may still follow the digits that are read, for any continuation.
-- Assumes nothing.
use mathlib.Core.Path.{◌≡◌, refl, sym, ap, ◌∙◌, subst, subst⁻¹}
use mathlib.Core.Bool.{Bool, true, false, cond, ◌&&◌}
use mathlib.Core.List.{List, [], ◌∷◌, ◌++◌, append_assoc, append-nil}
use Prim.Native.Nat.{ℕ, ◌+◌, ◌*◌, ◌-◌, ◌≤◌, ◌<◌}
use native.Mathlib.Omega.{arith}
use lib.Dec.{eqb, leb, ltb}
use borrow.Author.Tests.{leb-true, le-leb, lt-leb, eqb-false, ne_eqb, ltb-false, le-ltb}
use Rattle.laws.proofs.Choices.{both}
use Rattle.text.specs.Texts.{decimal}
use Rattle.text.specs.Inner.Numbers.{is_digit, grown_of}
use Rattle.std.specs.Prelude.{Option, Some, None}
use Rattle.text.proofs.Laws.Decimals.{decimal-one, decimal-more, decimal-taken}

-- behind the digits of x: more digits within a limit, and then what may follow the number
pub data More (most : ℕ) (Next : ℕ → List ℕ → Type 0) : ℕ → List ℕ → Type 0 where
  here : {x : ℕ} {t : List ℕ} → Next x t → More most Next x t
  digit : {x d : ℕ} {t : List ℕ} → 0 < x → d < 10 → x * 10 + d ≤ most → More most Next (x * 10 + d) t
      → More most Next x ((48 + d) ∷ t)

-- a whole number, from `low` on
pub data First (low most : ℕ) (Next : ℕ → List ℕ → Type 0) : List ℕ → Type 0 where
  first : {d : ℕ} {t : List ℕ} → low ≤ d → d < 10 → d ≤ most → More most Next d t → First low most Next ((48 + d) ∷ t)

-- the decimal of a number, and what follows it
pub first_of_decimal : (low most : ℕ) (Next : ℕ → List ℕ → Type 0) → low ≤ 1 → (n : ℕ) (r : List ℕ) → low ≤ n → n ≤ most → Next n r
    → First low most Next (decimal n ++ r)
first_of_decimal low most Next small n r m l h =
    decimal-taken low most small (First low most Next) (More most Next)
    (λ d r m g l a. first m g l a)
    (λ x d r p g l a. digit p g l a)
    n r m l (here h)

-- the same from the digits: the number that they are, and what follows
pub record Whole (most x : ℕ) (Next : ℕ → List ℕ → Type 0) (t : List ℕ) : Type 0 where
  pub value : ℕ
  pub digits : List ℕ
  pub rest : List ℕ
  pub split : t ≡ digits ++ rest
  pub whole : decimal value ≡ decimal x ++ digits
  pub least : x ≤ value
  pub bound : value ≤ most
  pub next : Next value rest

module _ {most : ℕ} {Next : ℕ → List ℕ → Type 0} where
  pub whole_of_more : {x : ℕ} {t : List ℕ} → x ≤ most → More most Next x t → Whole most x Next t
  whole_of_more {x} {t} h (here n) = record {
    value = x;
    digits = [];
    rest = t;
    split = refl;
    whole = sym (append-nil (decimal x));
    least = omega arith;
    bound = h;
    next = n;
  }
  whole_of_more {x} h (digit {d = d} p g l m) =
      let w = whole_of_more l m in
      record {
        value = w.value;
        digits = (48 + d) ∷ w.digits;
        rest = w.rest;
        split = ap (λ (r : List ℕ). (48 + d) ∷ r) w.split;
        whole =
            w.whole ∙ ap (λ (r : List ℕ). r ++ w.digits) (decimal-more x d p g)
            ∙ append_assoc (decimal x) ((48 + d) ∷ []) w.digits;
        least = omega (arith, w.least);
        bound = w.bound;
        next = w.next;
      }

-- a number, what follows it, and the text that both are
pub record Split (low most : ℕ) (Next : ℕ → List ℕ → Type 0) (t : List ℕ) : Type 0 where
  pub value : ℕ
  pub rest : List ℕ
  pub split : t ≡ decimal value ++ rest
  pub least : low ≤ value
  pub bound : value ≤ most
  pub next : Next value rest

pub split_of_first : {low most : ℕ} {Next : ℕ → List ℕ → Type 0} {t : List ℕ} → First low most Next t → Split low most Next t
split_of_first (first {d = d} l g h m) =
    let w = whole_of_more h m in
    record {
      value = w.value;
      rest = w.rest;
      split =
          ap (λ (r : List ℕ). (48 + d) ∷ r) w.split
          ∙ ap (λ (r : List ℕ). r ++ w.rest) (sym (w.whole ∙ ap (λ (r : List ℕ). r ++ w.digits) (decimal-one d g)));
      least = omega (arith, w.least);
      bound = w.bound;
      next = w.next;
    }

-- digits and other bytes
pub is_digit_lem : (b : ℕ) → 48 ≤ b → b ≤ 57 → is_digit b ≡ true
is_digit_lem b h g = rw (le-leb 48 b h, le-leb b 57 g)

pub digit-below : (b : ℕ) → b < 48 → is_digit b ≡ false
digit-below b h = rw (lt-leb 48 b h)

pub digit_value : (d : ℕ) → d < 10 → is_digit (48 + d) ≡ true
digit_value d h = is_digit_lem (48 + d) (omega arith) (omega arith)

-- a digit is 48 and its value
pub record Digit (b : ℕ) : Type 0 where
  pub value : b ≡ 48 + (b - 48)
  pub small : b - 48 < 10

pub digit_of_lem : (b : ℕ) → is_digit b ≡ true → Digit b
digit_of_lem b e =
    let p = both (leb 48 b) (leb b 57) e in
    let l = leb-true 48 b p.0 in
    let g = leb-true b 57 p.1 in
    record { value = omega arith; small = omega arith }

-- the digit step
pub grown-more : (x d most : ℕ) → 0 < x → x * 10 + d ≤ most → grown_of true x d most ≡ Some (x * 10 + d)
grown-more x d most h g = rw (ne_eqb x 0 (λ e. omega arith), le-ltb most (x * 10 + d) g)

pub grown-first : (d most : ℕ) → d ≤ most → grown_of false 0 d most ≡ Some d
grown-first d most h = let e : 0 * 10 + d ≡ d = omega arith in rw (e, le-ltb most d h)

pub record Grown (begun : Bool) (x d most y : ℕ) : Type 0 where
  pub value : y ≡ x * 10 + d
  pub bound : y ≤ most
  pub some : begun ≡ true → 0 < x

-- no fault was found
passed_on : {y : ℕ} (b : Bool) (r : Option ℕ) → cond b None r ≡ Some y → (b ≡ false) × (r ≡ Some y)
passed_on true r e = let z : ◌≡◌ {A = ℕ} 0 1 = cc in absurd (omega arith)
passed_on false r e = (refl, e)

pub grown_of_lem : (begun : Bool) (x d most y : ℕ) → grown_of begun x d most ≡ Some y → Grown begun x d most y
grown_of_lem begun x d most y e =
    let f = passed_on (begun && eqb x 0) _ e in
    let g = passed_on (ltb most (x * 10 + d)) _ f.1 in
    let v : y ≡ x * 10 + d = cc in
    record {
      value = v;
      bound = omega (arith, v, ltb-false most (x * 10 + d) g.0);
      some = λ b. let z = eqb-false x 0 (ap (λ (t : Bool). t && eqb x 0) (sym b) ∙ f.0) in omega arith;
    }

-- a digit that is taken in: what it makes of the number, and what may follow then
pub record Took (most : ℕ) (Next : ℕ → List ℕ → Type 0) (begun : Bool) (x b : ℕ) (t : List ℕ) : Type 0 where
  pub value : ℕ
  pub digit : is_digit b ≡ true
  pub grown : grown_of begun x (b - 48) most ≡ Some value
  pub more : More most Next value t

module _ {most : ℕ} {Next : ℕ → List ℕ → Type 0} where
  -- one digit on
  pub more_on : {b x : ℕ} {t : List ℕ} → (Next x (b ∷ t) → ⊥) → More most Next x (b ∷ t) → Took most Next true x b t
  more_on n (here h) = absurd (n h)
  more_on {x = x} n (digit {d = d} p g l m) =
      let e : 48 + d - 48 ≡ d = omega arith in
      record { value = x * 10 + d; digit = digit_value d g; grown = rw e (grown-more x d most p l); more = m }

  pub first_on : {b : ℕ} {t : List ℕ} → First 0 most Next (b ∷ t) → Took most Next false 0 b t
  first_on (first {d = d} z g l m) =
      let e : 48 + d - 48 ≡ d = omega arith in
      record { value = d; digit = digit_value d g; grown = rw e (grown-first d most l); more = m }

  -- one digit back
  pub more-back : {b x : ℕ} {t : List ℕ} → Took most Next true x b t → More most Next x (b ∷ t)
  more-back {b} {x} {t} k =
      let d = digit_of_lem b k.digit in
      let g = grown_of_lem true x (b - 48) most k.value k.grown in
      subst⁻¹ (λ (c : ℕ). More most Next x (c ∷ t)) d.value
      (digit (g.some refl) d.small (omega (arith, g.value, g.bound)) (subst (λ (z : ℕ). More most Next z t) g.value k.more))

  pub first_back : {b : ℕ} {t : List ℕ} → Took most Next false 0 b t → First 0 most Next (b ∷ t)
  first_back {b} {t} k =
      let d = digit_of_lem b k.digit in
      let g = grown_of_lem false 0 (b - 48) most k.value k.grown in
      let v : k.value ≡ b - 48 = omega (arith, g.value) in
      subst⁻¹ (λ (c : ℕ). First 0 most Next (c ∷ t)) d.value
      (first (omega arith) d.small (omega (arith, v, g.bound)) (subst (λ (z : ℕ). More most Next z t) v k.more))
