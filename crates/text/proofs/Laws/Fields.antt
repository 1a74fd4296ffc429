-- Bytes that are a number: they are exactly the decimals; and a loop that reads them.
-- Assumes nothing.
use mathlib.Core.Path.{◌≡◌, refl, sym, ap, ◌∙◌, subst, subst⁻¹}
use mathlib.Core.Bool.{Bool, true, false, cond}
use mathlib.Core.List.{List, [], ◌∷◌, ◌++◌, append-nil}
use Prim.Native.Nat.{ℕ, ◌+◌, ◌*◌, ◌-◌, ◌≤◌, ◌<◌}
use native.Mathlib.Numerals.{add-one}
use native.Mathlib.Omega.{arith}
use lib.Dec.{eqb, leb, ltb}
use lib.ListN.{length, get_or, drop, length-append, drop_of_length-le}
use lib.Seq.{drop-cons}
use borrow.Author.Tests.{leb-true, le-leb, eqb-true, eq-eqb, lt-ltb}
use Rattle.laws.specs.Lists.{Every, none, more}
use Rattle.laws.proofs.Choices.{both}
use Rattle.text.specs.Texts.{decimal, value_from, value_of, same, is_number}
use Rattle.text.specs.Inner.Numbers.{is_digit, grown_of, number_of}
use Rattle.std.specs.Prelude.{Some, None}
use Rattle.text.proofs.Laws.Decimals.{decimal-some, decimal-taken}
use Rattle.text.proofs.Laws.Numbers.{More, here, First, first_of_decimal, split_of_first, digit_value, grown_of_lem, Took, more_on}
use Rattle.text.proofs.Laws.Numbers.{first_on, more-back, first_back}

-- runs of bytes that are the same
pub same_whole : (xs ys : List ℕ) → same xs ys ≡ true → xs ≡ ys
unfolding same
same_whole [] [] h = refl
same_whole [] (y ∷ ys) h = let z : ◌≡◌ {A = ℕ} 0 1 = cc in absurd (omega arith)
same_whole (x ∷ xs) [] h = let z : ◌≡◌ {A = ℕ} 0 1 = cc in absurd (omega arith)
same_whole (x ∷ xs) (y ∷ ys) h =
    let c = both (eqb x y) (same xs ys) h in
    let p = eqb-true x y c.0 in
    let q = same_whole xs ys c.1 in
    λ i. p i ∷ q i

pub same_self : (xs : List ℕ) → same xs xs ≡ true
unfolding same
same_self [] = refl
same_self (x ∷ xs) = rw (eq-eqb x x refl) (same_self xs)

-- a decimal, taken in digit by digit: its value, and that it is of digits alone
record Taken (n x : ℕ) (l : List ℕ) : Type 0 where
  value : value_from x l ≡ n
  digits : Every (λ (b : ℕ). is_digit b ≡ true) l

taken_more : (n x d : ℕ) (r : List ℕ) → d < 10 → Taken n (x * 10 + d) r → Taken n x ((48 + d) ∷ r)
unfolding value_from
taken_more n x d r h a = record {
  value = let e : x * 10 + (48 + d - 48) ≡ x * 10 + d = omega arith in rw e a.value;
  digits = more (digit_value d h) a.digits;
}

taken : (n : ℕ) → Taken n 0 (decimal n)
unfolding value_from
taken n =
    subst (Taken n 0) (append-nil (decimal n))
    (decimal-taken 0 n (omega arith) (Taken n 0) (Taken n)
    (λ d r l h m a. taken_more n 0 d r h (let e : 0 * 10 + d ≡ d = omega arith in subst⁻¹ (λ (x : ℕ). Taken n x r) e a))
    (λ x d r p h m a. taken_more n x d r h a)
    n [] (omega arith) (omega arith) (record { value = refl; digits = none }))

pub value-decimal : (n : ℕ) → value_of (decimal n) ≡ n
value-decimal n = (taken n).value

pub decimal-digits : (n : ℕ) → Every (λ (b : ℕ). is_digit b ≡ true) (decimal n)
decimal-digits n = (taken n).digits

-- a number is the decimal of its value, up to the limit ..
pub number-whole : (most : ℕ) (bytes : List ℕ) → is_number most bytes ≡ true → (bytes ≡ decimal (value_of bytes)) × (value_of bytes ≤ most)
number-whole most bytes e =
    let p = both (same bytes (decimal (value_of bytes))) (leb (value_of bytes) most) e in
    (same_whole bytes (decimal (value_of bytes)) p.0, leb-true (value_of bytes) most p.1)

-- .. and every such decimal is a number
pub decimal-whole : (most n : ℕ) → n ≤ most → is_number most (decimal n) ≡ true
decimal-whole most n h = rw (value-decimal n, same_self (decimal n)) (le-leb n most h)

-- the reader of a number finds n exactly where the bytes are the decimal of n, and n is up to the limit
pub number-decimal : (most n : ℕ) (bytes : List ℕ) → Some n ≡ number_of most bytes → (bytes ≡ decimal n) × (n ≤ most)
number-decimal most n bytes e = go (is_number most bytes) refl e
  where
    go : (b : Bool) → is_number most bytes ≡ b → Some n ≡ cond b (Some (value_of bytes)) None → (bytes ≡ decimal n) × (n ≤ most)
    go true f g =
        let w = number-whole most bytes f in
        let v : value_of bytes ≡ n = cc in
        (w.0 ∙ ap decimal v, omega (arith, v, w.1))
    go false f g = let z : ◌≡◌ {A = ℕ} 0 1 = cc in absurd (omega arith)

pub decimal-number : (most n : ℕ) → n ≤ most → Some n ≡ number_of most (decimal n)
decimal-number most n h = rw (decimal-whole most n h, value-decimal n)

-- nothing behind a number
abbrev End : ℕ → List ℕ → Type 0
End n r = r ≡ []

not-number : (most : ℕ) (bytes : List ℕ) → (First 0 most End bytes → ⊥) → None ≡ number_of most bytes
not-number most bytes n = go (is_number most bytes) refl
  where
    go : (b : Bool) → is_number most bytes ≡ b → None ≡ cond b (Some (value_of bytes)) None
    go true e =
        let w = number-whole most bytes e in
        let f = first_of_decimal 0 most End (omega arith) (value_of bytes) [] (omega arith) w.1 refl in
        absurd (n (subst⁻¹ (First 0 most End) (w.0 ∙ sym (append-nil (decimal (value_of bytes)))) f))
    go false e = refl

-- before the first digit of a number that ends the text, and behind some
abbrev Left : ℕ → Bool → ℕ → List ℕ → Type 0
Left most true x t = More most End x t
Left most false x t = (x ≡ 0) × First 0 most End t

left_on : {most : ℕ} (begun : Bool) {b x : ℕ} {t : List ℕ} → Left most begun x (b ∷ t) → Took most End begun x b t
left_on true m = more_on (λ e. let z : ◌≡◌ {A = ℕ} 0 1 = cc in absurd (omega arith)) m
left_on {most} false {b} {x} {t} l = subst⁻¹ (λ (y : ℕ). Took most End false y b t) l.0 (first_on l.1)

left_back : {most : ℕ} (begun : Bool) {b x : ℕ} {t : List ℕ} → (begun ≡ false → x ≡ 0) → Took most End begun x b t
    → Left most begun x (b ∷ t)
left_back true z k = more-back k
left_back {most} false {b} {x} {t} z k = (z refl, first_back (subst (λ (y : ℕ). Took most End false y b t) (z refl) k))

-- A loop that reads a number: the bytes before i are read, and value is theirs.
pub record Reading (most : ℕ) (bytes : List ℕ) (value i : ℕ) : Type 0 where
  pub within : i ≤ length bytes
  pub fresh : ltb 0 i ≡ false → value ≡ 0
  pub small : value ≤ most
  pub whole : value_of bytes ≡ value_from value (drop i bytes)
  pub forth : First 0 most End bytes → Left most (ltb 0 i) value (drop i bytes)
  pub back : Left most (ltb 0 i) value (drop i bytes) → First 0 most End bytes

pub reading_none : (most : ℕ) (bytes : List ℕ) → length bytes ≡ 0 → None ≡ number_of most bytes
reading_none most [] h = not-number most [] none_first
  where
    none_first : First 0 most End [] → ⊥
    none_first f =
        let s = split_of_first f in
        let e = ap length s.split ∙ length-append (decimal s.value) s.rest in
        omega (arith, e, decimal-some s.value)
reading_none most (b ∷ t) h = absurd (omega arith)

pub reading_start : (most : ℕ) (bytes : List ℕ) → Reading most bytes 0 0
reading_start most bytes = record {
  within = omega arith;
  fresh = λ e. refl;
  small = omega arith;
  whole = refl;
  forth = λ f. (refl, f);
  back = λ l. l.1;
}

module _ {most : ℕ} {bytes : List ℕ} {value i : ℕ} (r : Reading most bytes value i) where
  module _ (h : i < length bytes) where
    abbrev byte : ℕ
    byte = get_or bytes i 0

    abbrev rest : List ℕ
    rest = drop (i + 1) bytes

    next : drop i bytes ≡ byte ∷ rest
    next = drop-cons bytes i 0 h ∙ ap (λ (n : ℕ). byte ∷ drop n bytes) (sym (add-one i))

    -- what a number has here
    took : First 0 most End bytes → Took most End (ltb 0 i) value byte rest
    took f = left_on (ltb 0 i) (subst (Left most (ltb 0 i) value) next (r.forth f))

    pub reading_no_digit : is_digit byte ≡ false → None ≡ number_of most bytes
    reading_no_digit e = not-number most bytes (λ f. let d = (took f).digit in let z : ◌≡◌ {A = ℕ} 0 1 = cc in omega arith)

    pub reading_over : grown_of (ltb 0 i) value (byte - 48) most ≡ None → None ≡ number_of most bytes
    reading_over e = not-number most bytes (λ f. let d = (took f).grown in let z : ◌≡◌ {A = ℕ} 0 1 = cc in omega arith)

    pub reading_more : (y : ℕ) → is_digit byte ≡ true → grown_of (ltb 0 i) value (byte - 48) most ≡ Some y → Reading most bytes y (i + 1)
    unfolding value_from
    reading_more y d e =
        let g = grown_of_lem (ltb 0 i) value (byte - 48) most y e in
        let t : ltb 0 (i + 1) ≡ true = lt-ltb 0 (i + 1) (omega arith) in
        record {
          within = omega arith;
          fresh = λ f. let z : ◌≡◌ {A = ℕ} 0 1 = cc in absurd (omega arith);
          small = g.bound;
          whole = r.whole ∙ ap (value_from value) next ∙ ap (λ (x : ℕ). value_from x rest) (sym g.value);
          forth = λ f. let k = took f in
              let v : k.value ≡ y = let f = k.grown in cc in
              subst⁻¹ (λ (b : Bool). Left most b y rest) t (subst (λ (x : ℕ). More most End x rest) v k.more);
          back = λ l. let m : More most End y rest = subst (λ (b : Bool). Left most b y rest) t l in
              r.back (subst⁻¹ (Left most (ltb 0 i) value) next
              (left_back (ltb 0 i) r.fresh (record { value = y; digit = d; grown = e; more = m })));
        }

  pub reading_end : 0 < i → length bytes ≤ i → Some value ≡ number_of most bytes
  unfolding value_from
  reading_end o h =
      let e : drop i bytes ≡ [] = drop_of_length-le bytes h in
      let v : value_of bytes ≡ value = r.whole ∙ ap (value_from value) e in
      let l : Left most (ltb 0 i) value (drop i bytes) =
      subst⁻¹ (λ (b : Bool). Left most b value (drop i bytes)) (lt-ltb 0 i o) (here e) in
      let s = split_of_first (r.back l) in
      let d : bytes ≡ decimal s.value = s.split ∙ ap (λ (x : List ℕ). decimal s.value ++ x) s.next
      ∙ append-nil (decimal s.value) in
      subst⁻¹ (λ (x : List ℕ). Some value ≡ number_of most x) d
      (ap Some (sym v ∙ ap value_of d ∙ value-decimal s.value) ∙ decimal-number most s.value s.bound)
