-- Decimals: how they begin, how they go on by one digit, and how a reader takes them in.
-- Assumes nothing.
use mathlib.Core.Path.{◌≡◌, refl, sym, ap, ◌∙◌, subst}
use mathlib.Core.Bool.{Bool, true, false}
use mathlib.Core.List.{List, [], ◌∷◌, ◌++◌, append_assoc}
use Prim.Native.Nat.{ℕ, zero, suc, ◌+◌, ◌*◌, ◌-◌, ◌/◌, ◌%◌, ◌^◌, ◌≤◌, ◌<◌}
use native.Mathlib.Nat.{pow-suc, one-le-pow, pow-le-pow_right}
use native.Mathlib.Omega.{arith}
use lib.Dec.{ltb}
use lib.ListN.{length, length-append}
use borrow.Author.Tests.{lt-ltb, le-ltb, ltb-true, ltb-false}
use Rattle.text.specs.Texts.{digits, decimal}

-- any bound that is large enough will do
digits_bound : (k j n : ℕ) → n ≤ k → n ≤ j → digits k n ≡ digits j n
unfolding digits
digits_bound zero zero n h g = refl
digits_bound zero (suc j) n h g = rw (lt-ltb n 10 (omega arith))
digits_bound (suc k) zero n h g = rw (lt-ltb n 10 (omega arith))
digits_bound (suc k) (suc j) n h g = go (ltb n 10) refl (digits_bound k j (n / 10))
  where
    go : (b : Bool) → ltb n 10 ≡ b → (n / 10 ≤ k → n / 10 ≤ j → digits k (n / 10) ≡ digits j (n / 10)) → digits (suc k) n ≡ digits (suc j) n
    go true e ih = rw e
    go false e ih =
        let l : 10 ≤ n = ltb-false n 10 e in
        rw e (ap (λ (l : List ℕ). l ++ ((48 + n % 10) ∷ [])) (ih (omega arith) (omega arith)))

-- one digit
pub decimal-one : (n : ℕ) → n < 10 → decimal n ≡ (48 + n) ∷ []
unfolding digits
decimal-one zero h = refl
decimal-one (suc n) h = rw (lt-ltb (suc n) 10 h)

-- the last digit, behind the others
pub decimal-last : (n : ℕ) → 10 ≤ n → decimal n ≡ decimal (n / 10) ++ ((48 + n % 10) ∷ [])
unfolding digits
decimal-last zero h = absurd (omega arith)
decimal-last (suc n) h =
    rw (le-ltb (suc n) 10 h) (ap (λ (l : List ℕ). l ++ ((48 + suc n % 10) ∷ []))
    (digits_bound n (suc n / 10) (suc n / 10) (omega arith) (omega arith)))

pub length_last : (n : ℕ) → 10 ≤ n → length (decimal n) ≡ length (decimal (n / 10)) + 1
length_last n h = ap length (decimal-last n h) ∙ length-append (decimal (n / 10)) ((48 + n % 10) ∷ [])

-- one digit more
pub decimal-more : (x d : ℕ) → 0 < x → d < 10 → decimal (x * 10 + d) ≡ decimal x ++ ((48 + d) ∷ [])
decimal-more x d h g =
    let q : (x * 10 + d) / 10 ≡ x = omega arith in
    let r : (x * 10 + d) % 10 ≡ d = omega arith in
    decimal-last (x * 10 + d) (omega arith) ∙ rw (q, r)

-- there is a digit
pub decimal-some : (n : ℕ) → 0 < length (decimal n)
decimal-some n = go (ltb n 10) refl
  where
    go : (b : Bool) → ltb n 10 ≡ b → 0 < length (decimal n)
    go true e = rw (decimal-one n (ltb-true n 10 e)) (omega arith)
    go false e = rw (decimal-last n (ltb-false n 10 e), length-append) (omega arith)

-- A reader of numbers from `low`, which is 0 or 1, up to a limit.
-- `Before r`: it is right before a number and r is to come; `After x r`: it has taken in x.
module _ (low limit : ℕ) (small : low ≤ 1) (Before : List ℕ → Type 0) (After : ℕ → List ℕ → Type 0)
    (first : (d : ℕ) (r : List ℕ) → low ≤ d → d < 10 → d ≤ limit → After d r → Before ((48 + d) ∷ r))
    (more : (x d : ℕ) (r : List ℕ) → 0 < x → d < 10 → x * 10 + d ≤ limit → After (x * 10 + d) r → After x ((48 + d) ∷ r)) where
  taken : (k n : ℕ) (r : List ℕ) → n ≤ k → low ≤ n → n ≤ limit → After n r → Before (decimal n ++ r)
  taken zero n r h m l a =
      subst (λ (x : List ℕ). Before (x ++ r)) (sym (decimal-one n (omega arith))) (first n r m (omega arith) l a)
  taken (suc k) n r h m l a = go (ltb n 10) refl (taken k)
    where
      go : (b : Bool) → ltb n 10 ≡ b → ((n : ℕ) (r : List ℕ) → n ≤ k → low ≤ n → n ≤ limit → After n r → Before (decimal n ++ r))
          → Before (decimal n ++ r)
      go true e ih =
          let g : n < 10 = ltb-true n 10 e in
          subst (λ (x : List ℕ). Before (x ++ r)) (sym (decimal-one n g)) (first n r m g l a)
      go false e ih =
          let g : 10 ≤ n = ltb-false n 10 e in
          let s : n / 10 * 10 + n % 10 ≡ n = omega arith in
          let q : decimal n ++ r ≡ decimal (n / 10) ++ ((48 + n % 10) ∷ r) =
          ap (λ (x : List ℕ). x ++ r) (decimal-last n g) ∙ append_assoc (decimal (n / 10)) ((48 + n % 10) ∷ []) r in
          subst Before (sym q)
          (ih (n / 10) ((48 + n % 10) ∷ r) (omega arith) (omega arith) (omega arith)
          (more (n / 10) (n % 10) r (omega arith) (omega arith) (omega arith) (subst (λ (x : ℕ). After x r) (sym s) a)))

  pub decimal-taken : (n : ℕ) (r : List ℕ) → low ≤ n → n ≤ limit → After n r → Before (decimal n ++ r)
  decimal-taken n r m l a = taken n n r (omega arith) m l a

-- the number of digits, from below and from above
pub length_decimal_ge : (k n : ℕ) → 10 ^ k ≤ n → suc k ≤ length (decimal n)
length_decimal_ge zero n h = omega (arith, decimal-some n)
length_decimal_ge (suc k) n h =
    let a : 10 ^ k ≤ n / 10 = omega (arith, pow-suc 10 k) in
    let t : 10 ≤ n = omega (arith, pow-suc 10 k, one-le-pow k 10 (omega arith)) in
    omega (arith, length_last n t, length_decimal_ge k (n / 10) a)

pub length_decimal_le : (k n : ℕ) → n < 10 ^ suc k → length (decimal n) ≤ suc k
length_decimal_le zero n h = omega (arith, ap length (decimal-one n h))
length_decimal_le (suc k) n h = go (ltb n 10) refl (length_decimal_le k (n / 10))
  where
    go : (b : Bool) → ltb n 10 ≡ b → (n / 10 < 10 ^ suc k → length (decimal (n / 10)) ≤ suc k) → length (decimal n) ≤ suc (suc k)
    go true e ih = omega (arith, ap length (decimal-one n (ltb-true n 10 e)))
    go false e ih =
        let g : n / 10 < 10 ^ suc k = omega (arith, pow-suc 10 (suc k)) in
        omega (arith, ih g, length_last n (ltb-false n 10 e))

-- a number of 32 bits has ten digits at most
pub width-least : (n : ℕ) → n < 2 ^ 32 → length (decimal n) ≤ 10
width-least n h = length_decimal_le 9 n (omega arith)

-- A loop over the powers of ten: the i-th is looked at next, and `digits` is the number of digits as far as it is known.
pub record Widening (n i power digits : ℕ) : Type 0 where
  pub is_power : power ≡ 10 ^ i
  pub below : i ≤ length (decimal n) → digits ≡ i
  pub above : length (decimal n) ≤ i → digits ≡ length (decimal n)

pub widening_start : (n : ℕ) → Widening n 1 10 1
widening_start n = record {
  is_power = refl;
  below = λ h. refl;
  above = λ h. omega (arith, decimal-some n);
}

module _ {n i power digits : ℕ} (w : Widening n i power digits) where
  more_power : power * 10 ≡ 10 ^ (i + 1)
  more_power = let e : i + 1 ≡ suc i = omega arith in rw (e, pow-suc 10 i) (omega (arith, w.is_power))

  -- it is reached, or not
  pub widening_more : power ≤ n → Widening n (i + 1) (power * 10) (digits + 1)
  widening_more h =
      let g : suc i ≤ length (decimal n) = length_decimal_ge i n (omega (arith, w.is_power)) in
      record {
        is_power = more_power;
        below = λ k. omega (arith, w.below (omega arith));
        above = λ k. omega (arith, w.below (omega arith));
      }

  pub widening_same : 0 < i → n < power → Widening n (i + 1) (power * 10) digits
  widening_same z h =
      let e : i ≡ suc (i - 1) = omega arith in
      let g : length (decimal n) ≤ suc (i - 1) = length_decimal_le (i - 1) n (omega (arith, w.is_power, ap (λ (x : ℕ). 10 ^ x) e)) in
      record {
        is_power = more_power;
        below = λ k. absurd (omega arith);
        above = λ k. w.above (omega arith);
      }

  -- every number of 32 bits has ten digits at most
  pub widening_end : n < 2 ^ 32 → 10 ≤ i → digits ≡ length (decimal n)
  widening_end h k = w.above (omega (arith, length_decimal_le 9 n (omega arith)))

  -- no power overflows
  pub widening_small : i < 10 → power ≤ 10 ^ 9
  widening_small h = omega (arith, w.is_power, pow-le-pow_right {n = 10} (omega arith) {i = i} {j = 9} (omega arith))
