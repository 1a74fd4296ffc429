-- The reader of numbers against decimals: it stops behind a number from 1 to v, or at the digit that takes it over v; and it reads every
-- such number that no digit follows.
-- Assumes nothing.
use mathlib.Core.Path.{◌≡◌, refl, sym, ap, ◌∙◌, subst}
use mathlib.Core.Bool.{Bool, true, false, ◌||◌}
use mathlib.Core.List.{List, [], ◌∷◌, ◌++◌}
use Prim.Native.Nat.{ℕ, ◌+◌, ◌*◌, ◌-◌, ◌≤◌, ◌<◌}
use native.Mathlib.Omega.{arith}
use lib.Dec.{eqb, leb, ltb}
use lib.Seq.{append_snoc}
use borrow.Author.Tests.{eqb-true, leb-true, le-leb, le-ltb, ltb-false}
use Rattle.laws.proofs.Choices.{both}
use Rattle.text.specs.Texts.{decimal}
use Rattle.text.specs.Inner.Numbers.{is_digit, grown_of}
use Rattle.std.specs.Prelude.{Option}
use Rattle.std.specs.Prelude as std
use Rattle.text.proofs.Laws.Decimals.{decimal-one, decimal-more, decimal-taken}
use Rattle.text.proofs.Laws.Numbers.{digit_value, digit_of_lem, grown-more, grown_of_lem}
use Rattle.header.specs.Heads.{White, blank, return, newline, space, tab}
use Rattle.header.proofs.Laws.White.{white_of}
use Rattle.satfile.specs.Inner.Reads.{Read, Bad, is_space, grown_by, digits_from, is_first, number_in, is_parted}
use Rattle.satfile.proofs.Laws.Rests.{taken, left}
use Rattle.satfile.proofs.Laws.Outcomes.{Same, empty, first, Word, Some, Outcome, good, wrong, none, passed}

-- behind the digits d, l is the rest of the number n, from 1 to v, and then r
pub record Numeral (v : ℕ) (d : List ℕ) (n : ℕ) (l r : List ℕ) : Type 0 where
  pub least : 1 ≤ n
  pub most : n ≤ v
  pub split : d ++ l ≡ decimal n ++ r

-- it is a number already
is_numeral : (v x : ℕ) → 0 < x → x ≤ v → Word (Numeral v (decimal x)) x []
is_numeral v x h g r = record { least = h; most = g; split = refl }

some_numeral : (v x : ℕ) → 0 < x → x ≤ v → Some (Numeral v (decimal x)) []
some_numeral v x h g = record { value = x; rest = []; word = is_numeral v x h g }

-- one byte more
numeral_more : {v b : ℕ} {d e : List ℕ} → e ≡ d ++ (b ∷ []) → (n : ℕ) (w : List ℕ) → Word (Numeral v e) n w → Word (Numeral v d) n (b ∷ w)
numeral_more {b = b} {d} q n w u r = record {
  least = (u r).least;
  most = (u r).most;
  split = sym (append_snoc d b (w ++ r)) ∙ subst (λ (x : List ℕ). x ++ (w ++ r) ≡ decimal n ++ r) q (u r).split;
}

numeral_begins : {v b : ℕ} {d e : List ℕ} → e ≡ d ++ (b ∷ []) → Some (Numeral v e) [] → Some (Numeral v d) (b ∷ [])
numeral_begins q s = record { value = s.value; rest = s.rest; word = numeral_more q s.value s.rest s.word }

-- digits are read until another byte comes, or one too many
digits-end : (v x : ℕ) (s : List ℕ) → Same [] s → digits_from v x s ≡ Read x s
unfolding digits_from
digits-end v x [] empty = refl
digits-end v x (_ ∷ _) h = elim h [ ]

module _ (v x b : ℕ) (l : List ℕ) where
  digits-other : is_digit b ≡ false → (s : List ℕ) → Same (b ∷ l) s → digits_from v x s ≡ Read x s
  unfolding digits_from
  digits-other e s first = left _ _ _ e

  module _ (e : is_digit b ≡ true) where
    digits-over : grown_of true x (b - 48) v ≡ std.None → (s : List ℕ) → Same (b ∷ l) s → digits_from v x s ≡ Bad s
    unfolding digits_from
    digits-over g s (first {r = r}) = taken _ _ _ e ∙ ap (λ n. grown_by n (λ z. digits_from v z r) (Bad (b ∷ r))) g

    digits-grown : (y : ℕ) → grown_of true x (b - 48) v ≡ std.Some y → (r : List ℕ) → digits_from v x (b ∷ r) ≡ digits_from v y r
    unfolding digits_from
    digits-grown y g r = taken _ _ _ e ∙ ap (λ n. grown_by n (λ z. digits_from v z r) (Bad (b ∷ r))) g

    digit-last : (y : ℕ) → grown_of true x (b - 48) v ≡ std.Some y → decimal y ≡ decimal x ++ (b ∷ [])
    digit-last y g =
        let d = digit_of_lem b e in
        let w = grown_of_lem true x (b - 48) v y g in
        ap decimal w.value ∙ decimal-more x (b - 48) (w.some refl) d.small
        ∙ ap (λ (c : ℕ). decimal x ++ (c ∷ [])) (sym d.value)

digits_stop : (v x : ℕ) (l : List ℕ) → 0 < x → x ≤ v → Outcome (λ m o. digits_from v x m ≡ o) (Numeral v (decimal x)) l
digits_stop v x [] h g = good x [] [] refl (digits-end v x) (is_numeral v x h g)
digits_stop v x (b ∷ l) h g = go (is_digit b) refl (λ y. digits_stop v y l)
  where
    grows : is_digit b ≡ true → ((y : ℕ) → 0 < y → y ≤ v → Outcome (λ m o. digits_from v y m ≡ o) (Numeral v (decimal y)) l)
        → (n : Option ℕ) → grown_of true x (b - 48) v ≡ n → Outcome (λ m o. digits_from v x m ≡ o) (Numeral v (decimal x)) (b ∷ l)
    grows e more std.None q = wrong [] (b ∷ l) refl (digits-over v x b l e q) (some_numeral v x h g)
    grows e more (std.Some y) q =
        let w = grown_of_lem true x (b - 48) v y q in
        let p : 0 < y = omega (arith, w.value) in
        let d = digit-last v x b l e y q in
        passed (b ∷ []) l (λ r o s k. digits-grown v x b l e y q r ∙ k) (numeral_more d)
        (numeral_begins d (some_numeral v y p w.bound)) (more y p w.bound)

    go : (t : Bool) → is_digit b ≡ t → ((y : ℕ) → 0 < y → y ≤ v → Outcome (λ m o. digits_from v y m ≡ o) (Numeral v (decimal y)) l)
        → Outcome (λ m o. digits_from v x m ≡ o) (Numeral v (decimal x)) (b ∷ l)
    go false e more = good x [] (b ∷ l) refl (digits-other v x b l e) (is_numeral v x h g)
    go true e more = grows e more (grown_of true x (b - 48) v) refl

-- a number from its first digit on
number-empty : (v : ℕ) (s : List ℕ) → Same [] s → number_in v s ≡ Bad s
number-empty v [] empty = refl
number-empty v (_ ∷ _) h = elim h [ ]

module _ (v b : ℕ) (l : List ℕ) where
  number-other : is_first b ≡ false → (s : List ℕ) → Same (b ∷ l) s → number_in v s ≡ Bad s
  number-other e s first = left _ _ _ e

  number-over : is_first b ≡ true → ltb v (b - 48) ≡ true → (s : List ℕ) → Same (b ∷ l) s → number_in v s ≡ Bad s
  number-over e g s first = taken _ _ _ e ∙ taken _ _ _ g

  -- the first digit is the number so far
  number_begun : is_first b ≡ true → ltb v (b - 48) ≡ false → Outcome (λ m o. number_in v m ≡ o) (Numeral v []) (b ∷ l)
  number_begun e g =
      let p = both (leb 49 b) (leb b 57) e in
      let low : 49 ≤ b = leb-true 49 b p.0 in
      let high : b ≤ 57 = leb-true b 57 p.1 in
      let small : b - 48 ≤ v = ltb-false v (b - 48) g in
      let c : 48 + (b - 48) ≡ b = omega arith in
      let d : decimal (b - 48) ≡ b ∷ [] = decimal-one (b - 48) (omega arith) ∙ ap (λ (x : ℕ). x ∷ []) c in
      passed (b ∷ []) l (λ r o s k. taken _ _ _ e ∙ left _ _ _ g ∙ k) (numeral_more d)
      (numeral_begins d (some_numeral v (b - 48) (omega arith) small)) (digits_stop v (b - 48) l (omega arith) small)

pub number_stop : (v : ℕ) (l : List ℕ) → Outcome (λ m o. number_in v m ≡ o) (Numeral v []) l
number_stop v [] = none (number-empty v)
number_stop v (b ∷ l) = go (is_first b) refl (ltb v (b - 48)) refl
  where
    go : (t : Bool) → is_first b ≡ t → (u : Bool) → ltb v (b - 48) ≡ u → Outcome (λ m o. number_in v m ≡ o) (Numeral v []) (b ∷ l)
    go false e u g = none (number-other v b l e)
    go true e true g = none (number-over v b l e g)
    go true e false g = number_begun v b l e g

-- what may follow a member is no digit
white-digit : {b : ℕ} → White b → is_digit b ≡ false
white-digit (blank space) = refl
white-digit (blank tab) = refl
white-digit return = refl
white-digit newline = refl

parted-digit : (b : ℕ) → (eqb b 41 || is_space b) ≡ true → is_digit b ≡ false
parted-digit b h = go (eqb b 41) refl h
  where
    go : (t : Bool) → eqb b 41 ≡ t → (t || is_space b) ≡ true → is_digit b ≡ false
    go true e h = ap is_digit (eqb-true b 41 e)
    go false e h = white-digit (white_of b h)

digits-whole : (v n : ℕ) (r : List ℕ) → is_parted r ≡ true → digits_from v n r ≡ Read n r
unfolding digits_from
digits-whole v n [] h = refl
digits-whole v n (b ∷ r) h = left _ _ _ (parted-digit b h)

-- a digit is taken in, as the first or as one more
module _ (v d : ℕ) (small : d < 10) (r : List ℕ) where
  value : 48 + d - 48 ≡ d
  value = omega arith

  first_taken : 1 ≤ d → d ≤ v → number_in v ((48 + d) ∷ r) ≡ digits_from v d r
  first_taken h g =
      let f : is_first (48 + d) ≡ true = rw (le-leb 49 (48 + d) (omega arith), le-leb (48 + d) 57 (omega arith)) in
      taken _ _ _ f ∙ left _ _ _ (le-ltb v (48 + d - 48) (omega arith)) ∙ ap (λ (x : ℕ). digits_from v x r) value

  digit-taken : (x : ℕ) → 0 < x → x * 10 + d ≤ v → digits_from v x ((48 + d) ∷ r) ≡ digits_from v (x * 10 + d) r
  digit-taken x h g =
      digits-grown v x (48 + d) r (digit_value d small) (x * 10 + d)
      (ap (λ (y : ℕ). grown_of true x y v) value ∙ grown-more x d v h g) r

-- every number from 1 to v is read, unless a digit follows
pub number-whole : (v n : ℕ) (r : List ℕ) → 1 ≤ n → n ≤ v → is_parted r ≡ true → number_in v (decimal n ++ r) ≡ Read n r
number-whole v n r h g p =
    decimal-taken 1 v (omega arith) (λ l. number_in v l ≡ Read n r) (λ x l. digits_from v x l ≡ Read n r)
    (λ d l a b c e. first_taken v d b l a c ∙ e)
    (λ x d l a b c e. digit-taken v d b l x a c ∙ e)
    n r h g (digits-whole v n r p)

-- how a number begins
pub data Digit : List ℕ → Type 0 where
  digit : {d : ℕ} {r : List ℕ} → 1 ≤ d → d < 10 → Digit ((48 + d) ∷ r)

pub decimal_digit : (n : ℕ) (r : List ℕ) → 1 ≤ n → Digit (decimal n ++ r)
decimal_digit n r h =
    decimal-taken 1 n (omega arith) Digit (λ x l. Unit {0}) (λ d l a b c e. digit a b) (λ x d l a b c e. tt) n r h (omega arith) tt
