-- What is left of a text from a place on, as the reader takes it apart: byte by byte, white space, digits, and how a formula begins.
-- Assumes nothing.
use mathlib.Core.Path.{◌≡◌, refl, ap, ◌∙◌}
use mathlib.Core.Bool.{Bool, true, false, cond, not, ◌||◌, false≢true}
use mathlib.Core.List.{List, [], ◌∷◌}
use Prim.Native.Nat.{ℕ, ◌+◌, ◌-◌, ◌≤◌, ◌<◌}
use native.Mathlib.Numerals.{add-one}
use native.Mathlib.Omega.{arith}
use lib.Dec.{eqb}
use lib.ListN.{length, get_or, drop, drop_of_length-le}
use lib.Seq.{drop-cons}
use borrow.Author.Tests.{eqb-false, eq-eqb, ne_eqb, le-leb, lt-ltb}
use Rattle.text.specs.Inner.Numbers.{is_digit, grown_of}
use Rattle.std.specs.Prelude.{Some, None}
use Rattle.satfile.specs.Inner.Reads.{Read, Bad, is_space, skipped, grown_by, digits_from, is_first, number_in}
use Rattle.satfile.specs.Inner.Reads.{fills, negates, operand_in, open_in, begin_in, is_whole, ends_at, is_parted}
use Rattle.satfile.specs.declared.lead.Group.{Group}
use Rattle.satfile.specs.declared.lead.Group.TheVariants as group

-- a test that went one way
pub taken : {A : Type 0} (b : Bool) (x y : A) → b ≡ true → cond b x y ≡ x
taken b x y e = ap (λ (s : Bool). cond s x y) e

pub left : {A : Type 0} (b : Bool) (x y : A) → b ≡ false → cond b x y ≡ y
left b x y e = ap (λ (s : Bool). cond s x y) e

module _ (text : List ℕ) (i : ℕ) where
  pub rest_end : length text ≤ i → drop i text ≡ []
  rest_end h = drop_of_length-le text h

  pub rest-byte : i < length text → drop i text ≡ get_or text i 0 ∷ drop (i + 1) text
  rest-byte h = rw (add-one, drop-cons text i 0)

  -- white space is passed, anything else is not
  pub skipped-end : length text ≤ i → skipped (drop i text) ≡ drop i text
  unfolding skipped
  skipped-end h = rw (rest_end h)

  module _ (h : i < length text) where
    pub skipped_stop : is_space (get_or text i 0) ≡ false → skipped (drop i text) ≡ drop i text
    unfolding skipped
    skipped_stop e = rw (rest-byte h) (left _ _ _ e)

    pub skipped_on : is_space (get_or text i 0) ≡ true → skipped (drop i text) ≡ skipped (drop (i + 1) text)
    unfolding skipped
    skipped_on e = rw (rest-byte h) (taken _ _ _ e)

  -- digits are taken in as long as the number is within its limit
  module _ (v x : ℕ) where
    pub digits-end : length text ≤ i → digits_from v x (drop i text) ≡ Read x (drop i text)
    unfolding digits_from
    digits-end h = rw (rest_end h)

    module _ (h : i < length text) where
      abbrev byte : ℕ
      byte = get_or text i 0

      pub digits_stop : is_digit byte ≡ false → digits_from v x (drop i text) ≡ Read x (drop i text)
      unfolding digits_from
      digits_stop e = rw (rest-byte h) (left _ _ _ e)

      pub digits_on : (y : ℕ) → is_digit byte ≡ true → grown_of true x (byte - 48) v ≡ Some y
          → digits_from v x (drop i text) ≡ digits_from v y (drop (i + 1) text)
      unfolding digits_from
      digits_on y e g =
          rw (rest-byte h)
          (taken _ _ _ e
          ∙ ap (λ n. grown_by n (λ z. digits_from v z (drop (i + 1) text)) (Bad (byte ∷ drop (i + 1) text))) g)

      pub digits-wrong : is_digit byte ≡ true → grown_of true x (byte - 48) v ≡ None
          → digits_from v x (drop i text) ≡ Bad (drop i text)
      unfolding digits_from
      digits-wrong e g =
          rw (rest-byte h)
          (taken _ _ _ e
          ∙ ap (λ n. grown_by n (λ z. digits_from v z (drop (i + 1) text)) (Bad (byte ∷ drop (i + 1) text))) g)

  -- a number from its first digit on
  module _ (v : ℕ) (h : i < length text) where
    module _ (low : 49 ≤ get_or text i 0) (high : get_or text i 0 ≤ 57) where
      is-first : is_first (get_or text i 0) ≡ true
      is-first = rw (le-leb _ _ low, le-leb _ _ high)

      pub number-over : v < get_or text i 0 - 48 → number_in v (drop i text) ≡ Bad (drop i text)
      number-over l = rw (rest-byte h) (taken _ _ _ is-first ∙ taken _ _ _ (lt-ltb _ _ l))

  -- how a formula begins
  module _ (v d : ℕ) where
    pub begin-end : length text ≤ i → begin_in v d (drop i text) ≡ Bad (drop i text)
    unfolding begin_in
    begin-end h = rw (rest_end h)

    module _ (h : i < length text) where
      module _ (star : get_or text i 0 ≡ 42) where
        pub begin_star_no : d ≡ 0 → begin_in v d (drop i text) ≡ Bad (drop i text)
        unfolding begin_in
        begin_star_no z = rw (rest-byte h) (taken _ _ _ (eq-eqb _ _ star) ∙ taken _ _ _ (eq-eqb _ _ z))

        pub begin_star : (d ≡ 0 → ⊥) → begin_in v d (drop i text) ≡ open_in group.And (drop (i + 1) text)
        unfolding begin_in
        begin_star n = rw (rest-byte h) (taken _ _ _ (eq-eqb _ _ star) ∙ left _ _ _ (ne_eqb _ _ n))

      module _ (no-star : get_or text i 0 ≡ 42 → ⊥) where
        module _ (plus : get_or text i 0 ≡ 43) where
          pub begin_plus_no : d ≡ 0 → begin_in v d (drop i text) ≡ Bad (drop i text)
          unfolding begin_in
          begin_plus_no z =
              rw (rest-byte h) (left _ _ _ (ne_eqb _ _ no-star) ∙ taken _ _ _ (eq-eqb _ _ plus) ∙ taken _ _ _ (eq-eqb _ _ z))

          pub begin_plus : (d ≡ 0 → ⊥) → begin_in v d (drop i text) ≡ open_in group.Or (drop (i + 1) text)
          unfolding begin_in
          begin_plus n =
              rw (rest-byte h) (left _ _ _ (ne_eqb _ _ no-star) ∙ taken _ _ _ (eq-eqb _ _ plus) ∙ left _ _ _ (ne_eqb _ _ n))

        module _ (no_plus : get_or text i 0 ≡ 43 → ⊥) where
          module _ (minus : get_or text i 0 ≡ 45) where
            pub begin_minus_no : negates v d ≡ false → begin_in v d (drop i text) ≡ Bad (drop i text)
            unfolding begin_in
            begin_minus_no f =
                rw (rest-byte h)
                (left _ _ _ (ne_eqb _ _ no-star) ∙ left _ _ _ (ne_eqb _ _ no_plus) ∙ taken _ _ _ (eq-eqb _ _ minus) ∙ left _ _ _ f)

            pub begin-minus : negates v d ≡ true → begin_in v d (drop i text) ≡ operand_in v d true (drop (i + 1) text)
            unfolding begin_in
            begin-minus f =
                rw (rest-byte h)
                (left _ _ _ (ne_eqb _ _ no-star) ∙ left _ _ _ (ne_eqb _ _ no_plus) ∙ taken _ _ _ (eq-eqb _ _ minus) ∙ taken _ _ _ f)

          pub begin-other : (get_or text i 0 ≡ 45 → ⊥) → begin_in v d (drop i text) ≡ operand_in v d false (drop i text)
          unfolding begin_in
          begin-other n =
              rw (rest-byte h) (left _ _ _ (ne_eqb _ _ no-star) ∙ left _ _ _ (ne_eqb _ _ no_plus) ∙ left _ _ _ (ne_eqb _ _ n))

  -- where a group ends, and what may follow a member
  module _ (g : Group) where
    pub ends-end : length text ≤ i → ends_at g (drop i text) ≡ is_whole g
    ends-end h = rw (rest_end h)

    module _ (h : i < length text) where
      pub ends-whole : is_whole g ≡ true → ends_at g (drop i text) ≡ false
      ends-whole e = rw (rest-byte h) (taken _ _ _ e)

      pub ends_close : is_whole g ≡ false → ends_at g (drop i text) ≡ eqb (get_or text i 0) 41
      ends_close e = rw (rest-byte h) (left _ _ _ e)

  pub parted-end : length text ≤ i → is_parted (drop i text) ≡ true
  parted-end h = rw (rest_end h)

  module _ (h : i < length text) where
    pub parted-space : (get_or text i 0 ≡ 41 → ⊥) → is_parted (drop i text) ≡ is_space (get_or text i 0)
    parted-space n = rw (rest-byte h) (ap (λ (s : Bool). s || is_space (get_or text i 0)) (ne_eqb _ _ n))

-- a parenthesis is filled only where one may be opened
pub fills-deep : (v d : ℕ) → fills v d ≡ true → 0 < d
fills-deep v d e = go (eqb d 0) refl e
  where
    go : (z : Bool) → eqb d 0 ≡ z → cond z false (cond (eqb v 0) (not (eqb d 1)) true) ≡ true → 0 < d
    go true q f = absurd (false≢true f)
    go false q f = omega (arith, eqb-false d 0 q)
