-- The head of a text: what may still follow in each phase, for any continuation. Each byte leads from there to what may follow it,
-- and back.
-- Assumes nothing.
use mathlib.Core.Path.{◌≡◌, refl, sym, ap, subst⁻¹}
use mathlib.Core.Bool.{Bool, true, false, cond, false≢true, ◌||◌}
use mathlib.Core.List.{List, ◌∷◌}
use Prim.Native.Nat.{ℕ, ◌+◌, ◌*◌, ◌-◌}
use native.Mathlib.Omega.{arith}
use lib.Dec.{eqb}
use borrow.Author.Tests.{eqb-true, eqb-false, eq-eqb, ne_eqb}
use Rattle.std.specs.Prelude.{Option, Some, None}
use Rattle.text.specs.Inner.Numbers.{is_digit, grown_of}
use Rattle.text.proofs.Laws.Numbers.{More, here, digit, First, Took, first_of_decimal, split_of_first, first_on, first_back}
use Rattle.text.proofs.Laws.Numbers.{more-back, digit_value, digit_of_lem, grown-more}
use Rattle.header.specs.Heads as grammar
use Rattle.header.specs.Heads.{Remark, Blank, Gap, Blanks, Byte, Word, LastNumber, Numbers, Opening}
use Rattle.header.specs.Inner.Heads.{is_blank, is_done, to_of, dead_of, go_of, taken_of, most_of, space_of, step_at, step_in}
use Rattle.header.specs.declared.Form.{Form}
use Rattle.header.specs.declared.Head.{Head}
use Rattle.header.specs.declared.Phase.{Phase}
use Rattle.header.specs.declared.Phase.TheVariants.{At, Done, Dead}
use Rattle.header.specs.declared.Spot.{Spot}
use Rattle.header.specs.declared.Spot.TheVariants as spot

-- a space or a tab is no digit, and the test for one
pub blank_of : (b : ℕ) → is_blank b ≡ true → Blank b
blank_of b e = go (eqb b 32) refl (eqb b 9) refl e
  where
    go : (c : Bool) → eqb b 32 ≡ c → (d : Bool) → eqb b 9 ≡ d → (c || d) ≡ true → Blank b
    go true f d g h = subst⁻¹ Blank (eqb-true b 32 f) grammar.space
    go false f true g h = subst⁻¹ Blank (eqb-true b 9 g) grammar.tab
    go false f false g h = absurd (false≢true h)

pub digit_no_blank : (b : ℕ) → is_digit b ≡ true → is_blank b ≡ false
digit_no_blank b e =
    let d = digit_of_lem b e in
    rw (ne_eqb b 32 (λ f. omega (arith, d.value)), ne_eqb b 9 (λ f. omega (arith, d.value)))

-- a number in the grammar, and digit by digit
pub first_of_number : {most : ℕ} {Next : ℕ → List ℕ → Type 0} {t : List ℕ} → grammar.Number most Next t → First 0 most Next t
first_of_number {most} {Next} (grammar.number {n = n} {r = r} h x) = first_of_decimal 0 most Next (omega arith) n r (omega arith) h x

pub number_of_first : {most : ℕ} {Next : ℕ → List ℕ → Type 0} {t : List ℕ} → First 0 most Next t → grammar.Number most Next t
number_of_first {most} {Next} f =
    let s = split_of_first f in
    subst⁻¹ (grammar.Number most Next) s.split (grammar.number s.bound s.next)

module _ (f : Form) (Next : ℕ → ℕ → List ℕ → Type 0) where
  -- behind the last number n, which stands behind m; and behind another
  abbrev pub Behind : Bool → ℕ → ℕ → List ℕ → Type 0
  Behind true m n = Gap (Byte 10 (Next m n))
  Behind false m n = Blanks (LastNumber f (Next n))

  -- what may follow in a spot, with x read of a number, m before it, and the last number or not
  abbrev pub LangAt : Spot → ℕ → ℕ → Bool → List ℕ → Type 0
  LangAt spot.Line x m l t = Opening f (Numbers f Next l m) t
  LangAt spot.Comment x m l t = (r : List ℕ) × Remark r t × Opening f (Numbers f Next l m) r
  LangAt spot.Problem x m l t = Blanks (Word f (Blanks (Numbers f Next l m))) t
  LangAt spot.BeforeWord x m l t = Gap (Word f (Blanks (Numbers f Next l m))) t
  LangAt spot.Second x m l t = Byte f.second (Byte f.third (Blanks (Numbers f Next l m))) t
  LangAt spot.Third x m l t = Byte f.third (Blanks (Numbers f Next l m)) t
  LangAt spot.Word x m l t = Blanks (Numbers f Next l m) t
  LangAt spot.BeforeNumber x m l t = Gap (Numbers f Next l m) t
  LangAt spot.Number x m l t = More (most_of f l) (Behind l m) x t
  LangAt spot.After x m l t = Gap (Byte 10 (Next m x)) t

  abbrev pub LangIn : Phase → ℕ → ℕ → Bool → List ℕ → Type 0
  LangIn (At p) x m l t = LangAt p x m l t
  LangIn Done x m l t = Next m x t
  LangIn Dead x m l t = ⊥

  abbrev pub Lang : Head → List ℕ → Type 0
  Lang s t = LangIn s.phase s.value s.before s.last t

  -- the numbers that come, digit by digit
  numbers_first : (l : Bool) (m : ℕ) {t : List ℕ} → Numbers f Next l m t → First 0 (most_of f l) (Behind l m) t
  numbers_first true m n = first_of_number n
  numbers_first false m n = first_of_number n

  first_numbers : (l : Bool) (m : ℕ) {t : List ℕ} → First 0 (most_of f l) (Behind l m) t → Numbers f Next l m t
  first_numbers true m n = number_of_first n
  first_numbers false m n = number_of_first n

  -- a test on the way, for what follows it
  passing : (t : List ℕ) (c : Bool) (x y : Head) → c ≡ true → Lang x t → Lang (cond c x y) t
  passing t c x y e h = subst⁻¹ (λ (d : Bool). Lang (cond d x y) t) e h

  missing : (t : List ℕ) (c : Bool) (x y : Head) → c ≡ false → Lang y t → Lang (cond c x y) t
  missing t c x y e h = subst⁻¹ (λ (d : Bool). Lang (cond d x y) t) e h

  -- a digit that is taken in
  taking : (s : Head) (begun : Bool) (b x : ℕ) (t : List ℕ) → Took (most_of f s.last) (Behind s.last s.before) begun x b t
      → Lang (taken_of s (grown_of begun x (b - 48) (most_of f s.last))) t
  taking s begun b x t k = subst⁻¹ (λ (n : Option ℕ). Lang (taken_of s n) t) k.grown k.more

  abbrev pub st : ℕ → ℕ → ℕ → Bool → Phase → Head
  st place x m l p = record { phase = p; place = place; value = x; before = m; last = l }

  module _ (letter : is_blank f.first ≡ false) where
    forth-at : (p : Spot) (place x m : ℕ) (l : Bool) (b : ℕ) (t : List ℕ) → LangAt p x m l (b ∷ t)
        → Lang (step_at p f (st place x m l (At p)) b) t
    forth-at spot.Line place x m l b t (grammar.comment {r = r} y o) = (r, y, o)
    forth-at spot.Line place x m l b t (grammar.header h) = h
    forth-at spot.Comment place x m l b t (r, grammar.ended, o) = o
    forth-at spot.Comment place x m l b t (r, grammar.byte q y, o) =
        let s = st place x m l (At spot.Comment) in
        missing t (eqb b 10) (to_of s (At spot.Line)) (to_of s (At spot.Comment)) (ne_eqb b 10 q) (r, y, o)
    forth-at spot.Problem place x m l b t (grammar.blanks grammar.space g) = g
    forth-at spot.Problem place x m l b t (grammar.blanks grammar.tab g) = g
    forth-at spot.BeforeWord place x m l b t (grammar.none (grammar.just w)) =
        let s = st place x m l (At spot.BeforeWord) in
        missing t (is_blank f.first) (to_of s (At spot.BeforeWord)) (go_of s (eqb f.first f.first) (At spot.Second)) letter
        (passing t (eqb f.first f.first) (to_of s (At spot.Second)) (dead_of s) (eq-eqb f.first f.first refl) w)
    forth-at spot.BeforeWord place x m l b t (grammar.more grammar.space g) = g
    forth-at spot.BeforeWord place x m l b t (grammar.more grammar.tab g) = g
    forth-at spot.Second place x m l b t (grammar.just w) =
        let s = st place x m l (At spot.Second) in
        passing t (eqb f.second f.second) (to_of s (At spot.Third)) (dead_of s) (eq-eqb f.second f.second refl) w
    forth-at spot.Third place x m l b t (grammar.just w) =
        let s = st place x m l (At spot.Third) in
        passing t (eqb f.third f.third) (to_of s (At spot.Word)) (dead_of s) (eq-eqb f.third f.third refl) w
    forth-at spot.Word place x m l b t (grammar.blanks grammar.space g) = g
    forth-at spot.Word place x m l b t (grammar.blanks grammar.tab g) = g
    forth-at spot.BeforeNumber place x m l b t (grammar.none h) =
        let s = st place x m l (At spot.BeforeNumber) in
        let k = first_on (numbers_first l m h) in
        missing t (is_blank b) (to_of s (At spot.BeforeNumber)) _ (digit_no_blank b k.digit)
        (passing t (is_digit b) _ (dead_of s) k.digit (taking s false b 0 t k))
    forth-at spot.BeforeNumber place x m l b t (grammar.more grammar.space g) = g
    forth-at spot.BeforeNumber place x m l b t (grammar.more grammar.tab g) = g
    forth-at spot.Number place x m true b t (here (grammar.none (grammar.just w))) = w
    forth-at spot.Number place x m true b t (here (grammar.more grammar.space g)) = g
    forth-at spot.Number place x m true b t (here (grammar.more grammar.tab g)) = g
    forth-at spot.Number place x m false b t (here (grammar.blanks grammar.space g)) = g
    forth-at spot.Number place x m false b t (here (grammar.blanks grammar.tab g)) = g
    forth-at spot.Number place x m l b t (digit {d = d} p g h w) =
        let s = st place x m l (At spot.Number) in
        let e : 48 + d - 48 ≡ d = omega arith in
        let k : Took (most_of f l) (Behind l m) true x (48 + d) t = record {
          value = x * 10 + d;
          digit = digit_value d g;
          grown = rw e (grown-more x d (most_of f l) p h);
          more = w;
        } in
        passing t (is_digit (48 + d)) _ _ (digit_value d g) (taking s true (48 + d) x t k)
    forth-at spot.After place x m l b t (grammar.none (grammar.just w)) = w
    forth-at spot.After place x m l b t (grammar.more grammar.space g) = g
    forth-at spot.After place x m l b t (grammar.more grammar.tab g) = g

  -- the same from what follows: how a test went, and what it led to
  way : {A : Type 0} (t : List ℕ) (c : Bool) (x y : Head) → (c ≡ true → Lang x t → A) → (c ≡ false → Lang y t → A) → Lang (cond c x y) t → A
  way t true x y then else h = then refl h
  way t false x y then else h = else refl h

  gone : {A : Type 0} (t : List ℕ) (s : Head) (c : Bool) (p : Phase) → (c ≡ true → Lang (to_of s p) t → A) → Lang (go_of s c p) t → A
  gone t s c p then h = way t c (to_of s p) (dead_of s) then (λ _ g. absurd g) h

  took : (s : Head) (begun : Bool) (b x : ℕ) (t : List ℕ) → is_digit b ≡ true
      → Lang (taken_of s (grown_of begun x (b - 48) (most_of f s.last))) t
      → Took (most_of f s.last) (Behind s.last s.before) begun x b t
  took s begun b x t d h = go (grown_of begun x (b - 48) (most_of f s.last)) refl h
    where
      go : (n : Option ℕ) → grown_of begun x (b - 48) (most_of f s.last) ≡ n → Lang (taken_of s n) t
          → Took (most_of f s.last) (Behind s.last s.before) begun x b t
      go None e g = absurd g
      go (Some y) e g = record { value = y; digit = d; grown = e; more = g }

  -- a byte that is known
  is : (F : List ℕ → Type 0) (b c : ℕ) (t : List ℕ) → eqb b c ≡ true → F (c ∷ t) → F (b ∷ t)
  is F b c t e h = subst⁻¹ (λ (a : ℕ). F (a ∷ t)) (eqb-true b c e) h

  -- a space or a tab behind a number, and a newline
  behind-space : (place x m : ℕ) (l : Bool) (b : ℕ) (t : List ℕ) → is_blank b ≡ true → Lang (space_of (st place x m l (At spot.Number))) t
      → Behind l m x (b ∷ t)
  behind-space place x m true b t e g = grammar.more (blank_of b e) g
  behind-space place x m false b t e g = grammar.blanks (blank_of b e) g

  behind-newline : (place x m : ℕ) (l : Bool) (b : ℕ) (t : List ℕ) → eqb b 10 ≡ true
      → Lang (go_of (st place x m l (At spot.Number)) l Done) t
      → Behind l m x (b ∷ t)
  behind-newline place x m true b t e g = grammar.none (is (Byte 10 (Next m x)) b 10 t e (grammar.just g))
  behind-newline place x m false b t e g = absurd g

  back_at : (p : Spot) (place x m : ℕ) (l : Bool) (b : ℕ) (t : List ℕ) → Lang (step_at p f (st place x m l (At p)) b) t
      → LangAt p x m l (b ∷ t)
  back_at spot.Line place x m l b t h =
      let s = st place x m l (At spot.Line) in
      let F = Opening f (Numbers f Next l m) in
      way t (eqb b 99) (to_of s (At spot.Comment)) (go_of s (eqb b 112) (At spot.Problem))
      (λ e g. is F b 99 t e (grammar.comment g.1 g.2))
      (λ _ g. gone t s (eqb b 112) (At spot.Problem) (λ e w. is F b 112 t e (grammar.header w)) g) h
  back_at spot.Comment place x m l b t h =
      let s = st place x m l (At spot.Comment) in
      way t (eqb b 10) (to_of s (At spot.Line)) (to_of s (At spot.Comment))
      (λ e o. (t, is (Remark t) b 10 t e grammar.ended, o))
      (λ e g. (g.0, grammar.byte (eqb-false b 10 e) g.1, g.2)) h
  back_at spot.Problem place x m l b t h =
      gone t (st place x m l (At spot.Problem)) (is_blank b) (At spot.BeforeWord) (λ e g. grammar.blanks (blank_of b e) g) h
  back_at spot.BeforeWord place x m l b t h =
      let s = st place x m l (At spot.BeforeWord) in
      way t (is_blank b) (to_of s (At spot.BeforeWord)) (go_of s (eqb b f.first) (At spot.Second))
      (λ e g. grammar.more (blank_of b e) g)
      (λ _ g. gone t s (eqb b f.first) (At spot.Second)
      (λ e w. grammar.none (is (Word f (Blanks (Numbers f Next l m))) b f.first t e (grammar.just w))) g) h
  back_at spot.Second place x m l b t h =
      gone t (st place x m l (At spot.Second)) (eqb b f.second) (At spot.Third)
      (λ e w. is (Byte f.second (Byte f.third (Blanks (Numbers f Next l m)))) b f.second t e (grammar.just w)) h
  back_at spot.Third place x m l b t h =
      gone t (st place x m l (At spot.Third)) (eqb b f.third) (At spot.Word)
      (λ e w. is (Byte f.third (Blanks (Numbers f Next l m))) b f.third t e (grammar.just w)) h
  back_at spot.Word place x m l b t h =
      gone t (st place x m l (At spot.Word)) (is_blank b) (At spot.BeforeNumber) (λ e g. grammar.blanks (blank_of b e) g) h
  back_at spot.BeforeNumber place x m l b t h =
      let s = st place x m l (At spot.BeforeNumber) in
      way t (is_blank b) (to_of s (At spot.BeforeNumber)) _
      (λ e g. grammar.more (blank_of b e) g)
      (λ _ g. way t (is_digit b) (taken_of s (grown_of false 0 (b - 48) (most_of f l))) (dead_of s)
      (λ e w. grammar.none (first_numbers l m (first_back (took s false b 0 t e w))))
      (λ _ w. absurd w) g) h
  back_at spot.Number place x m l b t h =
      let s = st place x m l (At spot.Number) in
      way t (is_digit b) (taken_of s (grown_of true x (b - 48) (most_of f l))) _
      (λ e w. more-back (took s true b x t e w))
      (λ _ g. way t (is_blank b) (space_of s) (cond (eqb b 10) (go_of s l Done) (dead_of s))
      (λ e w. here (behind-space place x m l b t e w))
      (λ _ w. way t (eqb b 10) (go_of s l Done) (dead_of s) (λ e v. here (behind-newline place x m l b t e v)) (λ _ v. absurd v) w) g) h
  back_at spot.After place x m l b t h =
      let s = st place x m l (At spot.After) in
      way t (is_blank b) (to_of s (At spot.After)) (go_of s (eqb b 10) Done)
      (λ e g. grammar.more (blank_of b e) g)
      (λ _ g. gone t s (eqb b 10) Done (λ e w. grammar.none (is (Byte 10 (Next m x)) b 10 t e (grammar.just w))) g) h

-- which states are live, and in which the head is read
abbrev pub alive : Phase → Bool
alive (At p) = true
alive Done = true
alive Dead = false

abbrev pub live : Head → Bool
live s = alive s.phase

abbrev pub stops : Head → Bool
stops s = is_done s.phase

-- the head as a reader, for any continuation
module _ (f : Form) (Next : ℕ → ℕ → List ℕ → Type 0) (letter : is_blank f.first ≡ false) where
  pub forth : (p : Phase) (place x m : ℕ) (l : Bool) (b : ℕ) (t : List ℕ) → is_done p ≡ false → LangIn f Next p x m l (b ∷ t)
      → Lang f Next (step_in p f (st f Next place x m l p) b) t
  forth (At p) place x m l b t n h = forth-at f Next letter p place x m l b t h
  forth Done place x m l b t n h = absurd (false≢true (sym n))
  forth Dead place x m l b t n h = h

  pub back : (p : Phase) (place x m : ℕ) (l : Bool) (b : ℕ) (t : List ℕ) → is_done p ≡ false
      → Lang f Next (step_in p f (st f Next place x m l p) b) t → LangIn f Next p x m l (b ∷ t)
  back (At p) place x m l b t n h = back_at f Next p place x m l b t h
  back Done place x m l b t n h = absurd (false≢true (sym n))
  back Dead place x m l b t n h = h

  pub still : (p : Phase) (s : Head) (b : ℕ) → is_done p ≡ true → step_in p f s b ≡ s
  still (At p) s b e = absurd (false≢true e)
  still Done s b e = refl
  still Dead s b e = refl

  pub done_alive : (p : Phase) → is_done p ≡ true → alive p ≡ true
  done_alive (At p) e = refl
  done_alive Done e = refl
  done_alive Dead e = e

  pub dead-none : (p : Phase) (x m : ℕ) (l : Bool) (t : List ℕ) → alive p ≡ false → LangIn f Next p x m l t → ⊥
  dead-none (At p) x m l t e h = false≢true (sym e)
  dead-none Done x m l t e h = false≢true (sym e)
  dead-none Dead x m l t e h = h

  pub dies : (p : Phase) (s : Head) (b : ℕ) → s.phase ≡ p → alive p ≡ false → live (step_in p f s b) ≡ false
  dies (At p) s b q e = absurd (false≢true (sym e))
  dies Done s b q e = absurd (false≢true (sym e))
  dies Dead s b q e = ap alive q
