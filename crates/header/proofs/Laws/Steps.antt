-- What each byte of a head does to the place and keeps of the numbers, and a way to finish each live state.
-- Assumes nothing.
use mathlib.Core.Path.{◌≡◌, refl, sym, ap, subst, ◌∙◌}
use mathlib.Core.Bool.{Bool, true, false, cond, false≢true}
use mathlib.Core.List.{List, [], ◌∷◌, ◌++◌}
use Prim.Native.Nat.{ℕ, ◌+◌, ◌-◌, ◌≤◌}
use native.Mathlib.Omega.{arith}
use lib.Dec.{eqb}
use lib.ListN.{length}
use Rattle.laws.specs.Automata.{run, Begins}
use Rattle.text.specs.Texts.{decimal}
use Rattle.std.specs.Prelude.{Option, Some, None}
use Rattle.text.specs.Inner.Numbers.{is_digit, grown_of}
use Rattle.text.proofs.Laws.Numbers.{here, grown_of_lem}
use Rattle.header.specs.Heads.{Gap, Blanks, Byte, LastNumber, Numbers, most_before}
use Rattle.header.specs.Heads as grammar
use Rattle.header.specs.Inner.Heads.{is_blank, is_done, is_over, start_of, to_of, dead_of, go_of, taken_of, most_of, space_by, space_of, step_at}
use Rattle.header.specs.Inner.Heads.{step_in, step_of, head_of}
use Rattle.header.specs.declared.Form.{Form}
use Rattle.header.specs.declared.Head.{Head}
use Rattle.header.specs.declared.Phase.{Phase}
use Rattle.header.specs.declared.Phase.TheVariants.{At, Done, Dead}
use Rattle.header.specs.declared.Spot.{Spot}
use Rattle.header.specs.declared.Spot.TheVariants as spot
use Rattle.header.proofs.Laws.Heads.{Behind, LangAt, LangIn, Lang, alive, live, stops, forth, back, still, done_alive, dead-none}
use Rattle.header.proofs.Laws.Heads.{dies}
use Rattle.header.proofs.Laws.Readers.{Reader, Placed}

-- a byte goes one place on, or is the end
data Moved (s : Head) : Head → Type 0 where
  on : {r : Head} → live r ≡ true → r.place ≡ s.place + 1 → Moved s r
  off : Moved s (dead_of s)

module _ (s : Head) where
  either : (c : Bool) (x y : Head) → Moved s x → Moved s y → Moved s (cond c x y)
  either true x y m n = m
  either false x y m n = n

  gone : (c : Bool) (p : Phase) → alive p ≡ true → Moved s (go_of s c p)
  gone c p e = either c (to_of s p) (dead_of s) (on e refl) off

  taken : (n : Option ℕ) → Moved s (taken_of s n)
  taken None = off
  taken (Some x) = on refl refl

  spaced : (l : Bool) → Moved s (space_by l s)
  spaced true = on refl refl
  spaced false = on refl refl

  moved : (f : Form) (p : Spot) (b : ℕ) → Moved s (step_at p f s b)
  moved f spot.Line b = either (eqb b 99) (to_of s (At spot.Comment)) _ (on refl refl) (gone (eqb b 112) (At spot.Problem) refl)
  moved f spot.Comment b = either (eqb b 10) (to_of s (At spot.Line)) (to_of s (At spot.Comment)) (on refl refl) (on refl refl)
  moved f spot.Problem b = gone (is_blank b) (At spot.BeforeWord) refl
  moved f spot.BeforeWord b =
      either (is_blank b) (to_of s (At spot.BeforeWord)) _ (on refl refl)
      (gone (eqb b f.first) (At spot.Second) refl)
  moved f spot.Second b = gone (eqb b f.second) (At spot.Third) refl
  moved f spot.Third b = gone (eqb b f.third) (At spot.Word) refl
  moved f spot.Word b = gone (is_blank b) (At spot.BeforeNumber) refl
  moved f spot.BeforeNumber b =
      either (is_blank b) (to_of s (At spot.BeforeNumber)) _ (on refl refl)
      (either (is_digit b) _ (dead_of s) (taken (grown_of false 0 (b - 48) (most_of f s.last))) off)
  moved f spot.Number b =
      either (is_digit b) _ _ (taken (grown_of true s.value (b - 48) (most_of f s.last)))
      (either (is_blank b) (space_of s) _ (spaced s.last) (either (eqb b 10) _ (dead_of s) (gone s.last Done refl) off))
  moved f spot.After b = either (is_blank b) (to_of s (At spot.After)) _ (on refl refl) (gone (eqb b 10) Done refl)

-- the place
module _ (f : Form) where
  on_place : {s r : Head} → Moved s r → live r ≡ true → r.place ≡ s.place + 1
  on_place (on h e) l = e
  on_place off l = absurd (false≢true l)

  off_place : {s r : Head} → Moved s r → live r ≡ false → r.place ≡ s.place
  off_place (on h e) l = absurd (false≢true (sym l ∙ h))
  off_place off l = refl

  most-place : {s r : Head} → Moved s r → r.place ≤ s.place + 1
  most-place (on h e) = omega arith
  most-place off = omega arith

  placed_on : (p : Phase) (s : Head) (b : ℕ) → is_done p ≡ false → s.phase ≡ p → live (step_in p f s b) ≡ true
      → (step_in p f s b).place ≡ s.place + 1
  placed_on (At p) s b n q l = on_place (moved s f p b) l
  placed_on Done s b n q l = absurd (false≢true (sym n))
  placed_on Dead s b n q l = absurd (false≢true (subst (λ (p : Phase). alive p ≡ true) q l))

  placed_off : (p : Phase) (s : Head) (b : ℕ) → live (step_in p f s b) ≡ false → (step_in p f s b).place ≡ s.place
  placed_off (At p) s b l = off_place (moved s f p b) l
  placed_off Done s b l = refl
  placed_off Dead s b l = refl

  placed_most : (p : Phase) (s : Head) (b : ℕ) → (step_in p f s b).place ≤ s.place + 1
  placed_most (At p) s b = most-place (moved s f p b)
  placed_most Done s b = omega arith
  placed_most Dead s b = omega arith

  pub head_placed : Placed (step_of f) live stops (λ (s : Head). s.place)
  head_placed = record {
    on = λ s b n l. placed_on s.phase s b n refl l;
    off = λ s b l. placed_off s.phase s b l;
  }

  place-step : (s : Head) (b : ℕ) → (step_of f s b).place ≤ s.place + 1
  place-step s b = placed_most s.phase s b

  run-within : (s : Head) (t : List ℕ) → (run (step_of f) s t).place ≤ s.place + length t
  run-within s [] = omega arith
  run-within s (b ∷ t) = omega (arith, place-step s b, run-within (step_of f s b) t)

  pub head_within : (t : List ℕ) → (head_of f t).place ≤ length t
  head_within t = omega (arith, run-within (start_of f) t)

-- what is over stays as it is
over_in : (f : Form) (p : Phase) (s : Head) (b : ℕ) → is_over p ≡ true → step_in p f s b ≡ s
over_in f (At p) s b e = absurd (false≢true e)
over_in f Done s b e = refl
over_in f Dead s b e = refl

pub run-over : (f : Form) (s : Head) (t : List ℕ) → is_over s.phase ≡ true → run (step_of f) s t ≡ s
run-over f s [] e = refl
run-over f s (b ∷ t) e = ap (λ (r : Head). run (step_of f) r t) (over_in f s.phase s b e) ∙ run-over f s t e

-- behind the last number no other comes
abbrev LastAt : Spot → Bool → Type 0
LastAt spot.Line l = Unit
LastAt spot.Comment l = Unit
LastAt spot.Problem l = Unit
LastAt spot.BeforeWord l = Unit
LastAt spot.Second l = Unit
LastAt spot.Third l = Unit
LastAt spot.Word l = Unit
LastAt spot.BeforeNumber l = Unit
LastAt spot.Number l = Unit
LastAt spot.After l = l ≡ true

abbrev LastIn : Phase → Bool → Type 0
LastIn (At p) l = LastAt p l
LastIn Done l = l ≡ true
LastIn Dead l = Unit

-- the numbers are within their limits
pub record Kept (f : Form) (s : Head) : Type 0 where
  pub small : s.value ≤ most_of f s.last
  pub earlier : s.before ≤ most_before f
  pub closing : LastIn s.phase s.last

module _ (f : Form) where
  pub kept-start : Kept f (start_of f)
  kept-start = record { small = omega arith; earlier = omega arith; closing = tt }

  module _ (s : Head) (k : Kept f s) where
    to : (p : Phase) → LastIn p s.last → Kept f (to_of s p)
    to p h = record { small = k.small; earlier = k.earlier; closing = h }

    dead : Kept f (dead_of s)
    dead = record { small = k.small; earlier = k.earlier; closing = tt }

    both : (c : Bool) (x y : Head) → Kept f x → Kept f y → Kept f (cond c x y)
    both true x y a b = a
    both false x y a b = b

    go : (c : Bool) (p : Phase) → (c ≡ true → LastIn p s.last) → Kept f (go_of s c p)
    go true p h = to p (h refl)
    go false p h = dead

    take : (begun : Bool) (x d : ℕ) → Kept f (taken_of s (grown_of begun x d (most_of f s.last)))
    take begun x d = by (grown_of begun x d (most_of f s.last)) refl
      where
        by : (n : Option ℕ) → grown_of begun x d (most_of f s.last) ≡ n → Kept f (taken_of s n)
        by None e = dead
        by (Some y) e = record { small = (grown_of_lem begun x d (most_of f s.last) y e).bound; earlier = k.earlier; closing = tt }

    spaced_kept : (l : Bool) → s.last ≡ l → Kept f (space_by l s)
    spaced_kept true e = to (At spot.After) e
    spaced_kept false e = record { small = omega arith; earlier = subst (λ (l : Bool). s.value ≤ most_of f l) e k.small; closing = tt }

    kept_at : (p : Spot) (b : ℕ) → LastAt p s.last → Kept f (step_at p f s b)
    kept_at spot.Line b h =
        both (eqb b 99) (to_of s (At spot.Comment)) _ (to (At spot.Comment) tt)
        (go (eqb b 112) (At spot.Problem) (λ _. tt))
    kept_at spot.Comment b h = both (eqb b 10) (to_of s (At spot.Line)) _ (to (At spot.Line) tt) (to (At spot.Comment) tt)
    kept_at spot.Problem b h = go (is_blank b) (At spot.BeforeWord) (λ _. tt)
    kept_at spot.BeforeWord b h =
        both (is_blank b) (to_of s (At spot.BeforeWord)) _ (to (At spot.BeforeWord) tt) (go (eqb b f.first) (At spot.Second) (λ _. tt))
    kept_at spot.Second b h = go (eqb b f.second) (At spot.Third) (λ _. tt)
    kept_at spot.Third b h = go (eqb b f.third) (At spot.Word) (λ _. tt)
    kept_at spot.Word b h = go (is_blank b) (At spot.BeforeNumber) (λ _. tt)
    kept_at spot.BeforeNumber b h =
        both (is_blank b) (to_of s (At spot.BeforeNumber)) _ (to (At spot.BeforeNumber) tt)
        (both (is_digit b) _ (dead_of s) (take false 0 (b - 48)) dead)
    kept_at spot.Number b h =
        both (is_digit b) _ _ (take true s.value (b - 48))
        (both (is_blank b) (space_of s) _ (spaced_kept s.last refl) (both (eqb b 10) _ (dead_of s) (go s.last Done (λ e. e)) dead))
    kept_at spot.After b h = both (is_blank b) (to_of s (At spot.After)) _ (to (At spot.After) h) (go (eqb b 10) Done (λ _. h))

    kept_in : (p : Phase) (b : ℕ) → LastIn p s.last → Kept f (step_in p f s b)
    kept_in (At p) b h = kept_at p b h
    kept_in Done b h = k
    kept_in Dead b h = k

  pub kept_step : (s : Head) (b : ℕ) → Kept f s → Kept f (step_of f s b)
  kept_step s b k = kept_in s k s.phase b k.closing

  last_of : (p : Phase) (l : Bool) → LastIn p l → is_done p ≡ true → l ≡ true
  last_of (At p) l c e = absurd (false≢true e)
  last_of Done l c e = c
  last_of Dead l c e = absurd (false≢true e)

  pub kept-last : (s : Head) → Kept f s → is_done s.phase ≡ true → s.value ≤ f.last
  kept-last s k e = subst (λ (l : Bool). s.value ≤ most_of f l) (last_of s.phase s.last k.closing e) k.small

-- the head as a reader, for any continuation
pub head_reader : (f : Form) (Next : ℕ → ℕ → List ℕ → Type 0) → is_blank f.first ≡ false
    → Reader (step_of f) live stops (Kept f) (Lang f Next)
head_reader f Next letter = record {
  kept = kept_step f;
  forth = λ s b t k n h. forth f Next letter s.phase s.place s.value s.before s.last b t n h;
  back = λ s b t k n h. back f Next letter s.phase s.place s.value s.before s.last b t n h;
  still = λ s b e. still f Next letter s.phase s b e;
  stopped = λ s e. done_alive f Next letter s.phase e;
  dead = λ s t e h. dead-none f Next letter s.phase s.value s.before s.last t e h;
  dies = λ s b e. dies f Next letter s.phase s b refl e;
}

-- a way to finish each live state, where there is one for all numbers
module _ (f : Form) (Next : ℕ → ℕ → List ℕ → Type 0)
    (every : (m n : ℕ) → m ≤ most_before f → n ≤ f.last → Begins (Next m n) []) where
  -- some text of a language
  abbrev SomeText : (List ℕ → Type 0) → Type 0
  SomeText F = (t : List ℕ) × F t

  line-end : (m n : ℕ) → m ≤ most_before f → n ≤ f.last → SomeText (Gap (Byte 10 (Next m n)))
  line-end m n g h = let e = every m n g h in (10 ∷ e.0, grammar.none (grammar.just e.1))

  last-number : (m : ℕ) → m ≤ most_before f → SomeText (LastNumber f (Next m))
  last-number m g = let e = line-end m 0 g (omega arith) in (decimal 0 ++ e.0, grammar.number {n = 0} (omega arith) e.1)

  spaced_last : (m : ℕ) → m ≤ most_before f → SomeText (Blanks (LastNumber f (Next m)))
  spaced_last m g = let e = last-number m g in (32 ∷ e.0, grammar.blanks grammar.space (grammar.none e.1))

  numbers : (l : Bool) (m : ℕ) → m ≤ most_before f → SomeText (Numbers f Next l m)
  numbers true m g = last-number m g
  numbers false m g = let e = spaced_last 0 (omega arith) in (decimal 0 ++ e.0, grammar.number {n = 0} (omega arith) e.1)

  behind : (l : Bool) (m x : ℕ) → m ≤ most_before f → x ≤ most_of f l → SomeText (Behind f Next l m x)
  behind true m x g h = line-end m x g h
  behind false m x g h = spaced_last x h

  module _ (x m : ℕ) (l : Bool) (g : m ≤ most_before f) (h : x ≤ most_of f l) where
    spaced_numbers : SomeText (Blanks (Numbers f Next l m))
    spaced_numbers = let e = numbers l m g in (32 ∷ e.0, grammar.blanks grammar.space (grammar.none e.1))

    third : SomeText (LangAt f Next spot.Third x m l)
    third = let e = spaced_numbers in (f.third ∷ e.0, grammar.just e.1)

    second : SomeText (LangAt f Next spot.Second x m l)
    second = let e = third in (f.second ∷ e.0, grammar.just e.1)

    before-word : SomeText (LangAt f Next spot.BeforeWord x m l)
    before-word = let e = second in (f.first ∷ e.0, grammar.none (grammar.just e.1))

    problem : SomeText (LangAt f Next spot.Problem x m l)
    problem = let e = before-word in (32 ∷ e.0, grammar.blanks grammar.space e.1)

    line : SomeText (LangAt f Next spot.Line x m l)
    line = let e = problem in (112 ∷ e.0, grammar.header e.1)

    some_at : (p : Spot) → LastAt p l → SomeText (LangAt f Next p x m l)
    some_at spot.Line c = line
    some_at spot.Comment c = let e = line in (10 ∷ e.0, (e.0, grammar.ended, e.1))
    some_at spot.Problem c = problem
    some_at spot.BeforeWord c = before-word
    some_at spot.Second c = second
    some_at spot.Third c = third
    some_at spot.Word c = spaced_numbers
    some_at spot.BeforeNumber c = let e = numbers l m g in (e.0, grammar.none e.1)
    some_at spot.Number c = let e = behind l m x g h in (e.0, here e.1)
    some_at spot.After c = line-end m x g (subst (λ (b : Bool). x ≤ most_of f b) c h)

    some_in : (p : Phase) → LastIn p l → alive p ≡ true → SomeText (LangIn f Next p x m l)
    some_in (At p) c e = some_at p c
    some_in Done c e = every m x g (subst (λ (b : Bool). x ≤ most_of f b) c h)
    some_in Dead c e = absurd (false≢true e)

  pub head_some : (s : Head) → Kept f s → live s ≡ true → Begins (Lang f Next s) []
  head_some s k e = some_in s.value s.before s.last k.earlier k.small s.phase k.closing e
