-- Readers of texts, each against a language: how a reader stops on a text. It looks at most one byte ahead of what it has read, what it
-- has read is right, and what it had read when it failed can be finished; or it failed before the first byte.
-- From this and from the fact that whole texts are read as such, the place where a reader stops is the longest good beginning.
-- Assumes nothing.
use mathlib.Core.Path.{◌≡◌, refl, sym, ap, ◌∙◌, subst, subst⁻¹}
use mathlib.Core.Bool.{Bool, true, false}
use mathlib.Core.List.{List, [], ◌∷◌, ◌++◌, append_assoc}
use Prim.Native.Nat.{ℕ, suc, ◌+◌, ◌-◌, ◌≤◌, ◌<◌}
use native.Mathlib.Omega.{arith}
use lib.Dec.{ltb}
use lib.ListN.{length, take, length-append}
use lib.Seq.{take-append_seam, take-append-add}
use borrow.Author.Tests.{ltb-true, ltb-false}
use Rattle.laws.specs.Automata.{Begins, Longest}
use Rattle.satfile.specs.Inner.Reads.{Out, Read, Bad}

-- two texts that are both empty or begin with the same byte
pub data Same : List ℕ → List ℕ → Type 0 where
  empty : Same [] []
  first : {b : ℕ} {l r : List ℕ} → Same (b ∷ l) (b ∷ r)

pub same_refl : (l : List ℕ) → Same l l
same_refl [] = empty
same_refl (b ∷ l) = first

pub same-behind : (p : List ℕ) {l r : List ℕ} → Same l r → Same (p ++ l) (p ++ r)
same-behind [] s = s
same-behind (b ∷ p) s = first

pub same_split : (p : List ℕ) {l r s : List ℕ} → l ≡ p ++ r → Same r s → Same l (p ++ s)
same_split p {s = s} e h = subst⁻¹ (λ (x : List ℕ). Same x (p ++ s)) e (same-behind p h)

-- w is an a, whatever follows; and p begins some such word
abbrev pub Word : {A : Type 0} → (A → List ℕ → List ℕ → Type 0) → A → List ℕ → Type 0
Word L a w = (r : List ℕ) → L a (w ++ r) r

pub record Some {A : Type 0} (L : A → List ℕ → List ℕ → Type 0) (p : List ℕ) : Type 0 where
  pub value : A
  pub rest : List ℕ
  pub word : Word L value (p ++ rest)

-- how a reader stops on l: behind p with a result, behind p with none, or before it has read anything.
-- `Gives m o` says that the reader makes o of the text m
pub data Outcome {A : Type 0} (Gives : List ℕ → Out A → Type 0) (L : A → List ℕ → List ℕ → Type 0) (l : List ℕ) : Type 0 where
  good : (a : A) (p r : List ℕ) → l ≡ p ++ r → ((s : List ℕ) → Same r s → Gives (p ++ s) (Read a s)) → Word L a p → Outcome Gives L l
  wrong : (p r : List ℕ) → l ≡ p ++ r → ((s : List ℕ) → Same r s → Gives (p ++ s) (Bad s)) → Some L p → Outcome Gives L l
  none : ((s : List ℕ) → Same l s → Gives s (Bad s)) → Outcome Gives L l

-- a reader that fails before the first byte
module _ {A : Type 0} (f : List ℕ → Out A) {L : A → List ℕ → List ℕ → Type 0} where
  pub none-empty : f [] ≡ Bad [] → Outcome (λ m o. f m ≡ o) L []
  none-empty e = none go
    where
      go : (s : List ℕ) → Same [] s → f s ≡ Bad s
      go [] empty = e
      go (_ ∷ _) h = elim h [ ]

  pub none_first : (b : ℕ) (l : List ℕ) → ((r : List ℕ) → f (b ∷ r) ≡ Bad (b ∷ r)) → Outcome (λ m o. f m ≡ o) L (b ∷ l)
  none_first b l e = none go
    where
      go : (s : List ℕ) → Same (b ∷ l) s → f s ≡ Bad s
      go s (first {r = r}) = e r

-- a reader that goes on as another one behind p
split_behind : (p q r : List ℕ) {l : List ℕ} → l ≡ q ++ r → p ++ l ≡ p ++ q ++ r
split_behind p q r e = ap (λ (x : List ℕ). p ++ x) e ∙ sym (append_assoc p q r)

module _ {A : Type 0} {G H : List ℕ → Out A → Type 0} {L M : A → List ℕ → List ℕ → Type 0} (p l : List ℕ) where
  pub passed : ((r : List ℕ) (o : Out A) → Same l r → G r o → H (p ++ r) o) → ((a : A) (w : List ℕ) → Word L a w → Word M a (p ++ w))
      → Some M p → Outcome G L l → Outcome H M (p ++ l)
  passed goes word z (good a q r e g w) =
      good a (p ++ q) r (split_behind p q r e)
      (λ s h. subst⁻¹ (λ (x : List ℕ). H x (Read a s)) (append_assoc p q s) (goes (q ++ s) (Read a s) (same_split q e h) (g s h)))
      (word a q w)
  passed goes word z (wrong q r e g w) =
      wrong (p ++ q) r (split_behind p q r e)
      (λ s h. subst⁻¹ (λ (x : List ℕ). H x (Bad s)) (append_assoc p q s) (goes (q ++ s) (Bad s) (same_split q e h) (g s h)))
      (record {
        value = w.value;
        rest = w.rest;
        word = subst⁻¹ (Word M w.value) (append_assoc p q w.rest) (word w.value (q ++ w.rest) w.word);
      })
  passed goes word z (none g) = wrong p l refl (λ s h. goes s (Bad s) h (g s h)) z

-- a reader that makes φ a of what another one makes a of
module _ {A B : Type 0} {G : List ℕ → Out A → Type 0} {H : List ℕ → Out B → Type 0} {L : A → List ℕ → List ℕ → Type 0}
    {M : B → List ℕ → List ℕ → Type 0} (φ : A → B) (l : List ℕ)
    (reads : (m r : List ℕ) (a : A) → Same l m → G m (Read a r) → H m (Read (φ a) r))
    (fails : (m r : List ℕ) → Same l m → G m (Bad r) → H m (Bad r))
    (word : (a : A) (w : List ℕ) → Word L a w → Word M (φ a) w) where
  pub renamed : Outcome G L l → Outcome H M l
  renamed (good a p r e g w) = good (φ a) p r e (λ s h. reads (p ++ s) s a (same_split p e h) (g s h)) (word a p w)
  renamed (wrong p r e g w) =
      wrong p r e (λ s h. fails (p ++ s) s (same_split p e h) (g s h))
      (record { value = φ w.value; rest = w.rest; word = word w.value (p ++ w.rest) w.word })
  renamed (none g) = none (λ s h. fails s s h (g s h))

-- what a reader leaves
abbrev pub left_of : {A : Type 0} → Out A → List ℕ
left_of (Read a r) = r
left_of (Bad m) = m

module _ {A : Type 0} {f : List ℕ → Out A} {L : A → List ℕ → List ℕ → Type 0} where
  -- what is read is right
  pub sound : {l : List ℕ} → Outcome (λ m o. f m ≡ o) L l → (a : A) (r : List ℕ) → f l ≡ Read a r
      → (p : List ℕ) × (l ≡ p ++ r) × Word L a p
  sound {l} (good b q s e g w) a r h =
      let i : f l ≡ Read b s = ap f e ∙ g s (same_refl s) in
      let x : b ≡ a = cc in
      let y : s ≡ r = cc in
      (q, e ∙ ap (λ (z : List ℕ). q ++ z) y, subst (λ (z : A). Word L z q) x w)
  sound {l} (wrong q s e g w) a r h =
      let i : f l ≡ Bad s = ap f e ∙ g s (same_refl s) in
      let z : ◌≡◌ {A = ℕ} 0 1 = cc in
      absurd (omega arith)
  sound {l} (none g) a r h =
      let i : f l ≡ Bad l = g l (same_refl l) in
      let z : ◌≡◌ {A = ℕ} 0 1 = cc in
      absurd (omega arith)

  -- nothing is left but what was there
  pub left-within : {l : List ℕ} → Outcome (λ m o. f m ≡ o) L l → length (left_of (f l)) ≤ length l
  left-within (good a p r e g w) =
      omega (arith, length-append p r, ap length e, ap (λ o. length (left_of o)) (ap f e ∙ g r (same_refl r)))
  left-within (wrong p r e g w) =
      omega (arith, length-append p r, ap length e, ap (λ o. length (left_of o)) (ap f e ∙ g r (same_refl r)))
  left-within {l} (none g) = omega (arith, ap (λ o. length (left_of o)) (g l (same_refl l)))

-- the whole texts of a language
abbrev pub Whole : {A : Type 0} → (A → List ℕ → List ℕ → Type 0) → List ℕ → Type 0
Whole {A} L x = (a : A) × L a x []

begins-some : {A : Type 0} {L : A → List ℕ → List ℕ → Type 0} (p : List ℕ) → Some L p → Begins (Whole L) p
begins-some {L = L} p s = (
  s.rest ++ [],
  (s.value, subst (λ (x : List ℕ). L s.value x []) (append_assoc p s.rest []) (s.word [])),
)

take_beyond : (p : List ℕ) (b : ℕ) (r t : List ℕ) (j : ℕ) → length p < j
    → take j (p ++ (b ∷ r)) ++ t ≡ p ++ (b ∷ (take (j - length p - 1) r ++ t))
take_beyond p b r t j h =
    let k : j ≡ length p + suc (j - length p - 1) = omega arith in
    ap (λ (i : ℕ). take i (p ++ (b ∷ r)) ++ t) k
    ∙ ap (λ (x : List ℕ). x ++ t) (take-append-add p (b ∷ r) (suc (j - length p - 1)))
    ∙ append_assoc p (b ∷ take (j - length p - 1) r) t

-- a reader that reads every whole text as what it is
module _ {A : Type 0} (f : List ℕ → Out A) (L : A → List ℕ → List ℕ → Type 0)
    (whole : (a : A) (x : List ℕ) → L a x [] → f x ≡ Read a []) where
  -- no whole text goes on behind p with the byte at which the reader stops
  beyond : (p : List ℕ) (b : ℕ) (s : List ℕ) → left_of (f (p ++ (b ∷ s))) ≡ b ∷ s → Whole L (p ++ (b ∷ s)) → ⊥
  beyond p b s e w = omega (arith, ap length (sym e ∙ ap left_of (whole w.0 (p ++ (b ∷ s)) w.1)))

  module _ (p r : List ℕ) (stop : (s : List ℕ) → Same r s → left_of (f (p ++ s)) ≡ s) where
    least : (j : ℕ) → j ≤ length (p ++ r) → Begins (Whole L) (take j (p ++ r)) → j ≤ length p
    least j h b = go r stop h b.1
      where
        go : (r : List ℕ) → ((s : List ℕ) → Same r s → left_of (f (p ++ s)) ≡ s) → j ≤ length (p ++ r)
            → Whole L (take j (p ++ r) ++ b.0) → j ≤ length p
        go [] stop h w = omega (arith, length-append p [])
        go (c ∷ r) stop h w = over (ltb (length p) j) refl
          where
            over : (t : Bool) → ltb (length p) j ≡ t → j ≤ length p
            over false e = ltb-false (length p) j e
            over true e =
                absurd (beyond p c (take (j - length p - 1) r ++ b.0) (stop _ first)
                (subst (Whole L) (take_beyond p c r b.0 j (ltb-true (length p) j e)) w))

    -- the place where the reader stops
    placed : {l : List ℕ} → l ≡ p ++ r → Begins (Whole L) p → Longest (Whole L) l (length l - length (left_of (f l)))
    placed e b =
        subst⁻¹ (λ (x : List ℕ). Longest (Whole L) x (length x - length (left_of (f x)))) e
        (subst (Longest (Whole L) (p ++ r)) (omega (arith, length-append p r, ap length (stop r (same_refl r)))) (record {
          within = omega (arith, length-append p r);
          begins = subst⁻¹ (Begins (Whole L)) (take-append_seam p r) b;
          longest = least;
        }))

  pub longest_stop : {l : List ℕ} → Some L [] → Outcome (λ m o. f m ≡ o) L l → Longest (Whole L) l (length l - length (left_of (f l)))
  longest_stop z (good a p r e g w) = placed p r (λ s h. ap left_of (g s h)) e ([], (a, w []))
  longest_stop z (wrong p r e g w) = placed p r (λ s h. ap left_of (g s h)) e (begins-some p w)
  longest_stop {l} z (none g) = placed [] l (λ s h. ap left_of (g s h)) refl (begins-some [] z)
