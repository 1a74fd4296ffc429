-- A formula, by how it begins, against its productions: how its reader stops, that it reads every formula, and that no formula begins
-- with what may follow one. For any reader of the groups that it opens; Laws/Operands has what is no list.
-- Assumes nothing.
use mathlib.Core.Path.{◌≡◌, refl, sym, ap, ◌∙◌, subst⁻¹}
use mathlib.Core.Bool.{Bool, true, false, cond, not, false≢true}
use mathlib.Core.List.{List, [], ◌∷◌, ◌++◌}
use Prim.Native.Nat.{ℕ, ◌+◌}
use native.Mathlib.Omega.{arith}
use lib.Dec.{eqb, ltb}
use borrow.Author.Tests.{eqb-true, ne_eqb, le-ltb, lt-ltb, not-true}
use Rattle.text.specs.Texts.{decimal}
use Rattle.satfile.specs.Trees.{Tree, And, Or, folded}
use Rattle.satfile.specs.Texts as grammar
use Rattle.satfile.specs.Texts.{Operand, Over}
use Rattle.satfile.specs.Inner.Reads.{Out, Read, Bad, and_then, negates, operand_in, open_in}
use Rattle.satfile.specs.Inner.Reads.{begin_in, is_many, is_parted, begin_then}
use Rattle.satfile.specs.Inner.Reads as reads
use Rattle.satfile.specs.declared.lead.Group.{Group}
use Rattle.satfile.specs.declared.lead.Group.TheVariants as group
use Rattle.satfile.proofs.Laws.Rests.{taken, left}
use Rattle.satfile.proofs.Laws.Outcomes.{Same, first, Some, Outcome, none-empty, none_first, passed, renamed}
use Rattle.satfile.proofs.Laws.Numerals.{Digit, digit, decimal_digit}
use Rattle.satfile.proofs.Laws.Groups.{Rest, finishes}
use Rattle.satfile.proofs.Laws.Grammars.{rest_of_members, members_of_rest}
use Rattle.satfile.proofs.Laws.Operands.{Opens, sign-some, operand_stop, operand-negates, operand-whole}

module _ {v d : ℕ} {opens : Bool} {Inside : Tree → List ℕ → List ℕ → Type 0} {k : Group → List ℕ → Out Tree}
    (o : Opens v d opens Inside k) where
  -- the parenthesis of a list, behind the byte c; the language is what may follow that byte
  abbrev formula_read : List ℕ → Out Tree
  formula_read l = and_then (begin_then k) (begin_in v d l)

  abbrev open_read : Group → List ℕ → Out Tree
  open_read g l = and_then (begin_then k) (open_in g l)

  abbrev After : ℕ → Tree → List ℕ → List ℕ → Type 0
  After c t l r = Over v opens Inside t (c ∷ l) r

  module _ (g : Group) (c : ℕ) (many : is_many g ≡ true)
      (begins : (r : List ℕ) → begin_in v d (c ∷ r) ≡ cond (eqb d 0) (Bad (c ∷ r)) (open_in g r))
      (listed : opens ≡ true → (t : Tree) (l r : List ℕ) → Rest Inside g true reads.none t l r
      → Over v opens Inside t (c ∷ 40 ∷ l) r) where
    list-fills : is_many g ≡ false → Some Inside []
    list-fills e = absurd (false≢true (sym e ∙ many))

    module _ (q : opens ≡ true) where
      list-some : Some (After c) (40 ∷ [])
      list-some =
          let z = finishes Inside g list-fills reads.none in
          record { value = z.value; rest = z.rest; word = λ r. listed q z.value (z.rest ++ r) r (z.word r) }

      open_stop : (l : List ℕ) → Outcome (λ m p. open_read g m ≡ p) (After c) l
      open_stop [] = none-empty (open_read g) refl
      open_stop (b ∷ l) = go (eqb b 40) refl
        where
          go : (e : Bool) → eqb b 40 ≡ e → Outcome (λ m p. open_read g m ≡ p) (After c) (b ∷ l)
          go false e = none_first (open_read g) b l (λ r. ap (and_then (begin_then k)) (left _ _ _ e))
          go true e =
              subst⁻¹ (λ (x : ℕ). Outcome (λ m p. open_read g m ≡ p) (After c) (x ∷ l)) (eqb-true b 40 e)
              (passed (40 ∷ []) l (λ r p h i. i) (λ t w x r. listed q t (w ++ r) r (x r)) list-some (o.stop q g list-fills l))

    list_stop : (l : List ℕ) → Outcome (λ m p. formula_read m ≡ p) (Over v opens Inside) (c ∷ l)
    list_stop l = go (eqb d 0) refl
      where
        go : (z : Bool) → eqb d 0 ≡ z → Outcome (λ m p. formula_read m ≡ p) (Over v opens Inside) (c ∷ l)
        go true e = none_first formula_read c l (λ r. ap (and_then (begin_then k)) (begins r ∙ taken _ _ _ e))
        go false e =
            let q : opens ≡ true = o.deep ∙ ap not e in
            let z = list-some q in
            passed (c ∷ []) l (λ r p h i. ap (and_then (begin_then k)) (begins r ∙ left _ _ _ e) ∙ i) (λ t w x. x)
            (record { value = z.value; rest = 40 ∷ z.rest; word = z.word }) (open_stop q l)

  -- the two lists
  all_listed : opens ≡ true → (t : Tree) (l r : List ℕ) → Rest Inside group.And true reads.none t l r
      → Over v opens Inside t (42 ∷ 40 ∷ l) r
  all_listed q t l r d =
      let x = members_of_rest Inside group.And refl refl (λ t. refl) d in
      subst⁻¹ (λ (u : Tree). Over v opens Inside u (42 ∷ 40 ∷ l) r) x.2 (grammar.all q x.1)

  any-listed : opens ≡ true → (t : Tree) (l r : List ℕ) → Rest Inside group.Or true reads.none t l r
      → Over v opens Inside t (43 ∷ 40 ∷ l) r
  any-listed q t l r d =
      let x = members_of_rest Inside group.Or refl refl (λ t. refl) d in
      subst⁻¹ (λ (u : Tree). Over v opens Inside u (43 ∷ 40 ∷ l) r) x.2 (grammar.any q x.1)

  star_begins : (r : List ℕ) → begin_in v d (42 ∷ r) ≡ cond (eqb d 0) (Bad (42 ∷ r)) (open_in group.And r)
  unfolding begin_in
  star_begins r = refl

  plus_begins : (r : List ℕ) → begin_in v d (43 ∷ r) ≡ cond (eqb d 0) (Bad (43 ∷ r)) (open_in group.Or r)
  unfolding begin_in
  plus_begins r = refl

  -- a `-`, and any other byte
  minus-begins : (r : List ℕ) → begin_in v d (45 ∷ r) ≡ cond (negates v d) (operand_in v d true r) (Bad (45 ∷ r))
  unfolding begin_in
  minus-begins r = refl

  minus_stop : (l : List ℕ) → Outcome (λ m p. formula_read m ≡ p) (Over v opens Inside) (45 ∷ l)
  minus_stop l = go (negates v d) refl
    where
      go : (e : Bool) → negates v d ≡ e → Outcome (λ m p. formula_read m ≡ p) (Over v opens Inside) (45 ∷ l)
      go false e = none_first formula_read 45 l (λ r. ap (and_then (begin_then k)) (minus-begins r ∙ left _ _ _ e))
      go true e =
          let z = sign-some o true e in
          passed (45 ∷ []) l (λ r p h i. ap (and_then (begin_then k)) (minus-begins r ∙ taken _ _ _ e) ∙ i) (λ t w x. x)
          (record { value = z.value; rest = z.rest; word = z.word }) (operand_stop o true l)

  other-begins : (b : ℕ) (r : List ℕ) → eqb b 42 ≡ false → eqb b 43 ≡ false → eqb b 45 ≡ false
      → begin_in v d (b ∷ r) ≡ operand_in v d false (b ∷ r)
  unfolding begin_in
  other-begins b r e f h = left _ _ _ e ∙ left _ _ _ f ∙ left _ _ _ h

  module _ (b : ℕ) (l : List ℕ) (e : eqb b 42 ≡ false) (f : eqb b 43 ≡ false) (h : eqb b 45 ≡ false) where
    other-read : (m : List ℕ) → Same (b ∷ l) m → formula_read m ≡ and_then (begin_then k) (operand_in v d false m)
    other-read m (first {r = r}) = ap (and_then (begin_then k)) (other-begins b r e f h)

    other_stop : Outcome (λ m p. formula_read m ≡ p) (Over v opens Inside) (b ∷ l)
    other_stop =
        renamed (λ t. t) (b ∷ l) (λ m r t s i. other-read m s ∙ i) (λ m r s i. other-read m s ∙ i) (λ t w x. x)
        (operand_stop o false (b ∷ l))

  empty-read : formula_read [] ≡ Bad []
  unfolding begin_in
  empty-read = refl

  pub formula_stop : (l : List ℕ) → Outcome (λ m p. formula_read m ≡ p) (Over v opens Inside) l
  formula_stop [] = none-empty formula_read empty-read
  formula_stop (b ∷ l) = go (eqb b 42) refl (eqb b 43) refl (eqb b 45) refl
    where
      Stops : ℕ → Type 0
      Stops c = Outcome (λ m p. formula_read m ≡ p) (Over v opens Inside) (c ∷ l)

      go : (e : Bool) → eqb b 42 ≡ e → (f : Bool) → eqb b 43 ≡ f → (h : Bool) → eqb b 45 ≡ h → Stops b
      go true e x f y h = subst⁻¹ Stops (eqb-true b 42 e) (list_stop group.And 42 refl star_begins all_listed l)
      go false e true f y h = subst⁻¹ Stops (eqb-true b 43 f) (list_stop group.Or 43 refl plus_begins any-listed l)
      go false e false f true h = subst⁻¹ Stops (eqb-true b 45 h) (minus_stop l)
      go false e false f false h = other_stop b l e f h

  digit-begins : (l : List ℕ) → Digit l → begin_in v d l ≡ operand_in v d false l
  digit-begins l (digit {d = x} {r = r} h g) =
      other-begins (48 + x) r (ne_eqb (48 + x) 42 (λ e. omega arith)) (ne_eqb (48 + x) 43 (λ e. omega arith))
      (ne_eqb (48 + x) 45 (λ e. omega arith))

  operand-begins : {t : Tree} {l r : List ℕ} → Operand v opens Inside t l r → begin_in v d l ≡ operand_in v d false l
  operand-begins {r = r} (grammar.symbol {n = x} h g) = digit-begins (decimal x ++ r) (decimal_digit x r h)
  operand-begins (grammar.parens {l = l} q s i e) = other-begins 40 l refl refl refl

  shallow : opens ≡ true → eqb d 0 ≡ false
  shallow q = not-true (eqb d 0) (sym o.deep ∙ q)

  pub formula-whole : {t : Tree} {l r : List ℕ} → Over v opens Inside t l r → is_parted r ≡ true → formula_read l ≡ Read t r
  formula-whole (grammar.plain x) p = ap (and_then (begin_then k)) (operand-begins x) ∙ operand-whole o false x p
  formula-whole (grammar.negated {l = l} x) p =
      ap (and_then (begin_then k)) (minus-begins l ∙ taken _ _ _ (operand-negates o x)) ∙ operand-whole o true x p
  formula-whole {r = r} (grammar.all {ts = ts} {l = l} q m) p =
      ap (and_then (begin_then k)) (star_begins (40 ∷ l) ∙ left _ _ _ (shallow q))
      ∙ o.whole q group.And refl (folded And ts) l r (rest_of_members Inside group.And refl refl (λ t. refl) m reads.none)
  formula-whole {r = r} (grammar.any {ts = ts} {l = l} q m) p =
      ap (and_then (begin_then k)) (plus_begins (40 ∷ l) ∙ left _ _ _ (shallow q))
      ∙ o.whole q group.Or refl (folded Or ts) l r (rest_of_members Inside group.Or refl refl (λ t. refl) m reads.none)

-- no formula begins with what may follow one
digit-parted : (l : List ℕ) → Digit l → is_parted l ≡ false
digit-parted l (digit {d = x} h g) =
    let low : ltb (48 + x) 48 ≡ false = le-ltb (48 + x) 48 (omega arith) in
    let some : eqb (48 + x) 48 ≡ false = ne_eqb (48 + x) 48 (λ e. omega arith) in
    let high : ltb (48 + x) 58 ≡ true = lt-ltb (48 + x) 58 (omega arith) in
    rw (ne_eqb (48 + x) 41 (λ e. omega arith), low, some, high)

module _ {v : ℕ} {opens : Bool} {Inside : Tree → List ℕ → List ℕ → Type 0} where
  operand_starts : {t : Tree} {l r : List ℕ} → Operand v opens Inside t l r → is_parted l ≡ false
  operand_starts {r = r} (grammar.symbol {n = x} h g) = digit-parted (decimal x ++ r) (decimal_digit x r h)
  operand_starts (grammar.parens q s i e) = refl

  pub formula_starts : {t : Tree} {l r : List ℕ} → Over v opens Inside t l r → is_parted l ≡ false
  formula_starts (grammar.plain x) = operand_starts x
  formula_starts (grammar.negated x) = refl
  formula_starts (grammar.all q m) = refl
  formula_starts (grammar.any q m) = refl
