-- A number or a formula in parentheses, negated or not, against its productions, for any reader of groups that stops and reads as
-- Laws/Members says.
-- Assumes nothing.
use mathlib.Core.Path.{◌≡◌, refl, sym, ap, ◌∙◌, subst, subst⁻¹}
use mathlib.Core.Bool.{Bool, true, false, cond, not}
use mathlib.Core.List.{List, [], ◌∷◌, ◌++◌}
use Prim.Native.Nat.{ℕ, ◌+◌, ◌≤◌}
use native.Mathlib.Omega.{arith}
use lib.Dec.{eqb}
use borrow.Author.Tests.{eqb-true, eqb-false, ne_eqb}
use Rattle.text.specs.Texts.{decimal}
use Rattle.satfile.specs.Trees.{Tree, Symbol}
use Rattle.satfile.specs.Texts as grammar
use Rattle.satfile.specs.Texts.{Operand, Over}
use Rattle.satfile.specs.Inner.Reads.{Out, Read, and_then, number_in, fills, negates, Leaf, leaf_of, one_of, operand_in}
use Rattle.satfile.specs.Inner.Reads.{is_many, is_whole, made_of, is_parted, begin_then}
use Rattle.satfile.specs.Inner.Reads as reads
use Rattle.satfile.specs.declared.lead.Group.{Group}
use Rattle.satfile.specs.declared.lead.Group.TheVariants as group
use Rattle.satfile.proofs.Laws.Rests.{taken, left, fills-deep}
use Rattle.satfile.proofs.Laws.Outcomes.{Same, first, Word, Some, Outcome, none-empty, none_first, passed, renamed}
use Rattle.satfile.proofs.Laws.Numerals.{Numeral, number_stop, number-whole, Digit, digit, decimal_digit}
use Rattle.satfile.proofs.Laws.Groups.{Rest, finishes}
use Rattle.satfile.proofs.Laws.Grammars.{single_of_rest, rest_of_single}

-- the groups that a formula may open, where d parentheses may still be opened: whether any, whether one can be filled, and how they are
-- read
pub record Opens (v d : ℕ) (opens : Bool) (Inside : Tree → List ℕ → List ℕ → Type 0) (k : Group → List ℕ → Out Tree) : Type 0 where
  pub deep : opens ≡ not (eqb d 0)
  pub some : fills v d ≡ true → Some Inside []
  pub filled : opens ≡ true → (t : Tree) (l r : List ℕ) → Inside t l r → fills v d ≡ true
  pub stop : opens ≡ true → (g : Group) → (is_many g ≡ false → Some Inside []) → (l : List ℕ)
      → Outcome (λ m o. k g m ≡ o) (Rest Inside g true reads.none) l
  pub whole : opens ≡ true → (g : Group) → is_whole g ≡ false → (t : Tree) (l r : List ℕ) → Rest Inside g true reads.none t l r
      → k g l ≡ Read t r

one_group : (n : Bool) → is_many (one_of n) ≡ false
one_group false = refl
one_group true = refl

inside_group : (n : Bool) → is_whole (one_of n) ≡ false
inside_group false = refl
inside_group true = refl

leaf_made : (x : ℕ) (n : Bool) → made_of (one_of n) (Symbol x) ≡ leaf_of x n
leaf_made x false = refl
leaf_made x true = refl

module _ (v : ℕ) (opens : Bool) (Inside : Tree → List ℕ → List ℕ → Type 0) where
  -- a number or a formula in parentheses, negated or not: l behind its `-`
  abbrev pub Sign : Bool → Tree → List ℕ → List ℕ → Type 0
  Sign false t l r = Over v opens Inside t l r
  Sign true t l r = Over v opens Inside t (45 ∷ l) r

  signed : (n : Bool) {t : Tree} {l r : List ℕ} → Operand v opens Inside t l r → Sign n (made_of (one_of n) t) l r
  signed false o = grammar.plain o
  signed true o = grammar.negated o

  signed_group : (n : Bool) → opens ≡ true → {t : Tree} {l r : List ℕ} → Rest Inside (one_of n) true reads.none t l r → Sign n t (40 ∷ l) r
  signed_group false q {l = l} {r} d =
      let x = single_of_rest Inside group.One refl d in
      subst⁻¹ (λ (u : Tree). Over v opens Inside u (40 ∷ l) r) x.made
      (grammar.plain (grammar.parens q x.before x.inside x.after))
  signed_group true q {l = l} {r} d =
      let x = single_of_rest Inside group.Not refl d in
      subst⁻¹ (λ (u : Tree). Over v opens Inside u (45 ∷ 40 ∷ l) r) x.made
      (grammar.negated (grammar.parens q x.before x.inside x.after))

  signed-number : (n : Bool) (x : ℕ) (w : List ℕ) → Word (Numeral v []) x w → Word (Sign n) (leaf_of x n) w
  signed-number n x w h r =
      subst (λ (u : Tree). Sign n u (w ++ r) r) (leaf_made x n)
      (subst⁻¹ (λ (l : List ℕ). Sign n (made_of (one_of n) (Symbol x)) l r) (h r).split
      (signed n (grammar.symbol (h r).least (h r).most)))

module _ {v d : ℕ} {opens : Bool} {Inside : Tree → List ℕ → List ℕ → Type 0} {k : Group → List ℕ → Out Tree}
    (o : Opens v d opens Inside k) where
  fills_opens : fills v d ≡ true → opens ≡ true
  fills_opens e = o.deep ∙ ap not (ne_eqb d 0 (λ z. omega (arith, fills-deep v d e)))

  -- a number or a parenthesis
  abbrev operand_read : Bool → List ℕ → Out Tree
  operand_read n l = and_then (begin_then k) (operand_in v d n l)

  module _ (n : Bool) where
    sign_opened : fills v d ≡ true → Some (Sign v opens Inside n) (40 ∷ [])
    sign_opened q =
        let z = finishes Inside (one_of n) (λ e. o.some q) reads.none in
        record { value = z.value; rest = z.rest; word = λ r. signed_group v opens Inside n (fills_opens q) (z.word r) }

    pub sign-some : negates v d ≡ true → Some (Sign v opens Inside n) []
    sign-some q = go (eqb v 0) refl q
      where
        go : (z : Bool) → eqb v 0 ≡ z → cond z (fills v d) true ≡ true → Some (Sign v opens Inside n) []
        go true e q = let z = sign_opened q in record { value = z.value; rest = 40 ∷ z.rest; word = z.word }
        go false e q =
            let some : 1 ≤ v = omega (arith, eqb-false v 0 e) in
            record {
              value = made_of (one_of n) (Symbol 1);
              rest = decimal 1;
              word = λ r. signed v opens Inside n (grammar.symbol (omega arith) some);
            }

    operand_opened : fills v d ≡ true → (l : List ℕ) → Outcome (λ m p. operand_read n m ≡ p) (Sign v opens Inside n) (40 ∷ l)
    operand_opened q l =
        passed (40 ∷ []) l (λ r p h i. ap (and_then (begin_then k)) (taken _ _ _ q) ∙ i)
        (λ t w x r. signed_group v opens Inside n (fills_opens q) (x r)) (sign_opened q)
        (o.stop (fills_opens q) (one_of n) (λ e. o.some q) l)

    number_read : (b : ℕ) (l m : List ℕ) → eqb b 40 ≡ false → Same (b ∷ l) m
        → operand_read n m ≡ and_then (begin_then k) (and_then (λ x r. Read (Leaf x n) r) (number_in v m))
    number_read b l m e first = ap (and_then (begin_then k)) (left _ _ _ e)

    pub operand_stop : (l : List ℕ) → Outcome (λ m p. operand_read n m ≡ p) (Sign v opens Inside n) l
    operand_stop [] = none-empty (operand_read n) refl
    operand_stop (b ∷ l) = go (eqb b 40) refl (fills v d) refl
      where
        go : (e : Bool) → eqb b 40 ≡ e → (q : Bool) → fills v d ≡ q → Outcome (λ m p. operand_read n m ≡ p) (Sign v opens Inside n) (b ∷ l)
        go true e false q = none_first (operand_read n) b l (λ r. ap (and_then (begin_then k)) (taken _ _ _ e ∙ left _ _ _ q))
        go true e true q =
            subst⁻¹ (λ (c : ℕ). Outcome (λ m p. operand_read n m ≡ p) (Sign v opens Inside n) (c ∷ l)) (eqb-true b 40 e)
            (operand_opened q l)
        go false e q f =
            renamed (λ x. leaf_of x n) (b ∷ l)
            (λ m r x h i. number_read b l m e h ∙ ap (λ p. and_then (begin_then k) (and_then (λ x r. Read (Leaf x n) r) p)) i)
            (λ m r h i. number_read b l m e h ∙ ap (λ p. and_then (begin_then k) (and_then (λ x r. Read (Leaf x n) r) p)) i)
            (signed-number v opens Inside n) (number_stop v (b ∷ l))

  -- every number and every formula in parentheses is read
  pub operand-negates : {t : Tree} {l r : List ℕ} → Operand v opens Inside t l r → negates v d ≡ true
  operand-negates (grammar.symbol h g) = left _ _ _ (ne_eqb v 0 (λ e. omega arith))
  operand-negates (grammar.parens {t} {m = m} {n} q s i e) = go (eqb v 0) (o.filled q t m n i)
    where
      go : (z : Bool) → fills v d ≡ true → cond z (fills v d) true ≡ true
      go true f = f
      go false f = refl

  digit-operand : (n : Bool) (l : List ℕ) → Digit l → operand_in v d n l ≡ and_then (λ x r. Read (Leaf x n) r) (number_in v l)
  digit-operand n l (digit {d = x} h g) = left _ _ _ (ne_eqb (48 + x) 40 (λ e. omega arith))

  pub operand-whole : (n : Bool) {t : Tree} {l r : List ℕ} → Operand v opens Inside t l r → is_parted r ≡ true
      → operand_read n l ≡ Read (made_of (one_of n) t) r
  operand-whole n {r = r} (grammar.symbol {n = x} h g) p =
      ap (and_then (begin_then k)) (digit-operand n (decimal x ++ r) (decimal_digit x r h)
      ∙ ap (and_then (λ x r. Read (Leaf x n) r)) (number-whole v x r h g p))
      ∙ ap (λ (t : Tree). Read t r) (sym (leaf_made x n))
  operand-whole n {t} {r = r} (grammar.parens {l = l} {m} {n = z} q s i e) p =
      let end = subst⁻¹ (λ (b : Bool). grammar.Spaces (cond b r (41 ∷ r)) z) (inside_group n) e in
      ap (and_then (begin_then k)) (taken _ _ _ (o.filled q t m z i))
      ∙ o.whole q (one_of n) (inside_group n) (made_of (one_of n) t) l r (rest_of_single Inside (one_of n) (one_group n) s i end)
