-- Formulas of every depth are read as the productions have them: by the depth, from the groups that may be opened at each.
-- Assumes nothing.
use mathlib.Core.Path.{◌≡◌, refl, sym, ap, ◌∙◌}
use mathlib.Core.Bool.{Bool, true, false, cond, not, false≢true}
use mathlib.Core.List.{List, [], ◌∷◌}
use Prim.Native.Nat.{ℕ, zero, suc, ◌≤◌}
use native.Mathlib.Omega.{arith}
use lib.Dec.{eqb}
use lib.ListN.{length}
use borrow.Author.Tests.{eqb-false, ne_eqb}
use Rattle.text.specs.Texts.{decimal}
use Rattle.satfile.specs.Trees.{Tree, Symbol, And, folded}
use Rattle.satfile.specs.Texts as grammar
use Rattle.satfile.specs.Texts.{Operand, Over, Nothing, Formula}
use Rattle.satfile.specs.Inner.Reads.{Bad, fills}
use Rattle.satfile.specs.Inner.Reads.{group_in, formula_in}
use Rattle.satfile.specs.Inner.Reads as reads
use Rattle.satfile.proofs.Laws.Outcomes.{Some, renamed}
use Rattle.satfile.proofs.Laws.Groups.{Matches}
use Rattle.satfile.proofs.Laws.Members.{group_stop, group_whole}
use Rattle.satfile.proofs.Laws.Operands.{Opens}
use Rattle.satfile.proofs.Laws.Formulas.{formula_stop, formula-whole, formula_starts}

-- at each depth
no_opens : (v : ℕ) → Opens v 0 false Nothing (λ g r. Bad r)
no_opens v = record {
  deep = refl;
  some = λ e. absurd (false≢true e);
  filled = λ q. absurd (false≢true q);
  stop = λ q. absurd (false≢true q);
  whole = λ q. absurd (false≢true q);
}

-- a formula in a parenthesis that may be filled
formula-some : (v d : ℕ) → fills v (suc d) ≡ true → Some (Formula v d) []
formula-some v zero e = go (eqb v 0) refl e
  where
    go : (z : Bool) → eqb v 0 ≡ z → cond z false true ≡ true → Some (Formula v 0) []
    go true q e = absurd (false≢true e)
    go false q e = record {
      value = Symbol 1;
      rest = decimal 1;
      word = λ r. grammar.plain (grammar.symbol {n = 1} (omega arith) (omega (arith, eqb-false v 0 q)));
    }
formula-some v (suc d) e = record { value = folded And []; rest = 42 ∷ 40 ∷ 41 ∷ []; word = λ r. grammar.all refl grammar.close }

-- and where a formula can stand, a parenthesis may be filled
operand-options : {v : ℕ} {Inside : Tree → List ℕ → List ℕ → Type 0} {t : Tree} {l r : List ℕ} → Operand v false Inside t l r → 1 ≤ v
operand-options (grammar.symbol h g) = omega arith
operand-options (grammar.parens q s i e) = absurd (false≢true q)

over-options : {v : ℕ} {Inside : Tree → List ℕ → List ℕ → Type 0} {t : Tree} {l r : List ℕ} → Over v false Inside t l r → 1 ≤ v
over-options (grammar.plain x) = operand-options x
over-options (grammar.negated x) = operand-options x
over-options (grammar.all q m) = absurd (false≢true q)
over-options (grammar.any q m) = absurd (false≢true q)

fills_of_formula : (v d : ℕ) (t : Tree) (l r : List ℕ) → Formula v d t l r → fills v (suc d) ≡ true
fills_of_formula v zero t l r x = let h = over-options x in rw (ne_eqb v 0 (λ e. omega arith))
fills_of_formula v (suc d) t l r x =
    rw (ne_eqb (suc (suc d)) 0 (λ e. omega arith), ne_eqb (suc (suc d)) 1 (λ e. omega arith)) (go (eqb v 0))
  where
    go : (z : Bool) → cond z true true ≡ true
    go true = refl
    go false = refl

deep_opens : (v d : ℕ) → Matches (formula_in v d) (Formula v d) → Opens v (suc d) true (Formula v d) (group_in (formula_in v d))
deep_opens v d m = record {
  deep = ap not (sym (ne_eqb (suc d) 0 (λ e. omega arith)));
  some = formula-some v d;
  filled = λ q. fills_of_formula v d;
  stop = λ q g f l.
      renamed (λ t. t) l (λ x r t h e. e (suc (length x)) (omega arith)) (λ x r h e. e (suc (length x)) (omega arith)) (λ t w x. x)
      (group_stop m g f (suc (length l)) true reads.none l (omega arith));
  whole = λ q g w t l r x. group_whole m g (λ e. absurd (false≢true (sym w ∙ e))) x (suc (length l)) (omega arith);
}

pub formula_matches : (v d : ℕ) → Matches (formula_in v d) (Formula v d)
unfolding formula_in
formula_matches v zero = record {
  stops = formula_stop (no_opens v);
  whole = λ t l r x p. formula-whole (no_opens v) x p;
  starts = λ t l r x. formula_starts x;
}
formula_matches v (suc d) =
    let o = deep_opens v d (formula_matches v d) in
    record {
      stops = formula_stop o;
      whole = λ t l r x p. formula-whole o x p;
      starts = λ t l r x. formula_starts x;
    }
