-- What stands behind a header, against its production: it is read exactly if the grammar has it, and the place where the reader stops is
-- the longest good beginning.
-- Assumes nothing.
use mathlib.Core.Path.{◌≡◌, refl, ap, ◌∙◌, subst⁻¹}
use mathlib.Core.Bool.{Bool, true, false, cond}
use mathlib.Core.List.{List, [], ◌∷◌, ◌++◌}
use mathlib.Core.Logic.{◌↔◌}
use Prim.Native.Nat.{ℕ, zero, suc, ◌-◌, ◌≤◌}
use native.Mathlib.Omega.{arith}
use lib.ListN.{length}
use Rattle.laws.specs.Automata.{Begins, Longest}
use Rattle.header.proofs.Laws.Readers.{longest-same}
use Rattle.satfile.specs.Trees.{Tree, And, folded}
use Rattle.satfile.specs.Texts as grammar
use Rattle.satfile.specs.Texts.{Formula, most_open, Body, body}
use Rattle.satfile.specs.Inner.Reads.{Out, Read, Bad, and_then, skipped, Partly, takes, is_full, with_one, group_tree, is_parted}
use Rattle.satfile.specs.Inner.Reads.{group_from, formula_in, whole_in}
use Rattle.satfile.specs.Inner.Reads as reads
use Rattle.satfile.specs.declared.lead.Group.TheVariants as group
use Rattle.satfile.proofs.Laws.Outcomes.{Some, Outcome, renamed, left_of, sound, left-within, Whole, longest_stop}
use Rattle.satfile.proofs.Laws.Groups.{Rest, finishes}
use Rattle.satfile.proofs.Laws.Members.{group_stop, group_whole}
use Rattle.satfile.proofs.Laws.Grammars.{single_of_rest, rest_of_single}
use Rattle.satfile.proofs.Laws.Depths.{formula_matches}

-- a whole text is read to its end
module _ (inner : List ℕ → Out Tree) (t : Tree) (r : List ℕ) where
  never : (l : List ℕ) → Bad l ≡ Read t r → r ≡ []
  never l e = let z : ◌≡◌ {A = ℕ} 0 1 = cc in absurd (omega arith)

  abbrev on : ℕ → Partly → Tree → List ℕ → Out Tree
  on n p s k = cond (is_parted k) (group_from inner group.Whole n (with_one group.Whole p s) (skipped k)) (Bad k)

  whole-ends : (n : ℕ) (p : Partly) (l : List ℕ) → group_from inner group.Whole n p l ≡ Read t r → r ≡ []
  unfolding group_from
  whole-ends zero p l e = never l e
  whole-ends (suc n) p [] e = go (is_full group.Whole p) e
    where
      go : (f : Bool) → cond f (Read (group_tree group.Whole p) []) (Bad []) ≡ Read t r → r ≡ []
      go true e = cc
      go false e = never [] e
  whole-ends (suc n) p (b ∷ l) e = go (takes group.Whole p) (inner (b ∷ l)) (whole-ends n) e
    where
      behind : (i : Bool) (s : Tree) (k : List ℕ) → ((p : Partly) (l : List ℕ) → group_from inner group.Whole n p l ≡ Read t r → r ≡ [])
          → cond i (group_from inner group.Whole n (with_one group.Whole p s) (skipped k)) (Bad k) ≡ Read t r → r ≡ []
      behind true s k more e = more _ _ e
      behind false s k more e = never k e

      go : (f : Bool) (o : Out Tree) → ((p : Partly) (l : List ℕ) → group_from inner group.Whole n p l ≡ Read t r → r ≡ [])
          → cond f (and_then (on n p) o) (Bad (b ∷ l)) ≡ Read t r → r ≡ []
      go true (Read s k) more e = behind (is_parted k) s k more e
      go true (Bad k) more e = never k e
      go false o more e = never (b ∷ l) e

module _ (v : ℕ) where
  -- a body, as a group that is the whole text
  abbrev Text : Tree → List ℕ → List ℕ → Type 0
  Text = Rest (Formula v most_open) group.Whole true reads.none

  body_of_rest : {t : Tree} {l : List ℕ} → Text t l [] → Body v t l
  body_of_rest {l = l} d =
      let x = single_of_rest (Formula v most_open) group.Whole refl d in
      subst⁻¹ (λ (u : Tree). Body v u l) x.made (body x.before x.inside x.after)

  rest_of_body : {t : Tree} {l : List ℕ} → Body v t l → Text t l []
  rest_of_body (body s f e) = rest_of_single (Formula v most_open) group.Whole refl s f e

  rest_read : (t : Tree) (l : List ℕ) → Text t l [] → whole_in v l ≡ Read t []
  rest_read t l d = group_whole (formula_matches v most_open) group.Whole (λ e. refl) d (suc (length l)) (omega arith)

  pub body-read : (t : Tree) (l : List ℕ) → Body v t l → whole_in v l ≡ Read t []
  body-read t l b = rest_read t l (rest_of_body b)

  -- some formula can stand there
  formula-some : Some (Formula v most_open) []
  formula-some = record { value = folded And []; rest = 42 ∷ 40 ∷ 41 ∷ []; word = λ r. grammar.all refl grammar.close }

  body-some : Some Text []
  body-some = finishes (Formula v most_open) group.Whole (λ e. formula-some) reads.none

  body_stop : (l : List ℕ) → Outcome (λ m o. whole_in v m ≡ o) Text l
  body_stop l =
      renamed (λ t. t) l (λ x r t h e. e (suc (length x)) (omega arith)) (λ x r h e. e (suc (length x)) (omega arith)) (λ t w x. x)
      (group_stop (formula_matches v most_open) group.Whole (λ e. formula-some) (suc (length l)) true reads.none l (omega arith))

  pub read-body : (t : Tree) (l r : List ℕ) → whole_in v l ≡ Read t r → Body v t l
  read-body t l r e =
      let x = sound (body_stop l) t r e in
      let z = whole-ends (formula_in v most_open) t r (suc (length l)) reads.none (skipped l) e in
      subst⁻¹ (Body v t) (x.1 ∙ ap (λ (y : List ℕ). x.0 ++ y) z) (body_of_rest (x.2 []))

  -- bodies of some formula
  abbrev pub Bodies : List ℕ → Type 0
  Bodies l = (t : Tree) × Body v t l

  whole_bodies : (l : List ℕ) → Whole Text l ↔ Bodies l
  whole_bodies l = (λ w. (w.0, body_of_rest w.1), λ b. (b.0, rest_of_body b.1))

  pub bodies_some : Begins Bodies []
  bodies_some = (body-some.rest ++ [], (whole_bodies _).0 (body-some.value, body-some.word []))

  pub body-left : (l : List ℕ) → length (left_of (whole_in v l)) ≤ length l
  body-left l = left-within (body_stop l)

  pub longest_bodies : (l : List ℕ) → Longest Bodies l (length l - length (left_of (whole_in v l)))
  longest_bodies l = longest-same whole_bodies (longest_stop (whole_in v) Text rest_read body-some (body_stop l))
