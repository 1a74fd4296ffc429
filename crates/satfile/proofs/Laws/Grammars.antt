-- What may stand in a group, as `Rest` of Laws/Groups says it, is what the productions have: a list is its members, folded; any other
-- group is one formula with white space around it.
-- Assumes nothing.
use mathlib.Core.Path.{◌≡◌, refl, sym, ap, ◌∙◌, subst, subst⁻¹}
use mathlib.Core.Bool.{Bool, true, false, cond, ◌||◌, false≢true}
use mathlib.Core.List.{List, [], ◌∷◌}
use Prim.Native.Nat.{ℕ}
use Rattle.satfile.specs.Trees.{Tree, folded, folded_from}
use Rattle.satfile.specs.Texts as grammar
use Rattle.satfile.specs.Texts.{Spaces, Members}
use Rattle.satfile.specs.Inner.Reads.{Partly, is_many, is_whole, join_of, with_one, made_of, group_tree}
use Rattle.satfile.specs.Inner.Reads as reads
use Rattle.satfile.specs.declared.lead.Group.{Group}
use Rattle.satfile.proofs.Laws.Groups.{Rest, close, end, white, member}

-- a list: the members that were read and those to come
abbrev finished : Group → Partly → List Tree → Tree
finished g reads.none ts = folded (join_of g) ts
finished g (reads.some s) ts = folded_from (join_of g) s ts

finished_more : (g : Group) (p : Partly) (t : Tree) (ts : List Tree) → finished g (with_one g p t) ts ≡ finished g p (t ∷ ts)
finished_more g reads.none t ts = refl
finished_more g (reads.some s) t ts = refl

module _ (Inside : Tree → List ℕ → List ℕ → Type 0) (g : Group) (many : is_many g ≡ true) (inside : is_whole g ≡ false)
    (made : (t : Tree) → made_of g t ≡ t) where
  finished_none : (p : Partly) → group_tree g p ≡ finished g p []
  finished_none reads.none = refl
  finished_none (reads.some s) = made s

  many_or : (b : Bool) → (is_many g || b) ≡ true
  many_or b = ap (λ (x : Bool). x || b) many

  pub rest_of_members : {b : Bool} {ts : List Tree} {l r : List ℕ} → Members Inside b ts l r → (p : Partly)
      → Rest Inside g b p (finished g p ts) l r
  rest_of_members {b} {r = r} grammar.close p =
      subst (λ (t : Tree). Rest Inside g b p t (41 ∷ r) r) (finished_none p) (close inside (many_or _))
  rest_of_members (grammar.white w m) p = white w (rest_of_members m p)
  rest_of_members {l = l} {r} (grammar.member {t = t} {ts = ts} i m) p =
      subst (λ (x : Tree). Rest Inside g true p x l r) (finished_more g p t ts)
      (member (many_or _) i (rest_of_members m (with_one g p t)))

  pub members_of_rest : {b : Bool} {p : Partly} {t : Tree} {l r : List ℕ} → Rest Inside g b p t l r
      → (ts : List Tree) × Members Inside b ts l r × (t ≡ finished g p ts)
  members_of_rest {p = p} (close w f) = ([], grammar.close, finished_none p)
  members_of_rest (end w f) = absurd (false≢true (sym inside ∙ w))
  members_of_rest (white w d) = let x = members_of_rest d in (x.0, grammar.white w x.1, x.2)
  members_of_rest {p = p} (member {s = s} f i d) =
      let x = members_of_rest d in (s ∷ x.0, grammar.member i x.1, x.2 ∙ finished_more g p s x.0)

-- any other group: where it ends
abbrev pub end_of : Group → List ℕ → List ℕ
end_of g r = cond (is_whole g) r (41 ∷ r)

-- one formula, and white space around it
pub record Single (Inside : Tree → List ℕ → List ℕ → Type 0) (g : Group) (t : Tree) (l r : List ℕ) : Type 0 where
  pub tree : Tree
  pub start : List ℕ
  pub rest : List ℕ
  pub before : Spaces start l
  pub inside : Inside tree start rest
  pub after : Spaces (end_of g r) rest
  pub made : t ≡ made_of g tree

module _ (Inside : Tree → List ℕ → List ℕ → Type 0) (g : Group) (one : is_many g ≡ false) where
  spaces_of_rest : {b : Bool} {s t : Tree} {l r : List ℕ} → Rest Inside g b (reads.some s) t l r → Spaces (end_of g r) l × (t ≡ made_of g s)
  spaces_of_rest {r = r} (close w f) = (subst⁻¹ (λ (b : Bool). Spaces (cond b r (41 ∷ r)) (41 ∷ r)) w grammar.none, refl)
  spaces_of_rest {r = r} (end w f) = (subst⁻¹ (λ (b : Bool). Spaces (cond b r (41 ∷ r)) r) w grammar.none, refl)
  spaces_of_rest (white w d) = let x = spaces_of_rest d in (grammar.more w x.0, x.1)
  spaces_of_rest (member f i d) = absurd (false≢true (sym (ap (λ (x : Bool). x || false) one) ∙ f))

  pub single_of_rest : {t : Tree} {l r : List ℕ} → Rest Inside g true reads.none t l r → Single Inside g t l r
  single_of_rest (close w f) = absurd (false≢true (sym (ap (λ (x : Bool). x || false) one) ∙ f))
  single_of_rest (end w f) = absurd (false≢true (sym (ap (λ (x : Bool). x || false) one) ∙ f))
  single_of_rest (white w d) =
      let x = single_of_rest d in
      record {
        tree = x.tree;
        start = x.start;
        rest = x.rest;
        before = grammar.more w x.before;
        inside = x.inside;
        after = x.after;
        made = x.made;
      }
  single_of_rest {l = l} (member {s = s} {m = m} f i d) =
      let x = spaces_of_rest d in
      record { tree = s; start = l; rest = m; before = grammar.none; inside = i; after = x.0; made = x.1 }

  full : (is_many g || true) ≡ true
  full = ap (λ (x : Bool). x || true) one

  rest_of_end : (b : Bool) (s : Tree) (r : List ℕ) → Rest Inside g b (reads.some s) (made_of g s) (end_of g r) r
  rest_of_end b s r = go (is_whole g) refl
    where
      go : (w : Bool) → is_whole g ≡ w → Rest Inside g b (reads.some s) (made_of g s) (cond w r (41 ∷ r)) r
      go true e = end e full
      go false e = close e full

  rest_of_spaces : {b : Bool} {s : Tree} {l r : List ℕ} → Spaces (end_of g r) l → Rest Inside g b (reads.some s) (made_of g s) l r
  rest_of_spaces {b} {s} {r = r} x = go b x
    where
      go : {l : List ℕ} (b : Bool) → Spaces (end_of g r) l → Rest Inside g b (reads.some s) (made_of g s) l r
      go b grammar.none = rest_of_end b s r
      go b (grammar.more w x) = white w (go true x)

  pub rest_of_single : {s : Tree} {m l n r : List ℕ} → Spaces m l → Inside s m n → Spaces (end_of g r) n
      → Rest Inside g true reads.none (made_of g s) l r
  rest_of_single grammar.none i e = member (ap (λ (x : Bool). x || true) one) i (rest_of_spaces e)
  rest_of_single (grammar.more w x) i e = white w (rest_of_single x i e)
