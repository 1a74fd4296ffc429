-- A group of formulas, read one by one up to its end, against what may stand in it: for any reader of one member that stops as its
-- language says, the reader of the group does too. `Rest` is what may follow the members that were read; Laws/Grammars says that it is
-- what the productions have.
-- Assumes nothing.
use mathlib.Core.Path.{◌≡◌, refl, sym, ap, ◌∙◌, subst}
use mathlib.Core.Bool.{Bool, true, false, cond, ◌||◌, false≢true}
use mathlib.Core.List.{List, [], ◌∷◌, ◌++◌, append_assoc}
use Prim.Native.Nat.{ℕ, zero, suc, ◌<◌}
use native.Mathlib.Omega.{arith}
use Rattle.header.specs.Heads.{White}
use Rattle.satfile.specs.Trees.{Tree}
use Rattle.satfile.specs.Inner.Reads.{Out, Read, Bad, and_then, is_space, skipped, Partly, is_many, takes, is_full, is_whole}
use Rattle.satfile.specs.Inner.Reads.{ends_at, behind, with_one, group_tree, is_parted, group_from}
use Rattle.satfile.specs.Inner.Reads as reads
use Rattle.satfile.specs.declared.lead.Group.{Group}
use Rattle.satfile.proofs.Laws.Rests.{taken, left}
use Rattle.satfile.proofs.Laws.Outcomes.{Same, empty, first, Some, Outcome}

-- a reader of one thing: how it stops; that it reads what its language has, where something follows that may; and that no such thing
-- begins with what may follow
pub record Matches (f : List ℕ → Out Tree) (L : Tree → List ℕ → List ℕ → Type 0) : Type 0 where
  pub stops : (l : List ℕ) → Outcome (λ m o. f m ≡ o) L l
  pub whole : (t : Tree) (l r : List ℕ) → L t l r → is_parted r ≡ true → f l ≡ Read t r
  pub starts : (t : Tree) (l r : List ℕ) → L t l r → is_parted l ≡ false

-- what may follow in a group, behind the members p: l goes up to the end of the group, which stands for t then, and r follows.
-- The Bool says whether a member may stand here: not right behind another
pub data Rest (Inside : Tree → List ℕ → List ℕ → Type 0) (g : Group) : Bool → Partly → Tree → List ℕ → List ℕ → Type 0 where
  close : {b : Bool} {p : Partly} {r : List ℕ} → is_whole g ≡ false → is_full g p ≡ true → Rest Inside g b p (group_tree g p) (41 ∷ r) r
  end : {b : Bool} {p : Partly} {r : List ℕ} → is_whole g ≡ true → is_full g p ≡ true → Rest Inside g b p (group_tree g p) r r
  white : {b : Bool} {p : Partly} {t : Tree} {c : ℕ} {l r : List ℕ} → White c → Rest Inside g true p t l r → Rest Inside g b p t (c ∷ l) r
  member : {p : Partly} {s t : Tree} {l m r : List ℕ} → takes g p ≡ true → Inside s l m → Rest Inside g false (with_one g p s) t m r
      → Rest Inside g true p t l r

-- tests of a group
pub or_right : (b : Bool) → (b || true) ≡ true
or_right true = refl
or_right false = refl

or_left : (b : Bool) → (b || false) ≡ false → b ≡ false
or_left true e = absurd (false≢true (sym e))
or_left false e = refl

module _ (g : Group) where
  full_with_one : (p : Partly) (t : Tree) → is_full g (with_one g p t) ≡ true
  full_with_one reads.none t = or_right (is_many g)
  full_with_one (reads.some s) t = or_right (is_many g)

  takes_unless_full : (p : Partly) → is_full g p ≡ false → takes g p ≡ true
  takes_unless_full reads.none e = or_right (is_many g)
  takes_unless_full (reads.some s) e = absurd (false≢true (sym e ∙ or_right (is_many g)))

  one_unless_full : (p : Partly) → is_full g p ≡ false → is_many g ≡ false
  one_unless_full reads.none e = or_left (is_many g) e
  one_unless_full (reads.some s) e = absurd (false≢true (sym e ∙ or_right (is_many g)))

  -- tests of a text look at its first byte only
  pub same_ends : {l r : List ℕ} → Same l r → ends_at g r ≡ ends_at g l
  same_ends empty = refl
  same_ends first = refl

pub same-parted : {l r : List ℕ} → Same l r → is_parted r ≡ is_parted l
same-parted empty = refl
same-parted first = refl

-- a text that does not begin with white space, and any that begins like it
abbrev pub Settled : List ℕ → Type 0
Settled l = (r : List ℕ) → Same l r → skipped r ≡ r

pub settled-empty : Settled []
unfolding skipped
settled-empty [] empty = refl
settled-empty (_ ∷ _) h = elim h [ ]

pub settled-byte : (b : ℕ) (l : List ℕ) → is_space b ≡ false → Settled (b ∷ l)
unfolding skipped
settled-byte b l e r first = left _ _ _ e

pub skipped-white : (b : ℕ) (l : List ℕ) → is_space b ≡ true → skipped (b ∷ l) ≡ skipped l
unfolding skipped
skipped-white b l e = taken _ _ _ e

-- one step of the reader of a group, in each case
module _ (inner : List ℕ → Out Tree) (g : Group) (p : Partly) (l : List ℕ) where
  module _ (e : ends_at g l ≡ true) where
    pub group_full : is_full g p ≡ true → (n : ℕ) → 0 < n → group_from inner g n p l ≡ Read (group_tree g p) (behind g l)
    unfolding group_from
    group_full f zero h = absurd (omega arith)
    group_full f (suc n) h = taken _ _ _ e ∙ taken _ _ _ f

    pub group_lacks : is_full g p ≡ false → (n : ℕ) → 0 < n → group_from inner g n p l ≡ Bad l
    unfolding group_from
    group_lacks f zero h = absurd (omega arith)
    group_lacks f (suc n) h = taken _ _ _ e ∙ left _ _ _ f

  module _ (e : ends_at g l ≡ false) where
    pub group_sated : takes g p ≡ false → (n : ℕ) → 0 < n → group_from inner g n p l ≡ Bad l
    unfolding group_from
    group_sated f zero h = absurd (omega arith)
    group_sated f (suc n) h = left _ _ _ e ∙ left _ _ _ f

    module _ (f : takes g p ≡ true) where
      abbrev pub on : ℕ → Tree → List ℕ → Out Tree
      on n t r = cond (is_parted r) (group_from inner g n (with_one g p t) (skipped r)) (Bad r)

      pub group_wrong : (r : List ℕ) → inner l ≡ Bad r → (n : ℕ) → 0 < n → group_from inner g n p l ≡ Bad r
      unfolding group_from
      group_wrong r q zero h = absurd (omega arith)
      group_wrong r q (suc n) h = left _ _ _ e ∙ taken _ _ _ f ∙ ap (and_then (on n)) q

      pub group_on : (t : Tree) (r : List ℕ) → inner l ≡ Read t r → (n : ℕ) → group_from inner g (suc n) p l ≡ on n t r
      unfolding group_from
      group_on t r q n = left _ _ _ e ∙ taken _ _ _ f ∙ ap (and_then (on n)) q

-- what finishes a group: its end, behind a member where one is lacking
module _ (Inside : Tree → List ℕ → List ℕ → Type 0) (g : Group) where
  closes : (b : Bool) (p : Partly) → is_full g p ≡ true → Some (Rest Inside g b p) []
  closes b p f = go (is_whole g) refl
    where
      go : (w : Bool) → is_whole g ≡ w → Some (Rest Inside g b p) []
      go true e = record { value = group_tree g p; rest = []; word = λ r. end e f }
      go false e = record { value = group_tree g p; rest = 41 ∷ []; word = λ r. close e f }

  pub behind-member : (p : Partly) → takes g p ≡ true → (w : List ℕ) → Some Inside w → Some (Rest Inside g true p) w
  behind-member p h w s =
      let c = closes false (with_one g p s.value) (full_with_one g p s.value) in
      let q : (r : List ℕ) → w ++ s.rest ++ (c.rest ++ r) ≡ w ++ (s.rest ++ c.rest) ++ r = λ r. simp append_assoc in
      record {
        value = c.value;
        rest = s.rest ++ c.rest;
        word = λ r. subst (λ (x : List ℕ). Rest Inside g true p c.value x r) (q r) (member h (s.word (c.rest ++ r)) (c.word r));
      }

  pub finishes : (is_many g ≡ false → Some Inside []) → (p : Partly) → Some (Rest Inside g true p) []
  finishes some p = go (is_full g p) refl
    where
      go : (f : Bool) → is_full g p ≡ f → Some (Rest Inside g true p) []
      go true e = closes true p e
      go false e = behind-member p (takes_unless_full g p e) [] (some (one_unless_full g p e))
