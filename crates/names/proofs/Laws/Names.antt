-- Lists of names: the names of a right list, and a right list in its plain form, both ways.
-- Not here: where names begin (Places), and what is noted of that (Notes).
-- Assumes nothing.
use mathlib.Core.Path.{◌≡◌, refl, sym, ap, ◌∙◌}
use mathlib.Core.Bool.{Bool, true, false, not, false≢true}
use mathlib.Core.List.{List, [], ◌∷◌, ◌++◌}
use Prim.Native.Nat.{ℕ, zero, suc, ◌<◌}
use native.Mathlib.Omega.{arith}
use lib.Dec.{eqb}
use lib.ListN.{length, get_or, take, drop}
use borrow.Author.Tests.{not-true}
use Rattle.laws.specs.Lists.{Every, none, more}
use Rattle.laws.proofs.Choices.{both, neither}
use Rattle.text.specs.Texts.{ahead, parted, joined}
use Rattle.text.proofs.Laws.Pieces.{joined-parted, free, parted_piece}
use Rattle.names.specs.Names.{tab, newline, has, is_none, is_name, names_are, right_names, listed, name_in}

-- what may stand in a list: a name without a newline
abbrev pub Name : List ℕ → Type 0
Name p = (is_name p ≡ true) × (has newline p ≡ false)

module _ (b : ℕ) where
  pub has_append : (xs ys : List ℕ) → has b xs ≡ false → has b ys ≡ false → has b (xs ++ ys) ≡ false
  unfolding has
  has_append [] ys h k = k
  has_append (x ∷ xs) ys h k =
      let e = neither (eqb x b) (has b xs) h in
      rw e.0 (has_append xs ys e.1 k)

  pub has-take : (n : ℕ) (t : List ℕ) → has b t ≡ false → has b (take n t) ≡ false
  unfolding has
  has-take n [] h = go n
    where
      go : (n : ℕ) → has b (take n []) ≡ false
      go zero = refl
      go (suc n) = refl
  has-take zero (x ∷ t) h = refl
  has-take (suc n) (x ∷ t) h =
      let e = neither (eqb x b) (has b t) h in
      rw e.0 (has-take n t e.1)

  pub has-drop : (n : ℕ) (t : List ℕ) → has b t ≡ false → has b (drop n t) ≡ false
  unfolding has
  has-drop zero t h = h
  has-drop (suc n) [] h = refl
  has-drop (suc n) (x ∷ t) h = has-drop n t (neither (eqb x b) (has b t) h).1

  free_of : (p : List ℕ) → has b p ≡ false → free b p ≡ true
  unfolding has free
  free_of [] h = refl
  free_of (x ∷ p) h =
      let e = neither (eqb x b) (has b p) h in
      rw e.0 (free_of p e.1)

  -- what stands between marks has no mark
  pieces-free : (t : List ℕ) → Every (λ (p : List ℕ). has b p ≡ false) (parted b t)
  unfolding parted has
  pieces-free [] = more refl none
  pieces-free (x ∷ t) = go (eqb x b) refl (pieces-free t)
    where
      go : (c : Bool) → eqb x b ≡ c → {ps : List (List ℕ)} → Every (λ (p : List ℕ). has b p ≡ false) ps
          → Every (λ (p : List ℕ). has b p ≡ false) (ahead c x ps)
      go true e f = more refl f
      go false e none = more {x = x ∷ []} (rw e) none
      go false e (more {x = p} h f) = more {x = x ∷ p} (rw e h) f

module _ {A : Type 0} {Q : A → Type 0} where
  every_at : {xs : List A} {d : A} → Every Q xs → Q d → (j : ℕ) → Q (get_or xs j d)
  every_at none q j = q
  every_at (more p e) q zero = p
  every_at (more p e) q (suc j) = every_at e q j

-- what is between two newlines has no newline
pub name_no_newline : (list : List ℕ) (j : ℕ) → has newline (name_in list j) ≡ false
unfolding has
name_no_newline list j = every_at (pieces-free newline list) refl j

none_of : {A : Type 0} (xs : List A) → is_none xs ≡ true → xs ≡ []
none_of [] h = refl
none_of (x ∷ xs) h = absurd (false≢true h)

name-at : (n : ℕ) (ps : List (List ℕ)) (j : ℕ) → names_are n ps ≡ true → j < n → is_name (get_or ps j []) ≡ true
unfolding names_are
name-at n [] j h l = absurd (false≢true h)
name-at zero (p ∷ ps) j h l = absurd (omega arith)
name-at (suc n) (p ∷ ps) zero h l = (both (is_name p) (names_are n ps) h).0
name-at (suc n) (p ∷ ps) (suc j) h l = name-at n ps j (both (is_name p) (names_are n ps) h).1 (omega arith)

-- each name of a right list is one
pub name-right : (n : ℕ) (list : List ℕ) (j : ℕ) → right_names n list ≡ true → j < n → is_name (name_in list j) ≡ true
name-right n list j h l = name-at n (parted newline list) j h l

-- one piece more than there are names
pub names-length : (n : ℕ) (ps : List (List ℕ)) → names_are n ps ≡ true → length ps ≡ suc n
unfolding names_are
names-length n [] h = absurd (false≢true h)
names-length zero (p ∷ ps) h = ap suc (ap length (none_of ps (both (is_none p) (is_none ps) h).1))
names-length (suc n) (p ∷ ps) h = ap suc (names-length n ps (both (is_name p) (names_are n ps) h).1)

names-taken : (n : ℕ) (ps : List (List ℕ)) → names_are n ps ≡ true → length (take n ps) ≡ n
unfolding names_are
names-taken n [] h = absurd (false≢true h)
names-taken zero (p ∷ ps) h = refl
names-taken (suc n) (p ∷ ps) h = ap suc (names-taken n ps (both (is_name p) (names_are n ps) h).1)

names-each : (n : ℕ) (ps : List (List ℕ)) → names_are n ps ≡ true → Every (λ (p : List ℕ). has newline p ≡ false) ps
    → Every Name (take n ps)
unfolding names_are
names-each n [] h e = absurd (false≢true h)
names-each zero (p ∷ ps) h e = none
names-each (suc n) (p ∷ ps) h (more f e) =
    let b = both (is_name p) (names_are n ps) h in
    more (b.0, f) (names-each n ps b.1 e)

names-listed : (n : ℕ) (ps : List (List ℕ)) → names_are n ps ≡ true → joined newline ps ≡ listed (take n ps)
unfolding names_are listed
names-listed n [] h = absurd (false≢true h)
names-listed zero (p ∷ ps) h =
    let b = both (is_none p) (is_none ps) h in
    rw (none_of ps b.1) (none_of p b.0)
names-listed (suc n) (p ∷ []) h = absurd (false≢true (both (is_name p) (names_are n []) h).1)
names-listed (suc n) (p ∷ q ∷ ps) h =
    ap (λ (l : List ℕ). p ++ (newline ∷ l)) (names-listed n (q ∷ ps) (both (is_name p) (names_are n (q ∷ ps)) h).1)

-- a right list of n names: it has nothing but these, each ended by a newline ..
module _ (n : ℕ) (list : List ℕ) (h : right_names n list ≡ true) where
  pub right-listed : list ≡ listed (take n (parted newline list))
  right-listed = sym (joined-parted newline list) ∙ names-listed n (parted newline list) h

  -- .. there are n of them ..
  pub right-length : length (take n (parted newline list)) ≡ n
  right-length = names-taken n (parted newline list) h

  -- .. and each is a name, and has no newline
  pub right-each : Every Name (take n (parted newline list))
  right-each = names-each n (parted newline list) h (pieces-free newline list)

listed-parted : {ps : List (List ℕ)} → Every Name ps → parted newline (listed ps) ≡ ps ++ ([] ∷ [])
unfolding parted listed
listed-parted none = refl
listed-parted (more {x = p} {xs = ps} q e) =
    parted_piece newline p (listed ps) (free_of newline p q.1) ∙ ap (◌∷◌ p) (listed-parted e)

-- any n names, each ended by a newline, are a right list ..
pub listed-right : (n : ℕ) {ps : List (List ℕ)} → Every Name ps → length ps ≡ n → right_names n (listed ps) ≡ true
unfolding names_are
listed-right n {ps} e l = ap (names_are n) (listed-parted e) ∙ go n e l
  where
    go : (n : ℕ) {ps : List (List ℕ)} → Every Name ps → length ps ≡ n → names_are n (ps ++ ([] ∷ [])) ≡ true
    go zero none l = refl
    go (suc n) none l = absurd (omega arith)
    go zero (more q e) l = absurd (omega arith)
    go (suc n) (more q e) l = rw q.0 (go n e (omega arith))

-- .. and each is found in it by its number
pub listed-name : {ps : List (List ℕ)} → Every Name ps → (j : ℕ) → name_in (listed ps) j ≡ get_or ps j []
listed-name {ps} e j = ap (λ (qs : List (List ℕ)). get_or qs j []) (listed-parted e) ∙ go ps j
  where
    go : (ps : List (List ℕ)) (j : ℕ) → get_or (ps ++ ([] ∷ [])) j [] ≡ get_or ps j []
    go [] zero = refl
    go [] (suc j) = refl
    go (p ∷ ps) zero = refl
    go (p ∷ ps) (suc j) = go ps j

listed_no_tab : {ps : List (List ℕ)} → Every Name ps → has tab (listed ps) ≡ false
unfolding listed has
listed_no_tab none = refl
listed_no_tab (more {x = p} {xs = ps} q e) =
    let b = both (not (is_none p)) (not (has tab p)) q.0 in
    has_append tab p (newline ∷ listed ps) (not-true (has tab p) b.1) (listed_no_tab e)

-- a right list has no tab
pub right_no_tab : (n : ℕ) (list : List ℕ) → right_names n list ≡ true → has tab list ≡ false
right_no_tab n list h = ap (has tab) (right-listed n list h) ∙ listed_no_tab (right-each n list h)
