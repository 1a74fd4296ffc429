-- A list that is checked name by name: what holds while every name so far was right, and what is found at last.
-- Assumes nothing.
use mathlib.Core.Path.{◌≡◌, refl, sym, ap, ◌∙◌}
use mathlib.Core.Bool.{Bool, true, false, cond, ◌&&◌, ◌||◌}
use mathlib.Core.List.{List, [], ◌∷◌}
use Prim.Native.Nat.{ℕ, suc, ◌+◌, ◌-◌, ◌≤◌, ◌<◌}
use native.Mathlib.Nat.{sub-zero}
use native.Mathlib.Omega.{arith}
use lib.Dec.{eqb}
use lib.ListN.{length, take, drop, length-drop}
use lib.Seq.{length-take-le}
use borrow.Author.Tests.{eq-eqb, ne_eqb}
use Rattle.text.specs.Texts.{parted}
use Rattle.text.specs.Inner.Pieces.{spot, MarkAt}
use Rattle.text.proofs.Laws.Pieces.{pieces_at, parted-next, parted_alone, pieces-within, pieces-past}
use Rattle.names.specs.Names.{tab, newline, has, is_none, is_name, names_are, right_names}
use Rattle.names.proofs.Laws.Names.{has-take, has-drop, right_no_tab}

-- whether a mark stands in a text, by the place at which the first is found
module _ (mark : ℕ) where
  spot-some : (t : List ℕ) → spot mark t < length t → has mark t ≡ true
  unfolding spot has
  spot-some [] h = absurd (omega arith)
  spot-some (b ∷ t) h = go (eqb b mark) h (spot-some t)
    where
      go : (c : Bool) → cond c 0 (suc (spot mark t)) < suc (length t) → (spot mark t < length t → has mark t ≡ true)
          → (c || has mark t) ≡ true
      go true h f = refl
      go false h f = f (omega arith)

  spot-none : (t : List ℕ) → length t ≤ spot mark t → has mark t ≡ false
  unfolding spot has
  spot-none [] h = refl
  spot-none (b ∷ t) h = go (eqb b mark) h (spot-none t)
    where
      go : (c : Bool) → suc (length t) ≤ cond c 0 (suc (spot mark t)) → (length t ≤ spot mark t → has mark t ≡ false)
          → (c || has mark t) ≡ false
      go true h f = absurd (omega arith)
      go false h f = f (omega arith)

  found_some : {t : List ℕ} {end : ℕ} → MarkAt mark t 0 end → end < length t → has mark t ≡ true
  found_some {t} m h = spot-some t (omega (arith, m.place))

  found_none : {t : List ℕ} {end : ℕ} → MarkAt mark t 0 end → length t ≤ end → has mark t ≡ false
  found_none {t} m h = spot-none t (omega (arith, m.place))

-- a list with a tab is not right
pub wrong-tab : (n : ℕ) (list : List ℕ) {end : ℕ} → MarkAt tab list 0 end → end < length list → false ≡ right_names n list
wrong-tab n list m h = go (right_names n list) refl
  where
    go : (b : Bool) → right_names n list ≡ b → false ≡ b
    go true e = sym (right_no_tab n list e) ∙ found_some tab m h
    go false e = refl

whole : names_are 0 (parted newline []) ≡ true
unfolding names_are parted
whole = refl

-- i names were right, the next begins at `at`, and the list is right if n - i more follow, and no more
pub record Checked (list : List ℕ) (n at i : ℕ) : Type 0 where
  pub within : at ≤ length list
  pub up_to : i ≤ n
  pub no_tab : has tab list ≡ false
  pub rest : names_are (n - i) (parted newline (drop at list)) ≡ right_names n list

pub checked-start : (list : List ℕ) (n : ℕ) {end : ℕ} → MarkAt tab list 0 end → length list ≤ end → Checked list n 0 0
checked-start list n m h = record { within = omega arith; up_to = omega arith; no_tab = found_none tab m h; rest = rw sub-zero }

module _ {list : List ℕ} {n at i : ℕ} (c : Checked list n at i) where
  -- a name is still to come, and ends at the next newline
  module _ (l : i < n) {end : ℕ} (m : MarkAt newline list at end) where
    next : names_are (n - i) (parted newline (drop at list))
        ≡ is_name (take (end - at) (drop at list)) && names_are (n - (i + 1)) (pieces_at newline list (end + 1))
    unfolding names_are
    next =
        let e : n - i ≡ suc (n - (i + 1)) = omega arith in
        rw (parted-next newline m, e)

    -- it has no byte
    pub wrong-empty : end ≡ at → false ≡ right_names n list
    wrong-empty e =
        let z : end - at ≡ 0 = omega arith in
        sym (rw z at next) ∙ c.rest

    -- it has no newline behind it
    pub wrong-open : end ≡ length list → false ≡ right_names n list
    unfolding names_are
    wrong-open e =
        let q = pieces-past newline list (end + 1) (omega arith) in
        let p = is_name (take (end - at) (drop at list)) in
        sym (next ∙ ap (λ (ps : List (List ℕ)). p && names_are (n - (i + 1)) ps) q ∙ no p) ∙ c.rest
      where
        no : (b : Bool) → (b && false) ≡ false
        no true = refl
        no false = refl

    -- it is right
    pub checked-next : (end ≡ at → ⊥) → (end ≡ length list → ⊥) → Checked list n (end + 1) (i + 1)
    checked-next f g = record {
      within = omega (arith, m.within);
      up_to = omega arith;
      no_tab = c.no_tab;
      rest = ap (names_are (n - (i + 1))) (sym (pieces-within newline list (end + 1) (omega (arith, m.within))))
          ∙ sym (next ∙ ap (λ (b : Bool). b && names_are (n - (i + 1)) (pieces_at newline list (end + 1))) named)
          ∙ c.rest;
    }
      where
        p : List ℕ
        p = take (end - at) (drop at list)

        some : (p : List ℕ) → 0 < length p → is_none p ≡ false
        some [] h = absurd (omega arith)
        some (b ∷ p) h = refl

        named : is_name p ≡ true
        named =
            let long = length-take-le (end - at) (drop at list) (omega (arith, length-drop at list, m.within)) in
            rw (some p (omega (arith, m.behind, long)), has-take tab (end - at) (drop at list) (has-drop tab at list c.no_tab))

  -- there were enough names: nothing may follow
  pub checked-end : n ≤ i → eqb at (length list) ≡ right_names n list
  unfolding names_are
  checked-end h =
      let z : n - i ≡ 0 = omega arith in
      sym (go (drop at list) (length-drop at list))
      ∙ ap (λ (k : ℕ). names_are k (parted newline (drop at list))) (sym z) ∙ c.rest
    where
      -- bytes that are left are a name too many, or one without its newline
      left : (t : List ℕ) → 0 < length t → (ps : List (List ℕ)) → parted newline t ≡ ps → names_are 0 ps ≡ false
      left t h [] e = refl
      left t h ([] ∷ []) e = absurd (omega (arith, ap length (parted_alone newline t [] e)))
      left t h ([] ∷ q ∷ ps) e = refl
      left t h ((b ∷ p) ∷ ps) e = refl

      go : (t : List ℕ) → length t ≡ length list - at → names_are 0 (parted newline t) ≡ eqb at (length list)
      go [] e = whole ∙ sym (eq-eqb at (length list) (omega (arith, c.within)))
      go (b ∷ t) e =
          left (b ∷ t) (omega arith) (parted newline (b ∷ t)) refl ∙ sym (ne_eqb at (length list) (λ q. omega arith))
