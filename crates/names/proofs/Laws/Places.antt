-- Where the names of a right list begin: a reader that goes from name to name.
-- Assumes nothing.
use mathlib.Core.Path.{◌≡◌, refl, sym, ap, ◌∙◌, subst}
use mathlib.Core.Bool.{Bool, true, false}
use mathlib.Core.List.{List, [], ◌∷◌}
use Prim.Native.Nat.{ℕ, zero, suc, ◌+◌, ◌-◌, ◌≤◌, ◌<◌}
use native.Mathlib.Numerals.{add-one}
use native.Mathlib.Omega.{arith}
use lib.ListN.{length, get_or, take, drop, length-drop}
use lib.Dec.{ltb}
use lib.Seq.{drop-drop, get_or-drop, length-take-le}
use borrow.Author.Tests.{ltb-true, ltb-false}
use Rattle.text.specs.Texts.{parted}
use Rattle.text.specs.Inner.Pieces.{MarkAt}
use Rattle.text.proofs.Laws.Pieces.{pieces_at, parted-next, pieces-within, pieces-past, mark-there}
use Rattle.names.specs.Names.{newline, right_names, name_in}
use Rattle.names.specs.Inner.Notes.{lengths, place_of}
use Rattle.names.proofs.Laws.Names.{names-length}

-- name i begins at `at`, and the pieces from there on are those from i on
pub record Reached (list : List ℕ) (i at : ℕ) : Type 0 where
  pub within : at ≤ length list
  pub rest : drop i (parted newline list) ≡ parted newline (drop at list)
  pub place : at ≡ place_of list i

pub reached-start : (list : List ℕ) → Reached list 0 0
unfolding lengths
reached-start list = record { within = omega arith; rest = refl; place = refl }

lengths-next : (i : ℕ) (ps : List (List ℕ)) (p : List ℕ) (qs : List (List ℕ)) → drop i ps ≡ p ∷ qs
    → lengths (take (suc i) ps) ≡ lengths (take i ps) + (length p + 1)
unfolding lengths
lengths-next zero [] p qs e = absurd (omega (arith, ap length e))
lengths-next zero (x ∷ ps) p qs e = let f : x ≡ p = cc in omega (arith, ap length f)
lengths-next (suc i) [] p qs e = absurd (omega (arith, ap length e))
lengths-next (suc i) (x ∷ ps) p qs e = omega (arith, lengths-next i ps p qs e)

module _ {list : List ℕ} {i at : ℕ} (r : Reached list i at) {end : ℕ} (m : MarkAt newline list at end) where
  here : drop i (parted newline list) ≡ take (end - at) (drop at list) ∷ pieces_at newline list (end + 1)
  here = r.rest ∙ parted-next newline m

  piece_length : length (take (end - at) (drop at list)) ≡ end - at
  piece_length = length-take-le (end - at) (drop at list) (omega (arith, length-drop at list, m.within))

  -- the name itself
  pub name-here : take (end - at) (drop at list) ≡ name_in list i
  name-here =
      let z : i + 0 ≡ i = omega arith in
      sym (ap (λ (ps : List (List ℕ)). get_or ps 0 []) here)
      ∙ get_or-drop i (parted newline list) 0 []
      ∙ ap (λ (k : ℕ). get_or (parted newline list) k []) z

  -- one name on, where it is ended
  reached-next : end < length list → Reached list (i + 1) (end + 1)
  reached-next h =
      let f = pieces-within newline list (end + 1) (omega arith) in
      record {
        within = omega arith;
        rest = sym (drop-drop 1 i (parted newline list)) ∙ ap (drop 1) here ∙ f;
        place = rw (add-one i) (omega (
          arith,
          m.behind,
          r.place,
          piece_length,
          lengths-next i (parted newline list) (take (end - at) (drop at list)) (pieces_at newline list (end + 1)) here,
        ));
      }

  -- the names of a right list are ended
  module _ (n : ℕ) (right : right_names n list ≡ true) (l : i < n) where
    pub mark-inside : end < length list
    mark-inside = go (ltb end (length list)) refl
      where
        go : (b : Bool) → ltb end (length list) ≡ b → end < length list
        go true e = ltb-true end (length list) e
        go false e =
            let k = ltb-false end (length list) e in
            let past = pieces-past newline list (end + 1) (omega arith) in
            absurd (omega (
              arith,
              ap length here,
              ap length past,
              length-drop i (parted newline list),
              names-length n (parted newline list) right,
            ))

    pub reached-step : Reached list (i + 1) (end + 1)
    reached-step = reached-next mark-inside

-- where each name begins
pub reached-place : (n : ℕ) {list : List ℕ} → right_names n list ≡ true → (i : ℕ) → i ≤ n → Reached list i (place_of list i)
unfolding lengths
reached-place n {list} right zero h = reached-start list
reached-place n {list} right (suc i) h =
    let r = reached-place n right i (omega arith) in
    let s = reached-step r (mark-there newline list (place_of list i) r.within) n right (omega arith) in
    rw add-one at (subst (λ (k : ℕ). Reached list (i + 1) k) s.place s)
