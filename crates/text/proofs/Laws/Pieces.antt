-- The pieces of a text: where the first of them ends, and those behind it; the numbers that they are; pieces put together again.
-- Assumes nothing.
use mathlib.Core.Path.{◌≡◌, refl, sym, ap, ◌∙◌, subst}
use mathlib.Core.Bool.{Bool, true, false, cond, not, ◌&&◌, false≢true}
use mathlib.Core.List.{List, [], ◌∷◌, ◌++◌}
use Prim.Native.Nat.{ℕ, suc, ◌+◌, ◌-◌, ◌≤◌, ◌<◌}
use native.Mathlib.Numerals.{add-one}
use native.Mathlib.Omega.{arith}
use lib.Dec.{eqb, leb}
use lib.ListN.{length, get_or, take, drop, length-drop, drop_of_length-le}
use lib.Seq.{drop-cons, drop-drop, take_all}
use borrow.Author.Tests.{leb-true, leb-false, le-leb, lt-leb, eq-eqb, ne_eqb, eqb-true, not-true}
use Rattle.std.specs.Prelude.{Option, Some, None}
use Rattle.laws.specs.Lists.{Every, none, more}
use Rattle.laws.proofs.Choices.{both}
use Rattle.text.specs.Texts.{decimal, value_of, is_number, ahead, parted, joined}
use Rattle.text.specs.Inner.Numbers.{is_digit}
use Rattle.text.specs.Inner.Pieces.{spot, MarkAt, piece_at, field_at}
use Rattle.text.specs.declared.piece.Field.{Field}
use Rattle.text.proofs.Laws.Fields.{decimal-digits}

-- the pieces from a place on; none past the end
abbrev pub pieces_at : ℕ → List ℕ → ℕ → List (List ℕ)
pieces_at mark text at = cond (leb at (length text)) (parted mark (drop at text)) []

-- two tests of order that say the same
leb-same : (a b c d : ℕ) → (a ≤ b → c ≤ d) → (c ≤ d → a ≤ b) → leb a b ≡ leb c d
leb-same a b c d f g = go (leb a b) refl
  where
    go : (t : Bool) → leb a b ≡ t → t ≡ leb c d
    go true e = sym (le-leb c d (f (leb-true a b e)))
    go false e = sym (lt-leb c d (let l = leb-false a b e in over l))
      where
        over : b < a → d < c
        over l = let n : (c ≤ d → ⊥) = λ h. let k = g h in absurd (omega arith) in omega arith

module _ (mark : ℕ) where
  pub spot-here : (t : List ℕ) (i : ℕ) → i < length t → get_or t i 0 ≡ mark → spot mark (drop i t) ≡ 0
  unfolding spot
  spot-here t i h e = rw (drop-cons t i 0 h, eq-eqb (get_or t i 0) mark e)

  pub spot-next : (t : List ℕ) (i : ℕ) → i < length t → (get_or t i 0 ≡ mark → ⊥)
      → spot mark (drop i t) ≡ suc (spot mark (drop (i + 1) t))
  unfolding spot
  spot-next t i h e = rw (add-one i, drop-cons t i 0 h, ne_eqb (get_or t i 0) mark e)

  pub spot-end : (t : List ℕ) (i : ℕ) → length t ≤ i → spot mark (drop i t) ≡ 0
  unfolding spot
  spot-end t i h = rw (drop_of_length-le t h)

  parted-first : (t : List ℕ) → parted mark t ≡ take (spot mark t) t ∷ pieces_at mark t (suc (spot mark t))
  unfolding parted spot
  parted-first [] = refl
  parted-first (b ∷ t) = go (eqb b mark) (parted-first t)
    where
      go : (c : Bool) → parted mark t ≡ take (spot mark t) t ∷ pieces_at mark t (suc (spot mark t))
          → ahead c b (parted mark t)
          ≡ take (cond c 0 (suc (spot mark t))) (b ∷ t) ∷ pieces_at mark (b ∷ t) (suc (cond c 0 (suc (spot mark t))))
      go true e = rw (le-leb 1 (suc (length t)) (omega arith))
      go false e =
          let s = suc (spot mark t) in
          rw (e, leb-same (suc s) (suc (length t)) s (length t) (λ h. omega arith) (λ h. omega arith))

  -- a cursor at a place, and the next mark from there on, or the end
  pub parted-next : {t : List ℕ} {at end : ℕ} → MarkAt mark t at end
      → parted mark (drop at t) ≡ take (end - at) (drop at t) ∷ pieces_at mark t (end + 1)
  parted-next {t} {at} {end} m =
      let s : ℕ = spot mark (drop at t) in
      let k : end - at ≡ s = omega (arith, m.place) in
      let n : end + 1 ≡ at + suc s = omega (arith, m.place) in
      let d = length-drop at t in
      let l : leb (suc s) (length (drop at t)) ≡ leb (at + suc s) (length t) =
      leb-same (suc s) (length (drop at t)) (at + suc s) (length t)
      (λ g. omega arith) (λ g. omega (arith, m.behind, m.within)) in
      parted-first (drop at t) ∙ rw (k, n, l, drop-drop (suc s) at t)

  pub pieces-within : (t : List ℕ) (at : ℕ) → at ≤ length t → pieces_at mark t at ≡ parted mark (drop at t)
  pieces-within t at h = rw (le-leb at (length t) h)

  pub pieces-past : (t : List ℕ) (at : ℕ) → length t < at → pieces_at mark t at ≡ []
  pieces-past t at h = rw (lt-leb at (length t) h)

  pub pieces-next : {t : List ℕ} {at end : ℕ} → MarkAt mark t at end
      → pieces_at mark t at ≡ take (end - at) (drop at t) ∷ pieces_at mark t (end + 1)
  pieces-next {t} {at} m = pieces-within t at (omega (arith, m.behind, m.within)) ∙ parted-next m

  spot-within : (t : List ℕ) → spot mark t ≤ length t
  unfolding spot
  spot-within [] = omega arith
  spot-within (b ∷ t) = go (eqb b mark) (spot-within t)
    where
      go : (c : Bool) → spot mark t ≤ length t → cond c 0 (suc (spot mark t)) ≤ suc (length t)
      go true h = omega arith
      go false h = omega arith

  -- the mark that a reader from a place on finds
  pub mark-there : (t : List ℕ) (at : ℕ) → at ≤ length t → MarkAt mark t at (at + spot mark (drop at t))
  mark-there t at h = record {
    place = refl;
    behind = omega arith;
    within = omega (arith, spot-within (drop at t), length-drop at t);
  }

  pub pieces-at : (t : List ℕ) (at : ℕ) → at ≤ length t
      → pieces_at mark t at ≡ piece_at mark t at ∷ pieces_at mark t (at + spot mark (drop at t) + 1)
  pieces-at t at h =
      let k : at + spot mark (drop at t) - at ≡ spot mark (drop at t) = omega arith in
      pieces-next (mark-there t at h) ∙ ap (λ (n : ℕ). take n (drop at t) ∷ pieces_at mark t (at + spot mark (drop at t) + 1)) k

  -- there is a piece
  pub parted-some : (t : List ℕ) → parted mark t ≡ get_or (parted mark t) 0 [] ∷ drop 1 (parted mark t)
  parted-some t = rw (parted-first t)

  -- a piece that is alone is the whole text
  pub parted_alone : (t l : List ℕ) → parted mark t ≡ l ∷ [] → l ≡ t
  parted_alone t l e = go (leb (suc (spot mark t)) (length t)) refl
    where
      f : take (spot mark t) t ∷ pieces_at mark t (suc (spot mark t)) ≡ l ∷ []
      f = sym (parted-first t) ∙ e

      go : (c : Bool) → leb (suc (spot mark t)) (length t) ≡ c → l ≡ t
      go true g =
          let none : pieces_at mark t (suc (spot mark t)) ≡ [] = cc f in
          let s = suc (spot mark t) in
          let q : parted mark (drop s t) ≡ [] = sym (pieces-within t s (leb-true s (length t) g)) ∙ none in
          absurd (omega (arith, ap length q, ap length (parted-some (drop s t))))
      go false g =
          let q : l ≡ take (spot mark t) t = cc f in
          q ∙ take_all (spot mark t) t (let h = leb-false (suc (spot mark t)) (length t) g in omega arith)

  -- the first mark of all
  pub parted_front : {t : List ℕ} {end : ℕ} → MarkAt mark t 0 end
      → parted mark t ≡ take end t ∷ pieces_at mark t (end + 1)
  parted_front {t} {end} m =
      let k : end - 0 ≡ end = omega arith in
      parted-next m ∙ ap (λ (n : ℕ). take n t ∷ pieces_at mark t (end + 1)) k

module _ (mark most : ℕ) (t : List ℕ) (at : ℕ) where
  -- what is found: the piece is no number, or there is none ..
  pub data NoField : Type 0 where
    missing : pieces_at mark t at ≡ [] → NoField
    other : (p : List ℕ) (ps : List (List ℕ)) → pieces_at mark t at ≡ p ∷ ps → is_number most p ≡ false → NoField

  -- .. or it is the number v, and the pieces behind it stand from `next` on
  pub record FieldIs (v next : ℕ) : Type 0 where
    pub piece : List ℕ
    pub pieces : pieces_at mark t at ≡ piece ∷ pieces_at mark t next
    pub number : is_number most piece ≡ true
    pub same : v ≡ value_of piece

  abbrev pub FieldFound : Option Field → Type 0
  FieldFound None = NoField
  FieldFound (Some f) = FieldIs f.value f.next

  pub field_of_lem : FieldFound (field_at mark most t at)
  field_of_lem = inside (leb at (length t)) refl
    where
      next : ℕ
      next = at + spot mark (drop at t) + 1

      found : (b : Bool) → is_number most (piece_at mark t at) ≡ b → at ≤ length t
          → FieldFound (cond b (Some (record { value = value_of (piece_at mark t at); next = at + spot mark (drop at t) + 1 })) None)
      found true e h = record { piece = piece_at mark t at; pieces = pieces-at mark t at h; number = e; same = refl }
      found false e h = other (piece_at mark t at) (pieces_at mark t (at + spot mark (drop at t) + 1)) (pieces-at mark t at h) e

      inside : (b : Bool) → leb at (length t) ≡ b
          → FieldFound (cond b (cond (is_number most (piece_at mark t at))
          (Some (record { value = value_of (piece_at mark t at); next = at + spot mark (drop at t) + 1 })) None) None)
      inside true e = found (is_number most (piece_at mark t at)) refl (leb-true at (length t) e)
      inside false e = missing (pieces-past mark t at (leb-false at (length t) e))

  -- the same of a field that was found, and turned out to be g
  pub field_told : {f g : Option Field} → f ≡ field_at mark most t at → f ≡ g → FieldFound g
  field_told e h = subst FieldFound (sym e ∙ h) field_of_lem

module _ (mark : ℕ) where
  -- no byte is the mark
  unfoldable pub free : List ℕ → Bool
  free [] = true
  free (b ∷ t) = not (eqb b mark) && free t

  -- the pieces of a text, joined, are the text
  pub joined-parted : (t : List ℕ) → joined mark (parted mark t) ≡ t
  unfolding parted
  joined-parted [] = refl
  joined-parted (b ∷ t) = go (eqb b mark) refl (parted mark t) (joined-parted t) (parted-some mark t)
    where
      go : (c : Bool) → eqb b mark ≡ c → (ps : List (List ℕ)) → joined mark ps ≡ t → ps ≡ get_or ps 0 [] ∷ drop 1 ps
          → joined mark (ahead c b ps) ≡ b ∷ t
      go c e [] f s = absurd (omega (arith, ap length s))
      go true e (p ∷ ps) f s = λ i. sym (eqb-true b mark e) i ∷ f i
      go false e (p ∷ []) f s = ap (◌∷◌ b) f
      go false e (p ∷ q ∷ ps) f s = ap (◌∷◌ b) f

  -- a piece without a mark, alone and in front of a mark
  pub parted-whole : (p : List ℕ) → free p ≡ true → parted mark p ≡ p ∷ []
  unfolding parted free
  parted-whole [] h = refl
  parted-whole (b ∷ p) h =
      let c = both (not (eqb b mark)) (free p) h in
      rw (not-true (eqb b mark) c.0, parted-whole p c.1)

  pub parted_piece : (p t : List ℕ) → free p ≡ true → parted mark (p ++ (mark ∷ t)) ≡ p ∷ parted mark t
  unfolding parted free
  parted_piece [] t h = rw (eq-eqb mark mark refl)
  parted_piece (b ∷ p) t h =
      let c = both (not (eqb b mark)) (free p) h in
      rw (not-true (eqb b mark) c.0, parted_piece p t c.1)

  -- a decimal has no mark that is no digit
  digits-free : is_digit mark ≡ false → {l : List ℕ} → Every (λ (b : ℕ). is_digit b ≡ true) l → free l ≡ true
  unfolding free
  digits-free h none = refl
  digits-free h (more {x = b} d e) =
      let n : b ≡ mark → ⊥ = λ q. false≢true (sym h ∙ ap is_digit (sym q) ∙ d) in
      rw (ne_eqb b mark n) (digits-free h e)

  pub decimal-free : is_digit mark ≡ false → (n : ℕ) → free (decimal n) ≡ true
  decimal-free h n = digits-free h (decimal-digits n)
