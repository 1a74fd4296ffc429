-- The head of a text, for any word and numbers and whatever follows: which texts it accepts, where it dies, and how the longest good
-- beginning of a whole text is found from the head and from what follows it.
-- Assumes nothing.
use mathlib.Core.Path.{◌≡◌, refl, sym, ap, ◌∙◌, subst, subst⁻¹}
use mathlib.Core.Bool.{Bool, true, false, false≢true}
use mathlib.Core.List.{List, [], ◌∷◌}
use mathlib.Core.Logic.{◌↔◌}
use Prim.Native.Nat.{ℕ, ◌+◌, ◌≤◌, ◌<◌}
use native.Mathlib.Omega.{arith}
use lib.ListN.{length, drop, length-append}
use Rattle.laws.specs.Automata.{run, Begins, Longest}
use Rattle.text.specs.Texts.{decimal}
use Rattle.text.proofs.Laws.Decimals.{decimal-some}
use Rattle.text.proofs.Laws.Numbers.{More, here, digit}
use Rattle.header.specs.Heads as grammar
use Rattle.header.specs.Heads.{Remark, Gap, Blanks, Byte, Numbers, Opening, Headed, most_before}
use Rattle.header.specs.Inner.Heads.{is_blank, is_done, start_of, step_of, head_of}
use Rattle.header.specs.declared.Form.{Form}
use Rattle.header.specs.declared.Head.{Head}
use Rattle.header.specs.declared.Phase.{Phase}
use Rattle.header.specs.declared.Phase.TheVariants.{At, Done, Dead}
use Rattle.header.specs.declared.Spot.{Spot}
use Rattle.header.specs.declared.Spot.TheVariants as spot
use Rattle.header.proofs.Laws.Heads.{Behind, LangAt, LangIn, Lang, live, stops}
use Rattle.header.proofs.Laws.Readers.{goes, ends, continues, longest_stopped, longest-open, place-goes}
use Rattle.header.proofs.Laws.Steps.{Kept, kept-start, kept_step, kept-last, head_reader, head_placed, head_some}

-- no language of the head has the empty text
module _ (f : Form) (Next : ℕ → ℕ → List ℕ → Type 0) where
  number-some : {most : ℕ} {N : ℕ → List ℕ → Type 0} {t : List ℕ} → grammar.Number most N t → 0 < length t
  number-some (grammar.number {n = n} {r = r} h x) = omega (arith, length-append (decimal n) r, decimal-some n)

  byte-some : {b : ℕ} {N : List ℕ → Type 0} {t : List ℕ} → Byte b N t → 0 < length t
  byte-some (grammar.just n) = omega arith

  blanks-some : {N : List ℕ → Type 0} {t : List ℕ} → Blanks N t → 0 < length t
  blanks-some (grammar.blanks y g) = omega arith

  gap_some : {N : List ℕ → Type 0} {t : List ℕ} → (N t → 0 < length t) → Gap N t → 0 < length t
  gap_some n (grammar.none h) = n h
  gap_some n (grammar.more y g) = omega arith

  opening_some : {N : List ℕ → Type 0} {t : List ℕ} → Opening f N t → 0 < length t
  opening_some (grammar.comment y o) = omega arith
  opening_some (grammar.header h) = omega arith

  remark_some : {r t : List ℕ} → Remark r t → 0 < length t
  remark_some grammar.ended = omega arith
  remark_some (grammar.byte n y) = omega arith

  more-some : {most : ℕ} {N : ℕ → List ℕ → Type 0} {x : ℕ} {t : List ℕ} → (N x t → 0 < length t) → More most N x t → 0 < length t
  more-some n (here h) = n h
  more-some n (digit p g h w) = omega arith

  module _ (x m : ℕ) (t : List ℕ) where
    numbers_some : (l : Bool) → Numbers f Next l m t → 0 < length t
    numbers_some true n = number-some n
    numbers_some false n = number-some n

    behind-some : (l : Bool) → Behind f Next l m x t → 0 < length t
    behind-some true g = gap_some byte-some g
    behind-some false g = blanks-some g

    some_at : (p : Spot) (l : Bool) → LangAt f Next p x m l t → 0 < length t
    some_at spot.Line l h = opening_some h
    some_at spot.Comment l h = remark_some h.1
    some_at spot.Problem l h = blanks-some h
    some_at spot.BeforeWord l h = gap_some byte-some h
    some_at spot.Second l h = byte-some h
    some_at spot.Third l h = byte-some h
    some_at spot.Word l h = blanks-some h
    some_at spot.BeforeNumber l h = gap_some (numbers_some l) h
    some_at spot.Number l h = more-some (behind-some l) h
    some_at spot.After l h = gap_some byte-some h

  none_in : (p : Phase) (x m : ℕ) (l : Bool) → is_done p ≡ false → LangIn f Next p x m l [] → ⊥
  none_in (At p) x m l e h = omega (arith, some_at x m [] p l h)
  none_in Done x m l e h = false≢true (sym e)
  none_in Dead x m l e h = h

-- the first letter of the word is no space and no tab
module _ (f : Form) (letter : is_blank f.first ≡ false) where
  kept : (s : Head) (t : List ℕ) → Kept f s → Kept f (run (step_of f) s t)
  kept s [] k = k
  kept s (b ∷ t) k = kept (step_of f s b) t (kept_step f s b k)

  -- the numbers of a head that is read are within their limits
  pub head_within : (t : List ℕ) → is_done (head_of f t).phase ≡ true → ((head_of f t).before ≤ most_before f) × ((head_of f t).value ≤ f.last)
  head_within t e =
      let k = kept (start_of f) t (kept-start f) in
      (k.earlier, kept-last f (head_of f t) k e)

  module _ (Next : ℕ → ℕ → List ℕ → Type 0) (t : List ℕ) where
    abbrev end : Head
    end = head_of f t

    place : end.place ≡ goes (step_of f) live stops (start_of f) t
    place = place-goes (head_reader f Next letter) (head_placed f) (start_of f) t ∙ omega arith

    read : (p : Phase) (s : Head) → s.phase ≡ p → is_done p ≡ true → s.phase ≡ Done
    read (At p) s q e = absurd (false≢true e)
    read Done s q e = q
    read Dead s q e = absurd (false≢true e)

    -- the language of a head that is read is what may follow its numbers
    follows : is_done end.phase ≡ true → Lang f Next end ≡ Next end.before end.value
    follows e = ap (λ (p : Phase). LangIn f Next p end.value end.before end.last) (read end.phase end refl e)

    -- where the head is read, the text is right exactly if what follows is
    pub head_continues : is_done end.phase ≡ true → Headed f Next t ↔ Next end.before end.value (drop end.place t)
    head_continues e =
        let c = continues (head_reader f Next letter) (start_of f) t (kept-start f) e in (
          λ h. subst (λ (L : List ℕ → Type 0). L (drop end.place t)) (follows e)
              (subst⁻¹ (λ (n : ℕ). Lang f Next end (drop n t)) place (c.0 h)),
          λ h. c.1 (subst (λ (n : ℕ). Lang f Next end (drop n t)) place
              (subst⁻¹ (λ (L : List ℕ → Type 0). L (drop end.place t)) (follows e) h)),
        )

    -- where it is not, the text is wrong
    pub head_refuses : is_done end.phase ≡ false → Headed f Next t → ⊥
    head_refuses e h =
        none_in f Next end.phase end.value end.before end.last e
        ((ends (head_reader f Next letter) (start_of f) t (kept-start f) e).0 h)

    -- the longest good beginning of a text: the head and the longest good beginning of what follows; or as far as the head goes
    pub head_longest : is_done end.phase ≡ true → {k : ℕ} → Longest (Next end.before end.value) (drop end.place t) k
        → Longest (Headed f Next) t (end.place + k)
    head_longest e {k} p =
        let q = subst⁻¹ (λ (L : List ℕ → Type 0). Longest L (drop end.place t) k) (follows e) p in
        let w = subst (λ (n : ℕ). Longest (Lang f Next end) (drop n t) k) place q in
        subst⁻¹ (λ (n : ℕ). Longest (Headed f Next) t (n + k)) place
        (longest_stopped (head_reader f Next letter) (start_of f) t (kept-start f) e w)

    pub head_dies : ((m n : ℕ) → m ≤ most_before f → n ≤ f.last → Begins (Next m n) []) → is_done end.phase ≡ false
        → Longest (Headed f Next) t end.place
    head_dies every e =
        subst⁻¹ (Longest (Headed f Next) t) place
        (longest-open (head_reader f Next letter) (head_some f Next every) (start_of f) t (kept-start f) refl e)
