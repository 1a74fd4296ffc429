-- Readers whose states each have a language: what may still follow. A reader stops in some states, and what follows is another's to read.
-- So readers are put one behind the other: a text is right where its front leads to a state whose language has the rest, and the longest
-- good beginning of the text is that front and the longest good beginning of the rest.
-- Assumes nothing.
use mathlib.Core.Path.{◌≡◌, refl, sym, ap, ◌∙◌, subst⁻¹}
use mathlib.Core.Bool.{Bool, true, false, cond, false≢true}
use mathlib.Core.List.{List, [], ◌∷◌, ◌++◌}
use mathlib.Core.Logic.{◌↔◌}
use Prim.Native.Nat.{ℕ, zero, suc, ◌+◌, ◌≤◌}
use native.Mathlib.Nat.{le_of_suc-le-suc}
use native.Mathlib.Omega.{arith}
use lib.ListN.{length, take, drop}
use Rattle.laws.specs.Automata.{run, Begins, Longest}

-- the bytes that a reader goes on while it is live and has not stopped
abbrev pub goes : {S : Type 0} → (S → ℕ → S) → (S → Bool) → (S → Bool) → S → List ℕ → ℕ
goes step live stops s [] = 0
goes step live stops s (b ∷ t) = cond (stops s) 0 (cond (live (step s b)) (suc (goes step live stops (step s b) t)) 0)

-- a byte leads from a language to that of the next state, and back, where what each byte keeps holds; a reader that has stopped stays,
-- and one that is dead has no text
pub record Reader {S : Type 0} (step : S → ℕ → S) (live stops : S → Bool) (Kept : S → Type 0) (Lang : S → List ℕ → Type 0) : Type 0 where
  pub kept : (s : S) (b : ℕ) → Kept s → Kept (step s b)
  pub forth : (s : S) (b : ℕ) (t : List ℕ) → Kept s → stops s ≡ false → Lang s (b ∷ t) → Lang (step s b) t
  pub back : (s : S) (b : ℕ) (t : List ℕ) → Kept s → stops s ≡ false → Lang (step s b) t → Lang s (b ∷ t)
  pub still : (s : S) (b : ℕ) → stops s ≡ true → step s b ≡ s
  pub stopped : (s : S) → stops s ≡ true → live s ≡ true
  pub dead : (s : S) (t : List ℕ) → live s ≡ false → Lang s t → ⊥
  pub dies : (s : S) (b : ℕ) → live s ≡ false → live (step s b) ≡ false

-- texts that two languages share have one longest good beginning
pub longest-same : {A B : List ℕ → Type 0} → ((t : List ℕ) → A t ↔ B t) → {t : List ℕ} {k : ℕ} → Longest A t k → Longest B t k
longest-same {A} {B} h p = record {
  within = p.within;
  begins = (p.begins.0, (h _).0 p.begins.1);
  longest = λ j g b. p.longest j g (b.0, (h _).1 b.1);
}

module _ {S : Type 0} {step : S → ℕ → S} {live stops : S → Bool} {Kept : S → Type 0} {Lang : S → List ℕ → Type 0}
    (r : Reader step live stops Kept Lang) where
  -- what has stopped stays, and what is live was live
  pub stays : (s : S) (t : List ℕ) → stops s ≡ true → run step s t ≡ s
  stays s [] e = refl
  stays s (b ∷ t) e = ap (λ (x : S). run step x t) (r.still s b e) ∙ stays s t e

  was_live : (s : S) (t : List ℕ) → live (run step s t) ≡ true → live s ≡ true
  was_live s [] e = e
  was_live s (b ∷ t) e = go (live s) refl (was_live (step s b) t e)
    where
      go : (c : Bool) → live s ≡ c → live (step s b) ≡ true → live s ≡ true
      go true f g = f
      go false f g = absurd (false≢true (sym (r.dies s b f) ∙ g))

  -- over n bytes of the text t a reader goes from s to e, and r is left
  data Way : S → ℕ → List ℕ → S → List ℕ → Type 0 where
    here : {s : S} {t : List ℕ} → Way s 0 t s t
    on : {s e : S} {n b : ℕ} {t u : List ℕ} → stops s ≡ false → Way (step s b) n t e u → Way s (suc n) (b ∷ t) e u

  way-forth : {s e : S} {n : ℕ} {t u : List ℕ} → Way s n t e u → Kept s → Lang s t → Lang e u
  way-forth here k l = l
  way-forth (on {s = s} {b = b} {t = t} f w) k l = way-forth w (r.kept s b k) (r.forth s b t k f l)

  way_back : {s e : S} {n : ℕ} {t u : List ℕ} → Way s n t e u → Kept s → Lang e u → Lang s t
  way_back here k l = l
  way_back (on {s = s} {b = b} {t = t} f w) k l = r.back s b t k f (way_back w (r.kept s b k) l)

  -- the longest good beginning, one byte on and all the way
  longest_on : (s : S) (b : ℕ) (t : List ℕ) (k : ℕ) → Kept s → stops s ≡ false → Longest (Lang (step s b)) t k
      → Longest (Lang s) (b ∷ t) (suc k)
  longest_on s b t k h f p = record {
    within = omega (arith, p.within);
    begins = let g = p.begins in (g.0, r.back s b (take k t ++ g.0) h f g.1);
    longest = λ j i g. go j i g;
  }
    where
      go : (j : ℕ) → j ≤ suc (length t) → Begins (Lang s) (take j (b ∷ t)) → j ≤ suc k
      go zero i g = omega arith
      go (suc j) i g = omega (arith, p.longest j (le_of_suc-le-suc i) (g.0, r.forth s b (take j t ++ g.0) h f g.1))

  way-longest : {s e : S} {n : ℕ} {t u : List ℕ} → Way s n t e u → Kept s → {k : ℕ} → Longest (Lang e) u k → Longest (Lang s) t (n + k)
  way-longest {s} {t = t} here h {k} p = subst⁻¹ (Longest (Lang s) t) (omega arith) p
  way-longest {s} (on {n = n} {b = b} {t = t} f w) h {k} p =
      subst⁻¹ (Longest (Lang s) (b ∷ t)) (omega arith) (longest_on s b t (n + k) h f (way-longest w (r.kept s b h) p))

  -- the way of a reader that does not stop, and of one that stops
  way-open : (s : S) (t : List ℕ) → stops (run step s t) ≡ false → Way s (length t) t (run step s t) []
  way-open s [] e = here
  way-open s (b ∷ t) e = go (stops s) refl (way-open (step s b) t e)
    where
      go : (c : Bool) → stops s ≡ c → Way (step s b) (length t) t (run step s (b ∷ t)) []
          → Way s (suc (length t)) (b ∷ t) (run step s (b ∷ t)) []
      go true f w = absurd (false≢true (sym e ∙ ap stops (stays s (b ∷ t) f) ∙ f))
      go false f w = on f w

  -- whether the reader stops, and whether it is still live then
  way_stopped : (s : S) (t : List ℕ) → stops (run step s t) ≡ true
      → let n = goes step live stops s t in Way s n t (run step s t) (drop n t)
  way_stopped s [] e = here
  way_stopped s (b ∷ t) e =
      go (stops s) refl (live (step s b)) (was_live (step s b) t (r.stopped (run step s (b ∷ t)) e)) (way_stopped (step s b) t e)
    where
      go : (c : Bool) → stops s ≡ c → (d : Bool) → d ≡ true
          → Way (step s b) (goes step live stops (step s b) t) t (run step s (b ∷ t)) (drop (goes step live stops (step s b) t) t)
          → let n = cond c 0 (cond d (suc (goes step live stops (step s b) t)) 0) in Way s n (b ∷ t) (run step s (b ∷ t)) (drop n (b ∷ t))
      go true f d g w = subst⁻¹ (λ (x : S). Way s 0 (b ∷ t) x (b ∷ t)) (stays s (b ∷ t) f) here
      go false f true g w = on f w
      go false f false g w = absurd (false≢true g)

  -- a text is right where the last state may end it ..
  pub ends : (s : S) (t : List ℕ) → Kept s → stops (run step s t) ≡ false → Lang s t ↔ Lang (run step s t) []
  ends s t k e = (way-forth (way-open s t e) k, way_back (way-open s t e) k)

  -- .. or where the rest is right in the state in which the reader stopped, with whatever follows there
  module _ (s : S) (t : List ℕ) (k : Kept s) (e : stops (run step s t) ≡ true) where
    pub continues : Lang s t ↔ Lang (run step s t) (drop (goes step live stops s t) t)
    continues = (way-forth (way_stopped s t e) k, way_back (way_stopped s t e) k)

    pub longest_stopped : {n : ℕ} → Longest (Lang (run step s t)) (drop (goes step live stops s t) t) n
        → Longest (Lang s) t (goes step live stops s t + n)
    longest_stopped p = way-longest (way_stopped s t e) k p

  -- where each live state that is come to has a text, the bytes that the reader goes are the longest good beginning, unless it stops
  module _ (some : (s : S) → Kept s → live s ≡ true → Begins (Lang s) []) where
    pub longest-open : (s : S) (t : List ℕ) → Kept s → live s ≡ true → stops (run step s t) ≡ false
        → Longest (Lang s) t (goes step live stops s t)
    longest-open s [] k l e = record { within = omega arith; begins = some s k l; longest = λ j h g. h }
    longest-open s (b ∷ t) k l e = go (stops s) refl (live (step s b)) refl (longest-open (step s b) t)
      where
        none : stops s ≡ false → live (step s b) ≡ false → (j : ℕ) → Begins (Lang s) (take j (b ∷ t)) → j ≤ 0
        none f g zero m = omega arith
        none f g (suc j) m = absurd (r.dead (step s b) (take j t ++ m.0) g (r.forth s b (take j t ++ m.0) k f m.1))

        go : (c : Bool) → stops s ≡ c → (d : Bool) → live (step s b) ≡ d
            → (Kept (step s b) → live (step s b) ≡ true → stops (run step (step s b) t) ≡ false
            → Longest (Lang (step s b)) t (goes step live stops (step s b) t))
            → Longest (Lang s) (b ∷ t) (cond c 0 (cond d (suc (goes step live stops (step s b) t)) 0))
        go true f d g ih = absurd (false≢true (sym e ∙ ap stops (stays s (b ∷ t) f) ∙ f))
        go false f true g ih = longest_on s b t (goes step live stops (step s b) t) k f (ih (r.kept s b k) g e)
        go false f false g ih = record { within = omega arith; begins = some s k l; longest = λ j h m. none f g j m }

-- a reader that counts its place: one more with each byte that it goes on
pub record Placed {S : Type 0} (step : S → ℕ → S) (live stops : S → Bool) (place : S → ℕ) : Type 0 where
  pub on : (s : S) (b : ℕ) → stops s ≡ false → live (step s b) ≡ true → place (step s b) ≡ place s + 1
  pub off : (s : S) (b : ℕ) → live (step s b) ≡ false → place (step s b) ≡ place s

module _ {S : Type 0} {step : S → ℕ → S} {live stops : S → Bool} {Kept : S → Type 0} {Lang : S → List ℕ → Type 0} {place : S → ℕ}
    (r : Reader step live stops Kept Lang) (p : Placed step live stops place) where
  place-dead : (s : S) (t : List ℕ) → live s ≡ false → place (run step s t) ≡ place s
  place-dead s [] e = refl
  place-dead s (b ∷ t) e =
      let d = r.dies s b e in
      place-dead (step s b) t d ∙ p.off s b d

  pub place-goes : (s : S) (t : List ℕ) → place (run step s t) ≡ place s + goes step live stops s t
  place-goes s [] = omega arith
  place-goes s (b ∷ t) = go (stops s) refl (live (step s b)) refl (place-goes (step s b) t)
    where
      go : (c : Bool) → stops s ≡ c → (d : Bool) → live (step s b) ≡ d
          → place (run step (step s b) t) ≡ place (step s b) + goes step live stops (step s b) t
          → place (run step s (b ∷ t)) ≡ place s + cond c 0 (cond d (suc (goes step live stops (step s b) t)) 0)
      go true f d g ih = ap place (stays r s (b ∷ t) f) ∙ omega arith
      go false f true g ih = ih ∙ omega (arith, p.on s b f g)
      go false f false g ih = place-dead (step s b) t g ∙ p.off s b g ∙ omega arith
