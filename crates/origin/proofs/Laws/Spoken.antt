-- Names put with a pen: one literal, literals one behind another, and the lists with their notes.
-- Assumes nothing.
use mathlib.Core.Path.{◌≡◌, refl, sym, ap, ◌∙◌, subst, subst⁻¹}
use mathlib.Core.Bool.{Bool, cond}
use mathlib.Core.List.{List, [], ◌∷◌, ◌++◌, append-nil}
use Prim.Native.Nat.{ℕ, ◌+◌, ◌≤◌, ◌<◌}
use native.Mathlib.Omega.{arith}
use Rattle.laws.specs.Lists.{Every, more}
use Rattle.names.specs.Inner.Notes.{name_count, Known, Findable, Looked}
use Rattle.names.specs.declared.lookup.Voices.{Voices}
use Rattle.names.proofs.Laws.Notes.{looked_either, known_looked}
use Rattle.clausal.specs.Clauses.{Literal, Clause}
use Rattle.walk.proofs.Laws.Put.{shown_append}
use Rattle.origin.specs.Inner.Lines.{tabbed, literals_text, Lists, lists_of, named, Voiced, Spoken}
use Rattle.origin.specs.Inner.Pens.{Standing, Drawn}
use Rattle.origin.specs.declared.pen.Pen.{Pen}
use Rattle.origin.proofs.Laws.Pens.{drawn-nothing, drawn_as, drawn-both}

abbrev literal : Bool → ℕ → Literal
literal plain x = record { plain = plain; variable = x }

module _ (l : Lists) where
  abbrev shown : Clause → List ℕ
  shown c = literals_text (named l) c

  -- nothing is put
  pub spoken_nothing : (x : Voices) (out : List ℕ) (p : Pen) → lists_of x ≡ l → Known x → Standing p out → Spoken [] l out p x out p
  spoken_nothing x out p e k s = record { drawn = drawn-nothing out p s; known = k; lists = e }

  pub spoken_as : {xs ys out after : List ℕ} {x : Voices} {p q : Pen} → xs ≡ ys → Spoken ys l out p x after q → Spoken xs l out p x after q
  spoken_as e s = record { drawn = drawn_as e s.drawn; known = s.known; lists = s.lists }

  -- one run behind another
  pub spoken_both : {xs ys out mid after : List ℕ} {x y : Voices} {p q r : Pen} → Spoken xs l out p x mid q → Spoken ys l mid q y after r
      → Spoken (xs ++ ys) l out p y after r
  spoken_both s t = record { drawn = drawn-both _ _ _ _ _ _ _ _ s.drawn t.drawn; known = t.known; lists = t.lists }

  -- the pen stands where it was left
  pub spoken_standing : {xs out after : List ℕ} {x : Voices} {p q : Pen} → Spoken xs l out p x after q → Standing q after
  spoken_standing s = omega (arith, s.drawn.standing, s.drawn.size)

  -- what is put behind it, by the same lists
  pub spoken_along : {out after : List ℕ} {x : Voices} {p q : Pen} (bytes : Lists → List ℕ) (before : Voices)
      → lists_of before ≡ l → Spoken (bytes (lists_of before)) (lists_of before) out p x after q → Spoken (bytes l) l out p x after q
  spoken_along {out = out} {after} {x} {p} {q} bytes before e s = subst (λ (m : Lists). Spoken (bytes m) m out p x after q) e s

  -- literals behind literals
  pub spoken_more : (c d : Clause) {out mid after : List ℕ} {x y : Voices} {p q r : Pen} → Spoken (shown c) l out p x mid q
      → Spoken (shown d) l mid q y after r → Spoken (shown (c ++ d)) l out p y after r
  spoken_more c d s t = spoken_as (shown_append (tabbed (named l)) c d) (spoken_both s t)

-- a literal that is looked up
module _ (x : Voices) (out : List ℕ) (plain : Bool) (n : ℕ) (p : Pen) (w : Voiced x (literal plain n ∷ []) out p) where
  range : (0 < n) × (n ≤ x.options + name_count x.helper_names.list.now)
  range = first w.ranged
    where
      first : Every (λ (l : Literal). (0 < l.variable) × (l.variable ≤ x.options + name_count x.helper_names.list.now)) (literal plain n ∷ [])
          → (0 < n) × (n ≤ x.options + name_count x.helper_names.list.now)
      first (more r e) = r

  pub findable : Findable x n
  findable = record { known = w.known; some = range.0; most = range.1 }

  pub literal_spoken : (name : List ℕ) (y : Voices) (mid after : List ℕ) (q r : Pen) → Looked x n name y
      → Drawn (9 ∷ cond plain [] (33 ∷ [])) out p mid q → Drawn name mid q after r
      → Spoken (literals_text (named (lists_of x)) (literal plain n ∷ [])) (lists_of x) out p y after r
  unfolding findable
  literal_spoken name y mid after q r l d f = record {
    drawn = drawn_as text (drawn-both _ _ _ _ _ _ _ _ d f);
    known = subst⁻¹ Known l.notes (known_looked findable);
    lists = ap lists_of l.notes ∙ looked_either (λ (y : Voices). lists_of y ≡ lists_of x) (λ h. refl) (λ h. refl);
  }
    where
      text : literals_text (named (lists_of x)) (literal plain n ∷ []) ≡ (9 ∷ cond plain [] (33 ∷ [])) ++ name
      text = append-nil (tabbed (named (lists_of x)) (literal plain n))
          ∙ ap (λ (z : List ℕ). (9 ∷ cond plain [] (33 ∷ [])) ++ z) (sym l.name)
