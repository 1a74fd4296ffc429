-- One law for every reader: where each live state can be finished and dead is forever, the bytes passed while live
-- are the longest beginning that also begins some accepted text. And what a loop over a text cites.
-- Assumes nothing.
use mathlib.Core.Path.{◌≡◌, refl, sym, ap, subst}
use mathlib.Core.Bool.{Bool, true, false, cond}
use mathlib.Core.List.{List, [], ◌∷◌, ◌++◌}
use Prim.Native.Nat.{ℕ, zero, suc, ◌+◌, ◌≤◌, ◌<◌}
use native.Mathlib.Nat.{le_antisymm, le_of_suc-le-suc, not-suc-le-zero}
use native.Mathlib.Numerals.{add-one}
use native.Mathlib.Omega.{arith}
use lib.Dec.{T}
use lib.ListN.{length, get_or, take, drop, drop_of_length-le}
use lib.Seq.{drop-cons}
use Rattle.laws.specs.Automata.{run, output, passed, Begins, Longest}

-- only one number is that length
pub one_place : (Accepted : List ℕ → Type 0) (text : List ℕ) (k j : ℕ) → Longest Accepted text k → Longest Accepted text j → k ≡ j
one_place A text k j p q = le_antisymm (q.longest k p.within p.begins) (p.longest j q.within q.begins)

module _ {S : Type 0} (step : S → ℕ → S) where
  pub run_append : (s : S) (l t : List ℕ) → run step s (l ++ t) ≡ run step (run step s l) t
  run_append s [] t = refl
  run_append s (b ∷ l) t = run_append (step s b) l t

  -- one byte on, and the end
  pub run-next : (s r : S) (text : List ℕ) (i : ℕ) → i < length text → r ≡ step s (get_or text i 0) → run step r (drop (i + 1) text)
      ≡ run step s (drop i text)
  run-next s r text i h e = rw (add-one, drop-cons text i 0) (ap (λ x. run step x (drop (suc i) text)) e)

  pub run_end : (s : S) (text : List ℕ) (i : ℕ) → length text ≤ i → run step s (drop i text) ≡ s
  run_end s text i h = ap (run step s) (drop_of_length-le text h)

  pub output-next : (puts : S → ℕ → List ℕ) (s r : S) (text : List ℕ) (i : ℕ) → i < length text → r ≡ step s (get_or text i 0)
      → output step puts s (drop i text) ≡ puts s (get_or text i 0) ++ output step puts r (drop (i + 1) text)
  output-next puts s r text i h e =
      rw (add-one, drop-cons text i 0) (ap (λ x. puts s (get_or text i 0) ++ output step puts x (drop (suc i) text)) (sym e))

  pub output-end : (puts : S → ℕ → List ℕ) (s : S) (text : List ℕ) (i : ℕ) → length text ≤ i → output step puts s (drop i text) ≡ []
  output-end puts s text i h = ap (output step puts s) (drop_of_length-le text h)

-- an automaton whose dead states stay dead, and whose live ones can be finished where a property that each step keeps holds
pub record Finishing {S : Type 0} (step : S → ℕ → S) (live accepts : S → Bool) (Kept : S → Type 0) : Type 0 where
  pub kept : (s : S) (b : ℕ) → Kept s → Kept (step s b)
  pub finish : S → List ℕ
  pub finishes : (s : S) → Kept s → T (live s) → T (accepts (run step s (finish s)))
  pub dead : (s : S) (b : ℕ) → T (live (step s b)) → T (live s)
  pub accepted : (s : S) → T (accepts s) → T (live s)

module _ {S : Type 0} (step : S → ℕ → S) (live accepts : S → Bool) (Kept : S → Type 0) (f : Finishing step live accepts Kept) where
  -- what is live after a text was live before it
  was_live : (s : S) (t : List ℕ) → T (live (run step s t)) → T (live s)
  was_live s [] h = h
  was_live s (b ∷ t) h = f.dead s b (was_live (step s b) t h)

  kept_run : (s : S) (t : List ℕ) → Kept s → Kept (run step s t)
  kept_run s [] k = k
  kept_run s (b ∷ t) k = kept_run (step s b) t (f.kept s b k)

  passed-within : (s : S) (t : List ℕ) → passed step live s t ≤ length t
  passed-within s [] = omega arith
  passed-within s (b ∷ t) = go (live (step s b)) (passed-within (step s b) t)
    where
      go : (c : Bool) → passed step live (step s b) t ≤ length t → cond c (suc (passed step live (step s b) t)) 0 ≤ suc (length t)
      go true h = omega arith
      go false h = omega arith

  passed-live : (s : S) (t : List ℕ) → T (live s) → T (live (run step s (take (passed step live s t) t)))
  passed-live s [] h = h
  passed-live s (b ∷ t) h = go (live (step s b)) (λ g. passed-live (step s b) t g) refl
    where
      go : (c : Bool) → (T (live (step s b)) → T (live (run step (step s b) (take (passed step live (step s b) t) t))))
          → live (step s b) ≡ c → T (live (run step s (take (cond c (suc (passed step live (step s b) t)) 0) (b ∷ t))))
      go true ih e = ih (subst T (sym e) tt)
      go false ih e = h

  passed-longest : (s : S) (t : List ℕ) (j : ℕ) → j ≤ length t → T (live (run step s (take j t))) → j ≤ passed step live s t
  passed-longest s t zero g h = omega arith
  passed-longest s [] (suc j) g h = absurd (not-suc-le-zero g)
  passed-longest s (b ∷ t) (suc j) g h = go (live (step s b)) refl (passed-longest (step s b) t j (le_of_suc-le-suc g) h)
    where
      go : (c : Bool) → live (step s b) ≡ c → j ≤ passed step live (step s b) t → suc j ≤ cond c (suc (passed step live (step s b) t)) 0
      go true e ih = omega arith
      go false e ih = absurd (subst T e (was_live (step s b) (take j t) h))

  -- with a grammar that says the same as the automaton
  module _ (s : S) (start : T (live s)) (keeps : Kept s) (Accepted : List ℕ → Type 0)
      (sound : (t : List ℕ) → T (accepts (run step s t)) → Accepted t)
      (whole : (t : List ℕ) → Accepted t → T (accepts (run step s t))) where
    pub place : (text : List ℕ) → Longest Accepted text (passed step live s text)
    place text = record {
      within = passed-within s text;
      begins = begins (take (passed step live s text) text) (passed-live s text start);
      longest = λ j h g. passed-longest s text j h (viable (take j text) g);
    }
      where
        begins : (l : List ℕ) → T (live (run step s l)) → Begins Accepted l
        begins l h =
            let e = f.finish (run step s l) in (
              e,
              sound (l ++ e) (subst (λ x. T (accepts x)) (sym (run_append step s l e))
                  (f.finishes (run step s l) (kept_run s l keeps) h)),
            )

        viable : (l : List ℕ) → Begins Accepted l → T (live (run step s l))
        viable l g = was_live (run step s l) g.0
            (subst (λ x. T (live x)) (run_append step s l g.0) (f.accepted (run step s (l ++ g.0)) (whole (l ++ g.0) g.1)))
