-- Words whose last clause is closed, and the clauses that they stand for.
-- Assumes nothing.
use mathlib.Core.Path.{◌≡◌, refl, sym, ap, ◌∙◌}
use mathlib.Core.Bool.{Bool, true, false, cond, false≢true}
use mathlib.Core.List.{List, [], ◌∷◌}
use Prim.Native.Nat.{ℕ, suc, ◌+◌, ◌^◌, ◌≤◌, ◌<◌}
use native.Mathlib.Omega.{arith}
use lib.Dec.{eqb, ltb}
use lib.ListN.{length}
use borrow.Author.Tests.{eq-eqb, ne_eqb, eqb-true, eqb-false, ltb-false, le-ltb}
use Rattle.clausal.specs.Clauses.{Literal, Clause}
use Rattle.clausal.specs.Totals.{literals_in}
use Rattle.clausebytes.specs.Words.{literal_of, ahead, clauses_in, Within, none, closed, literal, closed_from, all_within}

-- the words ws stand for the clauses cs
pub data Stand : List ℕ → List Clause → Type 0 where
  no_word : Stand [] []
  a_zero : {w : ℕ} {ws : List ℕ} {cs : List Clause} → w ≡ 0 → Stand ws cs → Stand (w ∷ ws) ([] ∷ cs)
  a_literal : {w : ℕ} {ws : List ℕ} {c : Clause} {cs : List Clause} → (w ≡ 0 → ⊥) → Stand ws (c ∷ cs)
      → Stand (w ∷ ws) ((literal_of w ∷ c) ∷ cs)

-- a literal in front of a clause that is closed
in_front : {w : ℕ} {ws : List ℕ} (cs : List Clause) → (w ≡ 0 → ⊥) → (cs ≡ [] → ⊥) → Stand ws cs → Stand (w ∷ ws) (ahead (literal_of w) cs)
in_front [] n h s = absurd (h refl)
in_front (c ∷ cs) n h s = a_literal n s

-- what is closed stands for something
ahead-some : (l : Literal) (cs : List Clause) → ahead l cs ≡ [] → ⊥
ahead-some l [] e = let z : ◌≡◌ {A = ℕ} 0 1 = cc in omega arith
ahead-some l (c ∷ cs) e = let z : ◌≡◌ {A = ℕ} 0 1 = cc in omega arith

some-clause : (ws : List ℕ) → closed_from false ws ≡ true → clauses_in ws ≡ [] → ⊥
unfolding closed_from clauses_in
some-clause [] h e = false≢true h
some-clause (w ∷ ws) h e = go (eqb w 0) e
  where
    go : (b : Bool) → cond b ([] ∷ clauses_in ws) (ahead (literal_of w) (clauses_in ws)) ≡ [] → ⊥
    go true f = let z : ◌≡◌ {A = ℕ} 0 1 = cc in omega arith
    go false f = ahead-some (literal_of w) (clauses_in ws) f

pub stand : (b : Bool) (ws : List ℕ) → closed_from b ws ≡ true → Stand ws (clauses_in ws)
unfolding closed_from clauses_in
stand b [] h = no_word
stand b (w ∷ ws) h = go (eqb w 0) refl (stand (eqb w 0) ws h)
  where
    go : (t : Bool) → eqb w 0 ≡ t → Stand ws (clauses_in ws)
        → Stand (w ∷ ws) (cond t ([] ∷ clauses_in ws) (ahead (literal_of w) (clauses_in ws)))
    go true e s = a_zero (eqb-true w 0 e) s
    go false e s = in_front (clauses_in ws) (eqb-false w 0 e) (some-clause ws (ap (λ (t : Bool). closed_from t ws) (sym e) ∙ h)) s

-- words stand for one list of clauses only
pub clauses-stand : {ws : List ℕ} {cs : List Clause} → Stand ws cs → clauses_in ws ≡ cs
unfolding clauses_in
clauses-stand no_word = refl
clauses-stand (a_zero {w = w} e s) = rw (eq-eqb w 0 e) (ap (λ (x : List Clause). [] ∷ x) (clauses-stand s))
clauses-stand (a_literal {w = w} n s) = rw (ne_eqb w 0 n) (ap (ahead (literal_of w)) (clauses-stand s))

pub closed-stand : (b : Bool) {ws : List ℕ} {cs : List Clause} → Stand ws cs → (cs ≡ [] → b ≡ true) → closed_from b ws ≡ true
unfolding closed_from
closed-stand b no_word h = h refl
closed-stand b (a_zero {w = w} {ws = ws} e s) h = ap (λ (t : Bool). closed_from t ws) (eq-eqb w 0 e) ∙ closed-stand true s (λ _. refl)
closed-stand b (a_literal {w = w} {ws = ws} {c = c} {cs = cs} n s) h =
    ap (λ (t : Bool). closed_from t ws) (ne_eqb w 0 n)
    ∙ closed-stand false s (λ e. let z : ◌≡◌ {A = ℕ} 0 1 = cc in absurd (omega arith))

-- how many words are zero, and how many are not
unfoldable pub zeros_in : List ℕ → ℕ
zeros_in [] = 0
zeros_in (w ∷ ws) = cond (eqb w 0) (suc (zeros_in ws)) (zeros_in ws)

unfoldable pub others_in : List ℕ → ℕ
others_in [] = 0
others_in (w ∷ ws) = cond (eqb w 0) (others_in ws) (suc (others_in ws))

pub count-stand : {ws : List ℕ} {cs : List Clause} → Stand ws cs → length cs ≡ zeros_in ws
unfolding zeros_in
count-stand no_word = refl
count-stand (a_zero {w = w} e s) = rw (eq-eqb w 0 e) (ap suc (count-stand s))
count-stand (a_literal {w = w} n s) = rw (ne_eqb w 0 n) (count-stand s)

pub literals-stand : {ws : List ℕ} {cs : List Clause} → Stand ws cs → literals_in cs ≡ others_in ws
unfolding others_in
literals-stand no_word = refl
literals-stand (a_zero {w = w} e s) = rw (eq-eqb w 0 e) (omega (arith, literals-stand s))
literals-stand (a_literal {w = w} n s) = rw (ne_eqb w 0 n) (omega (arith, literals-stand s))

pub words_stand : {ws : List ℕ} {cs : List Clause} → Stand ws cs → length ws ≡ literals_in cs + length cs
words_stand no_word = refl
words_stand (a_zero e s) = omega (arith, words_stand s)
words_stand (a_literal n s) = omega (arith, words_stand s)

-- a word that is not zero has a magnitude, below 2 to the 32nd
magnitude-some : (w : ℕ) → (w ≡ 0 → ⊥) → w < 2 ^ 32 → 0 < (literal_of w).variable
magnitude-some w n h = go (ltb w (2 ^ 31)) refl
  where
    go : (b : Bool) → ltb w (2 ^ 31) ≡ b → 0 < (literal_of w).variable
    go true e = rw e (omega arith)
    go false e = rw e (omega arith)

-- every word is below 2 to the 32nd
pub data Small : List ℕ → Type 0 where
  no_small : Small []
  a_small : {w : ℕ} {ws : List ℕ} → w < 2 ^ 32 → Small ws → Small (w ∷ ws)

pub kept-within : (v m : ℕ) (b : Bool) → cond (ltb v m) false b ≡ true → (m ≤ v) × (b ≡ true)
kept-within v m b h = go (ltb v m) refl h
  where
    go : (t : Bool) → ltb v m ≡ t → cond t false b ≡ true → (m ≤ v) × (b ≡ true)
    go true e f = absurd (false≢true f)
    go false e f = (ltb-false v m e, f)

pub within-stand : (v : ℕ) {ws : List ℕ} {cs : List Clause} → Stand ws cs → Small ws → all_within v ws ≡ true → Within v cs
unfolding all_within
within-stand v no_word k h = none
within-stand v (a_zero {w = w} {ws = ws} e s) (a_small g k) h =
    closed (within-stand v s k (kept-within v (literal_of w).variable (all_within v ws) h).1)
within-stand v (a_literal {w = w} {ws = ws} n s) (a_small g k) h =
    let f = kept-within v (literal_of w).variable (all_within v ws) h in
    literal (magnitude-some w n g) f.0 (within-stand v s k f.1)

pub within_all : (v : ℕ) {ws : List ℕ} {cs : List Clause} → Stand ws cs → Within v cs → all_within v ws ≡ true
unfolding all_within
within_all v no_word w = refl
within_all v (a_zero {w = x} e s) (closed w) =
    let m : (literal_of x).variable ≤ v = rw e (omega arith) in
    rw (le-ltb v (literal_of x).variable m) (within_all v s w)
within_all v (a_literal {w = x} n s) (literal h g w) = rw (le-ltb v (literal_of x).variable g) (within_all v s w)
