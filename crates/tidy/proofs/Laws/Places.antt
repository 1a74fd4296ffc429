-- Places of clauses: where clauses end, and what stands at the place of clause n. Assumes nothing.
use mathlib.Core.Path.{◌≡◌, sym, ap, ◌∙◌, subst}
use mathlib.Core.Bool.{Bool, true, false, cond}
use mathlib.Core.List.{List, [], ◌∷◌}
use Prim.Native.Nat.{ℕ, zero, suc, ◌+◌, ◌/◌, ◌≤◌, ◌<◌}
use native.Mathlib.Nat.{add-zero}
use native.Mathlib.Numerals.{add-one}
use native.Mathlib.Omega.{arith}
use lib.Dec.{eqb}
use lib.ListN.{length, get_or, drop, length-drop}
use lib.Seq.{drop-drop, drop-cons}
use borrow.Author.Tests.{eq-eqb, ne_eqb}
use Rattle.clausal.specs.Clauses.{Clause}
use Rattle.clausebytes.specs.Words.{words_of, literal_of, clauses_of, closed_from}
use Rattle.clausebytes.proofs.Laws.Words.{length_words}
use Rattle.clausebytes.proofs.Laws.Stand.{Stand, a_zero, a_literal, stand}
use Rattle.sets.specs.Inner.Sets.{clause_in, clause_from, end_from}
use Rattle.tidy.specs.Inner.Windows.{place_after, place_of}

-- a clause has no more literals than there are words
clause-short : (ws : List ℕ) → length (clause_in ws) ≤ length ws
unfolding clause_in
clause-short [] = omega arith
clause-short (w ∷ ws) = go (eqb w 0) (clause-short ws)
  where
    go : (b : Bool) → length (clause_in ws) ≤ length ws → length (cond b [] (literal_of w ∷ clause_in ws)) ≤ suc (length ws)
    go true h = omega arith
    go false h = omega arith

pub end-most : (bytes : List ℕ) (p m : ℕ) → p ≤ m → length bytes / 4 ≤ m → end_from bytes p ≤ m
end-most bytes p m h g = omega (arith, clause-short (drop p (words_of bytes)), length-drop p (words_of bytes), length_words bytes)

pub after-suc : (bytes : List ℕ) (p n : ℕ) → place_after bytes p (n + 1) ≡ end_from bytes (place_after bytes p n) + 1
unfolding place_after
after-suc bytes p n = ap (place_after bytes p) (add-one n)

pub after-after : (bytes : List ℕ) (p m n : ℕ) → place_after bytes (place_after bytes p m) n ≡ place_after bytes p (m + n)
unfolding place_after
after-after bytes p m zero = sym (ap (place_after bytes p) (add-zero m))
after-after bytes p m (suc n) =
    let e : m + suc n ≡ suc (m + n) = omega arith in
    ap (λ (q : ℕ). end_from bytes q + 1) (after-after bytes p m n) ∙ sym (ap (place_after bytes p) e)

-- a place is not far behind the bytes
pub place-low : (bytes : List ℕ) (n : ℕ) → place_of bytes n ≤ length bytes + n
unfolding place_after
place-low bytes zero = omega arith
place-low bytes (suc n) = omega (arith, end-most bytes (place_of bytes n) (length bytes + n) (place-low bytes n) (omega arith))

-- words that stand for clauses: the first of them, and those behind it
clause-stand : {ws : List ℕ} {c : Clause} {cs : List Clause} → Stand ws (c ∷ cs) → clause_in ws ≡ c
unfolding clause_in
clause-stand (a_zero {w = w} e s) = rw (eq-eqb w 0 e)
clause-stand (a_literal {w = w} n s) = rw (ne_eqb w 0 n) (ap (λ (c : Clause). literal_of w ∷ c) (clause-stand s))

behind-stand : {ws : List ℕ} {c : Clause} {cs : List Clause} → Stand ws (c ∷ cs) → Stand (drop (suc (length c)) ws) cs
behind-stand (a_zero e s) = s
behind-stand (a_literal n s) = behind-stand s

-- the words from the place of clause n on stand for the clauses from n on
place-stand : (bytes : List ℕ) → closed_from true (words_of bytes) ≡ true → (n : ℕ) → n ≤ length (clauses_of bytes)
    → Stand (drop (place_of bytes n) (words_of bytes)) (drop n (clauses_of bytes))
unfolding place_after
place-stand bytes h zero g = stand true (words_of bytes) h
place-stand bytes h (suc n) g =
    let at = place_of bytes n in
    let cs = clauses_of bytes in
    let here = subst (Stand (drop at (words_of bytes))) (drop-cons cs n [] (omega arith)) (place-stand bytes h n (omega arith)) in
    let c = get_or cs n [] in
    let e : at + suc (length c) ≡ end_from bytes at + 1 = omega (arith, ap length (clause-stand here)) in
    subst (λ (ws : List ℕ). Stand ws (drop (suc n) cs)) (drop-drop (suc (length c)) at (words_of bytes) ∙ ap (λ (k : ℕ). drop k (words_of bytes)) e)
    (behind-stand here)

-- clause n stands at its place
pub clause-at : (bytes : List ℕ) → closed_from true (words_of bytes) ≡ true → (n : ℕ) → n < length (clauses_of bytes)
    → clause_from bytes (place_of bytes n) ≡ get_or (clauses_of bytes) n []
clause-at bytes h n g =
    clause-stand (subst (Stand (drop (place_of bytes n) (words_of bytes))) (drop-cons (clauses_of bytes) n [] g) (place-stand bytes h n (omega arith)))
