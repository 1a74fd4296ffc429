-- A walk over the words of a clause: what is left of it at each turn, and numbers of its literals that have bits in a row.
-- Assumes nothing.
use mathlib.Core.Path.{◌≡◌, sym, ap, ◌∙◌}
use mathlib.Core.Bool.{Bool, true, false, cond}
use mathlib.Core.List.{List, [], ◌∷◌}
use Prim.Native.Nat.{ℕ, zero, suc, ◌+◌, ◌*◌, ◌/◌, ◌≤◌, ◌<◌}
use native.Mathlib.Omega.{arith}
use lib.Dec.{eqb}
use lib.ListN.{length, drop}
use borrow.Author.Tests.{eq-eqb, ne_eqb}
use Rattle.laws.specs.Numbers.{little_at}
use Rattle.laws.specs.Lists.{none, more}
use Rattle.clausal.specs.Clauses.{Literal}
use Rattle.clausebytes.specs.Words.{words_of, literal_of, all_within, most_variables}
use Rattle.clausebytes.proofs.Laws.Words.{words_next, words_end}
use Rattle.clausebytes.proofs.Laws.Stand.{kept-within}
use Rattle.bits.proofs.Laws.Rows.{Inside}
use Rattle.tidied.specs.Tidying.{negation}
use Rattle.sets.specs.Inner.Sets.{clause_in, clause_from, code_of, codes_of, turned_by, row_bytes}

within-drop : (v i : ℕ) (ws : List ℕ) → all_within v ws ≡ true → all_within v (drop i ws) ≡ true
unfolding all_within
within-drop v zero ws h = h
within-drop v (suc i) [] h = h
within-drop v (suc i) (w ∷ ws) h = within-drop v i ws (kept-within v (literal_of w).variable (all_within v ws) h).1

-- the word at place i of the bytes
module _ (bytes : List ℕ) (i w : ℕ) (here : i < length bytes / 4) (e : w ≡ little_at 4 bytes (4 * i)) where
  pub clause-zero : w ≡ 0 → clause_from bytes i ≡ []
  unfolding clause_in
  clause-zero z = ap clause_in (words_next bytes i w here e) ∙ rw (eq-eqb w 0 z)

  pub clause-more : (w ≡ 0 → ⊥) → clause_from bytes i ≡ literal_of w ∷ clause_from bytes (i + 1)
  unfolding clause_in
  clause-more n = ap clause_in (words_next bytes i w here e) ∙ rw (ne_eqb w 0 n)

  -- its variable is one that may be declared
  pub literal-within : (v : ℕ) → all_within v (words_of bytes) ≡ true → (literal_of w).variable ≤ v
  unfolding all_within
  literal-within v h =
      (kept-within v (literal_of w).variable (all_within v (drop (i + 1) (words_of bytes)))
      (ap (all_within v) (sym (words_next bytes i w here e)) ∙ within-drop v i (words_of bytes) h)).0

pub clause-end : (bytes : List ℕ) (i : ℕ) → length bytes / 4 ≤ i → clause_from bytes i ≡ []
unfolding clause_in
clause-end bytes i h = ap clause_in (words_end bytes i h)

-- numbers of literals have bits in a row
pub code_inside : (l : Literal) → l.variable ≤ most_variables → code_of l < 8 * row_bytes
code_inside l h = go l.plain
  where
    go : (b : Bool) → 2 * l.variable + cond b 0 1 < 8 * row_bytes
    go true = omega arith
    go false = omega arith

pub turned-inside : (t : Bool) (l : Literal) → l.variable ≤ most_variables → code_of (turned_by t l) < 8 * row_bytes
turned-inside true l h = code_inside (negation l) h
turned-inside false l h = code_inside l h

codes_inside_in : (ws : List ℕ) → all_within most_variables ws ≡ true → Inside row_bytes (codes_of (clause_in ws))
unfolding clause_in all_within
codes_inside_in [] h = none
codes_inside_in (w ∷ ws) h = go (eqb w 0) (codes_inside_in ws (kept-within most_variables (literal_of w).variable (all_within most_variables ws) h).1)
  where
    go : (b : Bool) → Inside row_bytes (codes_of (clause_in ws)) → Inside row_bytes (codes_of (cond b [] (literal_of w ∷ clause_in ws)))
    go true rest = none
    go false rest =
        more (code_inside (literal_of w) (kept-within most_variables (literal_of w).variable (all_within most_variables ws) h).0) rest

pub codes_inside : (bytes : List ℕ) (i : ℕ) → all_within most_variables (words_of bytes) ≡ true → Inside row_bytes (codes_of (clause_from bytes i))
codes_inside bytes i h = codes_inside_in (drop i (words_of bytes)) (within-drop most_variables i (words_of bytes) h)
