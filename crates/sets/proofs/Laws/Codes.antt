-- The numbers of literals: of a word and of its negation, each number of one literal only, and clauses as rows of bits.
-- Assumes nothing.
use mathlib.Core.Path.{◌≡◌, refl, sym, ap, ◌∙◌}
use mathlib.Core.Bool.{Bool, true, false, cond, not, ◌&&◌, ◌||◌, false≢true, beq}
use mathlib.Core.List.{List, [], ◌∷◌}
use Prim.Native.Nat.{ℕ, ◌+◌, ◌*◌, ◌/◌, ◌%◌}
use native.Mathlib.Omega.{arith}
use lib.Dec.{eqb}
use lib.ListN.{length, length-replicate}
use borrow.Author.Tests.{eqb-true, eqb-false, eq-eqb, ne_eqb, not-true, not-false}
use Rattle.clausal.specs.Clauses.{Literal, Clause}
use Rattle.clausebytes.specs.Words.{words_of, all_within, most_variables}
use Rattle.bits.specs.Inner.Rows.{has_bit, with_bits, wiped, is_one}
use Rattle.bits.proofs.Laws.Rows.{has-marked, length_with, wiped-marked}
use Rattle.tidied.specs.Tidying.{same_literal, among, negation, some_negated, all_among, same_literals}
use Rattle.sets.specs.Inner.Sets.{clause_from, code_of, codes_of, turned_by, row_bytes, no_literals, some_is, some_of, Legible, Ready}
use Rattle.sets.proofs.Laws.Walks.{codes_inside}

-- the number of a literal or of its negation, by the sign
module _ (l : Literal) (m : ℕ) (e : m ≡ l.variable) where
  pub code_odd : (t : Bool) → beq l.plain t ≡ true → 2 * m + 1 ≡ code_of (turned_by t l)
  code_odd true h = go l.plain h
    where
      go : (b : Bool) → beq b true ≡ true → 2 * m + 1 ≡ 2 * l.variable + cond (not b) 0 1
      go true h = omega arith
      go false h = absurd (false≢true h)
  code_odd false h = go l.plain h
    where
      go : (b : Bool) → beq b false ≡ true → 2 * m + 1 ≡ 2 * l.variable + cond b 0 1
      go true h = absurd (false≢true h)
      go false h = omega arith

  pub code-even : (t : Bool) → beq l.plain t ≡ false → 2 * m ≡ code_of (turned_by t l)
  code-even true h = go l.plain h
    where
      go : (b : Bool) → beq b true ≡ false → 2 * m ≡ 2 * l.variable + cond (not b) 0 1
      go true h = absurd (false≢true (sym h))
      go false h = omega arith
  code-even false h = go l.plain h
    where
      go : (b : Bool) → beq b false ≡ false → 2 * m ≡ 2 * l.variable + cond b 0 1
      go true h = omega arith
      go false h = absurd (false≢true (sym h))

-- a number tells its literal
halves : (k x y : ℕ) → eqb (2 * x + k) (2 * y + k) ≡ eqb x y
halves k x y = go (eqb x y) refl
  where
    go : (t : Bool) → eqb x y ≡ t → eqb (2 * x + k) (2 * y + k) ≡ t
    go true e = eq-eqb (2 * x + k) (2 * y + k) (ap (λ (z : ℕ). 2 * z + k) (eqb-true x y e))
    go false e = ne_eqb (2 * x + k) (2 * y + k) (λ f. eqb-false x y e (omega arith))

pub code_same : (a b : Literal) → eqb (code_of a) (code_of b) ≡ same_literal a b
code_same a b = go a.plain b.plain
  where
    go : (p q : Bool) → eqb (2 * a.variable + cond p 0 1) (2 * b.variable + cond q 0 1) ≡ (beq p q && eqb a.variable b.variable)
    go true true = halves 0 a.variable b.variable
    go true false = ne_eqb (2 * a.variable + 0) (2 * b.variable + 1) (λ f. omega arith)
    go false true = ne_eqb (2 * a.variable + 1) (2 * b.variable + 0) (λ f. omega arith)
    go false false = halves 1 a.variable b.variable

pub one-among : (l : Literal) (c : Clause) → is_one (code_of l) (codes_of c) ≡ among l c
unfolding is_one among
one-among l [] = refl
one-among l (m ∷ c) = λ i. code_same l m i || one-among l c i

-- the literal of a number
abbrev pub literal_at : ℕ → Literal
literal_at n = record { plain = eqb (n % 2) 0; variable = n / 2 }

pub code-literal : (n : ℕ) → code_of (literal_at n) ≡ n
code-literal n = go (eqb (n % 2) 0) refl
  where
    go : (b : Bool) → eqb (n % 2) 0 ≡ b → 2 * (n / 2) + cond b 0 1 ≡ n
    go true e = omega (arith, eqb-true (n % 2) 0 e)
    go false e = let odd = eqb-false (n % 2) 0 e in omega arith

-- one look at a row: the literal is as asked for, or the rest decides
module _ (row : List ℕ) (t : Bool) (c : Clause) (l : Literal) (rest : Clause) (e : c ≡ l ∷ rest) (n : ℕ) (k : n ≡ code_of (turned_by t l))
    (b : Bool) (h : b ≡ has_bit row n) where
  some_first : some_is row t c ≡ (beq b t || some_is row t rest)
  unfolding some_is
  some_first = ap (some_is row t) e ∙ sym (ap (λ (x : Bool). beq x t || some_is row t rest) (h ∙ ap (has_bit row) k))

  pub some-here : beq b t ≡ true → some_is row t c ≡ true
  some-here y = some_first ∙ ap (λ (x : Bool). x || some_is row t rest) y

  pub some_next : beq b t ≡ false → some_is row t c ≡ some_is row t rest
  some_next y = some_first ∙ ap (λ (x : Bool). x || some_is row t rest) y

or_not : (a b : Bool) → (beq a false || not b) ≡ not (a && b)
or_not true b = refl
or_not false b = refl

pub not-not : (b : Bool) → not (not b) ≡ b
not-not true = refl
not-not false = refl

beq-true : (a : Bool) → beq a true ≡ a
beq-true true = refl
beq-true false = refl

-- the row of a clause
module _ (bytes : List ℕ) (i : ℕ) (within : all_within most_variables (words_of bytes) ≡ true) where
  row_has : (l : Literal) → has_bit (with_bits (codes_of (clause_from bytes i)) no_literals) (code_of l) ≡ among l (clause_from bytes i)
  row_has l =
      has-marked row_bytes (codes_of (clause_from bytes i)) (codes_inside bytes i within) (code_of l) ∙ one-among l (clause_from bytes i)

  -- what is looked for in it is looked for in the clause
  missing-some : (c : Clause) → some_is (with_bits (codes_of (clause_from bytes i)) no_literals) false c ≡ not (all_among c (clause_from bytes i))
  unfolding some_is all_among
  missing-some [] = refl
  missing-some (l ∷ c) =
      (λ j. beq (row_has l j) false || missing-some c j) ∙ or_not (among l (clause_from bytes i)) (all_among c (clause_from bytes i))

  opposite_some : (c : Clause) → some_is (with_bits (codes_of (clause_from bytes i)) no_literals) true c ≡ some_negated c (clause_from bytes i)
  unfolding some_is some_negated
  opposite_some [] = refl
  opposite_some (l ∷ c) =
      (λ j. beq (row_has (negation l) j) true || opposite_some c j)
      ∙ ap (λ (b : Bool). b || some_negated c (clause_from bytes i)) (beq-true (among (negation l) (clause_from bytes i)))

  some_in_row : (t : Bool) (c : Clause) → some_is (with_bits (codes_of (clause_from bytes i)) no_literals) t c ≡ some_of t c (clause_from bytes i)
  some_in_row true c = opposite_some c
  some_in_row false c = missing-some c

-- the literals of a clause, marked in a row without literals
module _ {bytes row : List ℕ} (ready : Ready bytes row) (i : ℕ) (m : List ℕ) (e : m ≡ with_bits (codes_of (clause_from bytes i)) row) where
  marked : m ≡ with_bits (codes_of (clause_from bytes i)) no_literals
  marked = e ∙ ap (with_bits (codes_of (clause_from bytes i))) ready.empty

  pub marked_legible : Legible bytes m
  marked_legible = record {
    within = ready.within;
    size = ap length marked ∙ length_with (codes_of (clause_from bytes i)) no_literals ∙ length-replicate {A = ℕ} row_bytes 0;
  }

  pub marked-some : (t : Bool) (c : Clause) → some_is m t c ≡ some_of t c (clause_from bytes i)
  marked-some t c = ap (λ (r : List ℕ). some_is r t c) marked ∙ some_in_row bytes i ready.within t c

  pub marked-wiped : (w : List ℕ) → w ≡ wiped (codes_of (clause_from bytes i)) m → w ≡ row
  marked-wiped w h =
      h ∙ ap (wiped (codes_of (clause_from bytes i))) marked ∙ wiped-marked row_bytes (codes_of (clause_from bytes i)) ∙ sym ready.empty

-- two looks: each clause in the other
module _ (a b : Clause) (r : Bool) (e : r ≡ some_of false a b) where
  pub looked_apart : r ≡ true → false ≡ same_literals a b
  looked_apart y = sym (ap (λ (t : Bool). t && all_among b a) (not-true (all_among a b) (sym e ∙ y)))

  pub looked_both : r ≡ false → (s : Bool) → s ≡ some_of false b a → not s ≡ same_literals a b
  looked_both n s f =
      ap not f ∙ not-not (all_among b a) ∙ sym (ap (λ (t : Bool). t && all_among b a) (not-false (all_among a b) (sym e ∙ n)))
