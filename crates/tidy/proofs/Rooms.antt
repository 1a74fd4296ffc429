-- R23.14: the room that either output can need: no more than the clause bytes for what is kept, and 21 bytes of lines for each word.
-- Assumes nothing.
use mathlib.Core.Path.{◌≡◌, refl, ap, ◌∙◌, subst⁻¹}
use mathlib.Core.Bool.{Bool, true, false, cond}
use mathlib.Core.List.{List, [], ◌∷◌}
use Prim.Native.Nat.{ℕ, suc, ◌+◌, ◌*◌, ◌^◌, ◌≤◌, ◌<◌}
use native.Mathlib.Omega.{arith}
use lib.Dec.{ltb}
use lib.ListN.{length, get_or, length-append, length-map}
use borrow.Author.Tests.{ltb-true}
use Rattle.clausal.specs.Clauses.{Clause, clauses_bytes}
use Rattle.clausal.specs.Totals.{literals_in}
use Rattle.clausebytes.specs.Words.{Right}
use Rattle.clausebytes.proofs.Encoded.{length-clauses}
use Rattle.text.specs.Texts.{decimal}
use Rattle.text.proofs.Laws.Decimals.{length_decimal_le}
use Rattle.tidied.specs.Tidying.{among, firsts_of, others_after, is_tautology, Fate, stays, tautology, repeats, fates_of, tidied, Change}
use Rattle.tidied.specs.Tidying.{literal_changes, changes_by, changes_from, changes_of, change_lines}
use Rattle.tidied.specs.Inner.Firsts.{first_below, fate_by}
use Rattle.tidied.proofs.Firsts.{fate_at}
use Rattle.tidied.proofs.Orders.{kept_in_order}
use Rattle.tidied.proofs.Right.{length_part, literals-part, literals_firsts}
use Rattle.kept.specs.Inner.Pens.{cause_text, change_for, line_for}
use Rattle.kept.specs.declared.pen.Cause.{Cause}
use Rattle.kept.specs.declared.pen.Cause.TheVariants.{Literal, Tautology, Repeat}
use Rattle.kept.proofs.Laws.Lines.{length-line}
use Rattle.kept.proofs.Laws.Pens.{lines_append}

-- what is kept needs no more than what is given
pub kept-most : (cs : List Clause) → length (clauses_bytes (tidied cs)) ≤ length (clauses_bytes cs)
kept-most cs =
    let s = kept_in_order cs in
    omega (
      arith,
      length-clauses cs,
      length-clauses (tidied cs),
      length_part s,
      length-map cs firsts_of,
      literals-part s,
      literals_firsts cs,
    )

-- a line in front of others
line_front : (n : ℕ) (cause : Cause) (number : ℕ) (xs : List Change)
    → length (change_lines (change_for n cause number ∷ xs))
    ≡ length (decimal n) + (length (cause_text cause) + (length (decimal number) + 1)) + length (change_lines xs)
unfolding change_lines
line_front n cause number xs =
    length-append (line_for n cause number) (change_lines xs)
    ∙ ap (λ (k : ℕ). k + length (change_lines xs)) (length-line n cause number)

-- a repeat is of a clause with such a number
abbrev Low : Fate → Type 0
Low stays = Unit {0}
Low tautology = Unit {0}
Low (repeats m) = m < 10 ^ 5

low_by : (cs : List Clause) (n : ℕ) → n < 10 ^ 5 → Low (fate_by cs n)
low_by cs n h = go (is_tautology (get_or cs n [])) (ltb m n) refl
  where
    m : ℕ
    m = first_below cs (get_or cs n []) n

    go : (t b : Bool) → ltb m n ≡ b → Low (cond t tautology (cond b (repeats m) stays))
    go true b e = tt
    go false true e = omega (arith, ltb-true m n e)
    go false false e = tt

-- numbers of clauses have at most five digits, and positions six
module _ (n : ℕ) (h : n < 10 ^ 5) where
  literal-lines : (p : ℕ) (seen c : Clause) → p + length c ≤ 10 ^ 6
      → length (change_lines (literal_changes n (others_after p seen c))) ≤ 21 * length c
  unfolding others_after change_lines
  literal-lines p seen [] g = omega arith
  literal-lines p seen (l ∷ c) g = go (among l seen) (literal-lines (suc p) (l ∷ seen) c (omega arith))
    where
      others : List ℕ
      others = others_after (suc p) (l ∷ seen) c

      go : (b : Bool) → length (change_lines (literal_changes n others)) ≤ 21 * length c
          → length (change_lines (literal_changes n (cond b (p ∷ others) others))) ≤ 21 * suc (length c)
      go true ih =
          omega (arith, line_front n Literal p (literal_changes n others), length_decimal_le 4 n h, length_decimal_le 5 p (omega arith))
      go false ih = omega arith

  clause-lines : (f : Fate) (c : Clause) → Low f → length c ≤ 10 ^ 6
      → length (change_lines (changes_by n f c)) ≤ 21 * (length c + 1)
  unfolding change_lines
  clause-lines stays c low g = omega (arith, literal-lines 0 [] c (omega arith))
  clause-lines tautology c low g = omega (arith, line_front n Tautology 0 [], length_decimal_le 4 n h, length_decimal_le 0 0 (omega arith))
  clause-lines (repeats m) c low g =
      omega (arith, line_front n Repeat m [], length_decimal_le 4 n h, length_decimal_le 4 m low)

all_lines : (n : ℕ) (fs : List Fate) (cs : List Clause) → n + length cs ≤ 10 ^ 5 → literals_in cs ≤ 10 ^ 6
    → ((i : ℕ) → i < length cs → Low (get_or fs i stays))
    → length (change_lines (changes_from n fs cs)) ≤ 21 * (literals_in cs + length cs)
unfolding changes_from change_lines
all_lines n [] cs h g low = omega arith
all_lines n (f ∷ fs) [] h g low = omega arith
all_lines n (f ∷ fs) (c ∷ cs) h g low =
    let here = clause-lines n (omega arith) f c (low 0 (omega arith)) (omega arith) in
    let rest = all_lines (suc n) fs cs (omega arith) (omega arith) (λ i k. low (suc i) (omega arith)) in
    omega (
      arith,
      ap length (lines_append (changes_by n f c) (changes_from (suc n) fs cs)),
      length-append (change_lines (changes_by n f c)) (change_lines (changes_from (suc n) fs cs)),
      here,
      rest,
    )

-- the lines need at most 21 bytes for each literal and each clause
pub lines-most : (v : ℕ) (cs : List Clause) → Right v cs → length (change_lines (changes_of cs)) ≤ 21 * (literals_in cs + length cs)
lines-most v cs r =
    all_lines 0 (fates_of cs) cs (omega (arith, r.clauses)) (omega (arith, r.literals))
    (λ i h. subst⁻¹ Low (fate_at cs i h) (low_by cs i (omega (arith, r.clauses))))
