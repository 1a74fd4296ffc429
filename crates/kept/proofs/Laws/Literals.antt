-- The literals of a clause one by one: the first of equal ones is put, and the others are told. Assumes nothing.
use mathlib.Core.Path.{◌≡◌, refl, sym, ap, ◌∙◌, subst⁻¹}
use mathlib.Core.Bool.{Bool, true, false, cond}
use mathlib.Core.List.{List, [], ◌∷◌, ◌++◌, append-nil}
use Prim.Native.Nat.{ℕ, suc, ◌+◌, ◌-◌, ◌*◌, ◌/◌, ◌^◌, ◌≤◌, ◌<◌}
use native.Mathlib.Omega.{arith}
use lib.ListN.{length}
use Rattle.laws.specs.Numbers.{little, little_at}
use Rattle.clausal.specs.Clauses.{Literal, Clause, literal_bytes, clause_bytes, clauses_bytes}
use Rattle.clausebytes.specs.Words.{literal_of, most_variables}
use Rattle.clausebytes.proofs.Encoded.{word_bytes}
use Rattle.bits.specs.Inner.Rows.{has_bit, row_to, is_one}
use Rattle.tidied.specs.Tidying.{among, firsts_after, firsts_of, others_after, others_of, equal, Change, literal_changes}
use Rattle.sets.specs.Inner.Sets.{clause_from, code_of, codes_of, no_literals}
use Rattle.sets.proofs.Laws.Codes.{one-among}
use Rattle.sets.proofs.Laws.Marking.{Marking, marking_start, marking_more}
use Rattle.sets.proofs.Laws.Walks.{clause-more, code_inside}
use Rattle.kept.specs.Inner.Pens.{literals_bytes, longest, Put, Drawn, Drawable}
use Rattle.kept.specs.declared.pen.Pen.{Pen}
use Rattle.kept.proofs.Laws.Pens.{Drawing, drawing_as, drawing_start, drawing_room, drawing_more, drawing_end}
use Rattle.kept.proofs.Laws.Pens.{drawable_as, drawable-left, drawable-right, drawn_as, drawn-both, word-drawn}

-- the bytes of a clause, without and with its zero
pub literals-clause : (c : Clause) → clauses_bytes (c ∷ []) ≡ literals_bytes c ++ little 4 0
literals-clause c = append-nil (clause_bytes c) ∙ go c
  where
    go : (c : Clause) → clause_bytes c ≡ literals_bytes c ++ little 4 0
    go [] = refl
    go (l ∷ c) = ap (λ (r : List ℕ). literal_bytes l ++ r) (go c)

-- a bit of the row tells whether a literal was seen
pub literal-seen : {bytes : List ℕ} {from i : ℕ} {row : List ℕ} {seen : Clause} → Marking bytes from i row seen
    → (l : Literal) (n : ℕ) → n ≡ code_of l → (b : Bool) → b ≡ has_bit row n → b ≡ among l seen
literal-seen {seen = seen} k l n e b h =
    h ∙ k.has n ∙ ap (λ (m : ℕ). is_one m (codes_of seen)) e ∙ one-among l seen

-- the first literal of what is left
module _ (w : ℕ) (h : w < 2 ^ 32) (seen rest : Clause) (b : Bool) (e : b ≡ among (literal_of w) seen) where
  firsts_step : literals_bytes (firsts_after seen (literal_of w ∷ rest))
      ≡ cond b [] (little 4 w) ++ literals_bytes (firsts_after (literal_of w ∷ seen) rest)
  unfolding firsts_after
  firsts_step = go b e
    where
      go : (b : Bool) → b ≡ among (literal_of w) seen → literals_bytes (firsts_after seen (literal_of w ∷ rest))
          ≡ cond b [] (little 4 w) ++ literals_bytes (firsts_after (literal_of w ∷ seen) rest)
      go true e = rw (sym e)
      go false e = rw (sym e) (ap (λ (x : List ℕ). x ++ literals_bytes (firsts_after (literal_of w ∷ seen) rest)) (word_bytes w h))

  -- a change of clause n for a literal at position p
  abbrev change_of : ℕ → ℕ → Change
  change_of n p = record { clause = n; cause = equal; number = p }

  others_step : (n p : ℕ) → literal_changes n (others_after p seen (literal_of w ∷ rest))
      ≡ cond b (change_of n p ∷ []) [] ++ literal_changes n (others_after (suc p) (literal_of w ∷ seen) rest)
  unfolding others_after
  others_step n p = go b e
    where
      go : (b : Bool) → b ≡ among (literal_of w) seen → literal_changes n (others_after p seen (literal_of w ∷ rest))
          ≡ cond b (change_of n p ∷ []) [] ++ literal_changes n (others_after (suc p) (literal_of w ∷ seen) rest)
      go true e = rw (sym e)
      go false e = rw (sym e)

-- of the literals from `from` on, those before word i were marked, and put or told
pub record Spelling (bytes : List ℕ) (n from i : ℕ) (out lines : List ℕ) (p : Pen) (mid left row : List ℕ) (q : Pen) : Type 0 where
  pub seen : Clause
  pub onward : from ≤ i
  pub marking : Marking bytes from i row seen
  pub drawing : Drawing (literals_bytes (firsts_of (clause_from bytes from))) 0 (literal_changes n (others_of (clause_from bytes from))) out lines p
      (literals_bytes (firsts_after seen (clause_from bytes i))) 0 (literal_changes n (others_after (i - from) seen (clause_from bytes i)))
      mid left q

pub spelling_start : (bytes : List ℕ) (n from : ℕ) (out lines : List ℕ) (p : Pen) → p.lines ≤ longest * p.changes
    → Spelling bytes n from from out lines p out lines no_literals p
spelling_start bytes n from out lines p low = record {
  seen = [];
  onward = omega arith;
  marking = marking_start bytes from;
  drawing =
      let whole = literal_changes n (others_of (clause_from bytes from)) in
      let nought : from - from ≡ 0 = omega arith in
      drawing_as refl refl (ap (λ (k : ℕ). literal_changes n (others_after k [] (clause_from bytes from))) nought)
      (drawing_start (literals_bytes (firsts_of (clause_from bytes from))) 0 whole out lines p low);
}

module _ {bytes : List ℕ} {n from i : ℕ} {out lines : List ℕ} {p : Pen} {mid left row : List ℕ} {q : Pen}
    (d : Spelling bytes n from i out lines p mid left row q) where
  -- the end of the clause
  pub spelling_end : clause_from bytes i ≡ []
      → Drawn (literals_bytes (firsts_of (clause_from bytes from))) 0 (literal_changes n (others_of (clause_from bytes from))) out lines p mid left q
  unfolding firsts_after others_after
  spelling_end e =
      drawing_end (drawing_as (sym (ap (λ (c : Clause). literals_bytes (firsts_after d.seen c)) e)) refl
      (sym (ap (λ (c : Clause). literal_changes n (others_after (i - from) d.seen c)) e)) d.drawing)

  -- one literal more
  module _ (h : Drawable (literals_bytes (firsts_of (clause_from bytes from))) 0 (literal_changes n (others_of (clause_from bytes from))) out lines p)
      (w : ℕ) (small : w < 2 ^ 32) (here : i < length bytes / 4) (is : w ≡ little_at 4 bytes (4 * i)) (some : w ≡ 0 → ⊥)
      (k : ℕ) (code : k ≡ code_of (literal_of w)) (b : Bool) (has : b ≡ has_bit row k) where
    abbrev change : List Change
    change = cond b (record { clause = n; cause = equal; number = i - from } ∷ []) []

    split : Drawing (literals_bytes (firsts_of (clause_from bytes from))) 0 (literal_changes n (others_of (clause_from bytes from))) out lines p
        (cond b [] (little 4 w) ++ literals_bytes (firsts_after (literal_of w ∷ d.seen) (clause_from bytes (i + 1)))) (0 + 0)
        (change ++ literal_changes n (others_after (i + 1 - from) (literal_of w ∷ d.seen) (clause_from bytes (i + 1)))) mid left q
    split =
        let rest = clause_from bytes (i + 1) in
        let more = clause-more bytes i w here is some in
        let e = literal-seen d.marking (literal_of w) k code b has in
        let next : i + 1 - from ≡ suc (i - from) = omega (arith, d.onward) in
        drawing_as
        (sym (ap (λ (c : Clause). literals_bytes (firsts_after d.seen c)) more ∙ firsts_step w small d.seen rest b e))
        refl
        (ap (λ (m : ℕ). change ++ literal_changes n (others_after m (literal_of w ∷ d.seen) rest)) next
        ∙ sym (ap (λ (c : Clause). literal_changes n (others_after (i - from) d.seen c)) more
        ∙ others_step w small d.seen rest b e n (i - from)))
        d.drawing

    pub spelling_room : Drawable (cond b [] (little 4 w)) 0 change mid left q
    spelling_room = drawing_room h _ 0 _ _ 0 _ split

    pub spelling_more : (literal_of w).variable ≤ most_variables → {o l : List ℕ} {r : Pen}
        → Drawn (cond b [] (little 4 w)) 0 change mid left q o l r → (after : List ℕ) → after ≡ row_to row k true
        → Spelling bytes n from (i + 1) out lines p o l after r
    spelling_more within f after e = record {
      seen = literal_of w ∷ d.seen;
      onward = omega (arith, d.onward);
      marking =
          subst⁻¹ (λ (x : List ℕ). Marking bytes from (i + 1) x (literal_of w ∷ d.seen)) (e ∙ ap (λ (m : ℕ). row_to row m true) code)
          (marking_more bytes from i w row here is some d.marking (code_inside (literal_of w) within));
      drawing = drawing_more h _ 0 _ _ 0 _ split f;
    }

-- a clause that is kept: its literals, and then its zero
module _ (c : Clause) (xs : List Change) {out lines : List ℕ} {p : Pen} (h : Drawable (clauses_bytes (c ∷ [])) 1 xs out lines p) where
  parted : Drawable (literals_bytes c ++ little 4 0) (0 + 1) (xs ++ []) out lines p
  parted = drawable_as (sym (literals-clause c)) refl (append-nil xs) h

  pub literals_room : Drawable (literals_bytes c) 0 xs out lines p
  literals_room = drawable-left (literals_bytes c) (little 4 0) 0 1 xs [] out lines p parted

  module _ {mid left : List ℕ} {q : Pen} (d : Drawn (literals_bytes c) 0 xs out lines p mid left q) where
    pub zero_room : Drawable (little 4 0) 1 [] mid left q
    zero_room = drawable-right (literals_bytes c) (little 4 0) 0 1 xs [] out lines p parted d

    pub clause-drawn : {next clauses : ℕ} {after : List ℕ} → Put (little 4 0) q.writing mid q.kept next after
        → clauses ≡ q.clauses + 1
        → Drawn (clauses_bytes (c ∷ [])) 1 xs out lines p after left
        (record { writing = q.writing; kept = next; lines = q.lines; clauses = clauses; changes = q.changes })
    clause-drawn {next} {clauses} w e =
        drawn_as (literals-clause c) refl (sym (append-nil xs))
        (drawn-both (literals_bytes c) (little 4 0) 0 1 xs [] out lines p parted d (word-drawn next 1 clauses d.low w e))
