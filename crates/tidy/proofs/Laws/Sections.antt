-- What is put of a section of the clauses, k of them from number n on: of none, of one section behind another, and of
-- one clause. Assumes nothing.
use mathlib.Core.Path.{◌≡◌, sym, ap, ◌∙◌}
use mathlib.Core.List.{List, [], ◌++◌}
use Prim.Native.Nat.{ℕ, ◌+◌, ◌*◌, ◌≤◌}
use lib.ListN.{length, get_or, length-append}
use Rattle.clausal.specs.Clauses.{Clause, clauses_bytes}
use Rattle.clausebytes.specs.Words.{clauses_of}
use Rattle.clausebytes.proofs.Encoded.{clauses_append}
use Rattle.tidied.specs.Tidying.{kept_of, changes_by}
use Rattle.kept.specs.Inner.Pens.{Drawn, Drawable, longest, fate_for}
use Rattle.kept.specs.declared.pen.Pen.{Pen}
use Rattle.kept.proofs.Laws.Pens.{drawn-nothing, drawn_as, drawable_as, drawable-left, drawable-right}
use Rattle.kept.proofs.Laws.Pens.{drawn-both}
use Rattle.tidy.specs.Inner.Passes.{between, kept_at, changes_at, kept_in, changes_in}
use Rattle.tidy.specs.Inner.Windows.{first_of}
use Rattle.tidy.proofs.Laws.Passes.{between_split, between-one, fate_for_lem}

abbrev pub DrawnIn : List Clause → ℕ → ℕ → List ℕ → List ℕ → Pen → List ℕ → List ℕ → Pen → Type 0
DrawnIn cs n k = Drawn (clauses_bytes (kept_in cs n k)) (length (kept_in cs n k)) (changes_in cs n k)

abbrev pub DrawableIn : List Clause → ℕ → ℕ → List ℕ → List ℕ → Pen → Type 0
DrawableIn cs n k = Drawable (clauses_bytes (kept_in cs n k)) (length (kept_in cs n k)) (changes_in cs n k)

-- no clause
pub drawn-none : (cs : List Clause) (n : ℕ) (out lines : List ℕ) (p : Pen) → p.lines ≤ longest * p.changes
    → DrawnIn cs n 0 out lines p out lines p
unfolding between
drawn-none cs n out lines p low = drawn-nothing out lines p low

-- a section behind another
module _ (cs : List Clause) (n j k : ℕ) where
  kept_split : clauses_bytes (kept_in cs n (j + k)) ≡ clauses_bytes (kept_in cs n j) ++ clauses_bytes (kept_in cs (n + j) k)
  kept_split = ap clauses_bytes (between_split (kept_at cs) n j k) ∙ clauses_append (kept_in cs n j) (kept_in cs (n + j) k)

  count_split : length (kept_in cs n (j + k)) ≡ length (kept_in cs n j) + length (kept_in cs (n + j) k)
  count_split = ap length (between_split (kept_at cs) n j k) ∙ length-append (kept_in cs n j) (kept_in cs (n + j) k)

  changes_split : changes_in cs n (j + k) ≡ changes_in cs n j ++ changes_in cs (n + j) k
  changes_split = between_split (changes_at cs) n j k

  module _ {out lines : List ℕ} {p : Pen} (h : DrawableIn cs n (j + k) out lines p) where
    both : Drawable (clauses_bytes (kept_in cs n j) ++ clauses_bytes (kept_in cs (n + j) k))
        (length (kept_in cs n j) + length (kept_in cs (n + j) k)) (changes_in cs n j ++ changes_in cs (n + j) k) out lines p
    both = drawable_as (sym kept_split) (sym count_split) (sym changes_split) h

    -- there is room for the first, and behind it for the second
    pub drawable-first : DrawableIn cs n j out lines p
    drawable-first =
        drawable-left (clauses_bytes (kept_in cs n j)) (clauses_bytes (kept_in cs (n + j) k)) (length (kept_in cs n j))
        (length (kept_in cs (n + j) k)) (changes_in cs n j) (changes_in cs (n + j) k) out lines p both

    module _ {mid left : List ℕ} {q : Pen} (d : DrawnIn cs n j out lines p mid left q) where
      pub drawable-next : DrawableIn cs (n + j) k mid left q
      drawable-next =
          drawable-right (clauses_bytes (kept_in cs n j)) (clauses_bytes (kept_in cs (n + j) k)) (length (kept_in cs n j))
          (length (kept_in cs (n + j) k)) (changes_in cs n j) (changes_in cs (n + j) k) out lines p both d

      pub drawn-next : {o l : List ℕ} {r : Pen} → DrawnIn cs (n + j) k mid left q o l r
          → DrawnIn cs n (j + k) out lines p o l r
      drawn-next e =
          drawn_as kept_split count_split changes_split
          (drawn-both (clauses_bytes (kept_in cs n j)) (clauses_bytes (kept_in cs (n + j) k)) (length (kept_in cs n j))
          (length (kept_in cs (n + j) k)) (changes_in cs n j) (changes_in cs (n + j) k) out lines p both d e)

-- one clause, by the first clause that was found
module _ (bytes : List ℕ) (n first : ℕ) (c : Clause) (first-is : first ≡ first_of bytes n)
    (clause-is : c ≡ get_or (clauses_of bytes) n []) where
  kept-one : kept_of (fate_for n first c) c ≡ kept_in (clauses_of bytes) n 1
  kept-one =
      (λ i. kept_of (fate_for_lem bytes n first c first-is clause-is i) (clause-is i))
      ∙ sym (between-one (kept_at (clauses_of bytes)) n)

  changes_one : changes_by n (fate_for n first c) c ≡ changes_in (clauses_of bytes) n 1
  changes_one =
      (λ i. changes_by n (fate_for_lem bytes n first c first-is clause-is i) (clause-is i))
      ∙ sym (between-one (changes_at (clauses_of bytes)) n)

  module _ {out lines : List ℕ} {p : Pen} where
    pub drawable-one : DrawableIn (clauses_of bytes) n 1 out lines p
        → Drawable (clauses_bytes (kept_of (fate_for n first c) c)) (length (kept_of (fate_for n first c) c))
        (changes_by n (fate_for n first c) c) out lines p
    drawable-one h = drawable_as (ap clauses_bytes kept-one) (ap length kept-one) changes_one h

    pub drawn-one : {mid left : List ℕ} {q : Pen}
        → Drawn (clauses_bytes (kept_of (fate_for n first c) c)) (length (kept_of (fate_for n first c) c))
        (changes_by n (fate_for n first c) c) out lines p mid left q
        → DrawnIn (clauses_of bytes) n 1 out lines p mid left q
    drawn-one d = drawn_as (sym (ap clauses_bytes kept-one)) (sym (ap length kept-one)) (sym changes_one) d
