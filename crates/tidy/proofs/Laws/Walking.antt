-- A loop that puts window after window: what it knows at each turn. Assumes nothing.
use mathlib.Core.Path.{◌≡◌, refl, sym, ap, ◌∙◌, subst, subst⁻¹}
use mathlib.Core.Bool.{Bool, true, false, cond}
use mathlib.Core.List.{List, [], ◌∷◌}
use Prim.Native.Nat.{ℕ, ◌+◌, ◌-◌, ◌≤◌, ◌<◌}
use native.Mathlib.Nat.{zero-add}
use native.Mathlib.Omega.{arith}
use Rattle.std.specs.Prelude.{min}
use lib.Dec.{ltb}
use lib.ListN.{length, take}
use Rattle.std.proofs.lemmas.List.{get_or-take, length-take-le}
use borrow.Author.Tests.{le-ltb, ltb-true, ltb-false}
use Rattle.clausal.specs.Clauses.{clauses_bytes}
use Rattle.clausebytes.specs.Words.{words_of, literal_of, clauses_of, all_within}
use Rattle.clausebytes.proofs.Encoded.{Bytes}
use Rattle.clausebytes.proofs.Laws.Stand.{kept-within}
use Rattle.clausebytes.proofs.Laws.Wrong.{RightBytes, right_of_not_wrong}
use Rattle.tidied.specs.Tidying.{tidied, changes_of}
use Rattle.sets.specs.Inner.Sets.{seeds, Numbered}
use Rattle.kept.specs.Inner.Pens.{Drawn}
use Rattle.kept.proofs.Laws.Pens.{drawn_as, drawable_as, drawn-lengths}
use Rattle.tidy.specs.Inner.Passes.{start_pen, Passable, Passed, Whole}
use Rattle.tidy.specs.Inner.Windows.{place_after, place_of, most, Searchable, Firsts}
use Rattle.tidy.specs.declared.pass.Walked.{Walked}
use Rattle.tidy.proofs.Laws.Passes.{kept_in_all, changes_in_all, bytes-short, changes_short}
use Rattle.tidy.proofs.Laws.Passes.{kept-few, kept-short}
use Rattle.tidy.proofs.Laws.Sections.{DrawnIn, DrawableIn, drawn-none, drawable-first, drawable-next, drawn-next}

-- what is within some variables is within more
within_more : (v m : ℕ) → v ≤ m → (ws : List ℕ) → all_within v ws ≡ true → all_within m ws ≡ true
unfolding all_within
within_more v m h [] e = refl
within_more v m h (w ∷ ws) e =
    let k = kept-within v (literal_of w).variable (all_within v ws) e in
    rw (le-ltb m (literal_of w).variable (omega (arith, k.0))) (within_more v m h ws k.1)

-- the size of the next window, of k clauses that are left
pub record Sized (k size : ℕ) : Type 0 where
  pub few : size ≤ most
  pub within : size ≤ k
  pub some : 0 < k → 0 < size

pub window_sized : (k size : ℕ) → size ≡ cond (ltb k most) k most → Sized k size
window_sized k size e = subst⁻¹ (Sized k) e (go (ltb k most) refl)
  where
    go : (b : Bool) → ltb k most ≡ b → Sized k (cond b k most)
    go true f = let h = ltb-true k most f in record { few = omega arith; within = omega arith; some = λ g. g }
    go false f = let h = ltb-false k most f in record { few = omega arith; within = h; some = λ g. omega arith }

-- and it is the lesser of both
pub window_least : (k size : ℕ) → size ≡ cond (ltb k most) k most → size ≡ min k most
window_least k size e = e ∙ go (ltb k most) refl
  where
    go : (b : Bool) → ltb k most ≡ b → cond b k most ≡ min k most
    go true f = let h = ltb-true k most f in omega arith
    go false f = let h = ltb-false k most f in omega arith

-- the clauses before number `start` were put
pub record Walking (bytes : List ℕ) (writing : Bool) (out lines mid left : List ℕ) (walked : Walked) (seed start : ℕ)
    : Type 0 where
  pub within : start ≤ length (clauses_of bytes)
  pub seed_few : seed < seeds
  pub place_is : walked.place ≡ place_of bytes start
  pub drawn-is : DrawnIn (clauses_of bytes) 0 start out lines (start_pen writing) mid left walked.pen

pub walking_start : (bytes : List ℕ) (writing : Bool) (out lines : List ℕ)
    → Walking bytes writing out lines out lines (record { place = 0; pen = start_pen writing }) 0 0
unfolding place_after
walking_start bytes writing out lines = record {
  within = omega arith;
  seed_few = omega arith;
  place_is = refl;
  drawn-is = drawn-none (clauses_of bytes) 0 out lines (start_pen writing) (omega arith);
}

module _ {bytes : List ℕ} {v count : ℕ} {writing : Bool} {out lines : List ℕ} (small : Bytes bytes)
    (given : Whole bytes v count writing out lines) where
  right : RightBytes bytes v
  right = right_of_not_wrong bytes v given.right

  -- there is room for all clauses, and so for the first of them
  whole_room : DrawableIn (clauses_of bytes) 0 (length (clauses_of bytes)) out lines (start_pen writing)
  whole_room =
      let cs = clauses_of bytes in
      drawable_as (ap clauses_bytes (kept_in_all cs)) (ap length (kept_in_all cs)) (changes_in_all cs) (record {
        kept_room = record {
          room = λ e. omega (arith, given.kept_room e);
          low = omega (arith, kept-short bytes v small given.right);
        };
        clauses_few = omega (arith, kept-few bytes v small given.right);
        told = record {
          lines_room = λ e. omega (arith, given.lines_room e);
          low = omega arith;
          changes_few = omega (arith, changes_short bytes v small given.right);
        };
      })

  part_room : (k : ℕ) → k ≤ length (clauses_of bytes) → DrawableIn (clauses_of bytes) 0 k out lines (start_pen writing)
  part_room k h =
      let all = length (clauses_of bytes) in
      let e : all ≡ k + (all - k) = omega arith in
      drawable-first (clauses_of bytes) 0 k (all - k)
      (subst (λ (n : ℕ). DrawableIn (clauses_of bytes) 0 n out lines (start_pen writing)) e whole_room)

  numbered : Numbered bytes
  numbered = within_more v _ right.variables (words_of bytes) right.within

  module _ {mid left : List ℕ} {walked : Walked} {seed start : ℕ}
      (w : Walking bytes writing out lines mid left walked seed start) where
    -- buffers stay as long as they are
    pub lengths-same : (length mid ≡ length out) × (length left ≡ length lines)
    lengths-same = drawn-lengths (part_room start w.within) w.drawn-is

    -- the next window, whose first clauses are looked for and which is then put
    module _ {size : ℕ} (s : Sized (count - start) size) where
      window_within : start + size ≤ length (clauses_of bytes)
      window_within = omega (arith, s.within, given.count_is, w.within)

      pub walking_searchable : Searchable bytes start walked.place size seed
      walking_searchable = record {
        numbered = numbered;
        long = bytes-short bytes v small given.right;
        closed = right.last;
        within = window_within;
        clauses = right.clauses;
        few = s.few;
        seed_few = w.seed_few;
        place_is = w.place_is;
      }

      -- the first clauses of the window stand at the start of a list
      pub walking_passable : (firsts : List ℕ) → size ≤ length firsts
          → Firsts bytes start size firsts
          → Passable bytes start walked.place size firsts mid left walked.pen
      walking_passable firsts long are = record {
        numbered = numbered;
        long = bytes-short bytes v small given.right;
        closed = right.last;
        within = window_within;
        clauses = right.clauses;
        place_is = w.place_is;
        firsts_size = long;
        firsts_are = are;
        drawable = subst (λ (n : ℕ). DrawableIn (clauses_of bytes) n size mid left walked.pen) (zero-add start)
            (drawable-next (clauses_of bytes) 0 start size (part_room (start + size) window_within) w.drawn-is);
      }

      -- and so does the part of that list that the window has
      pub walking_taken : (firsts : List ℕ) → length firsts ≡ most
          → Firsts bytes start size firsts
          → Passable bytes start walked.place size (take size firsts) mid left walked.pen
      walking_taken firsts long are =
          walking_passable (take size firsts) (omega (arith, length-take-le size firsts (omega (arith, s.few, long))))
          (λ i h. get_or-take size firsts i 0 h ∙ are i h)

      pub walking_next : {o l : List ℕ} {next : Walked} → Passed bytes start size mid left walked.pen o l next
          → (found : ℕ) → found < seeds → Walking bytes writing out lines o l next found (start + size)
      walking_next {o} {l} {next} p found few = record {
        within = window_within;
        seed_few = few;
        place_is = p.place_is;
        drawn-is = drawn-next (clauses_of bytes) 0 start size (part_room (start + size) window_within) w.drawn-is
            (subst⁻¹ (λ (n : ℕ). DrawnIn (clauses_of bytes) n size mid left walked.pen o l next.pen)
            (zero-add start) p.drawn);
      }

    -- the end: all clauses were put
    pub walking_end : count ≤ start
        → Drawn (clauses_bytes (tidied (clauses_of bytes))) (length (tidied (clauses_of bytes)))
        (changes_of (clauses_of bytes)) out lines (start_pen writing) mid left walked.pen
    walking_end h =
        let cs = clauses_of bytes in
        let e : start ≡ length cs = omega (arith, w.within, given.count_is) in
        drawn_as (sym (ap clauses_bytes (kept_in_all cs))) (sym (ap length (kept_in_all cs))) (sym (changes_in_all cs))
        (subst (λ (n : ℕ). DrawnIn cs 0 n out lines (start_pen writing) mid left walked.pen) e w.drawn-is)
