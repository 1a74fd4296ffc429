-- A loop that puts the clauses of a window: what it knows at each turn. Assumes nothing.
use mathlib.Core.Path.{◌≡◌, sym, ap, ◌∙◌, subst}
use mathlib.Core.List.{List, []}
use Prim.Native.Nat.{ℕ, ◌+◌, ◌-◌, ◌≤◌, ◌<◌}
use native.Mathlib.Omega.{arith}
use lib.ListN.{length, get_or}
use Rattle.clausal.specs.Clauses.{Clause, clauses_bytes}
use Rattle.clausebytes.specs.Words.{clauses_of}
use Rattle.tidied.specs.Tidying.{Change, kept_of, changes_by}
use Rattle.sets.specs.Inner.Sets.{clause_from, end_from}
use Rattle.kept.specs.Inner.Pens.{Drawn, Drawable, fate_for}
use Rattle.kept.specs.declared.pen.Pen.{Pen}
use Rattle.kept.proofs.Laws.Pens.{drawn-lengths}
use Rattle.tidy.specs.Inner.Passes.{Passable, Passed}
use Rattle.tidy.specs.Inner.Windows.{place_of, first_of}
use Rattle.tidy.proofs.Laws.Places.{after-suc, clause-at}
use Rattle.tidy.proofs.Laws.Sections.{DrawnIn, DrawableIn, drawn-none, drawable-first, drawable-next, drawn-next}
use Rattle.tidy.proofs.Laws.Sections.{drawable-one, drawn-one}

-- i clauses of the window were put
pub record Passing (bytes : List ℕ) (start count : ℕ) (out lines : List ℕ) (pen : Pen)
    (mid left : List ℕ) (drawn : Pen) (at i : ℕ) : Type 0 where
  pub within : i ≤ count
  pub at_is : at ≡ place_of bytes (start + i)
  pub drawn-is : DrawnIn (clauses_of bytes) start i out lines pen mid left drawn

module _ {bytes : List ℕ} {start place count : ℕ} {firsts out lines : List ℕ} {pen : Pen}
    (p : Passable bytes start place count firsts out lines pen) where
  pub passing_start : Passing bytes start count out lines pen out lines pen place 0
  passing_start =
      let e : start ≡ start + 0 = omega arith in
      record {
        within = omega arith;
        at_is = p.place_is ∙ ap (place_of bytes) e;
        drawn-is = drawn-none (clauses_of bytes) start out lines pen p.drawable.told.low;
      }

  -- there is room for the first clauses
  part_room : (i : ℕ) → i ≤ count → DrawableIn (clauses_of bytes) start i out lines pen
  part_room i h =
      let e : count ≡ i + (count - i) = omega arith in
      drawable-first (clauses_of bytes) start i (count - i)
      (subst (λ (k : ℕ). DrawableIn (clauses_of bytes) start k out lines pen) e p.drawable)

  module _ {mid left : List ℕ} {drawn : Pen} {at i : ℕ}
      (w : Passing bytes start count out lines pen mid left drawn at i) where
    -- buffers stay as long as they are
    pub lengths-same : (length mid ≡ length out) × (length left ≡ length lines)
    lengths-same = drawn-lengths (part_room i w.within) w.drawn-is

    -- clause i of the window, and its number
    abbrev number : ℕ
    number = start + i

    module _ (here : i < count) where
      first-here : get_or firsts i 0 ≡ first_of bytes number
      first-here = p.firsts_are i here

      clause-here : clause_from bytes at ≡ get_or (clauses_of bytes) number []
      clause-here =
          ap (clause_from bytes) w.at_is
          ∙ clause-at bytes p.closed (start + i) (omega (arith, p.within))

      abbrev kept_here : List Clause
      kept_here = kept_of (fate_for number (get_or firsts i 0) (clause_from bytes at)) (clause_from bytes at)

      abbrev changes_here : List Change
      changes_here = changes_by number (fate_for number (get_or firsts i 0) (clause_from bytes at)) (clause_from bytes at)

      pub passing_room : Drawable (clauses_bytes kept_here) (length kept_here) changes_here mid left drawn
      passing_room =
          drawable-one bytes number (get_or firsts i 0) (clause_from bytes at) first-here clause-here
          (drawable-next (clauses_of bytes) start i 1 (part_room (i + 1) (omega arith)) w.drawn-is)

      pub passing_next : {o l : List ℕ} {r : Pen}
          → Drawn (clauses_bytes kept_here) (length kept_here) changes_here mid left drawn o l r
          → (end : ℕ) → end ≡ end_from bytes at
          → Passing bytes start count out lines pen o l r (end + 1) (i + 1)
      passing_next {o} {l} {r} d end e =
          let n : start + (i + 1) ≡ start + i + 1 = omega arith in
          record {
            within = omega arith;
            at_is = ap (λ (x : ℕ). x + 1) (e ∙ ap (end_from bytes) w.at_is) ∙ sym (after-suc bytes 0 (start + i))
                ∙ ap (place_of bytes) (sym n);
            drawn-is = drawn-next (clauses_of bytes) start i 1 (part_room (i + 1) (omega arith)) w.drawn-is
                (drawn-one bytes number (get_or firsts i 0) (clause_from bytes at) first-here clause-here d);
          }

    -- the end: all were put
    pub passing_end : count ≤ i → Passed bytes start count out lines pen mid left (record { place = at; pen = drawn })
    passing_end h =
        let e : i ≡ count = omega (arith, w.within) in
        record {
          place_is = w.at_is ∙ ap (λ (k : ℕ). place_of bytes (start + k)) e;
          drawn = subst (λ (k : ℕ). DrawnIn (clauses_of bytes) start k out lines pen mid left drawn) e w.drawn-is;
        }
