-- `tidy::window::search` meets its contract: every clause up to the end of the window is looked for. Assumes nothing.
use mathlib.Core.Path.{refl, ap, ◌∙◌}
use Prim.Native.Nat.{ℕ, ◌+◌, ◌*◌, ◌≤◌, ◌<◌}
use native.Mathlib.Omega.{arith}
use Rattle.tidy.specs.Inner.Windows.{most, none, place_after}
use Rattle.tidy.proofs.Laws.Places.{place-low, after-after}
use Rattle.tidy.proofs.Laws.Searching.{Searching, searching_start, searching_next, searching_end}
use Rattle.tidy.proofs.window.search.Goals.{After-end_of-at, After-scan-misses, At-loop-j, In-loop-j}
use Rattle.tidy.proofs.window.search.Goals as goal

pub note-requires : goal.note-requires
note-requires c =
    let p = c.requires in
    record {
      numbered = p.numbered;
      long = p.long;
      start = omega (arith, p.place_is, place-low c.args.bytes.now c.args.start, p.within, p.clauses);
      few = p.few;
      seed_few = p.seed_few;
      places_size = refl;
      signs_size = refl;
      slots_empty = refl;
    }

pub loop-j-init : goal.loop-j-init
loop-j-init c =
    let x = c.args in
    (searching_start x.bytes.now x.start x.count _ _ c.requires.few c.note.ensures.slotted, omega arith)

-- the number of a clause is below that of no clause
below : (c : In-loop-j) → c.loop-j.j < c.args.start + c.args.count
below c = c.loop-j-test.true

few : (c : In-loop-j) → c.loop-j.j < none
few c = let p = c.requires in omega (arith, below c, p.within, p.clauses)

-- what was left in vain, with that of this clause
missed : (c : After-scan-misses)
    → c.loop-j.misses + c.scan-misses.result ≤ most * (c.loop-j.j + 1)
missed c = omega (arith, c.loop-j.invariant.1, c.scan-misses.ensures.1)

-- clause j was looked for
next : (c : After-end_of-at)
    → let x = c.args in
    Searching x.bytes.now x.start x.count c.note.new.self.signs c.scan-misses.new.firsts
    c.scan-misses.new.slots (c.end_of-at.result + 1) (c.loop-j.j + 1)
next c =
    let x = c.args in
    let p = c.requires in
    let note = c.note.ensures in
    let seen = c.scan-misses.ensures.0 in
    searching_next c.note.new.self.places c.loop-j.invariant.0 p.closed p.within p.clauses
    (λ i h. note.places_are i h ∙ ap (λ (q : ℕ). place_after x.bytes.now q i) p.place_is ∙ after-after x.bytes.now 0 x.start i)
    (below (goal.at.After-end_of-at c).In-loop-j) _ seen.firsts_size seen.firsts_are _ seen.slotted c.end_of-at.result c.end_of-at.ensures

pub loop-j-preserved : goal.loop-j-preserved
loop-j-preserved c =
    (next c, missed (goal.at.loop-j-preserved c).After-scan-misses)

pub returns : goal.returns
returns c =
    searching_end c.loop-j.invariant.0 c.loop-j-test.false

pub overflow_add-at : goal.overflow_add-at
overflow_add-at c =
    record {
      fits = omega (
        arith,
        (next c).at_is,
        place-low c.args.bytes.now (c.loop-j.j + 1),
        few (goal.at.overflow_add-at c).In-loop-j,
        c.requires.long,
      );
    }
