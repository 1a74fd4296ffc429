-- A part that is read stands behind what was read before it.
use Rattle.std.proofs.Common.{◌≡◌, ℕ, ◌+◌, ◌-◌, ◌≤◌, List, ◌++◌, rules, arith, length, take, slice_range, sym, ap, ◌∙◌, subst, le_refl, drop_at, length-take-le}
use Rattle.std.proofs.lemmas.Slice.{take-put_mid_below}
use Rattle.std.specs.Io.KnownBytes.{Consumes}
use Rattle.std.proofs.KnownBytes.{Consumes-nil, Consumes-trans}
use borrow.Rule.Slice.PartMut.{put_mid, post_of}
use lib.Seq.{take-add, take-append-le}
use Rattle.simbolufa.proofs.read_full.Goals as goal

module _ (text part : List ℕ) (done room count : ℕ) (within : done ≤ length text) (fits : count ≤ length part) where
  abbrev after : List ℕ
  after = put_mid done room text part

  part_stands : slice_range after done (done + count) ≡ take count part
  part_stands =
      let same : (done + count) - done ≡ count = omega arith in
      let rest = post_of done room text in
      ap (take ((done + count) - done)) (drop_at (take done text) (part ++ rest) done (length-take-le done text within)) ∙ ap (λ n. take n (part ++ rest)) same ∙ take-append-le count part rest fits

  -- what stands at the start of the buffer then
  grown : take done text ++ take count part ≡ take (done + count) after
  grown =
      let front : take done after ≡ take done text = take-put_mid_below done room text part done (le_refl done) within in
      let same : done + ((done + count) - done) ≡ done + count = omega arith in
      ap (λ l. take done text ++ l) (sym part_stands) ∙ ap (λ l. l ++ slice_range after done (done + count)) (sym front)
      ∙ sym (take-add done ((done + count) - done) after) ∙ ap (λ n. take n after) same

pub loop-done-init : goal.loop-done-init
loop-done-init g c = (search rules, Consumes-nil _)

pub loop-done-preserved : goal.loop-done-preserved
loop-done-preserved g c =
    let more = grown c.loop-done.text c.read.new.buf c.loop-done.done (length c.loop-done.text - c.loop-done.done) c.in_ok-count.count c.loop-done.invariant.0 c.in_ok-count.ensures.bound.0 in
    (search rules, subst (Consumes _ _) more (Consumes-trans _ _ _ _ _ c.loop-done.invariant.1 c.in_ok-count.ensures.bytes.0))

pub returns-after-loop-done-clause-bound : goal.returns-after-loop-done-clause-bound
returns-after-loop-done-clause-bound g c = (c.loop-done.invariant.0, sym (length-take-le _ _ c.loop-done.invariant.0))

pub returns-after-loop-done-clause-bytes : goal.returns-after-loop-done-clause-bytes
returns-after-loop-done-clause-bytes g c = c.loop-done.invariant.1

pub returns-then-count-eq0-clause-bytes : goal.returns-then-count-eq0-clause-bytes
returns-then-count-eq0-clause-bytes g c =
    let done = c.loop-done.done in
    let room = length c.loop-done.text - done in
    let filled = after c.loop-done.text c.read.new.buf done room c.in_ok-count.count c.loop-done.invariant.0 c.in_ok-count.ensures.bound.0 in
    let more = grown c.loop-done.text c.read.new.buf done room c.in_ok-count.count c.loop-done.invariant.0 c.in_ok-count.ensures.bound.0 in
    let same : done + c.in_ok-count.count ≡ done = omega arith in
    subst (Consumes _ _) (more ∙ ap (λ n. take n filled) same) (Consumes-trans _ _ _ _ _ c.loop-done.invariant.1 c.in_ok-count.ensures.bytes.0)
