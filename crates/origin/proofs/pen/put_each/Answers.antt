-- `origin::pen::put_each` meets its contract: with each turn a byte more is stored. Assumes nothing.
use mathlib.Core.Path.{◌≡◌, ap, sym, ◌∙◌, subst, subst⁻¹}
use mathlib.Core.List.{List, [], ◌∷◌, ◌++◌}
use Prim.Native.Nat.{ℕ, ◌+◌, ◌-◌, ◌<◌}
use native.Mathlib.Nat.{add_assoc, add-zero}
use native.Mathlib.Numerals.{add-one}
use native.Mathlib.Omega.{arith}
use lib.ListN.{length, get_or, set, drop, drop_of_length-le}
use lib.Seq.{drop-cons}
use Rattle.laws.specs.Inner.Stores.{Stored}
use Rattle.laws.proofs.Stored.{Storing, storing_start, storing_room, storing_length, storing_more, storing_end, stored-byte}
use Rattle.origin.proofs.pen.put_each.Goals.{In-loop-i}
use Rattle.origin.proofs.pen.put_each.Goals as goal

pub loop-i-init : goal.loop-i-init
loop-i-init c =
    let x = c.args in
    let w = storing_start x.bytes.now x.out.now x.at in
    (omega arith, subst⁻¹ (Storing x.bytes.now x.out.now x.at x.bytes.now x.out.now) (add-zero x.at) w)

-- the byte that is stored, and the rest
ahead : (c : In-loop-i)
    → let x = c.args in
    let l = c.loop-i in
    Storing x.bytes.now x.out.now x.at ((get_or x.bytes.now l.i 0 ∷ []) ++ drop (l.i + 1) x.bytes.now) l.out
    (x.at + l.i)
ahead c =
    let x = c.args in
    let l = c.loop-i in
    let bytes = x.bytes.now in
    subst (λ (r : List ℕ). Storing bytes x.out.now x.at r l.out (x.at + l.i))
    (drop-cons bytes l.i 0 c.loop-i-test.true ∙ ap (λ (n : ℕ). get_or bytes l.i 0 ∷ drop n bytes) (sym (add-one l.i)))
    l.invariant.1

room : (c : In-loop-i) → c.args.at + c.loop-i.i < length c.loop-i.out
room c =
    let x = c.args in
    omega (arith, storing_room c.requires (get_or x.bytes.now c.loop-i.i 0 ∷ []) _ (ahead c))

pub loop-i-preserved : goal.loop-i-preserved
loop-i-preserved c =
    let l = c.loop-i in
    let x = c.args in
    let bytes = x.bytes.now in
    let b = get_or bytes l.i 0 in
    let w = storing_more c.requires (b ∷ []) _ (ahead (goal.at.loop-i-preserved c).In-loop-i) (stored-byte l.out (x.at + l.i) b (room (goal.at.loop-i-preserved c).In-loop-i)) in (
      omega arith,
      subst (Storing bytes x.out.now x.at (drop (l.i + 1) bytes) (set l.out (x.at + l.i) b)) (add_assoc x.at l.i 1) w,
    )

pub returns : goal.returns
returns c =
    let x = c.args in
    let l = c.loop-i in
    let whole : l.i ≡ length x.bytes.now = omega (arith, l.invariant.0, c.loop-i-test.false) in
    subst (λ (k : ℕ). Stored x.bytes.now x.out.now x.at (x.at + k) l.out) whole
    (storing_end l.invariant.1 (drop_of_length-le _ c.loop-i-test.false))

pub overflow_add-out : goal.overflow_add-out
overflow_add-out c =
    omega (arith, c.requires)

pub bounds-out-at : goal.bounds-out-at
bounds-out-at c =
    room (goal.at.bounds-out-at c).In-loop-i

pub overflow_add-result : goal.overflow_add-result
overflow_add-result c =
    omega (arith, c.loop-i.invariant.0, c.requires)

pub shape_of-out : goal.shape_of-out
shape_of-out c =
    storing_length c.requires _ c.loop-i.invariant.1
