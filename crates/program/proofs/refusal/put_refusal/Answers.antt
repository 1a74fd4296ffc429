-- `program::refusal::put_refusal` meets its contract: the name and two fields, one behind the other. Assumes nothing.
use mathlib.Core.Path.{refl, sym, ap, ◌∙◌}
use mathlib.Core.List.{List, ◌++◌}
use Prim.Native.Nat.{ℕ, ◌+◌, ◌≤◌}
use native.Mathlib.Omega.{arith}
use lib.ListN.{length, length-append}
use Rattle.laws.specs.Numbers.{cap}
use Rattle.laws.proofs.Stored.{room-right, stored-both}
use Rattle.answer.specs.Answers.{most_shown}
use Rattle.answer.specs.declared.Told.{Told}
use Rattle.program.specs.Printed.{refused_name, field}
use Rattle.program.specs.Inner.Sizes.{PutShort}
use Rattle.program.proofs.Laws.Shows.{shows_stored, shows_as}
use Rattle.program.proofs.refusal.put_refusal.Goals as goal

pub returns : goal.returns
returns c =
    let out : List ℕ = c.args.out.now in
    let first = field c.tell-told.result.number 9 in
    let second = field c.shown.result 10 in
    let number = ap (λ (x : Told). x.number) (sym c.tell-told.ensures) in
    let place = ap (λ (x : Told). cap most_shown x.place) (sym c.tell-told.ensures) ∙ sym c.shown.ensures in
    let head : PutShort first c.put_bytes-number.new.text c.put_bytes-number.result c.put-place.result c.put-place.new.out = c.put-place.ensures in
    let tail : PutShort second c.put-place.new.out c.put-place.result c.put.result c.put.new.out = c.put.ensures in
    let room : 0 + length (refused_name ++ (first ++ second)) ≤ length out =
    omega (arith, c.requires, length-append first second, head.stored.place, head.short, tail.stored.place, tail.short) in
    let rest = room-right refused_name (first ++ second) out 0 room c.put_bytes-number.ensures in
    let both = stored-both first second c.put_bytes-number.new.text c.put_bytes-number.result rest head.stored tail.stored in
    let all = stored-both refused_name (first ++ second) out 0 room c.put_bytes-number.ensures both in
    shows_as (λ i. refused_name ++ (field (number i) 9 ++ field (place i) 10)) refl (shows_stored (omega (arith, room)) all)
