-- `kept::pen::put_line` meets its contract: the parts are measured and added, or written one behind the other.
-- Assumes nothing.
use mathlib.Core.Path.{◌≡◌, subst, sym, ap}
use mathlib.Core.List.{List, ◌++◌}
use Prim.Native.Nat.{ℕ, ◌+◌, ◌^◌, ◌≤◌, ◌<◌}
use native.Mathlib.Omega.{arith}
use lib.ListN.{length}
use Rattle.laws.proofs.Stored.{room-right, stored-both, stored_as}
use Rattle.text.specs.Texts.{decimal}
use Rattle.kept.specs.Inner.Pens.{cause_text, line_for}
use Rattle.kept.proofs.Laws.Lines.{line_end, line_rest, line_split, length-line, put_written}
use Rattle.kept.proofs.pen.put_line.Goals.{After-put_number-word, After-width-then-not-writing, Else-not-writing, Start}
use Rattle.kept.proofs.pen.put_line.Goals as goal

-- the bytes of the line: the first number, and behind it the word and the last number
abbrev line : Start → List ℕ
line s = line_for s.args.clause s.args.cause s.args.number

abbrev first : Start → List ℕ
first s = decimal s.args.clause

abbrev word : Start → List ℕ
word s = cause_text s.args.cause

abbrev end : Start → List ℕ
end s = line_end s.args.number

abbrev rest : Start → List ℕ
rest s = line_rest s.args.cause s.args.number

split : (s : Start) → line s ≡ first s ++ rest s
split s = line_split s.args.clause s.args.cause s.args.number

sized : (c : After-width-then-not-writing)
    → c.width.result + (length c.text-text.result.now + (c.width-then-not-writing.result + 1)) ≡ length (line (goal.at.After-width-then-not-writing c).Start)
sized c =
    let a = c.args in
    omega (
      arith,
      length-line a.clause a.cause a.number,
      c.width.ensures,
      ap length c.text-text.ensures,
      c.width-then-not-writing.ensures,
    )

low : (c : After-width-then-not-writing) → c.args.at + length (line (goal.at.After-width-then-not-writing c).Start) < 2 ^ 63
low c = c.requires.low

-- written: the room for the whole, and for the rest behind the first number
room : (c : Else-not-writing)
    → c.args.at + length (first (goal.at.Else-not-writing c).Start ++ rest (goal.at.Else-not-writing c).Start) ≤ length c.args.lines.now
room c =
    subst (λ (xs : List ℕ). c.args.at + length xs ≤ length c.args.lines.now) (split (goal.at.Else-not-writing c).Start)
    (c.requires.room c.if-not-writing.false)

rest-room : (c : After-put_number-word)
    → c.put_number-word.result + length (rest (goal.at.After-put_number-word c).Start) ≤ length c.put_number-word.new.text
rest-room c =
    room-right (first (goal.at.After-put_number-word c).Start) (rest (goal.at.After-put_number-word c).Start) c.args.lines.now c.args.at (room (goal.at.After-put_number-word c).Else-not-writing) c.put_number-word.ensures

pub returns : goal.returns
returns c =
    let rest-stored = stored-both (word (goal.at.returns c).Start) (end (goal.at.returns c).Start) c.put_number-word.new.text c.put_number-word.result
    (rest-room (goal.at.returns c).After-put_number-word) (stored_as (sym c.text-text.ensures) c.put_bytes-last.ensures) c.put_field.ensures in
    let all-stored = stored-both (first (goal.at.returns c).Start) (rest (goal.at.returns c).Start) c.args.lines.now c.args.at (room (goal.at.returns c).Else-not-writing)
    c.put_number-word.ensures rest-stored in
    put_written c.args.writing c.if-not-writing.false (stored_as (split (goal.at.returns c).Start) all-stored)
