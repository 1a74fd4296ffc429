-- `dimacs::writer::put_header` meets its contract: its parts one behind the other. Assumes nothing.
use mathlib.Core.List.{List, [], ◌∷◌, ◌++◌}
use Prim.Native.Nat.{ℕ, ◌+◌, ◌≤◌}
use native.Mathlib.Omega.{arith}
use lib.ListN.{length}
use Rattle.laws.proofs.Stored.{room-right, stored-both}
use Rattle.text.specs.Texts.{decimal}
use Rattle.dimacs.proofs.writer.put_header.Goals.{After-put_bytes-first, Start}
use Rattle.dimacs.proofs.writer.put_header.Goals as goal

-- `p cnf `, and the two fields behind it
abbrev word : List ℕ
word = 112 ∷ 32 ∷ 99 ∷ 110 ∷ 102 ∷ 32 ∷ []

abbrev first : Start → List ℕ
first s = decimal s.args.variables ++ (32 ∷ [])

abbrev second : Start → List ℕ
second s = decimal s.args.clauses ++ (10 ∷ [])

room : (s : Start) → 0 + length (word ++ (first s ++ second s)) ≤ length s.args.text.now
room s = omega (arith, s.requires)

-- the room for the fields
fields : (c : After-put_bytes-first)
    → c.put_bytes-first.result + length (first (goal.at.After-put_bytes-first c).Start ++ second (goal.at.After-put_bytes-first c).Start) ≤ length c.put_bytes-first.new.text
fields c = room-right word (first (goal.at.After-put_bytes-first c).Start ++ second (goal.at.After-put_bytes-first c).Start) c.args.text.now 0 (room (goal.at.After-put_bytes-first c).Start) c.put_bytes-first.ensures

pub returns : goal.returns
returns c =
    stored-both word (first (goal.at.returns c).Start ++ second (goal.at.returns c).Start) c.args.text.now 0 (room (goal.at.returns c).Start) c.put_bytes-first.ensures
    (stored-both (first (goal.at.returns c).Start) (second (goal.at.returns c).Start) c.put_bytes-first.new.text c.put_bytes-first.result (fields (goal.at.returns c).After-put_bytes-first) c.put_field-second.ensures
    c.put_field.ensures)
