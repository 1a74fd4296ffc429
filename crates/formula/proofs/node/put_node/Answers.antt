-- `formula::node::put_node` meets its contract: the kind, then the two fields, one behind the other. Assumes nothing.
-- the record, field by field
use mathlib.Core.Path.{◌≡◌, refl}
use mathlib.Core.List.{List, [], ◌∷◌}
use Prim.Native.Nat.{ℕ, ◌+◌, ◌≤◌}
use native.Mathlib.Omega.{arith}
use lib.ListN.{length, set, length-set}
use Rattle.laws.specs.Lists.{splice}
use Rattle.laws.specs.Inner.Stores.{Stored}
use Rattle.laws.specs.Numbers.{little}
use Rattle.laws.proofs.Stored.{stored-byte, stored-both, stored-length}
use Rattle.formula.specs.Tables.{field_bytes, node_bytes, node_record}
use Rattle.formula.proofs.node.put_node.Goals as goal

module _ (t : List ℕ) (at kind a b : ℕ) (room : at + node_bytes ≤ length t) where
  first : Stored (kind ∷ []) t at (at + 1) (set t at kind)
  first = stored-byte t at kind (omega arith)

  second : (m : List ℕ) → m ≡ splice (set t at kind) (at + 1) (little field_bytes a)
      → Stored (kind ∷ little field_bytes a) t at (at + 1 + field_bytes) m
  second m e = stored-both (kind ∷ []) (little field_bytes a) t at (omega arith) first (record { place = refl; list = e })

  third : (m o : List ℕ) → m ≡ splice (set t at kind) (at + 1) (little field_bytes a) → o
      ≡ splice m (at + 1 + field_bytes) (little field_bytes b)
      → Stored (node_record kind a b) t at (at + 1 + field_bytes + field_bytes) o
  third m o e f = stored-both (kind ∷ little field_bytes a) (little field_bytes b) t at (omega arith) (second m e)
      (record { place = refl; list = f })

  second-length : (m : List ℕ) → m ≡ splice (set t at kind) (at + 1) (little field_bytes a) → length m ≡ length t
  second-length m e = stored-length (omega arith) (second m e)

  third-length : (m o : List ℕ) → m ≡ splice (set t at kind) (at + 1) (little field_bytes a) → o
      ≡ splice m (at + 1 + field_bytes) (little field_bytes b)
      → length o ≡ length t
  third-length m o e f = stored-length (omega arith) (third m o e f)

pub returns : goal.returns
returns c =
    let a = c.args in
    (third a.table.now a.at a.kind a.a a.b c.requires c.put_field.new.table c.put_field-2.new.table
    c.put_field.ensures c.put_field-2.ensures).list
