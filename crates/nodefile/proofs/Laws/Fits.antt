-- A right file has at most 1,024 nodes, so a buffer of as many records has room for its table.
-- Assumes nothing.
use mathlib.Core.Path.{◌≡◌, refl}
use mathlib.Core.Bool.{Bool, true, false, ◌&&◌}
use mathlib.Core.List.{List}
use Prim.Native.Nat.{ℕ, ◌*◌, ◌≤◌, ◌<◌}
use native.Mathlib.Omega.{arith}
use lib.Dec.{eqb, leb, ltb}
use lib.ListN.{length}
use borrow.Author.Tests.{eqb-true, leb-true, leb-false}
use Rattle.laws.proofs.Choices.{both}
use Rattle.laws.proofs.First.{first-before}
use Rattle.formula.specs.Tables.{node_bytes, most_nodes}
use Rattle.nodefile.specs.Files.{line_count, line_of, line_right, first_wrong, file_right, file_nodes, file_table}
use Rattle.nodefile.proofs.Laws.Files.{length_records}

module _ (text : List ℕ) (right : file_right text ≡ true) where
  all_right : first_wrong text ≡ line_count text
  all_right =
      let end = eqb (length (line_of text (line_count text))) 0 in
      let found = eqb (first_wrong text) (line_count text) in
      eqb-true (first_wrong text) (line_count text) (both found end (both (ltb 0 (line_count text)) (found && end) right).1).0

  pub few-nodes : file_nodes text ≤ most_nodes
  few-nodes = go (leb (file_nodes text) most_nodes) refl
    where
      go : (b : Bool) → leb (file_nodes text) most_nodes ≡ b → file_nodes text ≤ most_nodes
      go true e = leb-true (file_nodes text) most_nodes e
      go false e =
          let over : most_nodes < file_nodes text = leb-false (file_nodes text) most_nodes e in
          let line : line_right text 1025 ≡ true =
          first-before (line_right text) (line_count text) 1025 (omega (arith, all_right)) in
          let z : ◌≡◌ {A = ℕ} 0 1 = cc in
          absurd (omega arith)

  pub table_fits : length (file_table text) ≤ node_bytes * most_nodes
  table_fits = omega (arith, length_records text (file_nodes text), few-nodes)
