-- What the writer of a clause asks, and what it leaves.
-- Assumes nothing: these are definitions.
use Rattle.std.specs.Prelude.{List, [], ◌≡◌, ℕ, ◌+◌, ◌^◌, ◌<◌, ◌≤◌, length, get_or}
use denote.Ref.{MutBor, at_last}
use Rattle.laws.specs.Lists.{splice}
use Rattle.formula.specs.Inner.Right.{Right}
use Rattle.formula.specs.Tables.{node_count, nodes_of}
use Rattle.clausal.specs.Clauses.{Clause, literal_bytes, row_of}
use Rattle.clausal.specs.Totals.{capped, clause_ceiling}
use Rattle.totals.specs.Inner.Columns.{row_in}
use Rattle.walk.specs.Inner.Lists.{names_in, shown_all}
use Rattle.walk.specs.declared.nodes.Nodes.{Nodes}
use Rattle.walk.specs.declared.step.Way.{Way}

-- a table that was checked, with the totals of its nodes and the helpers as which they are seen
pub record Writable (x : Nodes) : Type 0 where
  pub options : ℕ
  pub right : Right x.table.now options
  pub rows : (i : ℕ) → row_in x.columns.now.clauses x.columns.now.literals i ≡ row_of capped (names_in x.helpers.now) (nodes_of x.table.now) i

-- bytes have room in a buffer from `at` on, and every place in the buffer is a number of 64 bits
pub record Fits (bytes out : List ℕ) (at : ℕ) : Type 0 where
  pub most : length out < 2 ^ 64
  pub room : at + length bytes ≤ length out

-- clause k of a node's list is there, the list is below the ceiling, and there is room for the clause's literals
pub record Due (x : Nodes) (list : List Clause) (w : Way) (out : List ℕ) (at : ℕ) : Type 0 where
  pub writable : Writable x
  pub inside : w.node < node_count x.table.now
  pub has : w.k < length list
  pub short : length list < clause_ceiling
  pub fits : Fits (shown_all literal_bytes (get_or list w.k [])) out at

-- bytes were stored through a reference from `at` on; `next` is the place behind them
pub record Put (bytes : List ℕ) (before : MutBor (List ℕ)) (at next : ℕ) (after : MutBor (List ℕ)) : Type 0 where
  pub place : next ≡ at + length bytes
  pub ref : after ≡ at_last before (splice before.now at bytes)
