-- What the writers of lines ask: a formula that was prepared, its helpers, and lists of names with their notes.
-- Assumes nothing: these are definitions.
use Rattle.std.specs.Prelude.{List, [], ◌≡◌, ℕ, ◌<◌, length, get_or}
use Rattle.answer.specs.Answers.{accepted_with}
use Rattle.formula.specs.Checks.{checked}
use Rattle.formula.specs.Tables.{nodes_of}
use Rattle.formula.specs.declared.node.Node.{Node}
use Rattle.clausal.specs.Clauses.{Clause, renaming}
use Rattle.clausal.specs.Output.{output_of}
use Rattle.clausal.specs.Totals.{clause_ceiling}
use Rattle.walk.specs.Inner.Lists.{own_list}
use Rattle.walk.specs.declared.nodes.Nodes.{Nodes}
use Rattle.parts.specs.Inner.Helpers.{helpers_of}
use Rattle.parts.specs.Inner.Parts.{around}
use Rattle.convert.specs.Inner.Fitted.{Prepared}
use Rattle.origin.specs.Inner.Spots.{direction_of, sign_of}
use Rattle.origin.specs.declared.part.Spot.{Spot}
use Rattle.origin.specs.Origins.{Source, fields_of, line_text}

-- a formula under a set, both right, below the ceiling, with its marks, totals and helpers
pub record Ground (x : Nodes) (v : ℕ) (marks s : List ℕ) : Type 0 where
  pub table : checked x.table.now v ≡ accepted_with 0 0
  pub prepared : Prepared x.table.now v marks s x.columns.now
  pub named : x.helpers.now ≡ helpers_of (renaming v s) (length s)
  pub short : length (output_of (renaming v s) (nodes_of x.table.now)) < clause_ceiling

module _ (name : ℕ → ℕ) (ns : List Node) where
  -- the clause at a spot, and what the line says of it
  abbrev pub spot_clause : Spot → Clause
  spot_clause g = let sign = sign_of g.direction in around (name g.node) sign (get_or (own_list name ns g.node sign) g.number [])

  abbrev pub spot_source : Spot → Source
  spot_source g = record {
    origin = g.node;
    helper = name g.node;
    direction = direction_of g.direction;
    number = g.number;
  }

  -- the line of clause k, by the spot where it stands
  abbrev pub spot_line : (ℕ → List ℕ) → ℕ → Spot → List ℕ
  spot_line shown k g = line_text (fields_of shown k (spot_source g) (spot_clause g))
