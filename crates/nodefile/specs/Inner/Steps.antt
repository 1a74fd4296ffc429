-- What the steps of the reading find: a line, and a line from a place on.
-- Assumes nothing: these are definitions.
use Rattle.std.specs.Prelude.{Bool, true, false, cond, ◌&&◌, List, [], ◌∷◌, ◌≡◌, ℕ, ◌≤◌, ◌<◌, ltb, length, drop, Option, Some, None}
use Rattle.text.specs.Texts.{parted}
use Rattle.formula.specs.Tables.{most_nodes, node_record}
use Rattle.nodefile.specs.Files.{newline, option_line, option_count, field_value, node_line, record_of}
use Rattle.nodefile.specs.declared.line.Node.{Node}
use Rattle.nodefile.specs.declared.line.Line.{Line}

-- the option count that a line gives, and the node
abbrev pub options_of : List ℕ → Option ℕ
options_of line = cond (option_line line) (Some (option_count line)) None

abbrev pub node_of : ℕ → List ℕ → Option Node
node_of i line = cond (node_line i line) (Some (record { kind = field_value line 1; a = field_value line 2; b = field_value line 3 })) None

-- whether the first of the pieces is an ended line that passes a test
abbrev pub next_passes : (List ℕ → Bool) → List (List ℕ) → Bool
next_passes test [] = false
next_passes test (l ∷ []) = false
next_passes test (l ∷ p ∷ ps) = test l

-- the line from a place on is ended and passes a test, and the lines behind it stand from `next` on
pub record LineIs (test : List ℕ → Bool) (text : List ℕ) (at next : ℕ) (line : List ℕ) : Type 0 where
  pub pieces : parted newline (drop at text) ≡ line ∷ parted newline (drop next text)
  pub passes : test line ≡ true
  pub beyond : at < next
  pub within : next ≤ length text

-- the option line
pub record OptionsAre (text : List ℕ) (count next : ℕ) : Type 0 where
  pub line : List ℕ
  pub found : LineIs option_line text 0 next line
  pub same : count ≡ option_count line

abbrev pub OptionsFound : List ℕ → Option (Line ℕ) → Type 0
OptionsFound text None = next_passes option_line (parted newline text) ≡ false
OptionsFound text (Some l) = OptionsAre text l.says l.next

-- the line of node i
abbrev pub node_test : ℕ → List ℕ → Bool
node_test i line = ltb i most_nodes && node_line i line

pub record NodeIs (text : List ℕ) (at i kind a b next : ℕ) : Type 0 where
  pub line : List ℕ
  pub found : LineIs (node_test i) text at next line
  pub same : record_of line ≡ node_record kind a b

abbrev pub NodeFound : List ℕ → ℕ → ℕ → Option (Line Node) → Type 0
NodeFound text at i None = next_passes (node_test i) (parted newline (drop at text)) ≡ false
NodeFound text at i (Some l) = NodeIs text at i l.says.kind l.says.a l.says.b l.next
