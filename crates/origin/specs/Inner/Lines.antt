-- Lines as they are written run by run, and what their writers ask and leave.
-- Assumes nothing: these are definitions.
use Rattle.std.specs.Prelude.{List, [], ◌∷◌, ◌++◌, ◌≡◌, ℕ, zero, suc, ◌+◌, ◌<◌, ◌≤◌, length}
use Rattle.laws.specs.Lists.{Every}
use Rattle.formula.specs.Tables.{nodes_of}
use Rattle.formula.specs.declared.node.Node.{Node}
use Rattle.text.specs.Texts.{decimal}
use Rattle.names.specs.Names.{name_of}
use Rattle.names.specs.Inner.Notes.{name_count, Known}
use Rattle.names.specs.declared.lookup.Voices.{Voices}
use Rattle.clausal.specs.Clauses.{Literal, Clause, Renaming, renaming, renamed_below}
use Rattle.clausal.specs.Output.{output_of}
use Rattle.walk.specs.Inner.Lists.{names_in, shown_all}
use Rattle.walk.specs.Inner.Steps.{way}
use Rattle.walk.specs.declared.nodes.Nodes.{Nodes}
use Rattle.origin.specs.Inner.Spots.{direction_of, sign_of}
use Rattle.origin.specs.declared.line.Span.{Span}
use Rattle.origin.specs.declared.part.Spot.{Spot}
use Rattle.origin.specs.Origins.{direction_word, shown_literal, line_of}
use Rattle.origin.specs.Inner.Grounds.{Ground, spot_clause}
use Rattle.origin.specs.Inner.Pens.{Standing, Drawn}
use Rattle.origin.specs.Inner.Ways.{Startable}
use Rattle.origin.specs.declared.pen.Pen.{Pen}

-- a number and a tab
abbrev pub field_text : ℕ → List ℕ
field_text n = decimal n ++ (9 ∷ [])

-- the fields before the names
abbrev pub source_text : ℕ → ℕ → Spot → List ℕ
source_text k helper x =
    field_text k ++ (field_text x.node ++ (field_text helper ++ (direction_word (direction_of x.direction)
    ++ ((9 ∷ []) ++ decimal x.number))))

-- a literal behind a tab, and those of a clause
abbrev pub tabbed : (ℕ → List ℕ) → Literal → List ℕ
tabbed name l = 9 ∷ shown_literal name l

abbrev pub literals_text : (ℕ → List ℕ) → Clause → List ℕ
literals_text name c = shown_all (tabbed name) c

-- the lines of n clauses from clause `from` on
unfoldable pub lines_from : (ℕ → List ℕ) → Renaming → List Node → ℕ → ℕ → List ℕ
lines_from name u ns from zero = []
lines_from name u ns from (suc n) = lines_from name u ns from n ++ line_of name u ns (from + n)

-- every variable has a name: it is no 0, and at most `most`
abbrev pub Ranged : ℕ → Clause → Type 0
Ranged most c = Every (λ l. (0 < l.variable) × (l.variable ≤ most)) c

-- how many options there are, and both lists of names
pub record Lists : Type 0 where
  pub options : ℕ
  pub option_list : List ℕ
  pub helper_list : List ℕ

abbrev pub lists_of : Voices → Lists
lists_of x = record { options = x.options; option_list = x.option_names.list.now; helper_list = x.helper_names.list.now }

-- the name of a variable
abbrev pub named : Lists → ℕ → List ℕ
named l = name_of l.option_list l.helper_list l.options

-- both lists of names with their notes, a pen in a buffer and literals that have names
pub record Voiced (x : Voices) (c : Clause) (out : List ℕ) (p : Pen) : Type 0 where
  pub known : Known x
  pub ranged : Ranged (x.options + name_count x.helper_names.list.now) c
  pub standing : Standing p out

-- bytes were put, and the lists, which are the same, still have their notes
pub record Spoken (bytes : List ℕ) (l : Lists) (out : List ℕ) (p : Pen) (x : Voices) (after : List ℕ) (q : Pen) : Type 0 where
  pub drawn : Drawn bytes out p after q
  pub known : Known x
  pub lists : lists_of x ≡ l

-- a spot in a part of the output that has its clause, whose literals have names
pub record Spotted (x : Nodes) (y : Voices) (z : Spot) (out : List ℕ) (p : Pen) : Type 0 where
  pub start : Startable x (way z.node (sign_of z.direction) z.number)
  pub voiced : Voiced y (spot_clause (names_in x.helpers.now) (nodes_of x.table.now) z) out p

-- clauses of the output, and a name for every variable
pub record Tellable (x : Nodes) (marks s : List ℕ) (l : Lists) (span : Span) : Type 0 where
  pub ground : Ground x l.options marks s
  pub count : name_count l.helper_list ≡ renamed_below s (length s)
  pub order : span.from ≤ span.end
  pub within : span.end ≤ length (output_of (renaming l.options s) (nodes_of x.table.now))
