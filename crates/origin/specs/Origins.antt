-- R19.1 to R19.6, R19.16: where a clause of the output comes from, and the line that says so.
-- Assumes nothing: these are definitions.
use Rattle.std.specs.Prelude.{cond, List, [], ◌∷◌, ◌++◌, map, ◌≡◌, ℕ, zero, suc, ◌+◌, ◌<◌, length, get_or}
use Rattle.formula.specs.declared.node.Node.{Node}
use Rattle.text.specs.Texts.{decimal, joined}
use Rattle.clausal.specs.Clauses.{clauses, Literal, Clause, Renaming}
use Rattle.clausal.specs.Output.{Direction, root, down, up, Part, parts_of, output_of}
use Rattle.clausal.specs.Places.{Place, place_in, start_of, counts_of}

-- R19.2: the origin node, its helper or 0, the direction, and the clause's number in that part
pub record Source : Type 0 where
  pub origin : ℕ
  pub helper : ℕ
  pub direction : Direction
  pub number : ℕ

-- part j; past the last there is none
abbrev pub part_in : List (Part (List Clause)) → ℕ → Part (List Clause)
part_in ps j = get_or ps j (record { origin = 0; helper = 0; direction = root; content = [] })

-- what a place says of the clause that stands there
abbrev pub source_at : List (Part (List Clause)) → Place → Source
source_at ps p = record {
  origin = (part_in ps p.part).origin;
  helper = (part_in ps p.part).helper;
  direction = (part_in ps p.part).direction;
  number = p.number;
}

-- R19.1: where clause k of the output comes from
abbrev pub source_of : Renaming → List Node → ℕ → Source
source_of u ns k = source_at (parts_of clauses u ns) (place_in (counts_of (parts_of clauses u ns)) k)

-- R19.16: clause `number` of a part with this origin and this direction is clause k of the output
pub record Comes (u : Renaming) (ns : List Node) (k node : ℕ) (way : Direction) (m : ℕ) : Type 0 where
  pub part : ℕ
  pub there : part < length (parts_of clauses u ns)
  pub origin : (part_in (parts_of clauses u ns) part).origin ≡ node
  pub direction : (part_in (parts_of clauses u ns) part).direction ≡ way
  pub number : m < length (part_in (parts_of clauses u ns) part).content
  pub place : start_of (counts_of (parts_of clauses u ns)) part + m ≡ k

-- R19.3: `root`, `down` for helper to body, `up` for the reverse
abbrev pub direction_word : Direction → List ℕ
direction_word root = 114 ∷ 111 ∷ 111 ∷ 116 ∷ []
direction_word down = 100 ∷ 111 ∷ 119 ∷ 110 ∷ []
direction_word up = 117 ∷ 112 ∷ []

-- R19.4: a literal is shown by the name of its variable, with `!` before it where it is negated
abbrev pub shown_literal : (ℕ → List ℕ) → Literal → List ℕ
shown_literal name l = cond l.plain [] (33 ∷ []) ++ name l.variable

-- R19.2, R19.4: the fields of a line
abbrev pub fields_of : (ℕ → List ℕ) → ℕ → Source → Clause → List (List ℕ)
fields_of name k s c =
    decimal k ∷ decimal s.origin ∷ decimal s.helper ∷ direction_word s.direction ∷ decimal s.number
    ∷ map (shown_literal name) c

-- R19.5: tabs part the fields, and a newline ends the line
abbrev pub line_text : List (List ℕ) → List ℕ
line_text fields = joined 9 fields ++ (10 ∷ [])

-- R19.1: the line of clause k; `name` says which name a variable has
abbrev pub line_of : (ℕ → List ℕ) → Renaming → List Node → ℕ → List ℕ
line_of name u ns k = line_text (fields_of name k (source_of u ns k) (get_or (output_of u ns) k []))

-- R19.6: the lines of the first n clauses, one after the other
unfoldable pub lines_of : (ℕ → List ℕ) → Renaming → List Node → ℕ → List ℕ
lines_of name u ns zero = []
lines_of name u ns (suc n) = lines_of name u ns n ++ line_of name u ns n
