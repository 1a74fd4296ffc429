-- The parts of the output as the walk from part to part meets them: their counts, where they begin, and the clause at a spot.
-- Assumes nothing.
use mathlib.Core.Path.{◌≡◌, refl, sym, ap, ◌∙◌, subst, subst⁻¹}
use mathlib.Core.Bool.{Bool, true, false, cond}
use mathlib.Core.List.{List, [], ◌∷◌, ◌++◌, map, append_assoc, append-nil}
use Prim.Native.Nat.{ℕ, zero, suc, ◌+◌, ◌-◌, ◌≤◌, ◌<◌}
use native.Mathlib.Decide.{dec_lt}
use native.Mathlib.Omega.{arith}
use lib.ListN.{length, get_or, length-append, length-map}
use lib.Seq.{get_or_at}
use Rattle.formula.specs.Tables.{nodes_of}
use Rattle.formula.specs.declared.node.Node.{Node}
use Rattle.formula.proofs.Laws.Tables.{length-nodes_of}
use Rattle.marks.specs.Inner.Held.{held_at}
use Rattle.marks.specs.Marks.{marks_of, mark_of, halves_of}
use Rattle.marks.specs.Sets.{renamed}
use Rattle.marks.specs.declared.mark.Mark.{Mark}
use Rattle.marks.proofs.Laws.Held.{held_at-held}
use Rattle.marks.proofs.Laws.Sets.{RightSet}
use Rattle.clausal.specs.Clauses.{clauses, Clause, Renaming, renaming, name_of}
use Rattle.clausal.specs.Output.{Part, root_part, down_part, up_part, definition, definitions, parts_of, output_of}
use Rattle.clausal.specs.Places.{Place, contents_of, Stands}
use Rattle.clausal.specs.Totals.{clause_ceiling}
use Rattle.clausal.proofs.Helpers.{name-renamed, name-plain}
use Rattle.clausal.proofs.Places.{output_contents, stands_split, stands-only, clause-at}
use Rattle.walk.specs.Inner.Lists.{signed, pair_in, own_list}
use Rattle.walk.proofs.Laws.Counts.{own-count}
use Rattle.parts.specs.Inner.Parts.{around, part_of}
use Rattle.parts.proofs.Laws.Output.{contents_append, root-written, down-written, up-written, root-plain}
use Rattle.convert.proofs.Laws.Written as written
use Rattle.origin.specs.Inner.Spots.{direction_of, sign_of, half_count, count_at, defined_below, start_at, Inside}
use Rattle.origin.specs.declared.part.Direction.{Direction}
use Rattle.origin.specs.declared.part.Direction.TheVariants.{Root, Down, Up}
use Rattle.origin.specs.declared.part.Spot.{Spot}
use Rattle.origin.specs.Origins.{part_in, source_at, source_of, line_of, fields_of, line_text}
use Rattle.walk.specs.declared.nodes.Nodes.{Nodes}
use Rattle.origin.specs.Inner.Grounds.{Ground, spot_clause, spot_source, spot_line}

-- a clause of a list whose clauses were changed
get_d_mapped : (f : Clause → Clause) (cs : List Clause) (m : ℕ) → m < length cs → get_or (map f cs) m [] ≡ f (get_or cs m [])
get_d_mapped f [] m h = absurd (omega arith)
get_d_mapped f (c ∷ cs) zero h = refl
get_d_mapped f (c ∷ cs) (suc m) h = get_d_mapped f cs m (omega arith)

-- a half, where it is there
abbrev half_parts : Bool → Bool → Part (List Clause) → List (Part (List Clause))
half_parts renames has p = cond renames (cond has (p ∷ []) []) []

module _ (y : Nodes) (v : ℕ) (marks s : List ℕ) (g : Ground y v marks s) where
  abbrev t : List ℕ
  t = y.table.now

  abbrev cs : List (List ℕ)
  cs = y.columns.now.clauses

  abbrev u : Renaming
  u = renaming v s

  abbrev ns : List Node
  ns = nodes_of t

  abbrev name : ℕ → ℕ
  name = name_of u

  abbrev parts : List (Part (List Clause))
  parts = parts_of clauses u ns

  pub right : RightSet ns s
  right = written.right t v marks s y.columns.now g.prepared

  pub some-nodes : 0 < length s
  some-nodes = omega (arith, right.size, length-nodes_of t, g.prepared.settled.marked.size.some)

  last-node : length s - 1 ≡ length ns - 1
  last-node = ap (λ (n : ℕ). n - 1) right.size

  plain-root : renamed s (length ns - 1) ≡ false
  plain-root = root-plain u ns right (omega (arith, right.size, some-nodes))

  -- the part at a spot, one or none, and those before it
  abbrev part_at : Direction → ℕ → List (Part (List Clause))
  part_at Root i = root_part clauses u ns ∷ []
  part_at Down i = half_parts (renamed s i) (halves_of (mark_of ns i)).down (down_part clauses u ns i)
  part_at Up i = half_parts (renamed s i) (halves_of (mark_of ns i)).up (up_part clauses u ns i)

  abbrev before : Direction → ℕ → List (Part (List Clause))
  before Root i = []
  before Down i = root_part clauses u ns ∷ definitions clauses u ns i
  before Up i = root_part clauses u ns ∷ (definitions clauses u ns i ++ part_at Down i)

  both_halves : (i : ℕ) → definition clauses u ns i ≡ part_at Down i ++ part_at Up i
  both_halves i = go (renamed s i)
    where
      down : List (Part (List Clause))
      down = cond (halves_of (mark_of ns i)).down (down_part clauses u ns i ∷ []) []

      up : List (Part (List Clause))
      up = cond (halves_of (mark_of ns i)).up (up_part clauses u ns i ∷ []) []

      go : (b : Bool) → cond b (down ++ up) [] ≡ cond b down [] ++ cond b up []
      go true = refl
      go false = refl

  -- what stands behind a definition
  record Later (i n : ℕ) : Type 0 where
    rest : List (Part (List Clause))
    split : definitions clauses u ns n ≡ definitions clauses u ns i ++ (definition clauses u ns i ++ rest)

  later : (i n : ℕ) → i < n → Later i n
  unfolding definitions
  later i zero h = absurd (omega arith)
  later i (suc n) h = go (dec_lt i n) (λ l. later i n l)
    where
      go : Dec (i < n) → (i < n → Later i n) → Later i (suc n)
      go (yes l) ih =
          let r = ih l in
          record {
            rest = r.rest ++ definition clauses u ns n;
            split =
                ap (λ (x : List (Part (List Clause))). x ++ definition clauses u ns n) r.split
                ∙ append_assoc (definitions clauses u ns i) (definition clauses u ns i ++ r.rest) (definition clauses u ns n)
                ∙ ap (λ (x : List (Part (List Clause))). definitions clauses u ns i ++ x)
                (append_assoc (definition clauses u ns i) r.rest (definition clauses u ns n));
          }
      go (no l) ih =
          let e : i ≡ n = omega arith in
          record {
            rest = [];
            split =
                ap (λ (k : ℕ). definitions clauses u ns k ++ definition clauses u ns k) (sym e)
                ∙ ap (λ (x : List (Part (List Clause))). definitions clauses u ns i ++ x) (sym (append-nil (definition clauses u ns i)));
          }

  -- all parts: those before a spot, the one there, and the rest
  record Behind (d : Direction) (i : ℕ) : Type 0 where
    rest : List (Part (List Clause))
    split : parts ≡ before d i ++ (part_at d i ++ rest)

  behind : (d : Direction) (i : ℕ) → Inside s marks cs d i → Behind d i
  behind Root i h = record { rest = definitions clauses u ns (length ns); split = refl }
  behind Down i h =
      let r = later i (length ns) (omega (arith, right.size)) in
      let first = root_part clauses u ns in
      record {
        rest = part_at Up i ++ r.rest;
        split =
            ap (λ (x : List (Part (List Clause))). first ∷ x) r.split
            ∙ ap (λ (x : List (Part (List Clause))). first ∷ (definitions clauses u ns i ++ (x ++ r.rest))) (both_halves i)
            ∙ ap (λ (x : List (Part (List Clause))). first ∷ (definitions clauses u ns i ++ x))
            (append_assoc (part_at Down i) (part_at Up i) r.rest);
      }
  behind Up i h =
      let r = later i (length ns) (omega (arith, right.size)) in
      let first = root_part clauses u ns in
      record {
        rest = r.rest;
        split =
            ap (λ (x : List (Part (List Clause))). first ∷ x) r.split
            ∙ ap (λ (x : List (Part (List Clause))). first ∷ (definitions clauses u ns i ++ (x ++ r.rest))) (both_halves i)
            ∙ ap (λ (x : List (Part (List Clause))). first ∷ (definitions clauses u ns i ++ x))
            (append_assoc (part_at Down i) (part_at Up i) r.rest)
            ∙ ap (λ (x : List (Part (List Clause))). first ∷ x)
            (sym (append_assoc (definitions clauses u ns i) (part_at Down i) (part_at Up i ++ r.rest)));
      }

  -- a part is below the ceiling, as the output is
  short-part : (d : Direction) (i : ℕ) → Inside s marks cs d i → length (contents_of (part_at d i)) < clause_ceiling
  short-part d i h =
      let b = behind d i h in
      let rest = part_at d i ++ b.rest in
      let whole : output_of u ns ≡ contents_of (before d i) ++ contents_of rest =
      output_contents u ns ∙ ap contents_of b.split ∙ contents_append (before d i) rest in
      omega (
        arith,
        g.short,
        ap length whole,
        length-append (contents_of (before d i)) (contents_of rest),
        ap length (contents_append (part_at d i) b.rest),
        length-append (contents_of (part_at d i)) (contents_of b.rest),
      )

  -- a node's own list, as long as the arrays tell
  own_is : (i : ℕ) (sign : Bool) → length (own_list name ns i sign) < clause_ceiling → signed sign (pair_in cs i)
      ≡ length (own_list name ns i sign)
  own_is i sign h =
      let rows = (written.writable y v marks s g.prepared g.named).rows in
      let names = written.names t v marks s y.columns.now g.prepared y.helpers.now g.named in
      let e = own-count ns cs y.columns.now.literals y.helpers.now rows i sign in
      let f = ap (λ (x : ℕ → ℕ). length (own_list x ns i sign)) names in
      omega arith

  -- a half of a definition
  half_count_lem : (i : ℕ) (has sign : Bool) (p : Part (List Clause)) → (renamed s i ≡ true → part_of name ns i sign ≡ p.content)
      → length (contents_of (half_parts (renamed s i) has p)) < clause_ceiling
      → half_count s cs i has sign ≡ length (contents_of (half_parts (renamed s i) has p))
  half_count_lem i has sign p w = go (renamed s i) refl has
    where
      go : (b : Bool) → renamed s i ≡ b → (has : Bool) → length (contents_of (half_parts b has p)) < clause_ceiling
          → cond b (cond has (signed sign (pair_in cs i)) 0) 0 ≡ length (contents_of (half_parts b has p))
      go false e has h = refl
      go true e false h = refl
      go true e true h =
          let same : length (p.content ++ []) ≡ length (own_list name ns i sign) =
          ap length (append-nil p.content) ∙ ap length (sym (w e)) ∙ length-map (own_list name ns i sign) (around (name i) sign) in
          own_is i sign (omega arith) ∙ sym same

  held-mark : (i : ℕ) → held_at marks i ≡ mark_of ns i
  held-mark i = ap (λ (l : List ℕ). held_at l i) g.prepared.settled.marked.are ∙ held_at-held (marks_of ns) i

  pub count_at_lem : (d : Direction) (i : ℕ) → Inside s marks cs d i → count_at s marks cs d i ≡ length (contents_of (part_at d i))
  count_at_lem Root i h =
      let e : i ≡ length ns - 1 = h ∙ last-node in
      let f : signed true (pair_in cs i) ≡ signed true (pair_in cs (length ns - 1)) = ap (λ (j : ℕ). signed true (pair_in cs j)) e in
      let l = ap length (append-nil (root_part clauses u ns).content) in
      f ∙ own_is (length ns - 1) true (omega (arith, short-part Root i h)) ∙ sym l
  count_at_lem Down i h =
      ap (λ (m : Mark). half_count s cs i (halves_of m).down true) (held-mark i)
      ∙ half_count_lem i (halves_of (mark_of ns i)).down true (down_part clauses u ns i) (down-written u ns i) (short-part Down i h)
  count_at_lem Up i h =
      ap (λ (m : Mark). half_count s cs i (halves_of m).up false) (held-mark i)
      ∙ half_count_lem i (halves_of (mark_of ns i)).up false (up_part clauses u ns i) (up-written u ns i) (short-part Up i h)

  -- where parts begin
  defined_below_lem : (i : ℕ) → i ≤ length ns → defined_below s marks cs i ≡ length (contents_of (definitions clauses u ns i))
  unfolding defined_below definitions
  defined_below_lem zero h = refl
  defined_below_lem (suc i) h =
      let inside : i < length s = omega (arith, right.size) in
      let first = definitions clauses u ns i in
      let split = contents_append first (definition clauses u ns i) in
      let halves = ap contents_of (both_halves i) ∙ contents_append (part_at Down i) (part_at Up i) in
      omega (
        arith,
        defined_below_lem i (omega arith),
        count_at_lem Down i inside,
        count_at_lem Up i inside,
        ap length split ∙ length-append (contents_of first) (contents_of (definition clauses u ns i)),
        ap length halves ∙ length-append (contents_of (part_at Down i)) (contents_of (part_at Up i)),
      )

  root-count : count_at s marks cs Root (length s - 1) ≡ length (root_part clauses u ns).content
  root-count = count_at_lem Root (length s - 1) refl ∙ ap length (append-nil (root_part clauses u ns).content)

  behind-root : (ps : List (Part (List Clause))) → length (contents_of (root_part clauses u ns ∷ ps))
      ≡ length (root_part clauses u ns).content + length (contents_of ps)
  behind-root ps = length-append (root_part clauses u ns).content (contents_of ps)

  start-at : (d : Direction) (i : ℕ) → Inside s marks cs d i → start_at s marks cs d i ≡ length (contents_of (before d i))
  start-at Root i h = refl
  start-at Down i h =
      omega (arith, root-count, defined_below_lem i (omega (arith, right.size)), behind-root (definitions clauses u ns i))
  start-at Up i h =
      let first = definitions clauses u ns i in
      omega (
        arith,
        root-count,
        defined_below_lem i (omega (arith, right.size)),
        count_at_lem Down i h,
        behind-root (first ++ part_at Down i),
        ap length (contents_append first (part_at Down i)) ∙ length-append (contents_of first) (contents_of (part_at Down i)),
      )

  pub start-end : start_at s marks cs Down (length s) ≡ length (output_of u ns)
  start-end =
      let e = ap (defined_below s marks cs) right.size in
      omega (
        arith,
        e,
        root-count,
        defined_below_lem (length ns) (omega arith),
        behind-root (definitions clauses u ns (length ns)),
        ap length (output_contents u ns),
      )

  -- a part that has a clause is there, with the fields of its line
  record One (d : Direction) (i : ℕ) : Type 0 where
    part : Part (List Clause)
    is : part_at d i ≡ part ∷ []
    origin : part.origin ≡ i
    helper : part.helper ≡ name i
    direction : part.direction ≡ direction_of d
    content : part.content ≡ part_of name ns i (sign_of d)

  one : (d : Direction) (i m : ℕ) → Inside s marks cs d i → m < length (contents_of (part_at d i)) → One d i
  one Root i m h l =
      let e : i ≡ length ns - 1 = h ∙ last-node in
      record {
        part = root_part clauses u ns;
        is = refl;
        origin = sym e;
        helper = sym (name-plain u (length ns - 1) plain-root) ∙ ap name (sym e);
        direction = refl;
        content = sym (root-written u ns plain-root) ∙ ap (λ (j : ℕ). part_of name ns j true) (sym e);
      }
  one Down i m h l = go (renamed s i) refl (halves_of (mark_of ns i)).down refl l
    where
      go : (b : Bool) → renamed s i ≡ b → (c : Bool) → (halves_of (mark_of ns i)).down ≡ c
          → m < length (contents_of (half_parts b c (down_part clauses u ns i))) → One Down i
      go false e c f l = absurd (omega arith)
      go true e false f l = absurd (omega arith)
      go true e true f l = record {
        part = down_part clauses u ns i;
        is = λ j. half_parts (e j) (f j) (down_part clauses u ns i);
        origin = refl;
        helper = sym (name-renamed u i e);
        direction = refl;
        content = sym (down-written u ns i e);
      }
  one Up i m h l = go (renamed s i) refl (halves_of (mark_of ns i)).up refl l
    where
      go : (b : Bool) → renamed s i ≡ b → (c : Bool) → (halves_of (mark_of ns i)).up ≡ c
          → m < length (contents_of (half_parts b c (up_part clauses u ns i))) → One Up i
      go false e c f l = absurd (omega arith)
      go true e false f l = absurd (omega arith)
      go true e true f l = record {
        part = up_part clauses u ns i;
        is = λ j. half_parts (e j) (f j) (up_part clauses u ns i);
        origin = refl;
        helper = sym (name-renamed u i e);
        direction = refl;
        content = sym (up-written u ns i e);
      }

  -- a spot at which clause k stands
  module _ (k : ℕ) (x : Spot) (inside : Inside s marks cs x.direction x.node)
      (has : x.number < count_at s marks cs x.direction x.node)
      (same : start_at s marks cs x.direction x.node + x.number ≡ k) where
    abbrev d : Direction
    d = x.direction

    abbrev i : ℕ
    i = x.node

    abbrev m : ℕ
    m = x.number

    inside-part : m < length (contents_of (part_at d i))
    inside-part = omega (arith, count_at_lem d i inside)

    found : One d i
    found = one d i m inside inside-part

    abbrev rest : List (Part (List Clause))
    rest = (behind d i inside).rest

    all : parts ≡ before d i ++ (found.part ∷ rest)
    all = (behind d i inside).split ∙ ap (λ (ps : List (Part (List Clause))). before d i ++ (ps ++ rest)) found.is

    own : length (contents_of (part_at d i)) ≡ length found.part.content
    own = ap (λ (ps : List (Part (List Clause))). length (contents_of ps)) found.is ∙ ap length (append-nil found.part.content)

    abbrev place : Place
    place = record { part = length (before d i); number = m }

    stands : Stands parts k place
    stands =
        subst⁻¹ (λ (ps : List (Part (List Clause))). Stands ps k place) all
        (subst (λ (n : ℕ). Stands (before d i ++ (found.part ∷ rest)) n place)
        (ap (λ (n : ℕ). n + m) (sym (start-at d i inside)) ∙ same)
        (stands_split found.part rest (before d i) m (omega (arith, own, inside-part))))

    part-there : part_in parts (length (before d i)) ≡ found.part
    part-there =
        ap (λ (ps : List (Part (List Clause))). part_in ps (length (before d i))) all
        ∙ get_or_at (before d i) found.part rest _ (length (before d i)) refl

    pub spot_source_lem : source_of u ns k ≡ spot_source name ns x
    spot_source_lem =
        ap (source_at parts) (sym (stands-only parts k place stands))
        ∙ ap (λ (p : Part (List Clause)). record { origin = p.origin; helper = p.helper; direction = p.direction; number = m })
        part-there
        ∙ (λ j. record {
          origin = found.origin j;
          helper = found.helper j;
          direction = found.direction j;
          number = m;
        })

    own-length : m < length (own_list name ns i (sign_of d))
    own-length =
        omega (
          arith,
          own,
          inside-part,
          ap length found.content,
          length-map (own_list name ns i (sign_of d)) (around (name i) (sign_of d)),
        )

    pub spot-clause : get_or (output_of u ns) k [] ≡ spot_clause name ns x
    spot-clause =
        ap (λ (cs : List Clause). get_or cs k []) (output_contents u ns)
        ∙ clause-at parts k place stands
        ∙ ap (λ (p : Part (List Clause)). get_or p.content m []) part-there
        ∙ ap (λ (cs : List Clause). get_or cs m []) found.content
        ∙ get_d_mapped (around (name i) (sign_of d)) (own_list name ns i (sign_of d)) m own-length

    pub spot-line : (shown : ℕ → List ℕ) → spot_line name ns shown k x ≡ line_of shown u ns k
    spot-line shown = sym (λ j. line_text (fields_of shown k (spot_source_lem j) (spot-clause j)))

    pub spot-own : (m < length (own_list name ns i (sign_of d))) × (length (own_list name ns i (sign_of d)) < clause_ceiling)
    spot-own = (
      own-length,
      omega (
        arith,
        short-part d i inside,
        own,
        ap length found.content,
        length-map (own_list name ns i (sign_of d)) (around (name i) (sign_of d)),
      ),
    )
