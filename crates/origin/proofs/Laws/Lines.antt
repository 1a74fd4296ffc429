-- A line put run by run, and lines one behind another.
-- Assumes nothing.
use mathlib.Core.Path.{◌≡◌, refl, sym, ap, ◌∙◌, subst, subst⁻¹}
use mathlib.Core.List.{List, [], ◌∷◌, ◌++◌, map, append_assoc, append-nil}
use Prim.Native.Nat.{ℕ, zero, suc, ◌+◌, ◌-◌, ◌≤◌, ◌<◌}
use native.Mathlib.Nat.{zero-add, sub_self}
use native.Mathlib.Omega.{arith}
use lib.ListN.{length, get_or}
use Rattle.laws.specs.Lists.{Every, none, more}
use Rattle.answer.specs.Answers.{accepted_with}
use Rattle.formula.specs.Checks.{checked}
use Rattle.formula.specs.Tables.{node_count, nodes_of}
use Rattle.marks.specs.Sets.{set_checked}
use Rattle.formula.specs.declared.node.Node.{Node}
use Rattle.formula.proofs.Laws.Tables.{length-nodes_of}
use Rattle.text.specs.Texts.{decimal, joined}
use Rattle.names.specs.Inner.Notes.{name_count, Known}
use Rattle.names.specs.declared.lookup.Voices.{Voices}
use Rattle.clausal.specs.Clauses.{Literal, Clause, Renaming, renaming}
use Rattle.clausal.specs.Clauses as rules
use Rattle.clausal.specs.Output.{output_of}
use Rattle.clausal.specs.Totals.{clause_ceiling}
use Rattle.clausal.proofs.Names.{output-named, variable_range}
use Rattle.walk.specs.Inner.Lists.{names_in, own_list, shown_all}
use Rattle.walk.specs.Inner.Written.{Writable}
use Rattle.walk.specs.declared.nodes.Nodes.{Nodes}
use Rattle.convert.proofs.Laws.Written as written
use Rattle.origin.specs.Inner.Spots.{sign_of, spot, start_at, Inside, Sought, Stood}
use Rattle.origin.specs.declared.part.Direction.TheVariants.{Root, Down, Up}
use Rattle.origin.specs.declared.part.Direction.{Direction}
use Rattle.origin.specs.declared.line.Span.{Span}
use Rattle.origin.specs.declared.part.Spot.{Spot}
use Rattle.origin.specs.Origins.{shown_literal, line_of}
use Rattle.origin.specs.Inner.Grounds.{Ground, spot_clause, spot_line}
use Rattle.origin.specs.Inner.Lines.{source_text, literals_text, lines_from, Ranged, Lists, lists_of, named}
use Rattle.origin.specs.Inner.Lines.{Spoken, Spotted, Tellable}
use Rattle.origin.specs.Inner.Pens.{Standing, Drawn}
use Rattle.origin.specs.declared.pen.Pen.{Pen}
use Rattle.origin.proofs.Laws.Pens.{drawn_as, drawn-both}
use Rattle.origin.proofs.Laws.Sources.{right, some-nodes, start-end, spot-own, spot-clause, spot-line}
use Rattle.origin.proofs.Laws.Spoken.{spoken_as, spoken_along, spoken_both, spoken_nothing, spoken_standing}

-- fields behind the last of those before the names
joined-literals : (f : Literal → List ℕ) (p : List ℕ) (c : Clause) → joined 9 (p ∷ map f c) ≡ p ++ shown_all (λ l. 9 ∷ f l) c
joined-literals f p [] = sym (append-nil p)
joined-literals f p (l ∷ c) = ap (λ (x : List ℕ). p ++ (9 ∷ x)) (joined-literals f (f l) c)

-- a line is its fields before the names, the names behind tabs, and a newline
line_runs : (name : ℕ → List ℕ) (names : ℕ → ℕ) (ns : List Node) (k : ℕ) (x : Spot)
    → spot_line names ns name k x
    ≡ source_text k (names x.node) x ++ (literals_text name (spot_clause names ns x) ++ (10 ∷ []))
line_runs name names ns k x =
    let last : joined 9 (decimal x.number ∷ map (shown_literal name) (spot_clause names ns x))
    ≡ decimal x.number ++ literals_text name (spot_clause names ns x) =
    joined-literals (shown_literal name) (decimal x.number) (spot_clause names ns x) in
    rw last (simp append_assoc)

module _ (x : Nodes) (y : Voices) (out : List ℕ) (z : Spot) (p : Pen) (w : Spotted x y z out p) (k : ℕ) (mid : List ℕ) (q : Pen)
    (d : Drawn (source_text k (names_in x.helpers.now z.node) z) out p mid q) where
  pub line_spoken : (y2 : Voices) (last after : List ℕ) (r t : Pen)
      → Spoken (literals_text (named (lists_of y)) (spot_clause (names_in x.helpers.now) (nodes_of x.table.now) z)) (lists_of y) mid q y2 last r
      → Drawn (10 ∷ []) last r after t
      → Spoken (spot_line (names_in x.helpers.now) (nodes_of x.table.now) (named (lists_of y)) k z) (lists_of y) out p y2 after t
  line_spoken y2 last after r t s f = record {
    drawn = drawn_as (line_runs (named (lists_of y)) (names_in x.helpers.now) (nodes_of x.table.now) k z)
        (drawn-both _ _ _ _ _ _ _ _ d (drawn-both _ _ _ _ _ _ _ _ s.drawn f));
    known = s.known;
    lists = s.lists;
  }

-- clause k of a list, whatever k is
every_at : {Q : Literal → Type 0} {cs : List Clause} → Every (Every Q) cs → (k : ℕ) → Every Q (get_or cs k [])
every_at none k = none
every_at (more e f) zero = e
every_at (more e f) (suc k) = every_at f k

every_map : {Q R : Literal → Type 0} → ((l : Literal) → Q l → R l) → {c : Clause} → Every Q c → Every R c
every_map f none = none
every_map f (more {x = l} q e) = more (f l q) (every_map f e)

-- every variable of a clause of the output has a name
pub output-ranged : (t : List ℕ) (v : ℕ) (s : List ℕ) → checked t v ≡ accepted_with 0 0 → set_checked (nodes_of t) s ≡ accepted_with 0 0 → (k : ℕ)
    → Ranged (v + rules.renamed_below s (length (nodes_of t))) (get_or (output_of (renaming v s) (nodes_of t)) k [])
output-ranged t v s table set k =
    every_map (λ l o. variable_range t v (renaming v s) table set (omega arith) l.variable o)
    (every_at (output-named (renaming v s) (nodes_of t)) k)

module _ (x : Nodes) (marks s : List ℕ) (l : Lists) (span : Span) where
  abbrev from : ℕ
  from = span.from

  abbrev end : ℕ
  end = span.end

  abbrev v : ℕ
  v = l.options

  abbrev t : List ℕ
  t = x.table.now

  abbrev u : Renaming
  u = renaming v s

  abbrev ns : List Node
  ns = nodes_of t

  abbrev cs : List (List ℕ)
  cs = x.columns.now.clauses

  module _ (w : Tellable x marks s l span) where
    abbrev g : Ground x v marks s
    g = w.ground

    names : names_in x.helpers.now ≡ rules.name_of u
    names = written.names t v marks s x.columns.now g.prepared x.helpers.now g.named

    writable : Writable x
    writable = written.writable x v marks s g.prepared g.named

    -- every variable of the output has a name in the lists
    ranged : (k : ℕ) → Ranged (v + name_count l.helper_list) (get_or (output_of u ns) k [])
    ranged k =
        let size = (right x v marks s g).size in
        subst (λ (n : ℕ). Ranged (v + n) (get_or (output_of u ns) k [])) (ap (rules.renamed_below s) (sym size) ∙ sym w.count)
        (output-ranged t v s g.table g.prepared.settled.set k)

  module _ (start : List ℕ) (pen : Pen) where
    -- the lines up to clause k are put, and clause k stands some clauses behind the beginning of a part
    pub record Telling (y : Voices) (out : List ℕ) (p : Pen) (z : Spot) (k : ℕ) : Type 0 where
      pub tellable : Tellable x marks s l span
      pub inside : Inside s marks cs z.direction z.node
      pub place : start_at s marks cs z.direction z.node + z.number ≡ k
      pub spoken : Spoken (lines_from (named l) u ns from (k - from)) l start pen y out p

    pub telling_start : (y : Voices) → Tellable x marks s l span → lists_of y ≡ l → Known y → Standing pen start
        → Telling y start pen (spot Root (length s - 1) from) from
    unfolding lines_from
    telling_start y w e k h = record {
      tellable = w;
      inside = refl;
      place = zero-add from;
      spoken = spoken_as l (ap (lines_from (named l) u ns from) (sub_self from)) (spoken_nothing l y start pen e k h);
    }

    module _ (y : Voices) (out : List ℕ) (p : Pen) (z : Spot) (k : ℕ) (h : Telling y out p z k) where
      pub telling_sought : k < end → Sought s marks cs z
      telling_sought below =
          let w = h.tellable in
          record {
            some = some-nodes x v marks s w.ground;
            few = omega (arith, (right x v marks s w.ground).size, length-nodes_of t, w.ground.prepared.settled.marked.size.most);
            inside = h.inside;
            below = omega (arith, h.place, w.within, start-end x v marks s w.ground);
          }

      pub telling_end : k ≡ end → Spoken (lines_from (named l) u ns from (end - from)) l start pen y out p
      telling_end e = spoken_as l (ap (λ (n : ℕ). lines_from (named l) u ns from (n - from)) (sym e)) h.spoken

      module _ (i : Spot) (f : Stood s marks cs z i) (low : from ≤ k) (below : k < end) where
        abbrev told : Tellable x marks s l span
        told = h.tellable

        there : start_at s marks cs i.direction i.node + i.number ≡ k
        there = f.same ∙ h.place

        own : (i.number < length (own_list (rules.name_of u) ns i.node (sign_of i.direction)))
            × (length (own_list (rules.name_of u) ns i.node (sign_of i.direction)) < clause_ceiling)
        own = spot-own x v marks s told.ground k i f.inside f.has there

        few : i.node < node_count t
        few = go i.direction i.node f.inside
          where
            size : length s ≡ node_count t
            size = (right x v marks s told.ground).size ∙ length-nodes_of t

            go : (d : Direction) (j : ℕ) → Inside s marks cs d j → j < node_count t
            go Root j e = omega (arith, size, some-nodes x v marks s told.ground)
            go Down j e = omega (arith, size)
            go Up j e = omega (arith, size)

        pub telling_spotted : Spotted x y i out p
        telling_spotted = record {
          start = record {
            writable = writable told;
            inside = few;
            has = subst⁻¹ (λ (m : ℕ → ℕ). i.number < length (own_list m ns i.node (sign_of i.direction))) (names told) own.0;
            short = subst⁻¹ (λ (m : ℕ → ℕ). length (own_list m ns i.node (sign_of i.direction)) < clause_ceiling) (names told) own.1;
          };
          voiced = record {
            known = h.spoken.known;
            ranged = subst⁻¹ (λ (m : Lists). Ranged (m.options + name_count m.helper_list) (spot_clause (names_in x.helpers.now) ns i))
                h.spoken.lists
                (subst⁻¹ (λ (m : ℕ → ℕ). Ranged (v + name_count l.helper_list) (spot_clause m ns i)) (names told)
                (subst (Ranged (v + name_count l.helper_list)) (spot-clause x v marks s told.ground k i f.inside f.has there)
                (ranged told k)));
            standing = spoken_standing l h.spoken;
          };
        }

        pub telling_next : (y2 : Voices) (after : List ℕ) (q : Pen)
            → Spoken (spot_line (names_in x.helpers.now) ns (named (lists_of y)) k i) (lists_of y) out p y2 after q
            → Telling y2 after q (spot i.direction i.node (i.number + 1)) (k + 1)
        unfolding lines_from
        telling_next y2 after q r = record {
          tellable = told;
          inside = f.inside;
          place = omega (arith, there);
          spoken = spoken_as l more-lines (spoken_both l h.spoken
              (spoken_as l same
              (spoken_along l (λ (m : Lists). spot_line (names_in x.helpers.now) ns (named m) k i) y h.spoken.lists r)));
        }
          where
            same : line_of (named l) u ns k ≡ spot_line (names_in x.helpers.now) ns (named l) k i
            same = sym (ap (λ (m : ℕ → ℕ). spot_line m ns (named l) k i) (names told)
                ∙ spot-line x v marks s told.ground k i f.inside f.has there (named l))

            more-lines : lines_from (named l) u ns from (k + 1 - from) ≡ lines_from (named l) u ns from (k - from) ++ line_of (named l) u ns k
            more-lines =
                let e : k + 1 - from ≡ suc (k - from) = omega (arith, low) in
                let j : from + (k - from) ≡ k = omega (arith, low) in
                ap (lines_from (named l) u ns from) e
                ∙ ap (λ (n : ℕ). lines_from (named l) u ns from (k - from) ++ line_of (named l) u ns n) j
