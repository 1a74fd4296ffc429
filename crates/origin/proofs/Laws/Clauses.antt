-- A clause put literal by literal: a node's own list, and what stands around it.
-- Assumes nothing.
use mathlib.Core.Path.{◌≡◌, refl, sym, ap, ◌∙◌, subst, subst⁻¹}
use mathlib.Core.Bool.{Bool, true, false, not}
use mathlib.Core.List.{List, [], ◌∷◌, ◌++◌, append_assoc, append-nil}
use Prim.Native.Nat.{ℕ, ◌+◌, ◌<◌}
use native.Mathlib.Omega.{arith}
use lib.ListN.{length}
use Rattle.std.specs.Prelude.{Option, Some, None}
use Rattle.laws.specs.Lists.{none, more}
use Rattle.laws.proofs.Every.{every_left, every_right, every_head, every_tail}
use Rattle.formula.specs.Tables.{nodes_of}
use Rattle.formula.specs.declared.node.Node.{Node}
use Rattle.names.specs.Inner.Notes.{name_count}
use Rattle.names.specs.declared.lookup.Voices.{Voices}
use Rattle.clausal.specs.Clauses.{Clause}
use Rattle.walk.specs.Inner.Lists.{names_in, own_clause}
use Rattle.walk.specs.Inner.Steps.{way}
use Rattle.walk.specs.declared.nodes.Nodes.{Nodes}
use Rattle.parts.specs.Inner.Parts.{helper_literal, around}
use Rattle.origin.specs.Inner.Grounds.{spot_clause}
use Rattle.origin.specs.Inner.Lines.{literals_text, Ranged, Lists, lists_of, named, Voiced, Spoken, Spotted}
use Rattle.origin.specs.Inner.Spots.{sign_of}
use Rattle.origin.specs.Inner.Ways.{waiting_of, as_literal, Parts, FirstOf}
use Rattle.origin.specs.declared.literal.Literal.{Literal}
use Rattle.origin.specs.declared.literal.Ways.{Ways}
use Rattle.origin.specs.declared.part.Spot.{Spot}
use Rattle.origin.specs.declared.pen.Pen.{Pen}
use Rattle.origin.proofs.Laws.Spoken.{spoken_nothing, spoken_as, spoken_along, spoken_more, spoken_standing}

-- how many names there are
abbrev most : Lists → ℕ
most l = l.options + name_count l.helper_list

-- names of a clause, by lists that stayed the same
ranged_as : (c : Clause) (x : Voices) {l : Lists} → lists_of x ≡ l → Ranged (most l) c → Ranged (x.options + name_count x.helper_names.list.now) c
ranged_as c x e r = subst⁻¹ (λ (m : Lists). Ranged (most m) c) e r

module _ (x : Nodes) where
  -- how many literals are still to come
  abbrev pub literals_left : Option Literal → Ways → ℕ
  literals_left None w = 0
  literals_left (Some f) w = length (waiting_of x w) + 1

  -- a walk through a clause: some literals are put, and the first of the rest is found
  module _ (l : Lists) (whole : Clause) (start : List ℕ) (pen : Pen) where
    pub record Saying (y : Voices) (out : List ℕ) (ways : Ways) (p : Pen) (f : Option Literal) : Type 0 where
      pub done : Clause
      pub rest : Clause
      pub split : whole ≡ done ++ rest
      pub first : FirstOf x rest f ways
      pub spoken : Spoken (literals_text (named l) done) l start pen y out p
      pub ranged : Ranged (most l) rest

    module _ (y : Voices) (out : List ℕ) (ways : Ways) (p : Pen) (f : Option Literal) (s : Saying y out ways p f) where
      pub saying_end : f ≡ None → Spoken (literals_text (named l) whole) l start pen y out p
      saying_end e =
          let empty : s.rest ≡ [] = subst (λ (g : Option Literal). Parts s.rest g (waiting_of x ways)) e s.first.clause in
          spoken_as l (ap (literals_text (named l)) (s.split ∙ ap (λ (c : Clause). s.done ++ c) empty ∙ append-nil s.done)) s.spoken

      -- a literal is found
      module _ (g : Literal) (e : f ≡ Some g) where
        here : s.rest ≡ as_literal g ∷ waiting_of x ways
        here = (subst (λ (h : Option Literal). Parts s.rest h (waiting_of x ways)) e s.first.clause).1

        all : Ranged (most l) (as_literal g ∷ waiting_of x ways)
        all = subst (Ranged (most l)) here s.ranged

        pub saying_voiced : Voiced y (as_literal g ∷ []) out p
        saying_voiced = record {
          known = s.spoken.known;
          ranged = ranged_as (as_literal g ∷ []) y s.spoken.lists (more (every_head all) none);
          standing = spoken_standing l s.spoken;
        }

        module _ (turned : Ways) (h : Option Literal) (r : FirstOf x (waiting_of x ways) h turned) where
          pub saying_next : (z : Voices) (after : List ℕ) (q : Pen)
              → Spoken (literals_text (named (lists_of y)) (as_literal g ∷ [])) (lists_of y) out p z after q → Saying z after turned q h
          saying_next z after q said = record {
            done = s.done ++ (as_literal g ∷ []);
            rest = waiting_of x ways;
            split = s.split ∙ ap (λ (c : Clause). s.done ++ c) here ∙ sym (append_assoc s.done (as_literal g ∷ []) (waiting_of x ways));
            first = r;
            spoken = spoken_more l s.done (as_literal g ∷ []) s.spoken
                (spoken_along l (λ (m : Lists). literals_text (named m) (as_literal g ∷ [])) y s.spoken.lists said);
            ranged = every_tail all;
          }

          pub saying_less : literals_left h turned < literals_left f ways
          saying_less = subst⁻¹ (λ (k : Option Literal). literals_left h turned < literals_left k ways) e (go h r)
            where
              go : (k : Option Literal) → FirstOf x (waiting_of x ways) k turned → literals_left k turned < literals_left (Some g) ways
              go None r = omega arith
              go (Some k) r = omega (arith, ap length r.clause.1)

  pub saying_start : (whole : Clause) (start : List ℕ) (pen : Pen) (y : Voices) (ways : Ways) (f : Option Literal)
      → Voiced y whole start pen → FirstOf x whole f ways → Saying (lists_of y) whole start pen y start ways pen f
  saying_start whole start pen y ways f w r = record {
    done = [];
    rest = whole;
    split = refl;
    first = r;
    spoken = spoken_nothing (lists_of y) y start pen refl w.known w.standing;
    ranged = w.ranged;
  }

  -- a clause of a part: the literal of the helper in front, or behind
  module _ (y : Voices) (out : List ℕ) (z : Spot) (p : Pen) (w : Spotted x y z out p) (sign : Bool) (e : sign ≡ sign_of z.direction) where
    abbrev name : ℕ → ℕ
    name = names_in x.helpers.now

    abbrev ns : List Node
    ns = nodes_of x.table.now

    abbrev l : Lists
    l = lists_of y

    abbrev shown : Clause → Lists → List ℕ
    shown c m = literals_text (named m) c

    abbrev front : Clause
    front = helper_literal sign false (name z.node)

    abbrev own : Clause
    own = own_clause x (way z.node sign z.number)

    abbrev behind : Clause
    behind = helper_literal (not sign) true (name z.node)

    same : spot_clause name ns z ≡ front ++ (own ++ behind)
    same = sym (ap (λ (b : Bool). around (name z.node) b (own_clause x (way z.node b z.number))) e)

    ranged : Ranged (most l) (front ++ (own ++ behind))
    ranged = subst (Ranged (most l)) same w.voiced.ranged

    pub front_voiced : Voiced y front out p
    front_voiced = record {
      known = w.voiced.known;
      ranged = every_left front (own ++ behind) ranged;
      standing = w.voiced.standing;
    }

    module _ (y2 : Voices) (mid : List ℕ) (q : Pen) (s : Spoken (shown front l) l out p y2 mid q) where
      pub own-voiced : Voiced y2 own mid q
      own-voiced = record {
        known = s.known;
        ranged = ranged_as own y2 s.lists (every_left own behind (every_right front (own ++ behind) ranged));
        standing = spoken_standing l s;
      }

      module _ (y3 : Voices) (last : List ℕ) (r : Pen) (f : Spoken (shown own (lists_of y2)) (lists_of y2) mid q y3 last r) where
        lists : lists_of y3 ≡ l
        lists = f.lists ∙ s.lists

        pub behind-voiced : Voiced y3 behind last r
        behind-voiced = record {
          known = f.known;
          ranged = ranged_as behind y3 lists (every_right own behind (every_right front (own ++ behind) ranged));
          standing = spoken_standing (lists_of y2) f;
        }

        pub clause_spoken : (y4 : Voices) (after : List ℕ) (t : Pen)
            → Spoken (shown behind (lists_of y3)) (lists_of y3) last r y4 after t
            → Spoken (shown (spot_clause name ns z) l) l out p y4 after t
        clause_spoken y4 after t g =
            spoken_as l (ap (λ (c : Clause). shown c l) same)
            (spoken_more l front (own ++ behind) s
            (spoken_more l own behind (spoken_along l (shown own) y2 s.lists f) (spoken_along l (shown behind) y3 lists g)))
