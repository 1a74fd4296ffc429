-- The two loops of the output: over the clauses of a part, and over the nodes with their definitions.
-- Assumes nothing.
use mathlib.Core.Path.{◌≡◌, refl, sym, ap, ◌∙◌}
use mathlib.Core.Bool.{Bool, true, false, cond}
use mathlib.Core.List.{List, [], ◌++◌, map, append-nil}
use Prim.Native.Nat.{ℕ, suc, ◌+◌, ◌-◌, ◌<◌}
use native.Mathlib.Omega.{arith}
use lib.ListN.{length, get_or, length-map, length-append}
use lib.Seq.{take_all}
use borrow.Author.Tests.{ne_eqb}
use denote.Ref.{MutBor}
use Rattle.marks.specs.Inner.Held.{held_at}
use Rattle.marks.specs.Marks.{marks_of, mark_of, halves_of}
use Rattle.formula.specs.Tables.{node_count, nodes_of}
use Rattle.marks.specs.declared.mark.Halves.{Halves}
use Rattle.formula.specs.declared.node.Node.{Node}
use Rattle.marks.proofs.Laws.Held.{held_at-held}
use Rattle.formula.proofs.Laws.Tables.{length-nodes_of}
use Rattle.clausal.specs.Clauses.{Clause, clause_bytes, clauses_bytes}
use Rattle.clausal.specs.Totals.{clause_ceiling}
use Rattle.walk.specs.Inner.Lists.{signed, pair_in, names_in, own_list}
use Rattle.parts.specs.Inner.Parts.{around, half, defined_by, defined_to, all_parts, ClauseDue, PartDue, DefinitionDue, DefinitionsDue}
use Rattle.parts.specs.Inner.Parts.{OutputDue}
use Rattle.walk.specs.Inner.Steps.{way}
use Rattle.walk.specs.Inner.Written.{Fits, Put}
use Rattle.walk.specs.declared.nodes.Nodes.{Nodes}
use Rattle.walk.proofs.Laws.Counts.{own-count}
use Rattle.clausebytes.proofs.Encoded.{clauses_append}
use Rattle.parts.proofs.Laws.Parts.{short-next, fits_next, put_next, first_of, next_of, one_more}
use Rattle.walk.proofs.Laws.Put.{put-nothing, put_as, fits_as, fits-left, fits-right, put_both}

module _ (x : Nodes) where
  abbrev name : ℕ → ℕ
  name = names_in x.helpers.now

  abbrev ns : List Node
  ns = nodes_of x.table.now

  -- a part, clause by clause
  module _ (has : Bool) (n : ℕ) (sign : Bool) (r : MutBor (List ℕ)) (at : ℕ) where
    abbrev list : List Clause
    list = own_list name ns n sign

    abbrev show : Clause → Clause
    show c = around (name n) sign c

    -- k clauses are written
    pub record Writing (next k : ℕ) (m : MutBor (List ℕ)) : Type 0 where
      pub there : has ≡ true
      pub due : PartDue x has n sign r.now at
      pub put : Put (clauses_bytes (first_of show list k)) r at next m

    pub writing_start : has ≡ true → PartDue x has n sign r.now at → Writing at 0 r
    writing_start e d = record { there = e; due = d; put = put-nothing r at }

    module _ (next k : ℕ) (m : MutBor (List ℕ)) (w : Writing next k m) where
      part : first_of show list (length list) ≡ half name ns has n sign
      part =
          ap (map show) (take_all (length list) list (omega arith))
          ∙ ap (λ (b : Bool). half name ns b n sign) (sym w.there)

      short : length list < clause_ceiling
      short = omega (arith, w.due.short, ap length (ap (λ (b : Bool). half name ns b n sign) w.there), length-map list show)

      pub counted : (count : ℕ) → count ≡ signed sign (pair_in x.columns.now.clauses n) → count ≡ length list
      counted count e =
          e
          ∙ own-count ns x.columns.now.clauses x.columns.now.literals x.helpers.now w.due.writable.rows n sign
          ∙ omega (arith, short)

      fits : Fits (clauses_bytes (first_of show list (length list))) r.now at
      fits = fits_as (ap clauses_bytes part) w.due.fits

      alone : clauses_bytes (next_of show list k) ≡ clause_bytes (show (get_or list k []))
      alone = append-nil (clause_bytes (show (get_or list k [])))

      pub writing-next : k < length list → ClauseDue x (way n sign k) m.now next
      writing-next h = record {
        writable = w.due.writable;
        inside = w.due.inside;
        has = h;
        short = short;
        fits = fits_as (sym alone) (fits_next (first_of show list) (next_of show list) (length list) (one_more show list) k h r at
            fits next m w.put);
      }

      pub writing_step : (to : ℕ) (o : MutBor (List ℕ)) → k < length list → Put (clause_bytes (show (get_or list k []))) m next to o
          → Writing to (k + 1) o
      writing_step to o h p = record {
        there = w.there;
        due = w.due;
        put = put_next (first_of show list) (next_of show list) (length list) (one_more show list) k h r at
            fits next m w.put to o (put_as alone p);
      }

      pub writing-end : k ≡ length list → Put (clauses_bytes (half name ns has n sign)) r at next m
      writing-end e = put_as (ap clauses_bytes (sym part) ∙ ap (λ (j : ℕ). clauses_bytes (first_of show list j)) (sym e)) w.put

  -- the definition of a node
  module _ (marks : List ℕ) (n : ℕ) (r : MutBor (List ℕ)) (at : ℕ) (d : DefinitionDue x marks n r.now at) where
    module _ (some : ¬ (name n ≡ 0)) (h : Halves) (e : h ≡ halves_of (held_at marks n)) where
      abbrev down : List Clause
      down = half name ns h.down n true

      abbrev up : List Clause
      up = half name ns h.up n false

      marked : h ≡ halves_of (mark_of ns n)
      marked = e ∙ ap halves_of (ap (λ (l : List ℕ). held_at l n) d.marked.are ∙ held_at-held (marks_of ns) n)

      defined : defined_by name ns n ≡ down ++ up
      defined =
          ap (λ (b : Bool). cond b [] (half name ns (halves_of (mark_of ns n)).down n true ++ half name ns
          (halves_of (mark_of ns n)).up n false)) (ne_eqb (name n) 0 some)
          ∙ ap (λ (y : Halves). half name ns y.down n true ++ half name ns y.up n false) (sym marked)

      bytes : clauses_bytes (defined_by name ns n) ≡ clauses_bytes down ++ clauses_bytes up
      bytes = ap clauses_bytes defined ∙ clauses_append down up

      both : Fits (clauses_bytes down ++ clauses_bytes up) r.now at
      both = fits_as (sym bytes) d.fits

      lengths : length (defined_by name ns n) ≡ length down + length up
      lengths = ap length defined ∙ length-append down up

      pub due_down : PartDue x h.down n true r.now at
      due_down = record {
        writable = d.writable;
        inside = d.inside;
        short = omega (arith, lengths, d.short);
        fits = fits-left (clauses_bytes down) (clauses_bytes up) r at both;
      }

      module _ (next : ℕ) (m : MutBor (List ℕ)) (p : Put (clauses_bytes down) r at next m) where
        pub due_up : PartDue x h.up n false m.now next
        due_up = record {
          writable = d.writable;
          inside = d.inside;
          short = omega (arith, lengths, d.short);
          fits = fits-right (clauses_bytes down) (clauses_bytes up) r at both p;
        }

        pub put_defined : (to : ℕ) (o : MutBor (List ℕ)) → Put (clauses_bytes up) m next to o
            → Put (clauses_bytes (defined_by name ns n)) r at to o
        put_defined to o q = put_as bytes (put_both (clauses_bytes down) (clauses_bytes up) r at both p q)

  -- the definitions, node by node
  module _ (marks : List ℕ) (r : MutBor (List ℕ)) (at : ℕ) where
    -- those of the nodes below i are written
    pub record Defining (i next : ℕ) (m : MutBor (List ℕ)) : Type 0 where
      pub due : DefinitionsDue x marks r.now at
      pub put : Put (clauses_bytes (defined_to name ns i)) r at next m

    more : (i : ℕ) → i < length ns → defined_to name ns (suc i) ≡ defined_to name ns i ++ defined_by name ns i
    unfolding defined_to
    more i h = refl

    pub defining_start : DefinitionsDue x marks r.now at → Defining 0 at r
    unfolding defined_to
    defining_start d = record { due = d; put = put-nothing r at }

    module _ (i next : ℕ) (m : MutBor (List ℕ)) (w : Defining i next m) where
      pub defining_next : i < length ns → DefinitionDue x marks i m.now next
      defining_next h = record {
        writable = w.due.writable;
        marked = w.due.marked;
        inside = omega (arith, length-nodes_of x.table.now);
        short = short-next (defined_to name ns) (defined_by name ns) (length ns) more i h clause_ceiling w.due.short;
        fits = fits_next (defined_to name ns) (defined_by name ns) (length ns) more i h r at w.due.fits next m w.put;
      }

      pub defining_step : (to : ℕ) (o : MutBor (List ℕ)) → i < length ns → Put (clauses_bytes (defined_by name ns i)) m next to o
          → Defining (i + 1) to o
      defining_step to o h p = record {
        due = w.due;
        put = put_next (defined_to name ns) (defined_by name ns) (length ns) more i h r at w.due.fits next m w.put to o p;
      }

      pub defining_end : i ≡ length ns → Put (clauses_bytes (defined_to name ns (length ns))) r at next m
      defining_end e =
          put_as (ap (λ (k : ℕ). clauses_bytes (defined_to name ns k)) (sym e)) w.put

  -- the output: the root part, then the definitions
  module _ (marks : List ℕ) (r : MutBor (List ℕ)) (d : OutputDue x marks r.now) where
    abbrev root : List Clause
    root = half name ns true (node_count x.table.now - 1) true

    abbrev rest : List Clause
    rest = defined_to name ns (length ns)

    parts : all_parts name ns ≡ root ++ rest
    parts = ap (λ (k : ℕ). half name ns true (k - 1) true ++ rest) (length-nodes_of x.table.now)

    bytes_parts : clauses_bytes (all_parts name ns) ≡ clauses_bytes root ++ clauses_bytes rest
    bytes_parts = ap clauses_bytes parts ∙ clauses_append root rest

    room : Fits (clauses_bytes root ++ clauses_bytes rest) r.now 0
    room = fits_as (sym bytes_parts) d.fits

    sum : length (all_parts name ns) ≡ length root + length rest
    sum = ap length parts ∙ length-append root rest

    pub due_root : PartDue x true (node_count x.table.now - 1) true r.now 0
    due_root = record {
      writable = d.writable;
      inside = omega (arith, d.marked.size.some);
      short = omega (arith, sum, d.short);
      fits = fits-left (clauses_bytes root) (clauses_bytes rest) r 0 room;
    }

    module _ (next : ℕ) (m : MutBor (List ℕ)) (p : Put (clauses_bytes root) r 0 next m) where
      pub due_rest : DefinitionsDue x marks m.now next
      due_rest = record {
        writable = d.writable;
        marked = d.marked;
        short = omega (arith, sum, d.short);
        fits = fits-right (clauses_bytes root) (clauses_bytes rest) r 0 room p;
      }

      pub put_all : (to : ℕ) (o : MutBor (List ℕ)) → Put (clauses_bytes rest) m next to o → Put (clauses_bytes (all_parts name ns)) r 0 to o
      put_all to o q = put_as bytes_parts (put_both (clauses_bytes root) (clauses_bytes rest) r 0 room p q)
