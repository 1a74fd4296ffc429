-- The writer of a clause: what it may write next, and what it leaves, from what its calls leave.
-- Assumes nothing.
use mathlib.Core.Path.{◌≡◌, sym, ap, ◌∙◌, subst}
use mathlib.Core.Logic.{◌⊎◌}
use mathlib.Core.Bool.{Bool, true, false, cond}
use mathlib.Core.List.{List, [], ◌∷◌, ◌++◌}
use Prim.Native.Nat.{ℕ, ◌+◌, ◌<◌, ◌≤◌}
use native.Mathlib.Omega.{arith}
use lib.ListN.{length, get_or}
use borrow.Author.Tests.{eq-eqb, ne_eqb}
use denote.Ref.{MutBor, at_last}
use Rattle.laws.specs.Lists.{splice}
use Rattle.laws.specs.Numbers.{little}
use Rattle.laws.proofs.Bytes.{length-little}
use Rattle.formula.specs.Tables.{node_at, nodes_of}
use Rattle.formula.specs.declared.node.Node.{Node}
use Rattle.clausal.specs.Clauses.{Row, clauses, unit_row, Literal, Clause, word_of, literal_bytes, row_of}
use Rattle.walk.specs.Inner.Lists.{signed, names_in, own_list, own_at, own_clause, seen_list, seen_at, seen_clause, shown_all}
use Rattle.walk.specs.Inner.Packed.{step_of, Led}
use Rattle.walk.specs.Inner.Steps.{Leadable, Lower, LeadsTo, lead_step}
use Rattle.walk.specs.Inner.Written.{Fits, Due, Put}
use Rattle.walk.specs.declared.nodes.Nodes.{Nodes}
use Rattle.walk.specs.declared.step.Step.TheVariants.{Left, Right}
use Rattle.walk.specs.declared.step.Step.{Step}
use Rattle.walk.specs.declared.step.Way.{Way}
use Rattle.walk.proofs.Laws.Leads.{walkable, leads, one-child, only}
use Rattle.walk.proofs.Laws.Put.{put-nothing, put-run, put_as, fits_as, fits-left, fits-right, put_both, shown_append, shown-one}

-- a literal as the only one of a clause: four bytes
module _ (c : Clause) (l : Literal) (e : c ≡ l ∷ []) where
  abbrev word : ℕ
  word = word_of l.plain l.variable

  bytes : shown_all literal_bytes c ≡ little 4 word
  bytes = ap (shown_all literal_bytes) e ∙ shown-one literal_bytes l

  pub literal-room : (out : List ℕ) (at : ℕ) → Fits (shown_all literal_bytes c) out at → at + 4 ≤ length out
  literal-room out at f = omega (arith, ap length bytes, length-little 4 word, f.room)

  pub literal-put : (r : MutBor (List ℕ)) (at w : ℕ) (after : List ℕ) → w ≡ word → after ≡ splice r.now at (little 4 w)
      → Put (shown_all literal_bytes c) r at (at + 4) (at_last r after)
  literal-put r at w after f g =
      put_as bytes (put-run (little 4 word) r at (at + 4) after (ap (λ (k : ℕ). at + k) (sym (length-little 4 word)))
      (g ∙ ap (λ (x : ℕ). splice r.now at (little 4 x)) f))

-- a node as it is seen as a child: its helper's literal, or its own list
module _ (name : ℕ → ℕ) (ns : List Node) (n : ℕ) where
  shows : Bool → Row (List Clause)
  shows b = cond b (row_of clauses name ns n) (unit_row clauses (name n))

  pub seen-own : (sign : Bool) → name n ≡ 0 → seen_list name ns n sign ≡ own_list name ns n sign
  unfolding shows
  seen-own sign e = ap (λ (b : Bool). signed sign (shows b)) (eq-eqb (name n) 0 e)

  pub seen-helper : (sign : Bool) (k : ℕ) → ¬ (name n ≡ 0) → k < length (seen_list name ns n sign)
      → get_or (seen_list name ns n sign) k [] ≡ record { plain = sign; variable = name n } ∷ []
  unfolding shows
  seen-helper sign k d h =
      let e = ne_eqb (name n) 0 d in
      ap (λ (b : Bool). get_or (signed sign (shows b)) k []) e ∙ go sign (subst (λ (b : Bool). k < length (signed sign (shows b))) e h)
    where
      go : (z : Bool) → k < length (signed z (unit_row clauses (name n))) → get_or (signed z (unit_row clauses (name n))) k []
          ≡ record { plain = z; variable = name n } ∷ []
      go true g = only (record { plain = true; variable = name n } ∷ []) k g
      go false g = only (record { plain = false; variable = name n } ∷ []) k g

module _ (x : Nodes) (w : Way) (r : MutBor (List ℕ)) (at : ℕ) where
  abbrev name : ℕ → ℕ
  name = names_in x.helpers.now

  abbrev ns : List Node
  ns = nodes_of x.table.now

  -- a clause of its own list
  module _ (d : Due x (own_at x w.node w.sign) w r.now at) where
    abbrev clause : Clause
    clause = own_clause x w

    pub due_lead : Leadable x.table.now w.node
    due_lead = record {
      size = d.writable.right.size;
      inside = d.inside;
      walkable = walkable x d.writable w.node d.inside;
    }

    -- what the step of a number says
    pub due_leads : (step : Step) (code : ℕ) → step ≡ step_of code
        → Led (lead_step (node_at x.table.now w.node) x.columns.now.clauses x.columns.now.literals x.helpers.now w.node w.sign w.k) code
        → LeadsTo name ns w.node w.sign clause step
    due_leads step code e f = leads x d.writable w.node d.inside w.sign w.k step d.has d.short (e ∙ f.back)

    pub due_child : (step : Step) (code : ℕ) (v : Way) → (step ≡ Left v) ⊎ (step ≡ Right v) → step ≡ step_of code
        → Led (lead_step (node_at x.table.now w.node) x.columns.now.clauses x.columns.now.literals x.helpers.now w.node w.sign w.k) code
        → Lower name ns w.node v × (clause ≡ seen_clause x v)
    due_child step code v s e f = one-child name ns w.node w.sign clause step v s (due_leads step code e f)

    -- a child's clause may be written where there is room
    pub due_lower : (v : Way) (o : MutBor (List ℕ)) (next : ℕ) → Lower name ns w.node v
        → Fits (shown_all literal_bytes (seen_clause x v)) o.now next → Due x (seen_at x v.node v.sign) v o.now next
    due_lower v o next l fits = record {
      writable = d.writable;
      inside = omega (arith, l.before, d.inside);
      has = l.has;
      short = l.short;
      fits = fits;
    }

    pub put-none : clause ≡ [] → Put (shown_all literal_bytes clause) r at at r
    put-none e = put_as (ap (shown_all literal_bytes) e) (put-nothing r at)

    -- one child's clause
    module _ (v : Way) (l : Lower name ns w.node v) (e : clause ≡ seen_clause x v) where
      pub due_one : Due x (seen_at x v.node v.sign) v r.now at
      due_one = due_lower v r at l (fits_as (ap (shown_all literal_bytes) (sym e)) d.fits)

      pub put_one : (next : ℕ) (o : MutBor (List ℕ)) → Put (shown_all literal_bytes (seen_clause x v)) r at next o
          → Put (shown_all literal_bytes clause) r at next o
      put_one next o p = put_as (ap (shown_all literal_bytes) e) p

    -- a clause of each child
    module _ (u v : Way) (l : Lower name ns w.node u) (m : Lower name ns w.node v) (e : clause ≡ seen_clause x u ++ seen_clause x v) where
      abbrev left : List ℕ
      left = shown_all literal_bytes (seen_clause x u)

      abbrev right : List ℕ
      right = shown_all literal_bytes (seen_clause x v)

      both : shown_all literal_bytes clause ≡ left ++ right
      both = ap (shown_all literal_bytes) e ∙ shown_append literal_bytes (seen_clause x u) (seen_clause x v)

      fits : Fits (left ++ right) r.now at
      fits = fits_as (sym both) d.fits

      pub due_left : Due x (seen_at x u.node u.sign) u r.now at
      due_left = due_lower u r at l (fits-left left right r at fits)

      module _ (next : ℕ) (o : MutBor (List ℕ)) (p : Put left r at next o) where
        pub due_right : Due x (seen_at x v.node v.sign) v o.now next
        due_right = due_lower v o next m (fits-right left right r at fits p)

        pub put_two : (last : ℕ) (q : MutBor (List ℕ)) → Put right o next last q → Put (shown_all literal_bytes clause) r at last q
        put_two last q f = put_as both (put_both left right r at fits p f)
