-- The output, collected as truth, is true exactly where the root's clauses are and the halves of every definition.
-- Assumes nothing.
use mathlib.Core.Path.{◌≡◌, refl, sym, subst}
use mathlib.Core.Bool.{Bool, true, false, cond, ◌&&◌, ◌||◌, beq}
use mathlib.Core.List.{List, [], ◌∷◌, ◌++◌}
use mathlib.Core.Logic.{◌↔◌}
use Prim.Native.Nat.{ℕ, zero, suc, ◌-◌, ◌<◌}
use native.Mathlib.Omega.{arith}
use lib.Dec.{T, eqb}
use lib.ListN.{length}
use borrow.Author.Tests.{eqb-true, eqb-false}
use Rattle.laws.specs.Lists.{Every, none, more}
use Rattle.laws.proofs.Every.{every_append, every_left, every_right, every_cond, every_taken, every_head, every_tail, true_of, and_both}
use Rattle.laws.proofs.Every.{and_left, and_right}
use Rattle.marks.specs.Marks.{mark_of, halves_of}
use Rattle.marks.specs.Sets.{renamed}
use Rattle.clausal.specs.Clauses.{helper_of, Renaming, name_of, row_of}
use Rattle.clausal.specs.Output.{Part, down_part, up_part, definition, definitions, parts_of, gather, whole_of}
use Rattle.clausal.specs.Inner.Extended.{truths}
use Rattle.marks.specs.declared.mark.Halves.{Halves}
use Rattle.formula.specs.declared.node.Node.{Node}

module _ (ρ : ℕ → Bool) (u : Renaming) (ns : List Node) where
  -- the definition of node i is true: the half down where the node is positive, the half up where it is negative
  pub record Defines (i : ℕ) : Type 0 where
    pub down : T (mark_of ns i).positive → T (beq false (ρ (helper_of u i)) || (row_of (truths ρ) (name_of u) ns i).P)
    pub up : T (mark_of ns i).negative → T ((row_of (truths ρ) (name_of u) ns i).N || beq true (ρ (helper_of u i)))

  -- the root's clauses are true, and every definition is
  pub record AllTrue : Type 0 where
    pub root : T (row_of (truths ρ) (name_of u) ns (length ns - 1)).P
    pub defines : (i : ℕ) → i < length ns → renamed u.set i ≡ true → Defines i

  abbrev True : Part Bool → Type 0
  True p = T p.content

  abbrev parts : ℕ → List (Part Bool)
  parts i = definition (truths ρ) u ns i

  definition-true : (i : ℕ) → (renamed u.set i ≡ true → Defines i) → Every True (parts i)
  definition-true i d = every_cond (renamed u.set i) λ t.
      let r : Defines i = d (true_of (renamed u.set i) t) in
      every_append
      (every_cond (halves_of (mark_of ns i)).down λ m. more (r.down m) none)
      (every_cond (halves_of (mark_of ns i)).up λ m. more (r.up m) none)

  definition_defines : (i : ℕ) → renamed u.set i ≡ true → Every True (parts i) → Defines i
  definition_defines i e d =
      let h : Halves = halves_of (mark_of ns i) in
      let downs : List (Part Bool) = down_part (truths ρ) u ns i ∷ [] in
      let ups : List (Part Bool) = up_part (truths ρ) u ns i ∷ [] in
      let all = every_taken (renamed u.set i) (cond h.down downs [] ++ cond h.up ups []) (subst T (sym e) tt) d in
      record {
        down = λ m. every_head (every_taken h.down downs m (every_left (cond h.down downs []) (cond h.up ups []) all));
        up = λ m. every_head (every_taken h.up ups m (every_right (cond h.down downs []) (cond h.up ups []) all));
      }

  abbrev parts_below : ℕ → List (Part Bool)
  parts_below n = definitions (truths ρ) u ns n

  definitions-true : (n : ℕ) → ((i : ℕ) → i < n → Every True (parts i)) → Every True (parts_below n)
  unfolding definitions
  definitions-true zero d = none
  definitions-true (suc n) d = every_append (definitions-true n (λ i h. d i (omega arith))) (d n (omega arith))

  definitions-at : (n i : ℕ) → i < n → Every True (parts_below n) → Every True (parts i)
  unfolding definitions
  definitions-at zero i h d = absurd (omega arith)
  definitions-at (suc n) i h d = go (eqb i n) refl (definitions-at n i)
    where
      go : (b : Bool) → eqb i n ≡ b → (i < n → Every True (parts_below n) → Every True (parts i)) → Every True (parts i)
      go true e ih = subst (λ (j : ℕ). Every True (parts j)) (sym (eqb-true i n e)) (every_right (parts_below n) (parts n) d)
      go false e ih =
          let other = eqb-false i n e in
          ih (omega arith) (every_left (parts_below n) (parts n) d)

  gather-true : (b : Bool) (ps : List (Part Bool)) → T b → Every True ps → T (gather (truths ρ) b ps)
  gather-true b [] t none = t
  gather-true b (p ∷ ps) t (more q e) = gather-true (b && p.content) ps (and_both b p.content t q) e

  gather_every : (b : Bool) (ps : List (Part Bool)) → T (gather (truths ρ) b ps) → T b × Every True ps
  gather_every b [] t = (t, none)
  gather_every b (p ∷ ps) t =
      let r = gather_every (b && p.content) ps t in
      (and_left b p.content r.0, more (and_right b p.content r.0) r.1)

  all_of_whole : T (whole_of (truths ρ) u ns) → AllTrue
  all_of_whole t =
      let e = (gather_every true (parts_of (truths ρ) u ns) t).1 in
      record {
        root = every_head e;
        defines = λ i h r. definition_defines i r (definitions-at (length ns) i h (every_tail e));
      }

  whole_of_all : AllTrue → T (whole_of (truths ρ) u ns)
  whole_of_all a =
      let defined = definitions-true (length ns) (λ i h. definition-true i (a.defines i h)) in
      gather-true true (parts_of (truths ρ) u ns) tt (more a.root defined)

  pub whole-true : T (whole_of (truths ρ) u ns) ↔ AllTrue
  whole-true = (all_of_whole, whole_of_all)
