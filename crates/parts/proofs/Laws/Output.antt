-- The parts as they are written, by the names that an array of helpers gives, are the output of the rules.
-- Assumes nothing.
use mathlib.Core.Path.{◌≡◌, refl, sym, ap, ◌∙◌}
use mathlib.Core.Bool.{Bool, true, false, cond, not, ◌&&◌, ◌||◌}
use mathlib.Core.List.{List, [], ◌∷◌, ◌++◌, map, append_assoc, append-nil}
use Prim.Native.Nat.{ℕ, zero, suc, ◌-◌, ◌<◌}
use native.Mathlib.Decide.{dec_lt}
use native.Mathlib.Omega.{arith}
use lib.Dec.{eqb}
use lib.ListN.{length, get_or, get_or-eq_default}
use borrow.Author.Tests.{eq-eqb, eqb-true}
use Rattle.laws.specs.Lists.{up_to}
use Rattle.laws.proofs.Arrays.{get_d_pad}
use Rattle.laws.proofs.Upward.{length-up_to, get_d_up_to}
use Rattle.formula.specs.Tables.{most_nodes, node_in}
use Rattle.marks.specs.Marks.{mark_of, halves_of}
use Rattle.marks.specs.Sets.{renamed, operator, reached, may_rename, byte_right}
use Rattle.formula.specs.declared.node.Node.{Node}
use Rattle.marks.proofs.Laws.Sets.{RightSet}
use Rattle.clausal.specs.Places.{contents_of}
use Rattle.clausal.specs.Clauses.{clauses, join_all, Literal, Clause, Renaming, helper_of, name_of}
use Rattle.clausal.specs.Output.{Part, root_part, down_part, up_part, definition, definitions, output_of}
use Rattle.clausal.proofs.Places.{output_contents}
use Rattle.clausal.proofs.Helpers.{helper-some, name-renamed, name-plain}
use Rattle.parts.specs.Inner.Helpers.{helpers_of}
use Rattle.walk.specs.Inner.Lists.{names_in, own_list}
use Rattle.parts.specs.Inner.Parts.{around, part_of, half, defined_by, defined_to, all_parts}

-- R5.3, R5.4
abbrev literal : Bool → ℕ → Literal
literal plain x = record { plain = plain; variable = x }

down-join : (l : Literal) (cs : List Clause) → map (λ c. (l ∷ []) ++ (c ++ [])) cs ≡ join_all ((l ∷ []) ∷ []) cs
down-join l cs = go cs ∙ sym (append-nil (map (λ d. (l ∷ []) ++ d) cs))
  where
    go : (cs : List Clause) → map (λ c. (l ∷ []) ++ (c ++ [])) cs ≡ map (λ d. (l ∷ []) ++ d) cs
    go [] = refl
    go (c ∷ cs) = λ i. (l ∷ append-nil c i) ∷ go cs i

up-join : (l : Literal) (cs : List Clause) → map (λ c. c ++ (l ∷ [])) cs ≡ join_all cs ((l ∷ []) ∷ [])
up-join l [] = refl
up-join l (c ∷ cs) = ap (λ (r : List Clause). (c ++ (l ∷ [])) ∷ r) (up-join l cs)

alone : (cs : List Clause) → map (λ c. c ++ []) cs ≡ cs
alone [] = refl
alone (c ∷ cs) = λ i. append-nil c i ∷ alone cs i

pub contents_append : (ps qs : List (Part (List Clause))) → contents_of (ps ++ qs) ≡ contents_of ps ++ contents_of qs
contents_append [] qs = refl
contents_append (p ∷ ps) qs =
    ap (λ (r : List Clause). p.content ++ r) (contents_append ps qs) ∙ sym (append_assoc p.content (contents_of ps) (contents_of qs))

module _ (u : Renaming) (ns : List Node) where
  -- the root's clauses stand alone
  pub root-written : renamed u.set (length ns - 1) ≡ false → part_of (name_of u) ns (length ns - 1) true ≡ (root_part clauses u ns).content
  root-written e =
      ap (λ (h : ℕ). map (around h true) (own_list (name_of u) ns (length ns - 1) true)) (name-plain u (length ns - 1) e)
      ∙ alone (own_list (name_of u) ns (length ns - 1) true)

  module _ (i : ℕ) (e : renamed u.set i ≡ true) where
    -- a helper is no 0
    helped : (sign : Bool) → part_of (name_of u) ns i sign ≡ map (around (helper_of u i) sign) (own_list (name_of u) ns i sign)
    helped sign = ap (λ (h : ℕ). map (around h sign) (own_list (name_of u) ns i sign)) (name-renamed u i e)

    pub down-written : part_of (name_of u) ns i true ≡ (down_part clauses u ns i).content
    down-written =
        helped true
        ∙ ap (λ (b : Bool). map (λ c. cond b [] (literal false (helper_of u i) ∷ []) ++ (c ++ [])) (own_list (name_of u) ns i true))
        (helper-some u i)
        ∙ down-join (literal false (helper_of u i)) (own_list (name_of u) ns i true)

    pub up-written : part_of (name_of u) ns i false ≡ (up_part clauses u ns i).content
    up-written =
        helped false
        ∙ ap (λ (b : Bool). map (λ c. c ++ cond b [] (literal true (helper_of u i) ∷ [])) (own_list (name_of u) ns i false)) (helper-some u i)
        ∙ up-join (literal true (helper_of u i)) (own_list (name_of u) ns i false)

  defined : (i : ℕ) → defined_by (name_of u) ns i ≡ contents_of (definition clauses u ns i)
  defined i = go (renamed u.set i) refl
    where
      halves : (d p : Bool) → renamed u.set i ≡ true
          → half (name_of u) ns d i true ++ half (name_of u) ns p i false
          ≡ contents_of (cond d (down_part clauses u ns i ∷ []) [] ++ cond p (up_part clauses u ns i ∷ []) [])
      halves true true e = λ j. down-written i e j ++ (up-written i e ∙ sym (append-nil (up_part clauses u ns i).content)) j
      halves true false e = λ j. down-written i e j ++ []
      halves false true e = up-written i e ∙ sym (append-nil (up_part clauses u ns i).content)
      halves false false e = refl

      go : (b : Bool) → renamed u.set i ≡ b → defined_by (name_of u) ns i
          ≡ contents_of (cond b (cond (halves_of (mark_of ns i)).down (down_part clauses u ns i ∷ []) [] ++ cond (halves_of (mark_of ns i)).up
          (up_part clauses u ns i ∷ []) []) [])
      go true e =
          ap (λ (b : Bool). cond b [] (half (name_of u) ns (halves_of (mark_of ns i)).down i true ++ half (name_of u) ns
          (halves_of (mark_of ns i)).up i false))
          (ap (λ (h : ℕ). eqb h 0) (name-renamed u i e) ∙ helper-some u i)
          ∙ halves (halves_of (mark_of ns i)).down (halves_of (mark_of ns i)).up e
      go false e =
          ap (λ (b : Bool). cond b [] (half (name_of u) ns (halves_of (mark_of ns i)).down i true ++ half (name_of u) ns
          (halves_of (mark_of ns i)).up i false))
          (eq-eqb (name_of u i) 0 (name-plain u i e))

  defined_to_lem : (n : ℕ) → defined_to (name_of u) ns n ≡ contents_of (definitions clauses u ns n)
  unfolding defined_to definitions
  defined_to_lem zero = refl
  defined_to_lem (suc n) =
      (λ j. defined_to_lem n j ++ defined n j) ∙ sym (contents_append (definitions clauses u ns n) (definition clauses u ns n))

  -- all parts, for a root that is not renamed
  pub written-output : renamed u.set (length ns - 1) ≡ false → all_parts (name_of u) ns ≡ output_of u ns
  written-output e = (λ j. root-written e j ++ defined_to_lem (length ns) j) ∙ sym (output_contents u ns)

  -- the root of a right set is not renamed
  pub root-plain : RightSet ns u.set → 0 < length ns → renamed u.set (length ns - 1) ≡ false
  root-plain r h = go (renamed u.set (length ns - 1)) refl
    where
      last : suc (length ns - 1) ≡ length ns
      last = omega arith

      and-false : (x : Bool) → (x && false) ≡ false
      and-false true = refl
      and-false false = refl

      may_not : may_rename ns (length ns - 1) ≡ false
      may_not =
          ap (λ (b : Bool). operator (node_in ns (length ns - 1)).kind && (reached (mark_of ns (length ns - 1)) && not b)) (eq-eqb _ _ last)
          ∙ ap (λ (b : Bool). operator (node_in ns (length ns - 1)).kind && b) (and-false (reached (mark_of ns (length ns - 1))))
          ∙ and-false (operator (node_in ns (length ns - 1)).kind)

      go : (b : Bool) → renamed u.set (length ns - 1) ≡ b → renamed u.set (length ns - 1) ≡ false
      go false e = e
      go true e =
          let one : get_or u.set (length ns - 1) 0 ≡ 1 = eqb-true _ _ e in
          let wrong : byte_right ns u.set (length ns - 1) ≡ false =
          (λ j. eqb (one j) 0 || (renamed u.set (length ns - 1) && may_not j)) ∙ and-false (renamed u.set (length ns - 1)) in
          let right = r.bytes (length ns - 1) (omega arith) in
          let z : ◌≡◌ {A = ℕ} 0 1 = cc in
          absurd (omega arith)

  -- an array of helpers gives the names
  pub names-are : (helpers : List ℕ) → helpers ≡ helpers_of u (length ns) → length u.set ≡ length ns → names_in helpers ≡ name_of u
  names-are helpers e size = λ j i. at i j
    where
      at : (i : ℕ) → names_in helpers i ≡ name_of u i
      at i = ap (λ (l : List ℕ). get_or l i 0) e ∙ get_d_pad 0 most_nodes (up_to (λ before k. name_of u k) (length ns)) i ∙ go
          (dec_lt i (length ns))
        where
          go : Dec (i < length ns) → get_or (up_to (λ before k. name_of u k) (length ns)) i 0 ≡ name_of u i
          go (yes h) = get_d_up_to (λ before k. name_of u k) 0 i (length ns) h
          go (no h) =
              let past : renamed u.set i ≡ false = ap (λ (b : ℕ). eqb b 1) (get_or-eq_default u.set 0 (omega arith)) in
              get_or-eq_default (up_to (λ before k. name_of u k) (length ns)) 0
              (omega (arith, length-up_to (λ before k. name_of u k) (length ns)))
              ∙ sym (name-plain u i past)
