-- R19.16, R19.17: the clause that a line speaks of is clause k, and no other origin, direction and number gives k.
-- Assumes nothing.
use mathlib.Core.Path.{◌≡◌, refl, sym, ap, ◌∙◌, subst}
use mathlib.Core.Bool.{Bool, true, false, cond}
use mathlib.Core.List.{List, [], ◌∷◌, ◌++◌}
use Prim.Native.Nat.{ℕ, zero, suc, ◌+◌, ◌*◌, ◌≤◌, ◌<◌}
use native.Mathlib.Omega.{arith}
use lib.ListN.{length, get_or}
use Rattle.formula.specs.declared.node.Node.{Node}
use Rattle.marks.specs.Marks.{mark_of, halves_of}
use Rattle.marks.specs.Sets.{renamed}
use Rattle.clausal.specs.Clauses.{clauses, Clause, Renaming}
use Rattle.clausal.specs.Output.{Direction, root, down, up, Part, down_part, up_part, definition, definitions, parts_of, output_of}
use Rattle.clausal.specs.Places.{Place, place_in, start_of, counts_of, Stands}
use Rattle.clausal.proofs.Places.{stands-only, output-stands, clause-at, output_contents}
use Rattle.origin.specs.Origins.{part_in, source_of, Comes}

-- parts rise: the root part, then down and up of each node
abbrev rank_by : Direction → ℕ → ℕ
rank_by root i = 1
rank_by down i = 2 * i + 2
rank_by up i = 2 * i + 3

abbrev rank : Part (List Clause) → ℕ
rank p = rank_by p.direction p.origin

-- ranks rise strictly, above `low` and up to `high`
abbrev Rising : ℕ → ℕ → List (Part (List Clause)) → Type 0
Rising low high [] = low ≤ high
Rising low high (p ∷ ps) = (low < rank p) × Rising (rank p) high ps

rising_lower : (a b c : ℕ) (ps : List (Part (List Clause))) → a ≤ b → Rising b c ps → Rising a c ps
rising_lower a b c [] h r = omega arith
rising_lower a b c (p ∷ ps) h r = (omega arith, r.1)

rising_append : (a b c : ℕ) (ps qs : List (Part (List Clause))) → Rising a b ps → Rising b c qs → Rising a c (ps ++ qs)
rising_append a b c [] qs r s = rising_lower a b c qs r s
rising_append a b c (p ∷ ps) qs r s = (r.0, rising_append (rank p) b c ps qs r.1 s)

rising_above : (a c : ℕ) (ps : List (Part (List Clause))) → Rising a c ps → (j : ℕ) → j < length ps → a < rank (part_in ps j)
rising_above a c [] r j h = absurd (omega arith)
rising_above a c (p ∷ ps) r zero h = r.0
rising_above a c (p ∷ ps) r (suc j) h = let below = rising_above (rank p) c ps r.1 j (omega arith) in omega arith

-- so a part is known by its rank
rising_one : (a c : ℕ) (ps : List (Part (List Clause))) → Rising a c ps → (i j : ℕ) → i < length ps → j < length ps
    → rank (part_in ps i) ≡ rank (part_in ps j) → i ≡ j
rising_one a c [] r i j g f e = absurd (omega arith)
rising_one a c (p ∷ ps) r zero zero g f e = refl
rising_one a c (p ∷ ps) r zero (suc j) g f e =
    let above = rising_above (rank p) c ps r.1 j (omega arith) in absurd (omega arith)
rising_one a c (p ∷ ps) r (suc i) zero g f e =
    let above = rising_above (rank p) c ps r.1 i (omega arith) in absurd (omega arith)
rising_one a c (p ∷ ps) r (suc i) (suc j) g f e = ap suc (rising_one (rank p) c ps r.1 i j (omega arith) (omega arith) e)

module _ (u : Renaming) (ns : List Node) where
  abbrev parts : List (Part (List Clause))
  parts = parts_of clauses u ns

  definition_rises : (i : ℕ) → Rising (2 * i + 1) (2 * i + 3) (definition clauses u ns i)
  definition_rises i = go (renamed u.set i) (halves_of (mark_of ns i)).down (halves_of (mark_of ns i)).up
    where
      go : (b d p : Bool) → Rising (2 * i + 1) (2 * i + 3)
          (cond b (cond d (down_part clauses u ns i ∷ []) [] ++ cond p (up_part clauses u ns i ∷ []) []) [])
      go false d p = omega arith
      go true false false = omega arith
      go true false true = (omega arith, omega arith)
      go true true false = (omega arith, omega arith)
      go true true true = (omega arith, (omega arith, omega arith))

  definitions_rise : (n : ℕ) → Rising 1 (2 * n + 1) (definitions clauses u ns n)
  unfolding definitions
  definitions_rise zero = omega arith
  definitions_rise (suc n) =
      let e : 2 * n + 3 ≡ 2 * suc n + 1 = omega arith in
      subst (λ (c : ℕ). Rising 1 c (definitions clauses u ns n ++ definition clauses u ns n)) e
      (rising_append 1 (2 * n + 1) (2 * n + 3) (definitions clauses u ns n) (definition clauses u ns n) (definitions_rise n)
      (definition_rises n))

  parts_rise : Rising 0 (2 * length ns + 1) parts
  parts_rise = (omega arith, definitions_rise (length ns))

  -- R19.17: a part is known by its origin and its direction
  pub one-part : (i j : ℕ) → i < length parts → j < length parts → (part_in parts i).origin ≡ (part_in parts j).origin
      → (part_in parts i).direction ≡ (part_in parts j).direction → i ≡ j
  one-part i j h g e f = rising_one 0 (2 * length ns + 1) parts parts_rise i j h g (λ x. rank_by (f x) (e x))

  -- a place, as the fields of a line
  comes-stands : {k o m : ℕ} {d : Direction} → (c : Comes u ns k o d m) → Stands parts k (record { part = c.part; number = m })
  comes-stands c = record { part = c.there; number = c.number; sum = c.place }

  module _ (k : ℕ) where
    abbrev place : Place
    place = place_in (counts_of parts) k

    -- R19.16: that clause of that part is clause k ..
    pub comes : k < length (output_of u ns) → let s = source_of u ns k in Comes u ns k s.origin s.direction s.number
    comes h =
        let s = output-stands u ns k h in
        record { part = place.part; there = s.part; origin = refl; direction = refl; number = s.number; place = s.sum }

    -- R19.17: .. and no other origin, direction and number gives k
    pub only : (o m : ℕ) (d : Direction) → Comes u ns k o d m → let s = source_of u ns k in
        (o ≡ s.origin) × (d ≡ s.direction) × (m ≡ s.number)
    only o m d c =
        let e = stands-only parts k (record { part = c.part; number = m }) (comes-stands c) in (
          sym c.origin ∙ ap (λ (p : Place). (part_in parts p.part).origin) e,
          sym c.direction ∙ ap (λ (p : Place). (part_in parts p.part).direction) e,
          ap (λ (p : Place). p.number) e,
        )

    -- the same the other way: what a line says of its clause is true of no other clause
    pub one-clause : (j o m : ℕ) (d : Direction) → Comes u ns k o d m → Comes u ns j o d m → j ≡ k
    one-clause j o m d c b =
        let e = one-part c.part b.part c.there b.there (c.origin ∙ sym b.origin) (c.direction ∙ sym b.direction) in
        sym b.place ∙ ap (λ (i : ℕ). start_of (counts_of parts) i + m) (sym e) ∙ c.place

    -- the clause is the one of the part
    pub clause-there : (o m : ℕ) (d : Direction) (c : Comes u ns k o d m)
        → get_or (output_of u ns) k [] ≡ get_or (part_in parts c.part).content m []
    clause-there o m d c =
        ap (λ (cs : List Clause). get_or cs k []) (output_contents u ns)
        ∙ clause-at parts k (record { part = c.part; number = m }) (comes-stands c)
