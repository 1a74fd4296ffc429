-- The clause with number k of the output stands at one place: in one part, under one number there.
-- Assumes nothing.
use mathlib.Core.Path.{◌≡◌, refl, sym, ap, ◌∙◌, subst, subst⁻¹}
use mathlib.Core.Bool.{Bool, true, false, cond}
use mathlib.Core.List.{List, [], ◌∷◌, ◌++◌, append-nil, append_assoc}
use Prim.Native.Nat.{ℕ, zero, suc, ◌+◌, ◌-◌, ◌≤◌, ◌<◌}
use native.Mathlib.Nat.{not-suc-le-zero}
use native.Mathlib.Omega.{arith}
use lib.Dec.{ltb}
use lib.ListN.{length, get_or, length-append}
use borrow.Author.Tests.{ltb-true, ltb-false, lt-ltb, le-ltb}
use Rattle.formula.specs.declared.node.Node.{Node}
use Rattle.clausal.specs.Clauses.{clauses}
use Rattle.clausal.specs.Clauses.{Clause}
use Rattle.clausal.specs.Output.{Part, parts_of, gather, output_of}
use Rattle.clausal.specs.Places.{Place, further, place_in, start_of, contents_of, counts_of, content_in, Stands}
use Rattle.clausal.specs.Clauses.{Renaming}
use Rattle.clausal.proofs.Clauses.{clause-left, clause-right}

-- the output is the parts' clauses, one part after the other
gather_contents : (cs : List Clause) (ps : List (Part (List Clause))) → gather clauses cs ps ≡ cs ++ contents_of ps
gather_contents cs [] = sym (append-nil cs)
gather_contents cs (p ∷ ps) = gather_contents (cs ++ p.content) ps ∙ append_assoc cs p.content (contents_of ps)

pub output_contents : (u : Renaming) (ns : List Node) → output_of u ns ≡ contents_of (parts_of clauses u ns)
output_contents u ns = gather_contents [] (parts_of clauses u ns)

-- every number has its place ..
pub stands : (ps : List (Part (List Clause))) (k : ℕ) → k < length (contents_of ps) → Stands ps k (place_in (counts_of ps) k)
stands [] k h = absurd (not-suc-le-zero h)
stands (p ∷ ps) k h = go (ltb k (length p.content)) refl (stands ps rest)
  where
    rest : ℕ
    rest = k - length p.content

    go : (b : Bool) → ltb k (length p.content) ≡ b
        → (rest < length (contents_of ps) → Stands ps rest (place_in (counts_of ps) rest))
        → Stands (p ∷ ps) k (cond b (record { part = 0; number = k }) (further (place_in (counts_of ps) rest)))
    go true e ih = record { part = omega arith; number = ltb-true k (length p.content) e; sum = omega arith }
    go false e ih =
        let l : length p.content ≤ k = ltb-false k (length p.content) e in
        let r = ih (omega (arith, length-append p.content (contents_of ps))) in
        record { part = omega (arith, r.part); number = r.number; sum = omega (arith, r.sum) }

-- .. and no other
pub stands-only : (ps : List (Part (List Clause))) (k : ℕ) (p : Place) → Stands ps k p → p ≡ place_in (counts_of ps) k
stands-only ps k p h = go ps k p.part p.number h.part h.number h.sum
  where
    go : (ps : List (Part (List Clause))) (k j m : ℕ) → j < length ps → m < length (content_in ps j)
        → start_of (counts_of ps) j + m ≡ k → record { part = j; number = m } ≡ place_in (counts_of ps) k
    go [] k j m h g e = absurd (not-suc-le-zero h)
    go (p ∷ ps) k zero m h g e =
        let f : m ≡ k = omega arith in
        rw (lt-ltb k (length p.content) (omega arith)) (λ i. record { part = 0; number = f i })
    go (p ∷ ps) k (suc j) m h g e =
        let below = go ps (k - length p.content) j m (omega arith) g (omega arith) in
        rw (le-ltb k (length p.content) (omega arith)) (ap further below)

-- the clause is the one that stands there
pub clause-at : (ps : List (Part (List Clause))) (k : ℕ) (p : Place) → Stands ps k p
    → get_or (contents_of ps) k [] ≡ get_or (content_in ps p.part) p.number []
clause-at ps k p h = go ps k p.part p.number h.part h.number h.sum
  where
    go : (ps : List (Part (List Clause))) (k j m : ℕ) → j < length ps → m < length (content_in ps j)
        → start_of (counts_of ps) j + m ≡ k → get_or (contents_of ps) k [] ≡ get_or (content_in ps j) m []
    go [] k j m h g e = absurd (not-suc-le-zero h)
    go (p ∷ ps) k zero m h g e =
        let f : k ≡ m = omega arith in
        clause-left p.content (contents_of ps) k (omega arith) ∙ ap (λ (i : ℕ). get_or p.content i []) f
    go (p ∷ ps) k (suc j) m h g e =
        clause-right p.content (contents_of ps) k (omega arith)
        ∙ go ps (k - length p.content) j m (omega arith) g (omega arith)

-- of the output
module _ (u : Renaming) (ns : List Node) (k : ℕ) where
  abbrev parts : List (Part (List Clause))
  parts = parts_of clauses u ns

  abbrev place : Place
  place = place_in (counts_of parts) k

  pub output-stands : k < length (output_of u ns) → Stands parts k place
  output-stands h = stands parts k (subst (λ (cs : List Clause). k < length cs) (output_contents u ns) h)

  pub output-clause : k < length (output_of u ns)
      → get_or (output_of u ns) k [] ≡ get_or (content_in parts place.part) place.number []
  output-clause h =
      ap (λ (cs : List Clause). get_or cs k []) (output_contents u ns) ∙ clause-at parts k place (output-stands h)

-- of parts that are split: clause m of the part behind the first ones stands there
module _ (p : Part (List Clause)) (qs : List (Part (List Clause))) where
  start_split : (ps : List (Part (List Clause))) → start_of (counts_of (ps ++ (p ∷ qs))) (length ps) ≡ length (contents_of ps)
  start_split [] = refl
  start_split (r ∷ ps) = omega (arith, start_split ps, length-append r.content (contents_of ps))

  content_split : (ps : List (Part (List Clause))) → content_in (ps ++ (p ∷ qs)) (length ps) ≡ p.content
  content_split [] = refl
  content_split (r ∷ ps) = content_split ps

  pub stands_split : (ps : List (Part (List Clause))) (m : ℕ) → m < length p.content
      → Stands (ps ++ (p ∷ qs)) (length (contents_of ps) + m) (record { part = length ps; number = m })
  stands_split ps m h = record {
    part = omega (arith, length-append ps (p ∷ qs));
    number = subst⁻¹ (λ (cs : List Clause). m < length cs) (content_split ps) h;
    sum = omega (arith, start_split ps);
  }
