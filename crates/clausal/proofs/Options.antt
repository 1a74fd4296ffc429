-- No total depends on what is taken: it only names helpers, and a unit clause is as large for every variable.
-- Assumes nothing.
use mathlib.Core.Path.{◌≡◌, refl, sym, ap, ◌∙◌}
use mathlib.Core.Bool.{Bool, true, false, cond}
use mathlib.Core.List.{List, [], ◌∷◌, ◌++◌}
use Prim.Native.Nat.{ℕ, zero, suc, ◌-◌}
use lib.Dec.{eqb}
use lib.ListN.{length, get_or}
use Rattle.laws.specs.Lists.{up_to}
use Rattle.marks.specs.Marks.{mark_of, halves_of}
use Rattle.formula.specs.Tables.{node_in}
use Rattle.marks.specs.Sets.{renamed}
use Rattle.clausal.specs.Clauses.{Algebra, Row, unit_row, no_row, row_by, helper_of, Renaming, renaming, name_of, seen, row_from, row_of}
use Rattle.clausal.specs.Output.{Part, down_part, up_part, definition, definitions, gather, whole_of}
use Rattle.clausal.specs.Totals.{totals, true_totals, capped, sizes}
use Rattle.clausal.proofs.Helpers.{helper-some}
use Rattle.formula.specs.declared.node.Node.{Node}

-- a unit is the same for every variable
abbrev pub Nameless : {C : Type 0} → Algebra C → Type 0
Nameless A = (plain : Bool) (x y : ℕ) → A.unit plain x ≡ A.unit plain y

module _ {C : Type 0} (A : Algebra C) where
  pub gather_append : (x : C) (ps qs : List (Part C)) → gather A x (ps ++ qs) ≡ gather A (gather A x ps) qs
  gather_append x [] qs = refl
  gather_append x (p ∷ ps) qs = gather_append (A.cat x p.content) ps qs

  -- a definition's two halves, each there under a condition of its own: only their contents are collected
  gather_halves : (b d u : Bool) (p q r t : Part C) → p.content ≡ q.content → r.content ≡ t.content → (x : C)
      → gather A x (cond b (cond d (p ∷ []) [] ++ cond u (r ∷ []) []) [])
      ≡ gather A x (cond b (cond d (q ∷ []) [] ++ cond u (t ∷ []) []) [])
  gather_halves false d u p q r t e f x = refl
  gather_halves true false false p q r t e f x = refl
  gather_halves true false true p q r t e f x = λ i. A.cat x (f i)
  gather_halves true true false p q r t e f x = λ i. A.cat x (e i)
  gather_halves true true true p q r t e f x = λ i. A.cat (A.cat x (e i)) (f i)

module _ {C : Type 0} (A : Algebra C) (units : Nameless A) (u : Renaming) (n : ℕ) (ns : List Node) where
  -- the same set, with another variable taken
  abbrev w : Renaming
  w = renaming n u.set

  seen-options : (j : ℕ) (row : Row C) → seen A (name_of u) j row ≡ seen A (name_of w) j row
  seen-options j row = go (renamed u.set j)
    where
      see : ℕ → Row C
      see name = cond (eqb name 0) row (unit_row A name)

      go : (b : Bool) → see (cond b (helper_of u j) 0) ≡ see (cond b (helper_of w j) 0)
      go false = refl
      go true = rw (helper-some u j, helper-some w j) (λ i. record {
        P = units true (helper_of u j) (helper_of w j) i;
        N = units false (helper_of u j) (helper_of w j) i;
      })

  rule_options : row_from A (name_of u) ns ≡ row_from A (name_of w) ns
  rule_options = λ i before k.
      let child : ℕ → Row C = λ j. seen-options j (get_or before j (no_row A)) i in
      row_by A (node_in ns k).kind (node_in ns k).a (child (node_in ns k).a) (child (node_in ns k).b)

  -- P and N of a node
  pub row-options : (i : ℕ) → row_of A (name_of u) ns i ≡ row_of A (name_of w) ns i
  row-options i = λ j. get_or (up_to (rule_options j) (length ns)) i (no_row A)

  definition-options : (i : ℕ) (x : C) → gather A x (definition A u ns i) ≡ gather A x (definition A w ns i)
  definition-options i x = gather_halves A (renamed u.set i) (halves_of (mark_of ns i)).down (halves_of (mark_of ns i)).up
      (down_part A u ns i) (down_part A w ns i) (up_part A u ns i) (up_part A w ns i)
      (λ j. A.join (units false (helper_of u i) (helper_of w i) j) (row-options i j).P)
      (λ j. A.join (row-options i j).N (units true (helper_of u i) (helper_of w i) j))
      x

  definitions-options : (k : ℕ) (x : C) → gather A x (definitions A u ns k) ≡ gather A x (definitions A w ns k)
  unfolding definitions
  definitions-options zero x = refl
  definitions-options (suc k) x =
      gather_append A x (definitions A u ns k) (definition A u ns k)
      ∙ ap (λ (y : C). gather A y (definition A u ns k)) (definitions-options k x)
      ∙ definition-options k (gather A x (definitions A w ns k))
      ∙ sym (gather_append A x (definitions A w ns k) (definition A w ns k))

  -- the whole output
  pub whole-options : whole_of A u ns ≡ whole_of A w ns
  whole-options =
      (λ j. gather A (A.cat A.none (row-options (length ns - 1) j).P) (definitions A u ns (length ns)))
      ∙ definitions-options (length ns) (A.cat A.none (row_of A (name_of w) ns (length ns - 1)).P)

-- the totals as they are reported, and the true totals
pub totals-options : (u : Renaming) (n : ℕ) (ns : List Node) → totals u ns ≡ totals (renaming n u.set) ns
totals-options u n ns = whole-options capped (λ plain x y. refl) u n ns

pub true-totals-options : (u : Renaming) (n : ℕ) (ns : List Node) → true_totals u ns ≡ true_totals (renaming n u.set) ns
true-totals-options u n ns = whole-options sizes (λ plain x y. refl) u n ns
