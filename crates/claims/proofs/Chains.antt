-- R12.8 to R12.10: guards that are converted one after the other. The helpers of each come after all that the guards before it use.
-- Assumes nothing.
use mathlib.Core.Path.{◌≡◌, refl, ap, ◌∙◌, subst, subst⁻¹}
use mathlib.Core.Bool.{Bool, true, cond, ◌&&◌}
use mathlib.Core.List.{List, [], ◌∷◌}
use Prim.Native.Nat.{ℕ, zero, suc, ◌≤◌, ◌<◌}
use native.Mathlib.Omega.{arith}
use lib.Dec.{T, ltb}
use lib.ListN.{length}
use borrow.Author.Tests.{lt-ltb, le-ltb}
use Rattle.laws.specs.Lists.{Every, none, more}
use Rattle.laws.proofs.Every.{and_both, and_left, and_right}
use Rattle.marks.specs.Sets.{renamed}
use Rattle.formula.specs.Truths.{formula_true}
use Rattle.clausal.specs.Clauses.{helper_of, variables_of}
use Rattle.clausal.specs.Meanings.{satisfies, Extends}
use Rattle.clausal.specs.Inner.Extended.{extended}
use Rattle.clausal.proofs.Extended.{extended-option, extended-helper}
use Rattle.clausal.proofs.Helpers.{helper_above}
use Rattle.clausal.proofs.Truths.{satisfies_append}
use Rattle.claims.specs.Calls.{Guard, nodes, names, guard_in}
use Rattle.claims.specs.Claims.{Means, decoded, all_clauses, Together}
use Rattle.claims.proofs.Answered.{not-both}

-- a helper is among the variables that its guard has used up
pub record Inside (g : Guard) (i : ℕ) : Type 0 where
  pub most : helper_of (names g) i ≤ variables_of (names g) (length (nodes g))

-- what a chain settles: each guard is of the project, means what it should, and has helpers between what it was handed as taken and
-- what it used up, which is handed to the next one
pub data Follows (v : ℕ) : ℕ → List Guard → Type 0 where
  nothing : {taken : ℕ} → Follows v taken []
  guard : {g : Guard} {gs : List Guard} → g.options ≡ v → v ≤ g.taken → Means g
      → ((i : ℕ) → renamed g.set i ≡ true → Inside g i)
      → Follows v (variables_of (names g) (length (nodes g))) gs → Follows v g.taken (g ∷ gs)

-- the helpers of guard k are after what is taken
after-taken : {v taken : ℕ} {gs : List Guard} → Follows v taken gs → (k i : ℕ) → renamed (guard_in gs k).set i ≡ true
    → taken < helper_of (names (guard_in gs k)) i
after-taken nothing k i e = not-both e
after-taken (guard {g = g} o l m h f) zero i e = helper_above (names g) i
after-taken (guard {g = g} o l m h f) (suc k) i e = omega (arith, after-taken f k i e)

-- a helper of one guard is no helper of a later one
earlier : {v : ℕ} {g : Guard} {gs : List Guard} → Follows v (variables_of (names g) (length (nodes g))) gs
    → ((i : ℕ) → renamed g.set i ≡ true → Inside g i) → (k i j : ℕ) → renamed g.set i ≡ true → renamed (guard_in gs k).set j ≡ true
    → helper_of (names g) i < helper_of (names (guard_in gs k)) j
earlier f h k i j d e = omega (arith, (h i d).most, after-taken f k j e)

one_each : {v taken : ℕ} {gs : List Guard} → Follows v taken gs → (k l i j : ℕ) → renamed (guard_in gs k).set i ≡ true
    → renamed (guard_in gs l).set j ≡ true → helper_of (names (guard_in gs k)) i ≡ helper_of (names (guard_in gs l)) j → (k ≡ l) × (i ≡ j)
one_each nothing k l i j d e q = not-both d
one_each (guard o t m h f) zero zero i j d e q = (refl, m.one i j d e q)
one_each (guard o t m h f) zero (suc l) i j d e q = absurd (omega (arith, earlier f h l i j d e))
one_each (guard o t m h f) (suc k) zero i j d e q = absurd (omega (arith, earlier f h k j i e d))
one_each (guard o t m h f) (suc k) (suc l) i j d e q = let r = one_each f k l i j d e q in (ap suc r.0, r.1)

each-means : {v taken : ℕ} {gs : List Guard} → Follows v taken gs → Every Means gs
each-means nothing = none
each-means (guard o l m h f) = more m (each-means f)

-- all clauses together
module _ (ρ : ℕ → Bool) where
  all_sound : {v taken : ℕ} {gs : List Guard} → Follows v taken gs → T (satisfies ρ (all_clauses gs))
      → Every (λ g. T (formula_true ρ (nodes g))) gs
  all_sound nothing t = none
  all_sound (guard {g = g} {gs = gs} o l m h f) t =
      let own : Bool = satisfies ρ (decoded g) in
      let others : Bool = satisfies ρ (all_clauses gs) in
      let both : T (own && others) = subst T (satisfies_append ρ (decoded g) (all_clauses gs)) t in
      more (m.sound ρ (and_left own others both)) (all_sound f (and_right own others both))

  -- a row with each helper of each guard at its node's truth
  record Extended (v taken : ℕ) (gs : List Guard) : Type 0 where
    row : ℕ → Bool
    kept : (x : ℕ) → x ≤ taken → row x ≡ ρ x
    extends : Every (λ g. Extends v (names g) (nodes g) ρ row) gs

  -- what comes after n may be changed up to n where the helpers are after n and the options keep their values
  raised : {v n : ℕ} {gs : List Guard} → Follows v n gs → (τ σ : ℕ → Bool) → ((x : ℕ) → n < x → σ x ≡ τ x)
      → ((x : ℕ) → 0 < x → x ≤ v → σ x ≡ ρ x) → Every (λ g. Extends v (names g) (nodes g) ρ τ) gs
      → Every (λ g. Extends v (names g) (nodes g) ρ σ) gs
  raised nothing τ σ same options none = none
  raised (guard {g = g} {gs = gs} o l m h f) τ σ same options (more e es) = more
      (record { options = options; helpers = λ i k r. same _ (helper_above (names g) i) ∙ e.helpers i k r })
      (raised f τ σ (λ x b. same x (omega arith)) options es)

  -- one guard before others: up to what it has used up the row is its own, and behind that theirs
  module _ {v : ℕ} {g : Guard} {gs : List Guard} (least : v ≤ g.taken) (h : (i : ℕ) → renamed g.set i ≡ true → Inside g i)
      (f : Follows v (variables_of (names g) (length (nodes g))) gs)
      (rest : Extended v (variables_of (names g) (length (nodes g))) gs) where
    abbrev n : ℕ
    n = variables_of (names g) (length (nodes g))

    abbrev σ : ℕ → Bool
    σ x = cond (ltb n x) (rest.row x) (extended ρ (names g) (nodes g) x)

    low : (x : ℕ) → x ≤ n → σ x ≡ extended ρ (names g) (nodes g) x
    low x b = ap (λ (c : Bool). cond c (rest.row x) (extended ρ (names g) (nodes g) x)) (le-ltb n x b)

    high : (x : ℕ) → n < x → σ x ≡ rest.row x
    high x b = ap (λ (c : Bool). cond c (rest.row x) (extended ρ (names g) (nodes g) x)) (lt-ltb n x b)

    options : (x : ℕ) → 0 < x → x ≤ v → σ x ≡ ρ x
    options x some b = low x (omega arith) ∙ extended-option ρ (names g) (nodes g) x (omega arith)

    one_more : Extended v g.taken (g ∷ gs)
    one_more = record {
      row = σ;
      kept = λ x b. low x (omega arith) ∙ extended-option ρ (names g) (nodes g) x b;
      extends = more
          (record {
            options = options;
            helpers = λ i k r. low _ (h i r).most ∙ extended-helper ρ (names g) (nodes g) i k r;
          })
          (raised f rest.row σ high options rest.extends);
    }

  all-extended : {v taken : ℕ} {gs : List Guard} → Follows v taken gs → Extended v taken gs
  all-extended nothing = record { row = ρ; kept = λ x b. refl; extends = none }
  all-extended (guard o l m h f) = one_more l h f (all-extended f)

  all-complete : {v taken : ℕ} {gs : List Guard} → Follows v taken gs → (τ : ℕ → Bool)
      → Every (λ g. Extends v (names g) (nodes g) ρ τ) gs → Every (λ g. T (formula_true ρ (nodes g))) gs → T (satisfies τ (all_clauses gs))
  all-complete nothing τ e t = tt
  all-complete (guard {g = g} {gs = gs} o l m h f) τ (more e es) (more t ts) =
      let own : T (satisfies τ (decoded g)) =
      m.complete ρ τ (subst⁻¹ (λ (v : ℕ). Extends v (names g) (nodes g) ρ τ) o e) t in
      subst⁻¹ T (satisfies_append τ (decoded g) (all_clauses gs))
      (and_both (satisfies τ (decoded g)) (satisfies τ (all_clauses gs)) own (all-complete f τ es ts))

pub together : {v : ℕ} {gs : List Guard} → Follows v v gs → Together v gs
together f = record {
  each = each-means f;
  one = one_each f;
  sound = λ ρ t. all_sound ρ f t;
  complete = λ ρ t. let x = all-extended ρ f in (x.row, x.extends, all-complete ρ f x.row x.extends t);
}
