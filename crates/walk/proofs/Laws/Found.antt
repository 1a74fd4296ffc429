-- The step to clause k of a list that is made of two leads to that clause: by subtraction, by quotient and remainder.
-- Assumes nothing.
use mathlib.Core.Path.{◌≡◌, refl, sym, ◌∙◌, subst⁻¹}
use mathlib.Core.Bool.{Bool, true, false, cond}
use mathlib.Core.List.{List, [], ◌++◌}
use Prim.Native.Nat.{ℕ, zero, suc, ◌+◌, ◌*◌, ◌-◌, ◌<◌, ◌≤◌}
use native.Mathlib.Nat.{mul-zero, zero-mul, le-mul_of_pos_right, mul_comm}
use native.Mathlib.Omega.{arith}
use lib.Dec.{ltb}
use lib.ListN.{length, get_or, length-append}
use borrow.Author.Tests.{ltb-true, ltb-false, ne_eqb}
use Rattle.laws.specs.Numbers.{cap}
use Rattle.formula.specs.declared.node.Node.{Node}
use Rattle.clausal.specs.Clauses.{join_all, Clause}
use Rattle.clausal.specs.Totals.{clause_ceiling}
use Rattle.clausal.proofs.Clauses.{clause-left, clause-right, clause-join, quotient_lt, remainder_lt}
use Rattle.clausal.proofs.Totals.{length-join}
use Rattle.walk.specs.Inner.Lists.{names_in, seen_list}
use Rattle.walk.specs.Inner.Steps.{way, count_in, cat_step, join_step, joins_step, LeadsTo}
use Rattle.walk.specs.declared.step.Step.TheVariants.{Left, Right}
use Rattle.walk.specs.declared.step.Step.{Step}

-- a product that is not 0 is at least each factor
left_le : (a b k : ℕ) → k < a * b → a ≤ a * b
left_le a zero k h = absurd (omega (arith, mul-zero a))
left_le a (suc b) k h = le-mul_of_pos_right a (omega arith)

right_le : (a b k : ℕ) → k < a * b → b ≤ a * b
right_le a b k h = omega (arith, left_le b a k (omega (arith, mul_comm a b)), mul_comm a b)

-- factors that are read at the ceiling have the product, where it is below the ceiling
product_is : (a b : ℕ) → a * b < clause_ceiling → cap clause_ceiling a * cap clause_ceiling b ≡ a * b
product_is a zero h = mul-zero (cap clause_ceiling a) ∙ sym (mul-zero a)
product_is zero (suc b) h = zero-mul (cap clause_ceiling (suc b)) ∙ sym (zero-mul (suc b))
product_is (suc a) (suc b) h =
    let p = left_le (suc a) (suc b) 0 some in
    let q = right_le (suc a) (suc b) 0 some in
    let e : cap clause_ceiling (suc a) ≡ suc a = omega arith in
    let f : cap clause_ceiling (suc b) ≡ suc b = omega arith in
    λ i. e i * f i
  where
    some : 0 < suc a * suc b
    some = let p : 0 < suc b = omega arith in omega (arith, le-mul_of_pos_right (suc a) p)

module _ (ns : List Node) (cs : List (List ℕ)) (helpers : List ℕ)
    (counts : (n : ℕ) (sign : Bool) → count_in cs helpers n sign ≡ cap clause_ceiling (length (seen_list (names_in helpers) ns n sign)))
    (n : ℕ) (at : Bool) where
  abbrev list : ℕ → Bool → List Clause
  list m sign = seen_list (names_in helpers) ns m sign

  abbrev Leads : Clause → Step → Type 0
  Leads c s = LeadsTo (names_in helpers) ns n at c s

  module _ (a : ℕ) (x : Bool) (b : ℕ) (y : Bool) (k : ℕ) (ha : a < n) (hb : b < n) where
    abbrev xs : List Clause
    xs = list a x

    abbrev ys : List Clause
    ys = list b y

    -- one list followed by another
    pub cat-leads : k < length (xs ++ ys) → length (xs ++ ys) < clause_ceiling → Leads (get_or (xs ++ ys) k []) (cat_step cs helpers a x b y k)
    cat-leads h l =
        let sum = length-append xs ys in
        let f : count_in cs helpers a x ≡ length xs = counts a x ∙ omega (arith, sum) in
        subst⁻¹ (λ (m : ℕ). Leads (get_or (xs ++ ys) k []) (cond (ltb k m) (Left (way a x k)) (Right (way b y (k - m))))) f
        (go sum (ltb k (length xs)) refl)
      where
        go : length (xs ++ ys) ≡ length xs + length ys → (z : Bool) → ltb k (length xs) ≡ z
            → Leads (get_or (xs ++ ys) k []) (cond z (Left (way a x k)) (Right (way b y (k - length xs))))
        go sum true q =
            let low : k < length xs = ltb-true k (length xs) q in
            (record { before = ha; has = low; short = omega arith }, clause-left xs ys k low)
        go sum false q =
            let high : length xs ≤ k = ltb-false k (length xs) q in
            (record { before = hb; has = omega arith; short = omega arith }, clause-right xs ys k high)

    -- the join of two lists
    pub join-leads : k < length (join_all xs ys) → length (join_all xs ys) < clause_ceiling
        → Leads (get_or (join_all xs ys) k []) (join_step cs helpers a x b y k)
    join-leads h l =
        let product = length-join xs ys in
        let g : k < length xs * length ys = omega arith in
        let px = left_le (length xs) (length ys) k g in
        let py = right_le (length xs) (length ys) k g in
        let f : count_in cs helpers b y ≡ length ys = counts b y ∙ omega arith in
        let r = remainder_lt (length xs) (length ys) k g in
        rw (f, ne_eqb (length ys) 0 (λ z. omega arith)) (
          record { before = ha; has = quotient_lt (length xs) (length ys) k g; short = omega arith },
          record { before = hb; has = r; short = omega arith },
          clause-join xs ys k g,
        )

  -- two joins, one behind the other: the first has `first` clauses
  module _ (a b : ℕ) (sign : Bool) (k : ℕ) (ha : a < n) (hb : b < n) where
    abbrev xy : List Clause
    xy = join_all (list a false) (list b sign)

    joins_at : (zw : List Clause) (second : ℕ → Step)
        → ((j : ℕ) → j < length zw → length zw < clause_ceiling → Leads (get_or zw j []) (second j))
        → k < length (xy ++ zw) → length (xy ++ zw) < clause_ceiling
        → Leads (get_or (xy ++ zw) k [])
        (cond (ltb k (count_in cs helpers a false * count_in cs helpers b sign)) (join_step cs helpers a false b sign k)
        (second (k - count_in cs helpers a false * count_in cs helpers b sign)))
    joins_at zw second leads h l =
        let sum = length-append xy zw in
        let product = length-join (list a false) (list b sign) in
        let e : count_in cs helpers a false * count_in cs helpers b sign ≡ length xy =
        (λ i. counts a false i * counts b sign i) ∙ product_is (length (list a false)) (length (list b sign)) (omega arith) ∙ sym product in
        subst⁻¹ (λ (m : ℕ). Leads (get_or (xy ++ zw) k []) (cond (ltb k m) (join_step cs helpers a false b sign k) (second (k - m)))) e
        (go sum (ltb k (length xy)) refl)
      where
        go : length (xy ++ zw) ≡ length xy + length zw → (z : Bool) → ltb k (length xy) ≡ z
            → Leads (get_or (xy ++ zw) k []) (cond z (join_step cs helpers a false b sign k) (second (k - length xy)))
        go sum true q =
            let low = ltb-true k (length xy) q in
            subst⁻¹ (λ (c : Clause). Leads c (join_step cs helpers a false b sign k)) (clause-left xy zw k low)
            (join-leads a false b sign k ha hb low (omega arith))
        go sum false q =
            let high = ltb-false k (length xy) q in
            subst⁻¹ (λ (c : Clause). Leads c (second (k - length xy))) (clause-right xy zw k high)
            (leads (k - length xy) (omega arith) (omega arith))

  -- the lists of an equivalence
  abbrev equivalence : ℕ → ℕ → Bool → List Clause
  equivalence a b sign =
      cond sign
      (join_all (list a false) (list b true) ++ join_all (list b false) (list a true))
      (join_all (list a false) (list b false) ++ join_all (list a true) (list b true))

  pub joins_leads : (a b : ℕ) (sign : Bool) (k : ℕ) → a < n → b < n
      → k < length (equivalence a b sign) → length (equivalence a b sign) < clause_ceiling
      → Leads (get_or (equivalence a b sign) k [])
      (joins_step cs helpers a b sign k)
  joins_leads a b true k ha hb h l =
      joins_at a b true k ha hb (join_all (list b false) (list a true)) (join_step cs helpers b false a true)
      (λ j. join-leads b false a true j hb ha) h l
  joins_leads a b false k ha hb h l =
      joins_at a b false k ha hb (join_all (list a true) (list b true)) (join_step cs helpers a true b true)
      (λ j. join-leads a true b true j ha hb) h l
