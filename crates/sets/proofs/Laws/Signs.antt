-- Signatures: clauses with the same literals have the same, and a literal that is new adds its part. Assumes nothing.
use mathlib.Core.Path.{◌≡◌, refl, sym, ap, ◌∙◌}
use mathlib.Core.Bool.{Bool, true, false, cond}
use mathlib.Core.List.{[], ◌∷◌}
use Prim.Native.Nat.{ℕ, zero, suc, ◌+◌, ◌*◌, ◌%◌, ◌^◌, ◌≤◌, ◌<◌}
use native.Mathlib.Nat.{mul-le-mul}
use native.Mathlib.Omega.{arith}
use lib.Dec.{eqb}
use borrow.Author.Tests.{eqb-true, eqb-false, eq-eqb, ne_eqb}
use Rattle.clausal.specs.Clauses.{Literal, Clause}
use Rattle.bits.specs.Inner.Rows.{is_one}
use Rattle.tidied.specs.Tidying.{same_literals}
use Rattle.tidied.proofs.Sets.{among_same}
use Rattle.sets.specs.Inner.Sets.{code_of, codes_of, mix_of, sum_below, sign_of}
use Rattle.sets.proofs.Laws.Codes.{one-among, literal_at, code-literal}

-- sums over the numbers below n
sum_same : (n : ℕ) (f g : ℕ → ℕ) → ((m : ℕ) → f m ≡ g m) → sum_below n f ≡ sum_below n g
unfolding sum_below
sum_same zero f g h = refl
sum_same (suc n) f g h = λ i. sum_same n f g h i + h n i

sum-most : (n most : ℕ) (f : ℕ → ℕ) → ((m : ℕ) → f m ≤ most) → sum_below n f ≤ n * most
unfolding sum_below
sum-most zero most f h = omega arith
sum-most (suc n) most f h = omega (arith, sum-most n most f h, h n)

-- one number adds d more
sum_below_lem : (n k : ℕ) (f g : ℕ → ℕ) → n ≤ k → ((m : ℕ) → (m ≡ k → ⊥) → g m ≡ f m) → sum_below n g ≡ sum_below n f
unfolding sum_below
sum_below_lem zero k f g h same = refl
sum_below_lem (suc n) k f g h same = λ i. sum_below_lem n k f g (omega arith) same i + same n (λ e. omega arith) i

sum_more : (n k d : ℕ) (f g : ℕ → ℕ) → k < n → ((m : ℕ) → (m ≡ k → ⊥) → g m ≡ f m) → g k ≡ f k + d → sum_below n g ≡ sum_below n f + d
unfolding sum_below
sum_more zero k d f g h same one = absurd (omega arith)
sum_more (suc n) k d f g h same one = go (eqb n k) refl (sum_more n k d f g)
  where
    go : (b : Bool) → eqb n k ≡ b
        → (k < n → ((m : ℕ) → (m ≡ k → ⊥) → g m ≡ f m) → g k ≡ f k + d → sum_below n g ≡ sum_below n f + d)
        → sum_below n g + g n ≡ sum_below n f + f n + d
    go true e rest =
        let here = eqb-true n k e in
        let below = sum_below_lem n k f g (omega arith) same in
        omega (arith, below, ap f here, ap g here, one)
    go false e rest =
        let other = eqb-false n k e in
        omega (arith, rest (omega arith) same one, same n other)

-- clauses with the same numbers, or the same literals
pub sign_ones : (seed : ℕ) (a b : Clause) → ((m : ℕ) → is_one m (codes_of a) ≡ is_one m (codes_of b)) → sign_of seed a ≡ sign_of seed b
sign_ones seed a b h = sum_same 80_008 _ _ (λ m. ap (λ (t : Bool). cond t (mix_of seed m) 0) (h m))

pub sign_same : (seed : ℕ) (a b : Clause) → same_literals a b ≡ true → sign_of seed a ≡ sign_of seed b
sign_same seed a b h = sign_ones seed a b one_same
  where
    one_same : (m : ℕ) → is_one m (codes_of a) ≡ is_one m (codes_of b)
    one_same m =
        ap (λ (k : ℕ). is_one k (codes_of a)) (sym (code-literal m))
        ∙ one-among (literal_at m) a
        ∙ among_same a b (literal_at m) h
        ∙ sym (one-among (literal_at m) b)
        ∙ ap (λ (k : ℕ). is_one k (codes_of b)) (code-literal m)

sum-none : (n : ℕ) → sum_below n (λ m. 0) ≡ 0
unfolding sum_below
sum-none zero = refl
sum-none (suc n) = omega (arith, sum-none n)

pub sign-none : (seed : ℕ) → 0 ≡ sign_of seed []
unfolding is_one
sign-none seed = sym (sum-none 80_008)

-- one literal more
module _ (seed : ℕ) (l : Literal) (c : Clause) where
  other : (m : ℕ) → (m ≡ code_of l → ⊥) → cond (is_one m (codes_of (l ∷ c))) (mix_of seed m) 0 ≡ cond (is_one m (codes_of c)) (mix_of seed m) 0
  unfolding is_one
  other m n = rw (ne_eqb m (code_of l) n)

  here : cond (is_one (code_of l) (codes_of (l ∷ c))) (mix_of seed (code_of l)) 0 ≡ mix_of seed (code_of l)
  unfolding is_one
  here = rw (eq-eqb (code_of l) (code_of l) refl)

  -- which was there
  pub sign_old : is_one (code_of l) (codes_of c) ≡ true → sign_of seed (l ∷ c) ≡ sign_of seed c
  sign_old e = sum_same 80_008 _ _ (λ m. at m (eqb m (code_of l)) refl)
    where
      at : (m : ℕ) (b : Bool) → eqb m (code_of l) ≡ b
          → cond (is_one m (codes_of (l ∷ c))) (mix_of seed m) 0 ≡ cond (is_one m (codes_of c)) (mix_of seed m) 0
      at m true q =
          let k = eqb-true m (code_of l) q in
          ap (λ (n : ℕ). cond (is_one n (codes_of (l ∷ c))) (mix_of seed n) 0) k
          ∙ here
          ∙ sym (ap (λ (n : ℕ). cond (is_one n (codes_of c)) (mix_of seed n) 0) k ∙ rw e)
      at m false q = other m (eqb-false m (code_of l) q)

  -- which is new
  pub sign_new : code_of l < 80_008 → is_one (code_of l) (codes_of c) ≡ false → sign_of seed (l ∷ c) ≡ sign_of seed c + mix_of seed (code_of l)
  sign_new h e = sum_more 80_008 (code_of l) (mix_of seed (code_of l)) _ _ h other (here ∙ rw e (omega arith))

-- a signature fits into 64 bits
mix-most : (seed n : ℕ) → mix_of seed n ≤ 2 ^ 47
mix-most seed n =
    let x : ℕ = (n + 1) * (2_654_435_761 + 1_000_006 * seed) % 2 ^ 32 in
    let small : x ≤ 4_294_967_295 = omega arith in
    omega (arith, mul-le-mul small small)

pub sign_small : (seed : ℕ) (c : Clause) → sign_of seed c < 2 ^ 64
sign_small seed c =
    omega (arith, sum-most 80_008 (2 ^ 47) (λ n. cond (is_one n (codes_of c)) (mix_of seed n) 0) (λ m. at m (is_one m (codes_of c))))
  where
    at : (m : ℕ) (b : Bool) → cond b (mix_of seed m) 0 ≤ 2 ^ 47
    at m true = mix-most seed m
    at m false = omega arith
