-- Parts do not overlap: a clause stands at one spot only. That it stands at one is in `Laws/Spots.antt`.
-- Assumes nothing.
use mathlib.Core.Path.{◌≡◌, refl, sym, ap, ◌∙◌}
use mathlib.Core.List.{List}
use Prim.Native.Nat.{ℕ, zero, suc, ◌+◌, ◌-◌, ◌≤◌, ◌<◌}
use native.Mathlib.Decide.{dec_lt}
use native.Mathlib.Omega.{arith}
use lib.ListN.{length}
use Rattle.origin.specs.Inner.Spots.{spot, count_at, defined_below, start_at, Inside, Stood}
use Rattle.origin.specs.declared.part.Direction.{Direction}
use Rattle.origin.specs.declared.part.Direction.TheVariants.{Root, Down, Up}
use Rattle.origin.specs.declared.part.Spot.{Spot}

module _ (s marks : List ℕ) (cs : List (List ℕ)) where
  abbrev root_count : ℕ
  root_count = count_at s marks cs Root (length s - 1)

  -- how many clauses stand before the definition of a node, and how many with it
  abbrev begin_of : ℕ → ℕ
  begin_of i = root_count + defined_below s marks cs i

  abbrev end_of : ℕ → ℕ
  end_of i = begin_of i + count_at s marks cs Down i + count_at s marks cs Up i

  -- a clause of a part, and its number in the output
  abbrev Has : Direction → ℕ → ℕ → Type 0
  Has d i m = m < count_at s marks cs d i

  abbrev number_of : Direction → ℕ → ℕ → ℕ
  number_of d i m = start_at s marks cs d i + m

  -- definitions do not overlap
  end-begin : (i j : ℕ) → i < j → end_of i ≤ begin_of j
  unfolding defined_below
  end-begin i zero h = absurd (omega arith)
  end-begin i (suc j) h = go (dec_lt i j) (λ l. end-begin i j l)
    where
      go : Dec (i < j) → (i < j → end_of i ≤ begin_of j) → end_of i ≤ begin_of (suc j)
      go (yes l) before = omega (arith, before l)
      go (no l) before =
          let e : i ≡ j = omega arith in
          omega (arith, ap end_of e)

  record Defines (i k : ℕ) : Type 0 where
    from : begin_of i ≤ k
    below : k < end_of i

  defines_only : (i j k : ℕ) → Defines i k → Defines j k → i ≡ j
  defines_only i j k a b = go (dec_lt i j) (dec_lt j i)
    where
      go : Dec (i < j) → Dec (j < i) → i ≡ j
      go (yes l) m = absurd (omega (arith, end-begin i j l, a.below, b.from))
      go (no l) (yes m) = absurd (omega (arith, end-begin j i m, b.below, a.from))
      go (no l) (no m) = omega arith

  defines_down : (i m k : ℕ) → Has Down i m → number_of Down i m ≡ k → Defines i k
  defines_down i m k h e = record { from = omega arith; below = omega arith }

  defines_up : (i m k : ℕ) → Has Up i m → number_of Up i m ≡ k → Defines i k
  defines_up i m k h e = record { from = omega arith; below = omega arith }

  root_before : (i m k : ℕ) → Inside s marks cs Root i → Has Root i m → number_of Root i m ≡ k → k < root_count
  root_before i m k h l e = omega (arith, ap (count_at s marks cs Root) h)

  spot-only : (d e : Direction) (i j m n : ℕ) → Inside s marks cs d i → Inside s marks cs e j → Has d i m → Has e j n
      → number_of d i m ≡ number_of e j n → spot d i m ≡ spot e j n
  spot-only Root Root i j m n a b h l e =
      let f : i ≡ j = a ∙ sym b in
      let g : m ≡ n = omega arith in
      (λ x. spot Root (f x) (g x))
  spot-only Root Down i j m n a b h l e = absurd (omega (arith, root_before i m _ a h e))
  spot-only Root Up i j m n a b h l e = absurd (omega (arith, root_before i m _ a h e))
  spot-only Down Root i j m n a b h l e = absurd (omega (arith, root_before j n _ b l refl))
  spot-only Down Down i j m n a b h l e =
      let f : i ≡ j = defines_only i j _ (defines_down i m _ h e) (defines_down j n _ l refl) in
      let g : m ≡ n = omega (arith, ap begin_of f) in
      (λ x. spot Down (f x) (g x))
  spot-only Down Up i j m n a b h l e =
      let f : i ≡ j = defines_only i j _ (defines_down i m _ h e) (defines_up j n _ l refl) in
      absurd (omega (arith, ap begin_of f, ap (count_at s marks cs Down) f))
  spot-only Up Root i j m n a b h l e = absurd (omega (arith, root_before j n _ b l refl))
  spot-only Up Down i j m n a b h l e =
      let f : i ≡ j = defines_only i j _ (defines_up i m _ h e) (defines_down j n _ l refl) in
      absurd (omega (arith, ap begin_of f, ap (count_at s marks cs Down) f))
  spot-only Up Up i j m n a b h l e =
      let f : i ≡ j = defines_only i j _ (defines_up i m _ h e) (defines_up j n _ l refl) in
      let g : m ≡ n = omega (arith, ap (start_at s marks cs Up) f) in
      (λ x. spot Up (f x) (g x))

  pub stood_only : (f g h : Spot) → Stood s marks cs f g → Stood s marks cs f h → g ≡ h
  stood_only f g h a b =
      spot-only g.direction h.direction g.node h.node g.number h.number a.inside b.inside a.has b.has
      (a.same ∙ sym b.same)
