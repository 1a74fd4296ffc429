-- Parts one after the other: the part behind a part begins where it ends, and a clause that is there is found.
-- Assumes nothing.
use mathlib.Core.Path.{◌≡◌, refl, ap, ◌∙◌, subst⁻¹}
use mathlib.Core.List.{List}
use Prim.Native.Nat.{ℕ, ◌+◌, ◌-◌, ◌*◌, ◌≤◌, ◌<◌}
use native.Mathlib.Numerals.{add-one}
use native.Mathlib.Decide.{dec_lt}
use native.Mathlib.Omega.{arith}
use lib.ListN.{length}
use Rattle.origin.specs.Inner.Spots.{onward_of, count_at, defined_below, start_at, Inside, Sought}
use Rattle.origin.specs.declared.part.Direction.{Direction}
use Rattle.origin.specs.declared.part.Direction.TheVariants.{Root, Down, Up}
use Rattle.origin.specs.declared.part.Spot.{Spot}

-- how many parts are left
abbrev pub parts_left : ℕ → Direction → ℕ → ℕ
parts_left n Root i = 2 * n + 2
parts_left n Down i = 2 * (n - i) + 1
parts_left n Up i = 2 * (n - i)

module _ (s marks : List ℕ) (cs : List (List ℕ)) where
  defined_more : (i : ℕ) → defined_below s marks cs (i + 1)
      ≡ defined_below s marks cs i + count_at s marks cs Down i + count_at s marks cs Up i
  unfolding defined_below
  defined_more i = ap (defined_below s marks cs) (add-one i)

  defined_none : defined_below s marks cs 0 ≡ 0
  unfolding defined_below
  defined_none = refl

  -- the next part begins where this one ends
  pub start-onward : (d : Direction) (i number : ℕ) → Inside s marks cs d i → let g = onward_of d i number in
      start_at s marks cs g.direction g.node ≡ start_at s marks cs d i + count_at s marks cs d i
  start-onward Root i number h =
      let e : count_at s marks cs Root i ≡ count_at s marks cs Root (length s - 1) = ap (count_at s marks cs Root) h in
      omega (arith, defined_none)
  start-onward Down i number h = refl
  start-onward Up i number h = omega (arith, defined_more i)

  -- behind the last part there is no clause
  pub inside-onward : (d : Direction) (i number : ℕ) → 0 < length s → Inside s marks cs d i → let g = onward_of d i number in
      start_at s marks cs g.direction g.node < start_at s marks cs Down (length s) → Inside s marks cs g.direction g.node
  inside-onward Root i number some h l = some
  inside-onward Down i number some h l = h
  inside-onward Up i number some h l = go (dec_lt (i + 1) (length s))
    where
      go : Dec (i + 1 < length s) → i + 1 < length s
      go (yes e) = e
      go (no n) =
          let e : i + 1 ≡ length s = omega arith in
          absurd (omega (arith, ap (defined_below s marks cs) e))

  -- a walk from part to part: the clause stays the same
  pub record Seeking (f g : Spot) : Type 0 where
    pub sought : Sought s marks cs f
    pub inside : Inside s marks cs g.direction g.node
    pub same : start_at s marks cs g.direction g.node + g.number ≡ start_at s marks cs f.direction f.node + f.number

  module _ (f g : Spot) (k : Seeking f g) where
    module _ (each : ℕ) (count : each ≡ count_at s marks cs g.direction g.node) where
      -- the part behind
      module _ (h : each ≤ g.number) (next : Spot) (e : next ≡ onward_of g.direction g.node (g.number - each)) where
        abbrev on : Spot
        on = onward_of g.direction g.node (g.number - each)

        onward-number : (d : Direction) (i number : ℕ) → (onward_of d i number).number ≡ number
        onward-number Root i number = refl
        onward-number Down i number = refl
        onward-number Up i number = refl

        begins : start_at s marks cs on.direction on.node ≡ start_at s marks cs g.direction g.node + each
        begins = start-onward g.direction g.node (g.number - each) k.inside ∙ omega (arith, count)

        same_on : start_at s marks cs on.direction on.node + on.number ≡ start_at s marks cs f.direction f.node + f.number
        same_on = omega (arith, begins, onward-number g.direction g.node (g.number - each), k.same)

        inside_on : Inside s marks cs on.direction on.node
        inside_on = inside-onward g.direction g.node (g.number - each) k.sought.some k.inside
            (omega (arith, same_on, k.sought.below))

        pub seeking_next : Seeking f next
        seeking_next = record {
          sought = k.sought;
          inside = subst⁻¹ (λ (x : Spot). Inside s marks cs x.direction x.node) e inside_on;
          same = ap (λ (x : Spot). start_at s marks cs x.direction x.node + x.number) e ∙ same_on;
        }
