-- A loop that looks for a clause in a window: what it knows at each turn. Assumes nothing.
use mathlib.Core.Path.{◌≡◌, refl, sym, ap, ◌∙◌, subst⁻¹}
use mathlib.Core.Bool.{Bool, true, false, false≢true, cond}
use mathlib.Core.List.{List}
use Prim.Native.Nat.{ℕ, ◌+◌, ◌*◌, ◌%◌, ◌/◌, ◌≤◌, ◌<◌}
use native.Mathlib.Omega.{arith}
use lib.Dec.{eqb}
use lib.ListN.{length, get_or, set, length-set}
use lib.Seq.{get_or-set_same, get_or-set_other}
use borrow.Author.Tests.{eqb-true, eqb-false, eq-eqb, ne_eqb}
use Rattle.bits.specs.Inner.Rows.{has_bit, byte_to, row_to}
use Rattle.bits.proofs.Laws.Rows.{bytes-to, has-to}
use Rattle.tidied.specs.Tidying.{same_literals}
use Rattle.sets.specs.Inner.Sets.{clause_from}
use Rattle.tidy.specs.Inner.Windows.{most, none, slot_of, first_after, Slotted, Open, Scannable, Scanned}
use Rattle.tidy.specs.declared.window.Spot.{Spot}
use Rattle.tidy.proofs.Laws.Windows.{slots_apart, first-noted, first-other, first-open}
use Rattle.tidy.proofs.Laws.Noting.{below_more, set_below}

-- clause k of a window has the same literals as the clause that is looked for
abbrev pub alike : List ℕ → Spot → List ℕ → ℕ → Bool
alike bytes spot places k = same_literals (clause_from bytes (get_or places k 0)) (clause_from bytes spot.place)

pub record Scanning (bytes : List ℕ) (spot : Spot) (count : ℕ) (places signs before firsts : List ℕ) (left i : ℕ) : Type 0 where
  pub within : i ≤ count
  pub few : left ≤ i
  pub size : length firsts ≡ most
  pub done : (k : ℕ) → k < i → get_or firsts k 0 ≡ first_after (get_or before k 0) (alike bytes spot places k) spot.number
  pub rest : (k : ℕ) → i ≤ k → get_or firsts k 0 ≡ get_or before k 0
  pub none_left : left ≡ 0 → (k : ℕ) → k < i → Open firsts k → slot_of (get_or signs k 0) ≡ slot_of spot.sign → ⊥

module _ {bytes : List ℕ} {spot : Spot} {count : ℕ} {places signs before slots : List ℕ}
    (given : Scannable bytes spot count places signs before slots) where
  -- the slot is not there: no clause without a number is the same
  pub unslotted : has_bit slots (slot_of spot.sign) ≡ false → Scanned bytes spot count places signs before before slots
  unslotted missing = record {
    firsts_size = given.firsts_size;
    firsts_are = λ i h. go i h (eqb (get_or before i 0) none) refl;
    slotted = given.slotted;
  }
    where
      go : (i : ℕ) → i < count → (b : Bool) → eqb (get_or before i 0) none ≡ b
          → get_or before i 0 ≡ first_after (get_or before i 0) (alike bytes spot places i) spot.number
      go i h true o =
          let there = given.slotted.there i h (eqb-true (get_or before i 0) none o) in
          let apart = slots_apart given.seed (clause_from bytes (get_or places i 0)) (clause_from bytes spot.place) (get_or signs i 0) spot.sign
          (given.signed.signs_are i h) given.sign_is (λ q. false≢true (sym missing ∙ sym (ap (has_bit slots) q) ∙ there)) in
          first-other (get_or before i 0) (alike bytes spot places i) spot.number apart
      go i h false o = first-noted (get_or before i 0) (alike bytes spot places i) spot.number (eqb-false (get_or before i 0) none o)

  pub scanning_start : Scanning bytes spot count places signs before before 0 0
  scanning_start = record {
    within = omega arith;
    few = omega arith;
    size = given.firsts_size;
    done = λ k h. absurd (omega arith);
    rest = λ k h. refl;
    none_left = λ e k h. absurd (omega arith);
  }

  module _ {firsts : List ℕ} {left i : ℕ} (s : Scanning bytes spot count places signs before firsts left i) (here : i < count) where
    -- another slot: the clause is another
    pub scanning_other : (slot_of (get_or signs i 0) ≡ slot_of spot.sign → ⊥) → Scanning bytes spot count places signs before firsts left (i + 1)
    scanning_other n =
        let apart = slots_apart given.seed (clause_from bytes (get_or places i 0)) (clause_from bytes spot.place) (get_or signs i 0) spot.sign
        (given.signed.signs_are i here) given.sign_is n in
        record {
          within = omega arith;
          few = omega (arith, s.few);
          size = s.size;
          done = below_more (λ k. get_or firsts k 0 ≡ first_after (get_or before k 0) (alike bytes spot places k) spot.number) i s.done
              (s.rest i (omega arith) ∙ first-other (get_or before i 0) (alike bytes spot places i) spot.number apart);
          rest = λ k h. s.rest k (omega arith);
          none_left = λ e. below_more (λ k. Open firsts k → slot_of (get_or signs k 0) ≡ slot_of spot.sign → ⊥) i (s.none_left e) (λ o. n);
        }

    -- the slot: the number is noted, or the clause is left
    scanning_here : (first : ℕ) → first ≡ first_after (get_or firsts i 0) (alike bytes spot places i) spot.number
        → Scanning bytes spot count places signs before (set firsts i first) (left + cond (eqb first none) 1 0) (i + 1)
    scanning_here first e =
        let room : i < length firsts = omega (arith, s.size, given.signed.few) in
        let stored : get_or (set firsts i first) i 0 ≡ first = get_or-set_same firsts i first 0 room in
        record {
          within = omega arith;
          few = go (eqb first none);
          size = length-set firsts i first ∙ s.size;
          done = below_more (λ k. get_or (set firsts i first) k 0 ≡ first_after (get_or before k 0) (alike bytes spot places k) spot.number) i
              (λ k h. set_below firsts i first 0 k h ∙ s.done k h)
              (stored ∙ e ∙ ap (λ (x : ℕ). first_after x (alike bytes spot places i) spot.number) (s.rest i (omega arith)));
          rest = λ k h. get_or-set_other firsts i k first 0 (λ q. omega arith) ∙ s.rest k (omega arith);
          none_left = λ z. below_more (λ k. Open (set firsts i first) k → slot_of (get_or signs k 0) ≡ slot_of spot.sign → ⊥) i
              (λ k h o. s.none_left (omega arith) k h (sym (set_below firsts i first 0 k h) ∙ o))
              (λ o q. open_counts z (sym stored ∙ o));
        }
      where
        go : (b : Bool) → left + cond b 1 0 ≤ i + 1
        go true = omega (arith, s.few)
        go false = omega (arith, s.few)

        open_counts : left + cond (eqb first none) 1 0 ≡ 0 → first ≡ none → ⊥
        open_counts z o = let one : ◌≡◌ {A = ℕ} (cond (eqb first none) 1 0) 1 = rw (eq-eqb first none o) in omega arith

    pub scanning_looked : (first : ℕ) → first ≡ first_after (get_or firsts i 0) (alike bytes spot places i) spot.number → (k : ℕ)
        → k ≡ cond (eqb first none) 1 0
        → Scanning bytes spot count places signs before (set firsts i first) (left + k) (i + 1)
    scanning_looked first e k f =
        subst⁻¹ (λ (x : ℕ). Scanning bytes spot count places signs before (set firsts i first) (left + x) (i + 1)) f (scanning_here first e)

  -- the end: what has no number still has its slot, whether or not the slot of the clause was taken out
  module _ {firsts : List ℕ} {left i : ℕ} (s : Scanning bytes spot count places signs before firsts left i) (end : count ≤ i) where
    still_open : (k : ℕ) → k < count → Open firsts k → has_bit slots (slot_of (get_or signs k 0)) ≡ true
    still_open k h o =
        given.slotted.there k h (first-open (get_or before k 0) (alike bytes spot places k) spot.number (sym (s.done k (omega arith)) ∙ o))

    pub scanning_end : (after : List ℕ) → Slotted count (Open firsts) signs after → Scanned bytes spot count places signs before firsts after
    scanning_end after t = record { firsts_size = s.size; firsts_are = λ k h. s.done k (omega arith); slotted = t }

    pub slots_stay : Slotted count (Open firsts) signs slots
    slots_stay = record { small = given.slotted.small; size = given.slotted.size; there = still_open }

    pub slots_less : left ≡ 0 → Slotted count (Open firsts) signs (row_to slots (slot_of spot.sign) false)
    slots_less z =
        let here = slot_of spot.sign in
        let inside : here < 8 * length slots = omega (arith, given.slotted.size) in
        record {
          small = bytes-to slots here false given.slotted.small inside;
          size = length-set slots (here / 8) (byte_to (get_or slots (here / 8) 0) (here % 8) false) ∙ given.slotted.size;
          there = λ k h o. has-to slots here false given.slotted.small inside (slot_of (get_or signs k 0))
              ∙ rw (ne_eqb (slot_of (get_or signs k 0)) here (s.none_left z k (omega arith) o)) (still_open k h o);
        }
