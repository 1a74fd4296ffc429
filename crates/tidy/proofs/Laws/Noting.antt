-- A loop that notes the clauses of a window: what it knows at each turn. Assumes nothing.
use mathlib.Core.Path.{◌≡◌, refl, sym, ap, ◌∙◌, subst, subst⁻¹}
use mathlib.Core.Bool.{Bool, true, false, cond}
use mathlib.Core.List.{List}
use Prim.Native.Nat.{ℕ, ◌+◌, ◌*◌, ◌%◌, ◌/◌, ◌^◌, ◌≤◌, ◌<◌}
use native.Mathlib.Omega.{arith}
use lib.Dec.{eqb}
use lib.ListN.{length, get_or, set, replicate, length-set, length-replicate}
use lib.Seq.{get_or-set_same, get_or-set_other}
use borrow.Author.Tests.{eqb-true, eqb-false, eq-eqb}
use Rattle.bits.specs.Inner.Rows.{has_bit, byte_to, row_to}
use Rattle.bits.proofs.Laws.Rows.{blank-bytes, bytes-to, has-to}
use Rattle.sets.specs.Inner.Sets.{clause_from, end_from, sign_of, seeds}
use Rattle.tidy.specs.Inner.Windows.{place_after, most, slot_bytes, slot_of, Noted}
use Rattle.tidy.proofs.Laws.Places.{after-suc, end-most}

-- what holds below i and at i holds below i + 1
pub below_more : (Q : ℕ → Type 0) (i : ℕ) → ((k : ℕ) → k < i → Q k) → Q i → (k : ℕ) → k < i + 1 → Q k
below_more Q i before here k h = go (eqb k i) refl
  where
    go : (b : Bool) → eqb k i ≡ b → Q k
    go true e = subst Q (sym (eqb-true k i e)) here
    go false e = let n = eqb-false k i e in before k (omega arith)

-- a store at i leaves what stands below it
module _ {A : Type 0} (l : List A) (i : ℕ) (v d : A) where
  pub set_below : (k : ℕ) → k < i → get_or (set l i v) k d ≡ get_or l k d
  set_below k h = get_or-set_other l i k v d (λ e. omega arith)

pub record Noting (bytes : List ℕ) (place count seed : ℕ) (places signs slots : List ℕ) (at i : ℕ) : Type 0 where
  pub within : i ≤ count
  pub at_is : at ≡ place_after bytes place i
  pub low : at ≤ 2 ^ 33 + i
  pub places_size : length places ≡ most
  pub signs_size : length signs ≡ most
  pub size : length slots ≡ slot_bytes
  pub small : (k : ℕ) → get_or slots k 0 < 256
  pub places_are : (k : ℕ) → k < i → get_or places k 0 ≡ place_after bytes place k
  pub signs_are : (k : ℕ) → k < i → get_or signs k 0 ≡ sign_of seed (clause_from bytes (get_or places k 0))
  pub there : (k : ℕ) → k < i → has_bit slots (slot_of (get_or signs k 0)) ≡ true

-- before the first clause
pub noting_start : (bytes : List ℕ) (place count seed : ℕ) (places signs slots : List ℕ) → place < 2 ^ 33 → length places ≡ most
    → length signs ≡ most → slots ≡ replicate slot_bytes 0 → Noting bytes place count seed places signs slots place 0
unfolding place_after
noting_start bytes place count seed places signs slots low places_size signs_size empty = record {
  within = omega arith;
  at_is = refl;
  low = omega arith;
  places_size = places_size;
  signs_size = signs_size;
  size = ap length empty ∙ length-replicate {A = ℕ} slot_bytes 0;
  small = λ k. subst (λ (l : List ℕ). get_or l k 0 < 256) (sym empty) (blank-bytes slot_bytes k);
  places_are = λ k h. absurd (omega arith);
  signs_are = λ k h. absurd (omega arith);
  there = λ k h. absurd (omega arith);
}

pub slot-inside : (s k : ℕ) → k ≡ slot_bytes → slot_of s < 8 * k
slot-inside s k e = omega arith

-- one clause more
module _ {bytes : List ℕ} {place count seed : ℕ} {places signs slots : List ℕ} {at i : ℕ}
    (n : Noting bytes place count seed places signs slots at i) (few : count ≤ most) (here : i < count)
    (sign : ℕ) (sign_is : sign ≡ sign_of seed (clause_from bytes at)) where
  room : i < length places
  room = omega (arith, n.places_size)

  signs-room : i < length signs
  signs-room = omega (arith, n.signs_size)

  inside : slot_of sign < 8 * length slots
  inside = slot-inside sign (length slots) n.size

  -- a slot that is there stays
  has_more : (m : ℕ) → has_bit slots m ≡ true → has_bit (row_to slots (slot_of sign) true) m ≡ true
  has_more m h = has-to slots (slot_of sign) true n.small inside m ∙ go (eqb m (slot_of sign))
    where
      go : (b : Bool) → cond b true (has_bit slots m) ≡ true
      go true = refl
      go false = h

  has_here : has_bit (row_to slots (slot_of sign) true) (slot_of sign) ≡ true
  has_here = has-to slots (slot_of sign) true n.small inside (slot_of sign) ∙ rw (eq-eqb (slot_of sign) (slot_of sign) refl)

  noting_more : length bytes < 2 ^ 32
      → Noting bytes place count seed (set places i at) (set signs i sign) (row_to slots (slot_of sign) true) (end_from bytes at + 1) (i + 1)
  noting_more short =
      let place_here = get_or-set_same places i at 0 room in
      let sign-here = get_or-set_same signs i sign 0 signs-room in
      record {
        within = omega arith;
        at_is = ap (λ (p : ℕ). end_from bytes p + 1) n.at_is ∙ sym (after-suc bytes place i);
        low = omega (arith, end-most bytes at (2 ^ 33 + i) n.low (omega arith));
        places_size = length-set places i at ∙ n.places_size;
        signs_size = length-set signs i sign ∙ n.signs_size;
        size = length-set slots (slot_of sign / 8) (byte_to (get_or slots (slot_of sign / 8) 0) (slot_of sign % 8) true) ∙ n.size;
        small = bytes-to slots (slot_of sign) true n.small inside;
        places_are = below_more (λ k. get_or (set places i at) k 0 ≡ place_after bytes place k) i
            (λ k h. set_below places i at 0 k h ∙ n.places_are k h) (place_here ∙ n.at_is);
        signs_are = below_more (λ k. get_or (set signs i sign) k 0 ≡ sign_of seed (clause_from bytes (get_or (set places i at) k 0))) i
            (λ k h. set_below signs i sign 0 k h ∙ n.signs_are k h
            ∙ sym (ap (λ (p : ℕ). sign_of seed (clause_from bytes p)) (set_below places i at 0 k h)))
            (sign-here ∙ sign_is ∙ sym (ap (λ (p : ℕ). sign_of seed (clause_from bytes p)) place_here));
        there = below_more (λ k. has_bit (row_to slots (slot_of sign) true) (slot_of (get_or (set signs i sign) k 0)) ≡ true) i
            (λ k h. ap (λ (s : ℕ). has_bit (row_to slots (slot_of sign) true) (slot_of s)) (set_below signs i sign 0 k h)
            ∙ has_more (slot_of (get_or signs k 0)) (n.there k h))
            (ap (λ (s : ℕ). has_bit (row_to slots (slot_of sign) true) (slot_of s)) sign-here ∙ has_here);
      }

  pub noting_next : length bytes < 2 ^ 32 → (after : List ℕ) → after ≡ row_to slots (slot_of sign) true → (end : ℕ) → end ≡ end_from bytes at
      → Noting bytes place count seed (set places i at) (set signs i sign) after (end + 1) (i + 1)
  noting_next short after e end f =
      subst⁻¹ (λ (l : List ℕ). Noting bytes place count seed (set places i at) (set signs i sign) l (end + 1) (i + 1)) e
      (subst⁻¹ (λ (x : ℕ). Noting bytes place count seed (set places i at) (set signs i sign) (row_to slots (slot_of sign) true) (x + 1) (i + 1))
      f (noting_more short))

-- the end: all are noted
pub noting_end : {bytes : List ℕ} {place count seed : ℕ} {places signs slots : List ℕ} {at i : ℕ}
    → Noting bytes place count seed places signs slots at i → count ≤ i → count ≤ most → seed < seeds
    → Noted bytes place count seed places signs slots
noting_end {bytes} {place} {count} {seed} {places} {signs} {slots} {at} {i} n end few seed_few = record {
  places_are = λ k h. n.places_are k (omega arith);
  signed = record {
    few = few;
    seed_few = seed_few;
    places_size = n.places_size;
    signs_size = n.signs_size;
    signs_are = λ k h. n.signs_are k (omega arith);
  };
  slotted = record { small = n.small; size = n.size; there = λ k h w. n.there k (omega arith) };
}
