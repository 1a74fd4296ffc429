-- A search for every clause in a window: what it knows at each turn. Assumes nothing.
use mathlib.Core.Path.{◌≡◌, refl, sym, ap, ◌∙◌}
use mathlib.Core.Bool.{Bool, true, false, false≢true, cond, not}
use mathlib.Core.List.{List, []}
use Prim.Native.Nat.{ℕ, ◌+◌, ◌≤◌, ◌<◌}
use native.Mathlib.Omega.{arith}
use lib.Dec.{ltb}
use lib.ListN.{length, get_or, replicate, length-replicate, get_or-replicate}
use borrow.Author.Tests.{ltb-true, ltb-false, lt-ltb, le-ltb}
use Rattle.laws.specs.Lists.{first, first_from}
use Rattle.laws.proofs.First.{first_le, first-before, first_fails}
use Rattle.clausal.specs.Clauses.{Clause}
use Rattle.clausebytes.specs.Words.{words_of, clauses_of, closed_from, most_clauses}
use Rattle.tidied.specs.Tidying.{same_literals}
use Rattle.tidied.specs.Inner.Firsts.{differs}
use Rattle.tidied.proofs.Sets.{same_refl, same-sym, equal_tests}
use Rattle.sets.specs.Inner.Sets.{clause_from, end_from}
use Rattle.sets.proofs.Laws.Codes.{not-not}
use Rattle.tidy.specs.Inner.Windows.{place_after, place_of, most, none, first_after, Slotted, Open, Firsts}
use Rattle.tidy.proofs.Laws.Windows.{first-noted}
use Rattle.tidy.proofs.Laws.Places.{after-suc, clause-at}
use Rattle.tidy.proofs.Laws.Noting.{below_more}

-- the lowest number that fails a test is the only one of its kind
module _ (p : ℕ → Bool) where
  pub first-is : (n k : ℕ) → k ≤ n → ((i : ℕ) → i < k → p i ≡ true) → (k < n → p k ≡ false) → first p n ≡ k
  first-is n k h before fails = go (ltb (first p n) k) refl (ltb k (first p n)) refl
    where
      go : (a : Bool) → ltb (first p n) k ≡ a → (b : Bool) → ltb k (first p n) ≡ b → first p n ≡ k
      go true e b f =
          let below = ltb-true (first p n) k e in
          absurd (false≢true (sym (first_fails p n (omega arith)) ∙ before (first p n) below))
      go false e true f =
          let above = ltb-true k (first p n) f in
          absurd (false≢true (sym (fails (omega (arith, first_le p n))) ∙ first-before p n k above))
      go false e false f = let x = ltb-false (first p n) k e in let y = ltb-false k (first p n) f in omega arith

  -- the number that is noted when n numbers were tested: the lowest that fails, or none
  abbrev pub noted : ℕ → ℕ
  noted n = cond (ltb (first p n) n) (first p n) none

  pub noted_more : (n : ℕ) → n < none → first_after (noted n) (not (p n)) n ≡ noted (n + 1)
  noted_more n h = go (ltb (first p n) n) refl
    where
      go : (b : Bool) → ltb (first p n) n ≡ b → first_after (cond b (first p n) none) (not (p n)) n ≡ noted (n + 1)
      go true e =
          let low = ltb-true (first p n) n e in
          let same : first p (n + 1) ≡ first p n =
          first-is (n + 1) (first p n) (omega arith) (λ i. first-before p n i) (λ g. first_fails p n low) in
          sym (first-noted (first p n) (not (p n)) n (λ q. omega arith))
          ∙ sym (rw (lt-ltb (first p (n + 1)) (n + 1) (omega arith)) same)
      go false e =
          let all : (i : ℕ) → i < n → p i ≡ true = λ i g. first-before p n i (let f = ltb-false (first p n) n e in omega arith) in
          at (p n) refl all
        where
          at : (b : Bool) → p n ≡ b → ((i : ℕ) → i < n → p i ≡ true) → first_after none (not b) n ≡ noted (n + 1)
          at true q all =
              let same : first p (n + 1) ≡ n + 1 =
              first-is (n + 1) (n + 1) (omega arith) (below_more (λ i. p i ≡ true) n all q) (λ g. absurd (omega arith)) in
              sym (rw (le-ltb (first p (n + 1)) (n + 1) (omega arith)))
          at false q all =
              let same : first p (n + 1) ≡ n = first-is (n + 1) n (omega arith) all (λ g. q) in
              sym (rw (lt-ltb (first p (n + 1)) (n + 1) (omega arith)) same)

  -- at the end it is the lowest that fails, where one does
  pub noted-end : (n k : ℕ) → k < n → p k ≡ false → noted n ≡ first p k
  noted-end n k h e = go (ltb k (first p n)) refl
    where
      go : (b : Bool) → ltb k (first p n) ≡ b → noted n ≡ first p k
      go true f = absurd (false≢true (sym e ∙ first-before p n k (ltb-true k (first p n) f)))
      go false f =
          let low = ltb-false k (first p n) f in
          rw (lt-ltb (first p n) n (omega arith))
          (sym (first-is k (first p n) low (λ i. first-before p n i) (λ g. first_fails p n (omega arith))))

pub same_either : (a b : Clause) → same_literals a b ≡ same_literals b a
same_either a b = equal_tests (same-sym a b) (same-sym b a)

-- clauses up to number j were looked for
pub record Searching (bytes : List ℕ) (start count : ℕ) (signs firsts slots : List ℕ) (at j : ℕ) : Type 0 where
  pub within : j ≤ start + count
  pub at_is : at ≡ place_of bytes j
  pub size : length firsts ≡ most
  pub firsts_are : (i : ℕ) → i < count → get_or firsts i 0 ≡ noted (differs (clauses_of bytes) (get_or (clauses_of bytes) (start + i) [])) j
  pub slotted : Slotted count (Open firsts) signs slots

pub searching_start : (bytes : List ℕ) (start count : ℕ) (signs slots : List ℕ) → count ≤ most → Slotted count (λ i. Unit {0}) signs slots
    → Searching bytes start count signs (replicate most none) slots 0 0
unfolding place_after first_from
searching_start bytes start count signs slots few s = record {
  within = omega arith;
  at_is = refl;
  size = length-replicate {A = ℕ} most none;
  firsts_are = λ i h. get_or-replicate most i none 0 (omega arith);
  slotted = record { small = s.small; size = s.size; there = λ i h o. s.there i h tt };
}

-- clause j was looked for
module _ (places : List ℕ) {bytes : List ℕ} {start count : ℕ} {signs firsts slots : List ℕ} {at j : ℕ}
    (s : Searching bytes start count signs firsts slots at j) (closed : closed_from true (words_of bytes) ≡ true)
    (within : start + count ≤ length (clauses_of bytes)) (clauses : length (clauses_of bytes) ≤ most_clauses)
    (places_are : (i : ℕ) → i < count → get_or places i 0 ≡ place_of bytes (start + i)) (here : j < start + count) where
  alike_is : (i : ℕ) → i < count → same_literals (clause_from bytes (get_or places i 0)) (clause_from bytes at)
      ≡ not (differs (clauses_of bytes) (get_or (clauses_of bytes) (start + i) []) j)
  alike_is i h =
      let cs = clauses_of bytes in
      (λ k. same_literals (clause_from bytes (places_are i h k)) (clause_from bytes (s.at_is k)))
      ∙ (λ k. same_literals (clause-at bytes closed (start + i) (omega arith) k) (clause-at bytes closed j (omega arith) k))
      ∙ same_either (get_or cs (start + i) []) (get_or cs j [])
      ∙ sym (not-not (same_literals (get_or cs j []) (get_or cs (start + i) [])))

  pub searching_next : (after : List ℕ) → length after ≡ most
      → ((i : ℕ) → i < count → get_or after i 0
      ≡ first_after (get_or firsts i 0) (same_literals (clause_from bytes (get_or places i 0)) (clause_from bytes at)) j)
      → (left : List ℕ) → Slotted count (Open after) signs left → (end : ℕ) → end ≡ end_from bytes at
      → Searching bytes start count signs after left (end + 1) (j + 1)
  searching_next after size are left slotted end e = record {
    within = omega arith;
    at_is = ap (λ (x : ℕ). x + 1) (e ∙ ap (end_from bytes) s.at_is) ∙ sym (after-suc bytes 0 j);
    size = size;
    firsts_are = λ i h.
        are i h
        ∙ (λ k. first_after (s.firsts_are i h k) (alike_is i h k) j)
        ∙ noted_more (differs (clauses_of bytes) (get_or (clauses_of bytes) (start + i) [])) j (omega arith);
    slotted = slotted;
  }

-- the end: every clause of the window has the number of the first
pub searching_end : {bytes : List ℕ} {start count : ℕ} {signs firsts slots : List ℕ} {at j : ℕ}
    → Searching bytes start count signs firsts slots at j → start + count ≤ j → Firsts bytes start count firsts
searching_end {bytes} {start} {count} {firsts = firsts} {j = j} s end i h =
    let cs = clauses_of bytes in
    let c = get_or cs (start + i) [] in
    s.firsts_are i h ∙ noted-end (differs cs c) j (start + i) (omega arith) (ap not (same_refl c))
