-- A number that is written from its last digit to its first.
-- Assumes nothing.
use mathlib.Core.Path.{◌≡◌, refl, sym, ap, ◌∙◌}
use mathlib.Core.Bool.{Bool, true, false}
use mathlib.Core.List.{List, [], ◌∷◌, ◌++◌, append_assoc}
use Prim.Native.Nat.{ℕ, suc, ◌+◌, ◌/◌, ◌%◌, ◌≤◌, ◌<◌}
use native.Mathlib.Numerals.{add-one}
use native.Mathlib.Omega.{arith}
use borrow.Author.Tests.{ltb-true, ltb-false}
use lib.Dec.{ltb}
use lib.ListN.{length, set, take, drop, length-append}
use lib.Seq.{set_split, take-append-le, take-take, drop_at, length-take-le}
use Rattle.laws.specs.Lists.{splice}
use Rattle.laws.proofs.Splices.{length-splice}
use Rattle.text.specs.Texts.{decimal}
use Rattle.text.proofs.Laws.Decimals.{decimal-one, decimal-last}

-- a byte in front of a run that is stored
set_before : (l : List ℕ) (i d : ℕ) (xs : List ℕ) → i + 1 + length xs ≤ length l → set (splice l (i + 1) xs) i d ≡ splice l i (d ∷ xs)
set_before l i d xs h =
    let m : List ℕ = splice l (i + 1) xs in
    let r : List ℕ = xs ++ drop (i + 1 + length xs) l in
    let n : length (take (i + 1) l) ≡ i + 1 = length-take-le (i + 1) l (omega arith) in
    let front : take i m ≡ take i l = take-append-le i (take (i + 1) l) r (omega arith) ∙ take-take i (i + 1) l (omega arith) in
    let behind : drop (suc i) m ≡ r = ap (λ (k : ℕ). drop k m) (sym (add-one i)) ∙ drop_at (take (i + 1) l) r (i + 1) n in
    let k : i + 1 + length xs ≡ i + suc (length xs) = omega arith in
    set_split m i d (omega (arith, length-splice l (i + 1) xs h))
    ∙ (λ j. front j ++ (d ∷ behind j))
    ∙ ap (λ (q : ℕ). take i l ++ (d ∷ (xs ++ drop q l))) k

-- the last digit of n, and those before it, which are its tenth's if there are any
record Last (n : ℕ) : Type 0 where
  front : List ℕ
  split : decimal n ≡ front ++ ((48 + n % 10) ∷ [])
  tenth : 0 < length front → front ≡ decimal (n / 10)

last : (n : ℕ) → Last n
last n = go (ltb n 10) refl
  where
    go : (b : Bool) → ltb n 10 ≡ b → Last n
    go true e =
        let h = ltb-true n 10 e in
        let r : n % 10 ≡ n = omega arith in
        record { front = []; split = rw r (decimal-one n h); tenth = λ s. absurd (omega arith) }
    go false e = record { front = decimal (n / 10); split = decimal-last n (ltb-false n 10 e); tenth = λ s. refl }

-- the digits from i on are written, and `rest` has those before them, if there are any
pub record Backward (number : ℕ) (l : List ℕ) (at rest i : ℕ) (m : List ℕ) : Type 0 where
  pub front : List ℕ
  pub tail : List ℕ
  pub split : decimal number ≡ front ++ tail
  pub place : i ≡ at + length front
  pub left : at < i → front ≡ decimal rest
  pub list : m ≡ splice l i tail

module _ (number : ℕ) (l : List ℕ) (at : ℕ) (room : at + length (decimal number) ≤ length l) where
  module _ {rest i : ℕ} {m : List ℕ} (b : Backward number l at rest i m) where
    -- what is written lies inside
    within : i + length b.tail ≤ length l
    within = omega (arith, b.place, ap length b.split ∙ length-append b.front b.tail)

    pub backward_more : (j : ℕ) → i ≡ j + 1 → at ≤ j → Backward number l at (rest / 10) j (set m j (48 + rest % 10))
    backward_more j k h =
        let d : ℕ = 48 + rest % 10 in
        let w = last rest in
        let e : b.front ≡ w.front ++ (d ∷ []) = b.left (omega arith) ∙ w.split in
        let n = ap length e ∙ length-append w.front (d ∷ []) in
        record {
          front = w.front;
          tail = d ∷ b.tail;
          split = b.split ∙ ap (λ (x : List ℕ). x ++ b.tail) e ∙ append_assoc w.front (d ∷ []) b.tail;
          place = omega (arith, b.place, n);
          left = λ s. w.tenth (omega (arith, b.place, n));
          list =
              ap (λ (x : List ℕ). set x j d) (b.list ∙ ap (λ (q : ℕ). splice l q b.tail) k)
              ∙ set_before l j d b.tail (omega (arith, within));
        }
