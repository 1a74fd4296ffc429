-- Little-endian numbers: what is written is read again, and what is read is written again, at every width.
-- Assumes nothing.
use mathlib.Core.Path.{◌≡◌, refl, ap, ◌∙◌, subst}
use mathlib.Core.List.{List, [], ◌∷◌, ◌++◌}
use Prim.Native.Nat.{ℕ, zero, suc, ◌+◌, ◌-◌, ◌*◌, ◌/◌, ◌%◌, ◌^◌, ◌≤◌, ◌<◌}
use native.Mathlib.Nat.{pow-suc, pow-le-pow_right}
use native.Mathlib.Numerals.{add-one}
use native.Mathlib.Omega.{arith}
use lib.ListN.{length, get_or, set, take, drop}
use lib.Seq.{drop-cons}
use Rattle.laws.specs.Numbers.{little_at, little}
use Rattle.laws.proofs.Stored.{Storing, storing_room, storing_more, stored-byte}

pub length-little : (w x : ℕ) → length (little w x) ≡ w
length-little zero x = refl
length-little (suc w) x = ap suc (length-little w (x / 256))

-- a byte in front moves every place by one
pub little_at-cons : (w a : ℕ) (l : List ℕ) (j : ℕ) → little_at w (a ∷ l) (suc j) ≡ little_at w l j
little_at-cons zero a l j = refl
little_at-cons (suc w) a l j =
    rw (add-one (suc j), add-one j) (ap (λ (x : ℕ). get_or l j 0 + 256 * x) (little_at-cons w a l (suc j)))

-- reading what is written
pub little_at-little : (w x : ℕ) (r : List ℕ) → x < 256 ^ w → little_at w (little w x ++ r) 0 ≡ x
little_at-little zero x r h = omega arith
little_at-little (suc w) x r h =
    let g : x < 256 ^ w * 256 = rw pow-suc at h in
    let e : little_at w (x % 256 ∷ (little w (x / 256) ++ r)) 1 ≡ x / 256 =
    little_at-cons w (x % 256) (little w (x / 256) ++ r) 0 ∙ little_at-little w (x / 256) r (omega arith) in
    ap (λ (y : ℕ). x % 256 + 256 * y) e ∙ omega arith

-- writing what is read
pub little-little_at : (w : ℕ) (l : List ℕ) (j : ℕ) → j + w ≤ length l → ((i : ℕ) → get_or l i 0 < 256) → little w (little_at w l j)
    ≡ take w (drop j l)
little-little_at zero l j h b = refl
little-little_at (suc w) l j h b =
    let x : ℕ = little_at w l (j + 1) in
    let y : ℕ = get_or l j 0 in
    let g : y < 256 = b j in
    let m : (y + 256 * x) % 256 ≡ y = omega arith in
    let d : (y + 256 * x) / 256 ≡ x = omega arith in
    rw (drop-cons l j 0 (omega arith))
    (ap (λ (z : ℕ). z ∷ little w ((y + 256 * x) / 256)) m
    ∙ ap (λ (z : ℕ). y ∷ little w z) d
    ∙ ap (λ (z : List ℕ). y ∷ z) (little-little_at w l (j + 1) (omega arith) b ∙ ap (λ (k : ℕ). take w (drop k l)) (add-one j)))

-- A loop that reads a number from its highest byte down: the bytes from i on, of w, have been read.
pub record Reading (l : List ℕ) (at w i x : ℕ) : Type 0 where
  pub within : i ≤ w
  pub read : x ≡ little_at (w - i) l (at + i)
  pub small : x < 256 ^ (w - i)

module _ (l : List ℕ) (at w : ℕ) where
  pub reading_start : Reading l at w w 0
  reading_start =
      let e : w - w ≡ 0 = omega arith in
      record { within = omega arith; read = rw e; small = rw e (omega arith) }

  module _ (i x y : ℕ) (r : Reading l at w i x) (some : 0 < i) (byte : y < 256) where
    left : w - (i - 1) ≡ suc (w - i)
    left = omega (arith, r.within)

    below : 256 * x + y < 256 ^ suc (w - i)
    below = omega (arith, r.small, pow-suc 256 (w - i))

    -- what is read fits wherever the whole number does
    pub reading_fits : 256 * x + y < 256 ^ w
    reading_fits =
        let k : suc (w - i) ≤ w = omega (arith, r.within) in
        let p : 0 < 256 = omega arith in
        omega (arith, below, pow-le-pow_right p k)

    pub reading_more : y ≡ get_or l (at + (i - 1)) 0 → Reading l at w (i - 1) (256 * x + y)
    reading_more e =
        let k : at + i ≡ at + (i - 1) + 1 = omega arith in
        record {
          within = omega (arith, r.within);
          read = rw left ((omega arith) ∙ (λ j. e j + 256 * (r.read ∙ ap (little_at (w - i) l) k) j));
          small = rw left below;
        }

  pub reading_end : (i x : ℕ) → Reading l at w i x → i ≡ 0 → x ≡ little_at w l at
  reading_end i x r e =
      let f : w - i ≡ w = omega arith in
      let g : at + i ≡ at = omega arith in
      r.read ∙ (λ j. little_at (f j) l (g j))

-- A loop that stores a number from its lowest byte up: w bytes of x are still to come.
pub storing_byte : {whole l : List ℕ} {at : ℕ} {m : List ℕ} {n : ℕ} → at + length whole ≤ length l → (w i x : ℕ) → i < w
    → Storing whole l at (little (w - i) x) m n → Storing whole l at (little (w - (i + 1)) (x / 256)) (set m n (x % 256)) (n + 1)
storing_byte {whole} {l} {at} {m} {n} fits w i x h s =
    let e : w - i ≡ suc (w - (i + 1)) = omega arith in
    let t : Storing whole l at ((x % 256 ∷ []) ++ little (w - (i + 1)) (x / 256)) m n =
    subst (λ (k : ℕ). Storing whole l at (little k x) m n) e s in
    storing_more fits (x % 256 ∷ []) (little (w - (i + 1)) (x / 256)) t
    (stored-byte m n (x % 256) (omega (arith, storing_room fits (x % 256 ∷ []) (little (w - (i + 1)) (x / 256)) t)))
