-- What is noted of where names begin: at first, and after a name was found.
-- Assumes nothing.
use mathlib.Core.Path.{◌≡◌, refl, sym, ap, ◌∙◌, subst}
use mathlib.Core.Bool.{Bool, true, false, cond}
use mathlib.Core.List.{List}
use Prim.Native.Nat.{ℕ, ◌+◌, ◌-◌, ◌*◌, ◌/◌, ◌%◌, ◌≤◌, ◌<◌}
use native.Mathlib.Omega.{arith}
use lib.Dec.{leb}
use lib.ListN.{get_or, set}
use borrow.Author.Tests.{leb-true, leb-false, le-leb, lt-leb}
use Rattle.laws.specs.Lists.{up_to}
use Rattle.laws.specs.Inner.Stores.{pad_to}
use Rattle.laws.proofs.Arrays.{get_d_pad, length_pad}
use Rattle.laws.proofs.Upward.{length-up_to, get_d_up_to, pad_up_to}
use Rattle.names.specs.Names.{name_in}
use Rattle.names.specs.Inner.Notes.{lengths, place_of, no_notes, notes_of, found_in, looked_up}
use Rattle.names.specs.Inner.Notes.{Notable, Noted, Within, Known, Findable, Looked}
use Rattle.names.specs.declared.list.Names.{Names}
use Rattle.names.specs.declared.lookup.Voices.{Voices}
use Rattle.names.proofs.Laws.Places.{Reached, reached-start, reached-place}

-- where each 32nd name begins
abbrev block_of : List ℕ → List ℕ → ℕ → ℕ
block_of list before j = place_of list (32 * j)

-- the first k blocks are noted
abbrev blocks_to : Names → ℕ → Names
blocks_to x k = record { list = x.list; begins = pad_to 1_022 0 (up_to (block_of x.list.now) k); last = 0; at = 0 }

-- the first notes
pub noted-first : {x : Names} {n : ℕ} → Notable x n → Noted (notes_of x n) n
unfolding lengths
noted-first {x} {n} h =
    let k = n / 32 + 1 in
    let f = block_of x.list.now in
    let few : n / 32 ≤ 1_000 = omega (arith, h.few) in
    record {
      right = h.right;
      few = h.few;
      size = length_pad 0 1_022 (up_to f k) (omega (arith, length-up_to f k));
      blocks = λ j l. get_d_pad 0 1_022 (up_to f k) j ∙ get_d_up_to f 0 j k (omega arith);
      number = omega arith;
      place = refl;
    }

-- a name was found
pub noted-found : {x : Names} {n : ℕ} → Noted x n → (j : ℕ) → j < n → Noted (found_in x j) n
noted-found h j l = record { right = h.right; few = h.few; size = h.size; blocks = h.blocks; number = omega arith; place = refl }

-- what holds after a name was found in either list holds after a lookup
pub looked_either : {x : Voices} {n : ℕ} (P : Voices → Type 0)
    → (n ≤ x.options → P (record x { option_names = found_in x.option_names (n - 1) }))
    → (x.options < n → P (record x { helper_names = found_in x.helper_names (n - x.options - 1) })) → P (looked_up x n)
looked_either {x} {n} P f g = go (leb n x.options) refl
  where
    go : (b : Bool) → leb n x.options ≡ b
        → P (cond b (record x { option_names = found_in x.option_names (n - 1) })
        (record x { helper_names = found_in x.helper_names (n - x.options - 1) }))
    go true e = f (leb-true n x.options e)
    go false e = g (leb-false n x.options e)

-- one of both lists was looked into, and both still have their notes
pub known_looked : {x : Voices} {n : ℕ} → Findable x n → Known (looked_up x n)
known_looked {x} {n} f =
    looked_either Known
    (λ h. record { options = noted-found f.known.options (n - 1) (omega (arith, f.some)); helpers = f.known.helpers })
    (λ h. record {
      options = f.known.options;
      helpers = noted-found f.known.helpers (n - x.options - 1) (omega (arith, f.most));
    })

-- what was looked up, from the list of the options ..
module _ (x : Voices) (n : ℕ) {found : List ℕ} {after : Names} where
  pub looked_option : n ≤ x.options → (found ≡ name_in x.option_names.list.now (n - 1)) × (after ≡ found_in x.option_names (n - 1))
      → Looked x n found (record x { option_names = after })
  looked_option h e =
      let b = le-leb n x.options h in
      record { name = rw b e.0; notes = rw b (ap (λ (z : Names). record x { option_names = z }) e.1) }

  -- .. and from that of the helpers
  pub looked_helper : x.options < n
      → (found ≡ name_in x.helper_names.list.now (n - x.options - 1)) × (after ≡ found_in x.helper_names (n - x.options - 1))
      → Looked x n found (record x { helper_names = after })
  looked_helper h e =
      let b = lt-leb n x.options h in
      record { name = rw b e.0; notes = rw b (ap (λ (z : Names). record x { helper_names = z }) e.1) }

-- a name that is noted: a reader that looks for name j may begin there
module _ {x : Names} {j : ℕ} (w : Within x j) {i at : ℕ} where
  reached-noted : {k p : ℕ} → k ≤ j → p ≡ place_of x.list.now k → i ≡ k → at ≡ p → Reached x.list.now i at
  reached-noted {k} h e f g =
      let r = reached-place w.count w.noted.right k (omega (arith, w.below)) in
      subst (λ (m : ℕ). Reached x.list.now m at) (sym f) (subst (λ (m : ℕ). Reached x.list.now k m) (sym (g ∙ e)) r)

  -- the last 32nd one
  pub reached_block : i ≡ j - j % 32 → at ≡ get_or x.begins (j / 32) 0 → Reached x.list.now i at
  reached_block e f =
      let h : 32 * (j / 32) ≤ j = omega arith in
      let g : i ≡ 32 * (j / 32) = omega arith in
      reached-noted h (w.noted.blocks (j / 32) (omega (arith, w.below))) g f

  -- the last one that was found
  pub reached-last : x.last ≤ j → i ≡ x.last → at ≡ x.at → Reached x.list.now i at
  reached-last h e f = reached-noted h w.noted.place e f

-- .. or at name j itself, once it is known where it begins
pub reached-found : {x : Names} {j at : ℕ} → Within x j → at ≡ place_of x.list.now j → Reached x.list.now j at
reached-found w e = reached-noted w (omega arith) refl refl e

-- a reader that notes where each 32nd name begins: it has come to name i
pub record Noting (x : Names) (n : ℕ) (y : Names) (at i : ℕ) : Type 0 where
  pub up_to : i ≤ n
  pub reached : Reached x.list.now i at
  pub noted : y ≡ notes_of x i

pub noting_start : {x : Names} {n : ℕ} → Notable x n → Noting x n x 0 0
unfolding up_to lengths
noting_start {x} h = record { up_to = omega arith; reached = reached-start x.list.now; noted = h.none ∙ first }
  where
    first : no_notes x.list ≡ notes_of x 0
    first = refl

module _ {x y : Names} {n at i : ℕ} (h : Noting x n y at i) (l : i < n) {next : ℕ} (r : Reached x.list.now (i + 1) next) where
  -- nothing is noted of a name that is no 32nd one
  pub noting_pass : ((i + 1) % 32 ≡ 0 → ⊥) → Noting x n y next (i + 1)
  noting_pass f =
      let e : i / 32 ≡ (i + 1) / 32 = omega arith in
      record {
        up_to = omega arith;
        reached = r;
        noted = h.noted ∙ ap (λ (k : ℕ). blocks_to x (k + 1)) e;
      }

  -- a 32nd name
  pub noting_more : (i + 1) % 32 ≡ 0 → n ≤ 32_000 → Noting x n (record y { begins = set y.begins ((i + 1) / 32) next }) next (i + 1)
  noting_more f few =
      let k = i / 32 + 1 in
      let e : (i + 1) / 32 ≡ i / 32 + 1 = omega arith in
      let g : 32 * (i / 32 + 1) ≡ i + 1 = omega arith in
      record {
        up_to = omega arith;
        reached = r;
        noted = (λ t. record (h.noted t) { begins = set ((h.noted t).begins) (e t) next })
            ∙ ap (λ (l : List ℕ). record (notes_of x 0) { begins = l })
            (pad_up_to (block_of x.list.now) 0 1_022 k next (omega arith) (r.place ∙ ap (place_of x.list.now) (sym g)))
            ∙ ap (λ (j : ℕ). blocks_to x (j + 1)) (sym e);
      }

pub noting_end : {x y : Names} {n at i : ℕ} → Noting x n y at i → n ≤ i → y ≡ notes_of x n
noting_end {x} {n = n} {i = i} h l =
    let e : i ≡ n = omega (arith, h.up_to) in
    h.noted ∙ ap (notes_of x) e
