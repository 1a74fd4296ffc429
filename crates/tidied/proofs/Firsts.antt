-- The fate of a clause by its number: it repeats the first clause of the whole list that has the same literals.
-- For that one is kept: none before it has the same literals. Assumes nothing.
use mathlib.Core.Path.{◌≡◌, refl, sym, ap, ◌∙◌, fun_ext, subst⁻¹}
use mathlib.Core.Bool.{Bool, true, false, cond, not}
use mathlib.Core.List.{List, [], ◌∷◌, ◌++◌}
use Prim.Native.Nat.{ℕ, zero, suc, ◌+◌, ◌<◌}
use native.Mathlib.Nat.{zero-add}
use native.Mathlib.Omega.{arith}
use lib.Dec.{ltb}
use lib.ListN.{length, get_or}
use borrow.Author.Tests.{lt-ltb, le-ltb}
use Rattle.laws.specs.Lists.{first_from, first}
use Rattle.clausal.specs.Clauses.{Clause}
use Rattle.tidied.specs.Tidying.{is_tautology, same_literals, Fate, stays, tautology, repeats, Kept, compared_with, fate_after, kept_by}
use Rattle.tidied.specs.Tidying.{fates_after, fates_of}
use Rattle.tidied.specs.Inner.Firsts.{differs, fate_by}
use Rattle.tidied.proofs.Sets.{same_refl, same-both, tautology-same}

length-after : (ks : List Kept) (n : ℕ) (cs : List Clause) → length (fates_after ks n cs) ≡ length cs
unfolding fates_after
length-after ks n [] = refl
length-after ks n (c ∷ cs) = ap suc (length-after (ks ++ kept_by (fate_after ks c) n c) (suc n) cs)

pub length_fates : (cs : List Clause) → length (fates_of cs) ≡ length cs
length_fates cs = length-after [] 0 cs

-- the second of two fates where the first is to stay
abbrev pub or_else : Fate → Fate → Fate
or_else stays g = g
or_else tautology g = tautology
or_else (repeats m) g = repeats m

module _ (right : ℕ → Bool) where
  -- a repeat of the first of the k numbers from i on that fails the test
  abbrev found_from : ℕ → ℕ → Fate
  found_from i k = cond (ltb (first_from right i k) (i + k)) (repeats (first_from right i k)) stays

  found_none : (i : ℕ) → found_from i 0 ≡ stays
  unfolding first_from
  found_none i = rw (le-ltb i (i + 0) (omega arith))

  found_front : (i k : ℕ) → found_from i (suc k) ≡ cond (right i) (found_from (i + 1) k) (repeats i)
  unfolding first_from
  found_front i k = go (right i) refl
    where
      go : (b : Bool) → right i ≡ b → found_from i (suc k) ≡ cond b (found_from (i + 1) k) (repeats i)
      go true e = let s : i + suc k ≡ i + 1 + k = omega arith in rw (e, s)
      go false e = rw (e, lt-ltb i (i + suc k) (omega arith))

  -- the fate by number j alone
  abbrev here : ℕ → Fate
  here j = cond (right j) stays (repeats j)

  found-last : (i k : ℕ) → found_from i (suc k) ≡ or_else (found_from i k) (here (i + k))
  found-last i zero = let z : i + 0 ≡ i = omega arith in found_front i 0 ∙ rw (found_none (i + 1), found_none i, z)
  found-last i (suc k) =
      found_front i (suc k)
      ∙ go (right i) (found-last (i + 1) k)
      ∙ ap (λ (f : Fate). or_else f (here (i + suc k))) (sym (found_front i k))
    where
      go : (b : Bool) → found_from (i + 1) (suc k) ≡ or_else (found_from (i + 1) k) (here (i + 1 + k))
          → cond b (found_from (i + 1) (suc k)) (repeats i)
          ≡ or_else (cond b (found_from (i + 1) k) (repeats i)) (here (i + suc k))
      go true ih = ih ∙ ap (λ (j : ℕ). or_else (found_from (i + 1) k) (here j)) (omega arith)
      go false ih = refl

  -- the same of the numbers below n
  abbrev found_below : ℕ → Fate
  found_below n = cond (ltb (first right n) n) (repeats (first right n)) stays

  found-suc : (n : ℕ) → found_below (suc n) ≡ or_else (found_below n) (here n)
  found-suc n = simp zero-add at (found-last 0 n)

pub compared_append : (ks js : List Kept) (c : Clause)
    → compared_with (ks ++ js) c ≡ or_else (compared_with ks c) (compared_with js c)
unfolding compared_with
compared_append [] js c = refl
compared_append (k ∷ ks) js c = go (same_literals k.clause c) (compared_append ks js c)
  where
    go : (b : Bool) → compared_with (ks ++ js) c ≡ or_else (compared_with ks c) (compared_with js c)
        → cond b (repeats k.number) (compared_with (ks ++ js) c)
        ≡ or_else (cond b (repeats k.number) (compared_with ks c)) (compared_with js c)
    go true ih = refl
    go false ih = ih

-- clause n among the kept ones, where it has the same literals, and where it has not
compared_same : (f : Fate) (n : ℕ) (d c : Clause) → same_literals d c ≡ true
    → or_else f (compared_with (kept_by f n d) c) ≡ or_else f (repeats n)
unfolding compared_with
compared_same stays n d c s = rw s
compared_same tautology n d c s = refl
compared_same (repeats m) n d c s = refl

compared-other : (f : Fate) (n : ℕ) (d c : Clause) → same_literals d c ≡ false → compared_with (kept_by f n d) c ≡ stays
unfolding compared_with
compared-other stays n d c s = rw s
compared-other tautology n d c s = refl
compared-other (repeats m) n d c s = refl

-- the kept clauses once clause n is looked at, which is d
abbrev kept : ℕ → List Kept → Clause → List Kept
kept n ks d = ks ++ kept_by (fate_after ks d) n d

module _ (cs : List Clause) where
  -- the kept clauses stand for all clauses before n, for a clause that is no tautology
  abbrev Standing : ℕ → List Kept → Type 0
  Standing n ks = (c : Clause) → is_tautology c ≡ false → compared_with ks c ≡ found_below (differs cs c) n

  -- so they decide on the fate of a clause
  fate_standing : (n : ℕ) (ks : List Kept) → Standing n ks → (c : Clause)
      → fate_after ks c ≡ cond (is_tautology c) tautology (found_below (differs cs c) n)
  fate_standing n ks known c = go (is_tautology c) refl
    where
      go : (b : Bool) → is_tautology c ≡ b
          → cond b tautology (compared_with ks c) ≡ cond b tautology (found_below (differs cs c) n)
      go true t = refl
      go false t = known c t

  -- clauses with the same literals differ from the same clauses
  differs-same : (d c : Clause) → same_literals d c ≡ true → differs cs d ≡ differs cs c
  differs-same d c s = fun_ext (λ j. let a = get_or cs j [] in ap not (same-both a a d c (same_refl a) s))

  module _ (n : ℕ) (ks : List Kept) (known : Standing n ks) (c : Clause) (t : is_tautology c ≡ false) where
    abbrev before : Fate
    before = found_below (differs cs c) n

    -- clause n has the same literals: then both have the same fate
    standing-same : (d : Clause) → same_literals d c ≡ true
        → or_else before (compared_with (kept_by (fate_after ks d) n d) c) ≡ or_else before (repeats n)
    standing-same d s =
        let q : fate_after ks d ≡ before =
        fate_standing n ks known d ∙ rw (tautology-same d c s, t, differs-same d c s) in
        ap (λ (x : Fate). or_else before (compared_with (kept_by x n d) c)) q ∙ compared_same before n d c s

    standing-more : compared_with (kept n ks (get_or cs n [])) c ≡ found_below (differs cs c) (suc n)
    standing-more =
        compared_append ks more c
        ∙ ap (λ (x : Fate). or_else x (compared_with more c)) (known c t)
        ∙ go (same_literals d c) refl
        ∙ sym (found-suc (differs cs c) n)
      where
        d : Clause
        d = get_or cs n []

        more : List Kept
        more = kept_by (fate_after ks d) n d

        go : (b : Bool) → same_literals d c ≡ b
            → or_else before (compared_with more c) ≡ or_else before (cond (not b) stays (repeats n))
        go true s = standing-same d s
        go false s = ap (or_else before) (compared-other (fate_after ks d) n d c s)

  standing-none : Standing 0 []
  unfolding compared_with first_from
  standing-none c t = refl

  -- what is left of the clauses from n on
  abbrev Left : ℕ → List Clause → Type 0
  Left n rest = (i : ℕ) → get_or rest i [] ≡ get_or cs (n + i) []

  fates_at : (ks : List Kept) (n : ℕ) (rest : List Clause) → Standing n ks → Left n rest
      → (i : ℕ) → i < length rest → get_or (fates_after ks n rest) i stays ≡ fate_by cs (n + i)
  unfolding fates_after
  fates_at ks n [] known left i h = absurd (omega arith)
  fates_at ks n (c ∷ rest) known left zero h =
      let z : n + 0 ≡ n = omega arith in
      ap (fate_after ks) (left 0) ∙ rw z (fate_standing n ks known (get_or cs n []))
  fates_at ks n (c ∷ rest) known left (suc i) h =
      let z : n + 0 ≡ n = omega arith in
      let e = rw z at (left 0) in
      let more = subst⁻¹ (λ (d : Clause). Standing (suc n) (kept n ks d)) e (standing-more n ks known) in
      let less : Left (suc n) rest = λ j. left (suc j) ∙ ap (λ (k : ℕ). get_or cs k []) (omega arith) in
      fates_at (kept n ks c) (suc n) rest more less i (omega arith) ∙ ap (fate_by cs) (omega arith)

-- comparing with every earlier clause tells the fate
pub fate_at : (cs : List Clause) (n : ℕ) → n < length cs → get_or (fates_of cs) n stays ≡ fate_by cs n
fate_at cs n h =
    fates_at cs [] 0 cs (standing-none cs) (λ i. ap (λ (k : ℕ). get_or cs k []) (sym (zero-add i))) n h
    ∙ ap (fate_by cs) (zero-add n)
