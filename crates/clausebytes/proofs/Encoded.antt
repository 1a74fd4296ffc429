-- Clauses as bytes, and bytes as clauses: each way and back. Bytes are right exactly if they are those of right clauses.
-- Assumes nothing.
use mathlib.Core.Path.{◌≡◌, refl, sym, ap, ◌∙◌, subst, subst⁻¹}
use mathlib.Core.Bool.{Bool, true, false}
use mathlib.Core.List.{List, [], ◌∷◌, ◌++◌, append_assoc}
use mathlib.Core.Logic.{◌↔◌}
use Prim.Native.Nat.{ℕ, suc, ◌-◌, ◌*◌, ◌%◌, ◌^◌, ◌≤◌, ◌<◌}
use native.Mathlib.Omega.{arith}
use lib.Dec.{ltb}
use lib.ListN.{length, get_or, length-append}
use borrow.Author.Tests.{lt-ltb, le-ltb}
use Rattle.laws.specs.Numbers.{little_at, little}
use Rattle.laws.proofs.Bytes.{little_at-little, little-little_at}
use Rattle.clausal.specs.Clauses.{Literal, Clause, word_of, literal_bytes, clause_bytes, clauses_bytes}
use Rattle.clausal.specs.Totals.{literals_in}
use Rattle.clausebytes.specs.Words.{words_of, literal_of, clauses_of, most_variables, Within, Right, wrong_bytes}
use Rattle.clausebytes.specs.Inner.Checks.{room_of}
use Rattle.clausebytes.specs.Words as right
use Rattle.clausebytes.proofs.Laws.Stand.{Stand, no_word, a_zero, a_literal, stand, clauses-stand, closed-stand, Small, no_small}
use Rattle.clausebytes.proofs.Laws.Stand.{a_small, within-stand, within_all}
use Rattle.clausebytes.proofs.Laws.Wrong.{not_wrong, right_of_not_wrong}

-- R6.3: four bytes for each literal and for each clause
length-clause : (c : Clause) → length (clause_bytes c) ≡ 4 * suc (length c)
length-clause [] = refl
length-clause (l ∷ c) = omega (arith, length-clause c)

pub length-clauses : (cs : List Clause) → length (clauses_bytes cs) ≡ room_of (length cs) (literals_in cs)
length-clauses [] = refl
length-clauses (c ∷ cs) = length-append (clause_bytes c) (clauses_bytes cs) ∙ omega (arith, length-clause c, length-clauses cs)

-- bytes of one list of clauses behind another
pub clauses_append : (cs ds : List Clause) → clauses_bytes (cs ++ ds) ≡ clauses_bytes cs ++ clauses_bytes ds
clauses_append [] ds = refl
clauses_append (c ∷ cs) ds =
    ap (λ (r : List ℕ). clause_bytes c ++ r) (clauses_append cs ds)
    ∙ sym (append_assoc (clause_bytes c) (clauses_bytes cs) (clauses_bytes ds))

-- a literal of a declared variable is the literal of its word
literal-word : (v : ℕ) → v ≤ most_variables → (b : Bool) (z : ℕ) → 0 < z → z ≤ v
    → (literal_of (word_of b z) ≡ record { plain = b; variable = z }) × (word_of b z < 256 ^ 4) × (word_of b z ≡ 0 → ⊥)
literal-word v few true z h g =
    let t : ltb z (2 ^ 31) ≡ true = lt-ltb z (2 ^ 31) (omega arith) in
    (rw t, omega arith, λ e. omega arith)
literal-word v few false z h g =
    let t : ltb (2 ^ 32 - z) (2 ^ 31) ≡ false = le-ltb (2 ^ 32 - z) (2 ^ 31) (omega arith) in
    let e : 2 ^ 32 - (2 ^ 32 - z) ≡ z = omega arith in
    (rw t (λ i. record { plain = false; variable = e i }), omega arith, λ e. omega arith)

words_little : (x : ℕ) (r : List ℕ) → x < 256 ^ 4 → words_of (little 4 x ++ r) ≡ x ∷ words_of r
unfolding words_of
words_little x r h = ap (λ (y : ℕ). y ∷ words_of r) (little_at-little 4 x r h)

-- the bytes of right clauses stand for them
stand-bytes : (v : ℕ) → v ≤ most_variables → {cs : List Clause} → Within v cs → Stand (words_of (clauses_bytes cs)) cs
unfolding words_of
stand-bytes v few right.none = no_word
stand-bytes v few (right.closed w) = a_zero refl (stand-bytes v few w)
stand-bytes v few (right.literal {l = l} {c = c} {cs = cs} h g w) =
    let f = literal-word v few l.plain l.variable h g in
    let x = word_of l.plain l.variable in
    let e : clauses_bytes ((l ∷ c) ∷ cs) ≡ little 4 x ++ clauses_bytes (c ∷ cs) =
    append_assoc (literal_bytes l) (clause_bytes c) (clauses_bytes cs) in
    subst⁻¹ (λ (ws : List ℕ). Stand ws ((l ∷ c) ∷ cs)) (ap words_of e ∙ words_little x (clauses_bytes (c ∷ cs)) f.1)
    (subst (λ (y : Literal). Stand (x ∷ words_of (clauses_bytes (c ∷ cs))) ((y ∷ c) ∷ cs)) f.0 (a_literal f.2 (stand-bytes v few w)))

-- right clauses have right bytes, which stand for them
pub clauses_of_bytes : (v : ℕ) (cs : List Clause) → Right v cs → clauses_of (clauses_bytes cs) ≡ cs
clauses_of_bytes v cs r = clauses-stand (stand-bytes v r.variables r.within)

pub not_wrong_of_right : (v : ℕ) (cs : List Clause) → Right v cs → wrong_bytes (clauses_bytes cs) v ≡ false
not_wrong_of_right v cs r =
    let s = stand-bytes v r.variables r.within in
    let e = clauses_of_bytes v cs r in
    not_wrong (clauses_bytes cs) v (record {
      whole = omega (arith, length-clauses cs);
      last = closed-stand true s (λ _. refl);
      within = within_all v s r.within;
      variables = r.variables;
      clauses = omega (arith, ap length e, r.clauses);
      literals = omega (arith, ap literals_in e, r.literals);
    })

-- bytes of words
abbrev bytes_of : List ℕ → List ℕ
bytes_of [] = []
bytes_of (w ∷ ws) = little 4 w ++ bytes_of ws

-- a word and its literal take the same bytes
pub word_bytes : (w : ℕ) → w < 2 ^ 32 → literal_bytes (literal_of w) ≡ little 4 w
word_bytes w h = go (ltb w (2 ^ 31)) refl
  where
    go : (b : Bool) → ltb w (2 ^ 31) ≡ b → literal_bytes (literal_of w) ≡ little 4 w
    go true e = rw e
    go false e = rw e (ap (little 4) (omega arith))

bytes-stand : {ws : List ℕ} {cs : List Clause} → Stand ws cs → Small ws → clauses_bytes cs ≡ bytes_of ws
bytes-stand no_word k = refl
bytes-stand (a_zero {w = w} e s) (a_small h k) = rw e (ap (λ (r : List ℕ). little 4 0 ++ r) (bytes-stand s k))
bytes-stand (a_literal {w = w} {c = c} {cs = cs} n s) (a_small h k) =
    append_assoc (literal_bytes (literal_of w)) (clause_bytes c) (clauses_bytes cs)
    ∙ ap (λ (x : List ℕ). x ++ clauses_bytes (c ∷ cs)) (word_bytes w h)
    ∙ ap (λ (r : List ℕ). little 4 w ++ r) (bytes-stand s k)

-- below 256 each
abbrev pub Bytes : List ℕ → Type 0
Bytes l = (i : ℕ) → get_or l i 0 < 256

words_small : (l : List ℕ) → Bytes l → Small (words_of l)
unfolding words_of
words_small [] b = no_small
words_small (a ∷ []) b = no_small
words_small (a ∷ e ∷ []) b = no_small
words_small (a ∷ e ∷ c ∷ []) b = no_small
words_small (a ∷ e ∷ c ∷ d ∷ t) b = a_small {w = little_at 4 (a ∷ e ∷ c ∷ d ∷ t) 0} (omega (arith, b 0, b 1, b 2, b 3))
    (words_small t (λ i. b (suc (suc (suc (suc i))))))

words_back : (l : List ℕ) → length l % 4 ≡ 0 → Bytes l → bytes_of (words_of l) ≡ l
unfolding words_of
words_back [] h b = refl
words_back (a ∷ []) h b = absurd (omega arith)
words_back (a ∷ e ∷ []) h b = absurd (omega arith)
words_back (a ∷ e ∷ c ∷ []) h b = absurd (omega arith)
words_back (a ∷ e ∷ c ∷ d ∷ t) h b =
    ap (λ (x : List ℕ). x ++ bytes_of (words_of t)) (little-little_at 4 (a ∷ e ∷ c ∷ d ∷ t) 0 (omega arith) b)
    ∙ ap (λ (x : List ℕ). a ∷ e ∷ c ∷ d ∷ x) (words_back t (omega arith) (λ i. b (suc (suc (suc (suc i))))))

-- right bytes stand for right clauses, whose bytes they are
pub right_of_bytes : (bytes : List ℕ) (v : ℕ) → Bytes bytes → wrong_bytes bytes v ≡ false → Right v (clauses_of bytes)
right_of_bytes bytes v b e =
    let r = right_of_not_wrong bytes v e in
    record {
      variables = r.variables;
      clauses = r.clauses;
      literals = r.literals;
      within = within-stand v (stand true (words_of bytes) r.last) (words_small bytes b) r.within;
    }

pub bytes_back : (bytes : List ℕ) (v : ℕ) → Bytes bytes → wrong_bytes bytes v ≡ false → clauses_bytes (clauses_of bytes) ≡ bytes
bytes_back bytes v b e =
    let r = right_of_not_wrong bytes v e in
    bytes-stand (stand true (words_of bytes) r.last) (words_small bytes b) ∙ words_back bytes r.whole b

pub right_exactly : (bytes : List ℕ) (v : ℕ) → Bytes bytes
    → wrong_bytes bytes v ≡ false ↔ ((cs : List Clause) × Right v cs × (bytes ≡ clauses_bytes cs))
right_exactly bytes v b = (
  λ e. (clauses_of bytes, right_of_bytes bytes v b e, sym (bytes_back bytes v b e)),
  λ r. ap (λ (l : List ℕ). wrong_bytes l v) r.2 ∙ not_wrong_of_right v r.0 r.1,
)
