-- A loop that checks and counts the words of clause bytes: what it knows at each turn, and what it concludes.
-- Assumes nothing.
use mathlib.Core.Path.{◌≡◌, refl, sym, ap, ◌∙◌}
use mathlib.Core.Bool.{Bool, true, false, cond, false≢true}
use mathlib.Core.List.{List, [], ◌∷◌}
use Prim.Native.Nat.{ℕ, suc, ◌+◌, ◌%◌, ◌≤◌, ◌<◌}
use native.Mathlib.Omega.{arith}
use lib.ListN.{length}
use borrow.Author.Tests.{eq-eqb, ne_eqb, lt-ltb, le-ltb}
use Rattle.clausal.specs.Totals.{literals_in}
use Rattle.clausebytes.specs.Words.{words_of, literal_of, clauses_of, most_variables, most_clauses, most_literals, closed_from, all_within}
use Rattle.clausebytes.specs.Words.{wrong_bytes}
use Rattle.clausebytes.specs.Inner.Checks.{checked_of}
use Rattle.std.specs.Prelude.{Option, Some, None}
use Rattle.clausebytes.specs.declared.check.Counted.{Counted}
use Rattle.clausebytes.proofs.Laws.Stand.{stand, zeros_in, others_in, count-stand, literals-stand, words_stand}
use Rattle.clausebytes.proofs.Laws.Wrong.{RightBytes, not_wrong, right_of_not_wrong, wrong_of_fault}

-- what the check finds in right bytes
abbrev pub counted : ℕ → ℕ → Option Counted
counted clauses literals = Some (record { clauses = clauses; literals = literals })

-- of the words ws, `rest` is still to be looked at
pub record Checking (v : ℕ) (ws rest : List ℕ) (closed : Bool) (clauses literals : ℕ) : Type 0 where
  pub zeros : zeros_in ws ≡ clauses + zeros_in rest
  pub others : others_in ws ≡ literals + others_in rest
  pub last : closed_from true ws ≡ closed_from closed rest
  pub within : all_within v ws ≡ all_within v rest
  pub few_clauses : clauses ≤ most_clauses
  pub few_literals : literals ≤ most_literals

pub checking_start : (v : ℕ) (ws : List ℕ) → Checking v ws ws true 0 0
checking_start v ws = record {
  zeros = omega arith;
  others = omega arith;
  last = refl;
  within = refl;
  few_clauses = omega arith;
  few_literals = omega arith;
}

-- the number of zeros of right bytes, and of other words
module _ (bytes : List ℕ) (v : ℕ) where
  zeros-right : RightBytes bytes v → zeros_in (words_of bytes) ≤ most_clauses
  zeros-right r = omega (arith, count-stand (stand true (words_of bytes) r.last), r.clauses)

  others_right : RightBytes bytes v → others_in (words_of bytes) ≤ most_literals
  others_right r = omega (arith, literals-stand (stand true (words_of bytes) r.last), r.literals)

  -- what is concluded from a fault
  found-wrong : (RightBytes bytes v → ⊥) → None ≡ checked_of bytes v
  found-wrong n = rw (wrong_of_fault bytes v n)

  pub found-many : most_variables < v → None ≡ checked_of bytes v
  found-many h = found-wrong (λ r. omega (arith, r.variables))

  pub found_part : (length bytes % 4 ≡ 0 → ⊥) → None ≡ checked_of bytes v
  found_part h = found-wrong (λ r. h r.whole)

  -- a word is looked at
  module _ {rest : List ℕ} {closed : Bool} {clauses literals : ℕ} (w : ℕ)
      (k : Checking v (words_of bytes) (w ∷ rest) closed clauses literals) where
    -- a zero more
    pub checking_zero : w ≡ 0 → clauses < most_clauses → Checking v (words_of bytes) rest true (clauses + 1) literals
    unfolding closed_from all_within zeros_in others_in
    checking_zero e h =
        let z : zeros_in (w ∷ rest) ≡ suc (zeros_in rest) = rw (eq-eqb w 0 e) in
        let o : others_in (w ∷ rest) ≡ others_in rest = rw (eq-eqb w 0 e) in
        let m : (literal_of w).variable ≤ v = rw e (omega arith) in
        record {
          zeros = k.zeros ∙ omega arith;
          others = k.others ∙ omega arith;
          last = k.last ∙ ap (λ (b : Bool). closed_from b rest) (eq-eqb w 0 e);
          within = k.within ∙ rw (le-ltb v (literal_of w).variable m);
          few_clauses = omega arith;
          few_literals = k.few_literals;
        }

    -- a literal more
    pub checking_literal : (w ≡ 0 → ⊥) → (literal_of w).variable ≤ v → literals < most_literals
        → Checking v (words_of bytes) rest false clauses (literals + 1)
    unfolding closed_from all_within zeros_in others_in
    checking_literal e m h =
        let z : zeros_in (w ∷ rest) ≡ zeros_in rest = rw (ne_eqb w 0 e) in
        let o : others_in (w ∷ rest) ≡ suc (others_in rest) = rw (ne_eqb w 0 e) in
        record {
          zeros = k.zeros ∙ omega arith;
          others = k.others ∙ omega arith;
          last = k.last ∙ ap (λ (b : Bool). closed_from b rest) (ne_eqb w 0 e);
          within = k.within ∙ rw (le-ltb v (literal_of w).variable m);
          few_clauses = k.few_clauses;
          few_literals = omega arith;
        }

    -- a clause too many, a magnitude over the variables, a literal too many
    pub found-clause : w ≡ 0 → most_clauses ≤ clauses → None ≡ checked_of bytes v
    unfolding zeros_in
    found-clause e h =
        let z : zeros_in (w ∷ rest) ≡ suc (zeros_in rest) = rw (eq-eqb w 0 e) in
        found-wrong (λ r. omega (arith, k.zeros, zeros-right r))

    pub found-magnitude : v < (literal_of w).variable → None ≡ checked_of bytes v
    unfolding all_within
    found-magnitude h =
        let over : all_within v (words_of bytes) ≡ false = k.within ∙ rw (lt-ltb v (literal_of w).variable h) in
        found-wrong (λ r. false≢true (sym over ∙ r.within))

    pub found-literal : (w ≡ 0 → ⊥) → most_literals ≤ literals → None ≡ checked_of bytes v
    unfolding others_in
    found-literal e h =
        let o : others_in (w ∷ rest) ≡ suc (others_in rest) = rw (ne_eqb w 0 e) in
        found-wrong (λ r. omega (arith, k.others, others_right r))

  -- the end: a clause is open, or all is right
  module _ {closed : Bool} {clauses literals : ℕ} (k : Checking v (words_of bytes) [] closed clauses literals) where
    pub found-open : closed ≡ false → None ≡ checked_of bytes v
    unfolding closed_from
    found-open e = found-wrong (λ r. false≢true (sym (k.last ∙ e) ∙ r.last))

    pub found_right : length bytes % 4 ≡ 0 → v ≤ most_variables → closed ≡ true → counted clauses literals ≡ checked_of bytes v
    unfolding closed_from all_within zeros_in others_in
    found_right h g e =
        let s = stand true (words_of bytes) (k.last ∙ e) in
        let z : clauses ≡ length (clauses_of bytes) = omega (arith, k.zeros, count-stand s) in
        let o : literals ≡ literals_in (clauses_of bytes) = omega (arith, k.others, literals-stand s) in
        let r : wrong_bytes bytes v ≡ false = not_wrong bytes v (record {
          whole = h;
          last = k.last ∙ e;
          within = k.within;
          variables = g;
          clauses = omega (arith, z, k.few_clauses);
          literals = omega (arith, o, k.few_literals);
        }) in
        (λ i. counted (z i) (o i)) ∙ rw r

-- what a caller learns: refusal 9 ..
pub refused_of_checked : (bytes : List ℕ) (v : ℕ) → checked_of bytes v ≡ None → wrong_bytes bytes v ≡ true
refused_of_checked bytes v e = go (wrong_bytes bytes v) refl e
  where
    go : (b : Bool) → wrong_bytes bytes v ≡ b → cond b None (counted (length (clauses_of bytes)) (literals_in (clauses_of bytes))) ≡ None
        → wrong_bytes bytes v ≡ true
    go true f h = f
    go false f h = let z : ◌≡◌ {A = ℕ} 0 1 = cc in absurd (omega arith)

-- .. or right bytes, with their totals
pub record Found (bytes : List ℕ) (v clauses literals : ℕ) : Type 0 where
  pub right : RightBytes bytes v
  pub not_wrong : wrong_bytes bytes v ≡ false
  pub clauses_are : length (clauses_of bytes) ≡ clauses
  pub literals_are : literals_in (clauses_of bytes) ≡ literals
  pub words : length (words_of bytes) ≡ literals + clauses

pub found_of_checked : (bytes : List ℕ) (v clauses literals : ℕ) → checked_of bytes v ≡ counted clauses literals
    → Found bytes v clauses literals
found_of_checked bytes v clauses literals e = go (wrong_bytes bytes v) refl e
  where
    told : (Counted → ℕ) → Option Counted → ℕ
    told f None = 0
    told f (Some x) = f x

    go : (b : Bool) → wrong_bytes bytes v ≡ b
        → cond b None (counted (length (clauses_of bytes)) (literals_in (clauses_of bytes))) ≡ counted clauses literals
        → Found bytes v clauses literals
    go true f h = let z : ◌≡◌ {A = ℕ} 0 1 = cc in absurd (omega arith)
    go false f h =
        let r = right_of_not_wrong bytes v f in
        let c : length (clauses_of bytes) ≡ clauses = ap (told (λ (x : Counted). x.clauses)) h in
        let l : literals_in (clauses_of bytes) ≡ literals = ap (told (λ (x : Counted). x.literals)) h in
        record {
          right = r;
          not_wrong = f;
          clauses_are = c;
          literals_are = l;
          words = omega (arith, words_stand (stand true (words_of bytes) r.last), c, l);
        }
