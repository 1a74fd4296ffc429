-- When clause bytes are wrong, and when they are right.
-- Assumes nothing.
use mathlib.Core.Path.{◌≡◌, refl}
use mathlib.Core.Bool.{Bool, true, false, not}
use mathlib.Core.List.{List}
use Prim.Native.Nat.{ℕ, ◌%◌, ◌≤◌}
use lib.Dec.{eqb, ltb}
use lib.ListN.{length}
use borrow.Author.Tests.{eq-eqb, le-ltb, eqb-true, ltb-false, not-false}
use Rattle.laws.proofs.Choices.{neither}
use Rattle.clausal.specs.Totals.{literals_in}
use Rattle.clausebytes.specs.Words.{words_of, clauses_of, most_variables, most_clauses, most_literals, closed_from, all_within, wrong_bytes}

-- what right bytes are
pub record RightBytes (bytes : List ℕ) (v : ℕ) : Type 0 where
  pub whole : length bytes % 4 ≡ 0
  pub last : closed_from true (words_of bytes) ≡ true
  pub within : all_within v (words_of bytes) ≡ true
  pub variables : v ≤ most_variables
  pub clauses : length (clauses_of bytes) ≤ most_clauses
  pub literals : literals_in (clauses_of bytes) ≤ most_literals

module _ (bytes : List ℕ) (v : ℕ) where
  pub not_wrong : RightBytes bytes v → wrong_bytes bytes v ≡ false
  not_wrong r =
      rw (
        eq-eqb (length bytes % 4) 0 r.whole,
        r.last,
        r.within,
        le-ltb most_variables v r.variables,
        le-ltb most_clauses (length (clauses_of bytes)) r.clauses,
        le-ltb most_literals (literals_in (clauses_of bytes)) r.literals,
      )

  pub right_of_not_wrong : wrong_bytes bytes v ≡ false → RightBytes bytes v
  right_of_not_wrong e =
      let a = neither (not (eqb (length bytes % 4) 0)) _ e in
      let b = neither (not (closed_from true (words_of bytes))) _ a.1 in
      let c = neither (not (all_within v (words_of bytes))) _ b.1 in
      let d = neither (ltb most_variables v) _ c.1 in
      let f = neither (ltb most_clauses (length (clauses_of bytes))) _ d.1 in
      record {
        whole = eqb-true _ 0 (not-false _ a.0);
        last = not-false _ b.0;
        within = not-false _ c.0;
        variables = ltb-false most_variables v d.0;
        clauses = ltb-false most_clauses (length (clauses_of bytes)) f.0;
        literals = ltb-false most_literals (literals_in (clauses_of bytes)) f.1;
      }

  -- one fault is enough
  pub wrong_of_fault : (RightBytes bytes v → ⊥) → wrong_bytes bytes v ≡ true
  wrong_of_fault n = go (wrong_bytes bytes v) refl
    where
      go : (b : Bool) → wrong_bytes bytes v ≡ b → wrong_bytes bytes v ≡ true
      go true e = e
      go false e = absurd (n (right_of_not_wrong e))
