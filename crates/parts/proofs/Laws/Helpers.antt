-- Helpers in rising node number: how many there can be, and a loop that gives them out.
-- Assumes nothing.
use mathlib.Core.Path.{◌≡◌, sym, ap, ◌∙◌, subst}
use mathlib.Core.Bool.{Bool, true, false, cond}
use mathlib.Core.List.{List}
use Prim.Native.Nat.{ℕ, ◌+◌, ◌≤◌, ◌<◌}
use native.Mathlib.Nat.{add_assoc, add-zero}
use native.Mathlib.Numerals.{add-one}
use native.Mathlib.Omega.{arith}
use lib.ListN.{length, get_or, get_or-eq_default, set}
use Rattle.std.proofs.lemmas.List.{set-get_or}
use Rattle.laws.proofs.Arrays.{get_d_pad}
use Rattle.laws.specs.Lists.{up_to}
use Rattle.laws.proofs.Upward.{length-up_to, pad_up_to}
use Rattle.formula.specs.Tables.{most_nodes}
use Rattle.marks.specs.Sets.{renamed}
use Rattle.clausal.specs.Clauses.{Renaming, renaming, renamed_below, helper_of, name_of, variables_of}
use Rattle.clausal.proofs.Renamed.{below_le}
use Rattle.parts.specs.Inner.Helpers.{helpers_of, Unnamed}

module _ (taken : ℕ) (s zeros : List ℕ) where
  abbrev u : Renaming
  u = renaming taken s

  -- the nodes below i have their helpers
  pub record Naming (helpers : List ℕ) (last i : ℕ) : Type 0 where
    pub asked : Unnamed taken s zeros
    pub count : last ≡ variables_of u i
    pub array : helpers ≡ helpers_of u i

  pub naming_start : Unnamed taken s zeros → Naming zeros taken 0
  unfolding renamed_below up_to
  naming_start a = record { asked = a; count = omega arith; array = a.zeros }

  module _ (helpers : List ℕ) (last i : ℕ) (n : Naming helpers last i) (h : i < length s) where
    pub naming_fits : last ≤ taken + i
    naming_fits = omega (arith, n.count, below_le s i)

    step : (more x : ℕ) → more ≡ cond (renamed s i) 1 0 → x ≡ name_of u i → Naming (set helpers i x) (last + more) (i + 1)
    unfolding renamed_below
    step more x e f = record {
      asked = n.asked;
      count =
          (λ j. n.count j + e j)
          ∙ add_assoc taken (renamed_below s i) (cond (renamed s i) 1 0)
          ∙ ap (variables_of u) (sym (add-one i));
      array =
          ap (λ (l : List ℕ). set l i x) n.array
          ∙ pad_up_to (λ before j. name_of u j) 0 most_nodes i x (omega (arith, n.asked.few)) f;
    }

    -- a renamed node has the next number
    pub naming_named : renamed s i ≡ true → Naming (set helpers i (last + 1)) (last + 1) (i + 1)
    naming_named e =
        step 1 (last + 1) (ap (λ (z : Bool). cond z 1 0) (sym e))
        (omega (arith, n.count) ∙ ap (λ (z : Bool). cond z (helper_of u i) 0) (sym e))

    -- at any other the array has its 0
    pub naming_plain : renamed s i ≡ false → Naming helpers last (i + 1)
    naming_plain e =
        let same = step 0 0 (ap (λ (z : Bool). cond z 1 0) (sym e)) (ap (λ (z : Bool). cond z (helper_of u i) 0) (sym e)) in
        subst (λ (l : List ℕ). Naming l last (i + 1)) kept
        (subst (λ (k : ℕ). Naming (set helpers i 0) k (i + 1)) (add-zero last) same)
      where
        zero-there : get_or helpers i 0 ≡ 0
        zero-there =
            ap (λ (l : List ℕ). get_or l i 0) n.array
            ∙ get_d_pad 0 most_nodes (up_to (λ before k. name_of u k) i) i
            ∙ get_or-eq_default (up_to (λ before k. name_of u k) i) 0 (omega (arith, length-up_to (λ before k. name_of u k) i))

        kept : set helpers i 0 ≡ helpers
        kept = ap (set helpers i) (sym zero-there) ∙ set-get_or helpers i 0

  -- in the end all nodes have their helpers
  pub naming_end : (helpers : List ℕ) (last i : ℕ) → Naming helpers last i → i ≡ length s
      → (last ≡ variables_of u (length s)) × (helpers ≡ helpers_of u (length s))
  naming_end helpers last i n e = (n.count ∙ ap (variables_of u) e, n.array ∙ ap (helpers_of u) e)
