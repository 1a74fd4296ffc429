-- What the second pass ends with, node by node. Nothing is said of dropping a kept node at the end: `Cases` of `clausal` has one
-- that could go. Assumes nothing.
use mathlib.Core.Path.{◌≡◌, refl, sym, ap, ◌∙◌, subst}
use mathlib.Core.Bool.{Bool, true, false}
use mathlib.Core.List.{List}
use Prim.Native.Nat.{ℕ, zero, suc, ◌≤◌, ◌<◌}
use native.Mathlib.Decide.{dec_lt}
use native.Mathlib.Omega.{arith}
use lib.Dec.{eqb}
use lib.ListN.{length, get_or, set, length-set}
use lib.Seq.{get_or-set_same, get_or-set_other, set-set, set-get_or, ext_get_or}
use borrow.Author.Tests.{eqb-true, eqb-false}
use Rattle.formula.specs.declared.node.Node.{Node}
use Rattle.marks.specs.Sets.{renamed, may_rename}
use Rattle.clausal.specs.Clauses.{Renaming}
use Rattle.clausal.specs.Choosing.{Choice, visits_from, revisit, all_of, everything, second_pass}
use Rattle.choose.specs.Ends.{Visiting, Ends}
use Rattle.choose.proofs.Laws.All.{all-size, all-byte}
use Rattle.choose.proofs.Laws.Chosen.{Revisited, leaves, stays, revisited}

module _ (u : Renaming) (ns : List Node) where
  -- the nodes below k are not visited yet
  record Waiting (k : ℕ) (s : List ℕ) : Type 0 where
    size : length s ≡ length ns
    lower : (j : ℕ) → j < k → get_or s j 0 ≡ get_or (all_of ns) j 0

  waiting-next : (k : ℕ) (c d : Choice) → Waiting (suc k) c.chosen → Revisited u ns k c d → Waiting k d.chosen
  waiting-next k c d w (leaves l) = record {
    size = length-set c.chosen k 0 ∙ w.size;
    lower = λ j h. get_or-set_other c.chosen k j 0 0 (λ e. omega arith) ∙ w.lower j (omega arith);
  }
  waiting-next k c d w (stays h) = record { size = w.size; lower = λ j g. w.lower j (omega arith) }

  -- a visit changes no other node's byte
  visit-other : (k : ℕ) (c d : Choice) → Revisited u ns k c d → (j : ℕ) → k < j → get_or d.chosen j 0 ≡ get_or c.chosen j 0
  visit-other k c d (leaves l) j h = get_or-set_other c.chosen k j 0 0 (λ e. omega arith)
  visit-other k c d (stays g) j h = refl

  visits_other : (k : ℕ) (c : Choice) (j : ℕ) → k ≤ j → get_or (visits_from (revisit u ns) k c).chosen j 0 ≡ get_or c.chosen j 0
  unfolding visits_from
  visits_other zero c j h = refl
  visits_other (suc k) c j h =
      visits_other k (revisit u ns k c) j (omega arith) ∙ visit-other k c _ (revisited u ns k c) j h

  -- the set after the visit of node i is the only one that was visited with
  module _ (i : ℕ) (inside : i < length ns) (may : may_rename ns i ≡ true) (s : List ℕ) where
    only : (d : List ℕ) → Waiting i d → ((j : ℕ) → i ≤ j → get_or s j 0 ≡ get_or d j 0) → (t : List ℕ) → Visiting ns s i t → t ≡ d
    only d w above t v = ext_get_or 0 t d (v.size ∙ sym w.size) (λ j h. at j (dec_lt j i))
      where
        at : (j : ℕ) → Dec (j < i) → get_or t j 0 ≡ get_or d j 0
        at j (yes l) = v.lower j l ∙ sym (w.lower j l)
        at j (no l) = v.upper j (omega arith) ∙ above j (omega arith)

    ends-visit : (c d : Choice) → Waiting (suc i) c.chosen → Revisited u ns i c d
        → ((j : ℕ) → i ≤ j → get_or s j 0 ≡ get_or d.chosen j 0) → Ends u ns s i
    ends-visit c d w (stays h) above =
        let was : get_or c.chosen i 0 ≡ 1 = w.lower i (omega arith) ∙ all-byte ns i inside ∙ rw may in
        let in-it : renamed s i ≡ true = ap (λ (b : ℕ). eqb b 1) (above i (omega arith) ∙ was) in
        record {
          kept = λ t v e. rw (only c.chosen (waiting-next i c c w (stays h)) above t v) (h may);
          gone = λ t v e. let z : true ≡ false = sym in-it ∙ e in let y : ◌≡◌ {A = ℕ} 0 1 = cc in absurd (omega arith);
        }
    ends-visit c d w (leaves l) above =
        let now : get_or (set c.chosen i 0) i 0 ≡ 0 = get_or-set_same c.chosen i 0 0 (omega (arith, w.size)) in
        let out : renamed s i ≡ false = ap (λ (b : ℕ). eqb b 1) (above i (omega arith) ∙ now) in
        let was : get_or c.chosen i 0 ≡ 1 = w.lower i (omega arith) ∙ all-byte ns i inside ∙ rw may in
        let again : set (set c.chosen i 0) i 1 ≡ c.chosen =
        set-set c.chosen i 0 1 ∙ ap (set c.chosen i) (sym was) ∙ set-get_or c.chosen i 0 in
        record {
          kept = λ t v e. let z : true ≡ false = sym e ∙ out in let y : ◌≡◌ {A = ℕ} 0 1 = cc in absurd (omega arith);
          gone = λ t v e. rw (only (set c.chosen i 0) (waiting-next i c d w (leaves l)) above t v, again) l.no_higher_lem;
        }

  ends_visits : (k : ℕ) (c : Choice) → k ≤ length ns → Waiting k c.chosen → (i : ℕ) → i < k → may_rename ns i ≡ true
      → Ends u ns (visits_from (revisit u ns) k c).chosen i
  unfolding visits_from
  ends_visits zero c h w i l may = absurd (omega arith)
  ends_visits (suc k) c h w i l may =
      let rest = waiting-next k c _ w (revisited u ns k c) in
      go (eqb i k) refl (λ g. ends_visits k (revisit u ns k c) (omega arith) rest i g may)
    where
      go : (b : Bool) → eqb i k ≡ b → (i < k → Ends u ns (visits_from (revisit u ns) k (revisit u ns k c)).chosen i)
          → Ends u ns (visits_from (revisit u ns) k (revisit u ns k c)).chosen i
      go true e ih =
          let q : i ≡ k = eqb-true i k e in
          subst (Ends u ns (visits_from (revisit u ns) k (revisit u ns k c)).chosen) (sym q)
          (ends-visit k h (ap (may_rename ns) (sym q) ∙ may) _ c _ w (revisited u ns k c) (λ j g. visits_other k (revisit u ns k c) j g))
      go false e ih = ih (omega (arith, eqb-false i k e))

  -- R22.9: of every node that may be renamed
  pub ends : (i : ℕ) → i < length ns → may_rename ns i ≡ true → Ends u ns (second_pass u ns).chosen i
  ends i h may =
      ends_visits (length ns) (everything ns) (omega arith) (record { size = all-size ns; lower = λ j l. refl }) i h may
