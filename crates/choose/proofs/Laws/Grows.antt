-- The first pass under two allowances: the larger one goes on where the smaller one is full, and each node lowers the total.
-- Assumes nothing.
use mathlib.Core.Path.{◌≡◌, refl, sym, ap, ◌∙◌, subst}
use mathlib.Core.Bool.{Bool, true, false, cond, ◌&&◌}
use mathlib.Core.List.{List}
use Prim.Native.Nat.{ℕ, zero, suc, ◌+◌, ◌≤◌, ◌<◌}
use native.Mathlib.Decide.{dec_lt}
use native.Mathlib.Omega.{arith}
use lib.Dec.{ltb}
use lib.ListN.{length, replicate}
use borrow.Author.Tests.{lt-ltb}
use Rattle.formula.specs.declared.node.Node.{Node}
use Rattle.marks.specs.Sets.{renamed, may_rename}
use Rattle.clausal.specs.Clauses.{Renaming, renamed_below}
use Rattle.clausal.specs.Totals.{total_under}
use Rattle.clausal.specs.Choosing.{Choice, visits_from, falls, taken, visit, nothing, first_pass, all_of, everything}
use Rattle.clausal.proofs.Renamed.{renamed-set-kept}
use Rattle.choose.proofs.Laws.All.{all-next}
use Rattle.choose.proofs.Laws.Chosen.{Visited, enters, stays, visited}
use Rattle.choose.proofs.Laws.Folds.{visits_keep}

module _ (u : Renaming) (ns : List Node) where
  -- every node of c is in d, and each node of d that is not in c has lowered the total by one at least
  pub record Grows (c d : Choice) : Type 0 where
    pub nodes : (i : ℕ) → renamed c.chosen i ≡ true → renamed d.chosen i ≡ true
    pub picks : c.picks ≤ d.picks
    pub total : total_under u ns d.chosen + d.picks ≤ total_under u ns c.chosen + c.picks

  grows_none : (c : Choice) → Grows c c
  grows_none c = record { nodes = λ i r. r; picks = omega arith; total = omega arith }

  grows_more : (c d e : Choice) → Grows c d → Grows d e → Grows c e
  grows_more c d e g h = record {
    nodes = λ i r. h.nodes i (g.nodes i r);
    picks = omega arith;
    total = omega arith;
  }

  -- a pass only adds nodes, and each one lowers the total
  module _ (a : ℕ) where
    grows_visit : (k : ℕ) (c d : Choice) → Visited u ns a k c d → Grows c d
    grows_visit k c d (enters g) = record {
      nodes = λ i r. renamed-set-kept c.chosen k i r;
      picks = omega arith;
      total = omega (arith, g.lower);
    }
    grows_visit k c d stays = grows_none c

    grows_visits : (k : ℕ) (c : Choice) → Grows c (visits_from (visit a u ns) k c)
    grows_visits k c =
        visits_keep (visit a u ns) (λ j d. Grows c d) (λ j d g. grows_more c d _ g (grows_visit j d _ (visited u ns a j d))) k c
        (grows_none c)

    -- a full pass stands still
    full-visit : (k : ℕ) (c d : Choice) → a ≤ c.picks → Visited u ns a k c d → d ≡ c
    full-visit k c d h (enters g) = absurd (omega (arith, g.fewer))
    full-visit k c d h stays = refl

    full_visits : (k : ℕ) (c : Choice) → a ≤ c.picks → visits_from (visit a u ns) k c ≡ c
    unfolding visits_from
    full_visits zero c h = refl
    full_visits (suc k) c h =
        ap (visits_from (visit a u ns) k) (full-visit k c _ h (visited u ns a k c)) ∙ full_visits k c h

  -- each node that is in has lowered the total by one at least
  pub total_falls : (a : ℕ)
      → total_under u ns (first_pass a u ns).chosen + (first_pass a u ns).picks ≤ total_under u ns (replicate (length ns) 0)
  total_falls a = omega (arith, (grows_visits a (length ns) (nothing ns)).total)

  pub first-most : (a : ℕ) → (first_pass a u ns).picks ≤ a
  first-most a = visits_keep (visit a u ns) (λ j c. c.picks ≤ a) (λ j c h. go j c _ h (visited u ns a j c)) (length ns) (nothing ns) (omega arith)
    where
      go : (k : ℕ) (c d : Choice) → c.picks ≤ a → Visited u ns a k c d → d.picks ≤ a
      go k c d h (enters g) = omega (arith, g.fewer)
      go k c d h stays = h

  module _ (a b : ℕ) where
    same-visit : (k : ℕ) (c : Choice) → c.picks < a → c.picks < b → visit a u ns k c ≡ visit b u ns k c
    same-visit k c h g = rw (lt-ltb c.picks a h, lt-ltb c.picks b g)

    -- both passes, side by side: while the smaller one is not full they are the same; then it stands still
    grows_allowance : a ≤ b → (k : ℕ) (c : Choice) → Grows (visits_from (visit a u ns) k c) (visits_from (visit b u ns) k c)
    unfolding visits_from
    grows_allowance larger zero c = grows_none c
    grows_allowance larger (suc k) c = go (dec_lt c.picks a) (grows_allowance larger k (visit a u ns k c))
      where
        go : Dec (c.picks < a)
            → Grows (visits_from (visit a u ns) (suc k) c) (visits_from (visit b u ns) k (visit a u ns k c))
            → Grows (visits_from (visit a u ns) (suc k) c) (visits_from (visit b u ns) (suc k) c)
        go (yes h) g =
            subst (λ d. Grows (visits_from (visit a u ns) (suc k) c) (visits_from (visit b u ns) k d)) (same-visit k c h (omega arith)) g
        go (no h) g =
            let still : visits_from (visit a u ns) (suc k) c ≡ c = full_visits a (suc k) c (omega arith) in
            subst (λ d. Grows d (visits_from (visit b u ns) (suc k) c)) (sym still) (grows_visits b (suc k) c)

    pub first_grows : a ≤ b → Grows (first_pass a u ns) (first_pass b u ns)
    first_grows larger = grows_allowance larger (length ns) (nothing ns)

    -- where both allow every node that is left, the passes are the same
    same_at : (k : ℕ) (c : Choice) (m : Bool) → may_rename ns k ≡ m → c.picks + cond m 1 0 ≤ a → c.picks + cond m 1 0 ≤ b
        → visit a u ns k c ≡ visit b u ns k c
    same_at k c true e h g = same-visit k c (omega arith) (omega arith)
    same_at k c false e h g = stays_out a ∙ sym (stays_out b)
      where
        no : (x : Bool) → (x && false) ≡ false
        no true = refl
        no false = refl

        stays_out : (n : ℕ) → visit n u ns k c ≡ c
        stays_out n =
            ap (λ (x : Bool). cond (ltb c.picks n && (x && falls u ns k c)) (taken k c) c) e
            ∙ ap (λ (x : Bool). cond x (taken k c) c) (no (ltb c.picks n))

    same_visits : (k : ℕ) (c : Choice) → k ≤ length ns → c.picks + renamed_below (all_of ns) k ≤ a
        → c.picks + renamed_below (all_of ns) k ≤ b → visits_from (visit a u ns) k c ≡ visits_from (visit b u ns) k c
    unfolding visits_from
    same_visits zero c w h g = refl
    same_visits (suc k) c w h g =
        let more = all-next ns k w in
        let now = same_at k c (may_rename ns k) refl (omega arith) (omega arith) in
        let left = left_over k c _ (visited u ns b k c) in
        ap (visits_from (visit a u ns) k) now ∙ same_visits k (visit b u ns k c) (omega arith) (omega arith) (omega arith)
      where
        left_over : (j : ℕ) (d e : Choice) → Visited u ns b j d e → e.picks ≤ d.picks + cond (may_rename ns j) 1 0
        left_over j d e (enters v) = rw v.may (omega arith)
        left_over j d e stays = omega arith

    pub same_first : (everything ns).picks ≤ a → (everything ns).picks ≤ b → first_pass a u ns ≡ first_pass b u ns
    same_first h g = same_visits (length ns) (nothing ns) (omega arith) (omega arith) (omega arith)
