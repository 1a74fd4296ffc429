-- Two allowances: the larger one renames every node that the smaller one renames, and its total is not above.
-- Which pass decides, and where the first one does the choice is the first pass'. Assumes nothing.
use mathlib.Core.Path.{◌≡◌, refl, ap, ◌∙◌}
use mathlib.Core.Bool.{Bool, true, false, cond, ◌||◌}
use mathlib.Core.List.{List}
use Prim.Native.Nat.{ℕ, ◌≤◌, ◌<◌}
use native.Mathlib.Omega.{arith}
use lib.Dec.{ltb}
use lib.ListN.{length, set, replicate}
use borrow.Author.Tests.{lt-ltb, ltb-true, ltb-false}
use Rattle.answer.specs.Answers.{accepted_with}
use Rattle.laws.proofs.Choices.{neither}
use Rattle.marks.specs.Sets.{renamed, set_checked}
use Rattle.formula.specs.declared.node.Node.{Node}
use Rattle.clausal.specs.Clauses.{Renaming, renaming, under}
use Rattle.clausal.specs.Totals.{total_under, clause_ceiling}
use Rattle.clausal.specs.Choosing.{Choice, visit, nothing, first_pass, revisit, all_of, everything, second_pass, stands, choose}
use Rattle.clausal.proofs.Helpers.{renamed-inside, below_grows}
use Rattle.clausal.proofs.Options.{totals-options}
use Rattle.clausal.proofs.Totals.{clauses-read}
use Rattle.choose.proofs.Laws.Chosen.{Revisited, leaves, stays, revisited, fits-first, by_pass, chosen-right}
use Rattle.choose.proofs.Laws.Folds.{visits_keep, visits_same}
use Rattle.choose.proofs.Laws.Grows.{total_falls, first-most, first_grows, same_first}

-- choosing under a and under b. What is said of b alone holds of a too: compare a with itself
pub record Compared (u : Renaming) (ns : List Node) (a b : ℕ) : Type 0 where
  pub more_nodes : (i : ℕ) → renamed (choose a u ns).chosen i ≡ true → renamed (choose b u ns).chosen i ≡ true
  pub lower_total : total_under u ns (choose b u ns).chosen ≤ total_under u ns (choose a u ns).chosen
  pub not_above_unrenamed : total_under u ns (choose b u ns).chosen ≤ total_under u ns (replicate (length ns) 0)
  pub within_allowance : (choose b u ns).picks ≤ b
  pub right_set : set_checked ns (choose b u ns).chosen ≡ accepted_with 0 0

module _ (u : Renaming) (ns : List Node) where
  abbrev total : Choice → ℕ
  total c = total_under u ns c.chosen

  most : (s : List ℕ) → total_under u ns s ≤ clause_ceiling
  most s = omega (arith, clauses-read (under u s) ns)

  -- which pass decides, and why
  pub data Decides (a : ℕ) : Choice → Type 0 where
    low : total (first_pass a u ns) < clause_ceiling → Decides a (first_pass a u ns)
    few : a < (everything ns).picks → Decides a (first_pass a u ns)
    mends : clause_ceiling ≤ total (first_pass a u ns) → (everything ns).picks ≤ a → Decides a (second_pass u ns)

  pub decides : (a : ℕ) → Decides a (choose a u ns)
  decides a =
      by_pass u ns a (Decides a) (λ e. first (ltb (total (first_pass a u ns)) clause_ceiling) refl e)
      (λ e.
      let no = neither (ltb (total (first_pass a u ns)) clause_ceiling) (ltb a (everything ns).picks) e in
      mends (ltb-false _ _ no.0) (ltb-false _ _ no.1))
    where
      first : (b : Bool) → ltb (total (first_pass a u ns)) clause_ceiling ≡ b → (b || ltb a (everything ns).picks) ≡ true
          → Decides a (first_pass a u ns)
      first true e f = low (ltb-true _ _ e)
      first false e f = few (ltb-true _ _ f)

  -- R22.6: where the first pass ends below the ceiling, nothing is mended
  pub unchanged : (a : ℕ) → total (first_pass a u ns) < clause_ceiling → choose a u ns ≡ first_pass a u ns
  unchanged a h =
      ap (λ (b : Bool). cond (b || ltb a (everything ns).picks) (first_pass a u ns) (second_pass u ns))
      (lt-ltb (total (first_pass a u ns)) clause_ceiling h)

  -- the second pass only takes nodes out, and no step of it raises the total
  record Falls (c : Choice) : Type 0 where
    picks : c.picks ≤ (everything ns).picks
    total : total_under u ns c.chosen ≤ total_under u ns (all_of ns)

  second-falls : Falls (second_pass u ns)
  second-falls =
      visits_keep (revisit u ns) (λ k c. Falls c) (λ k c f. go k c _ f (revisited u ns k c)) (length ns) (everything ns)
      (record { picks = omega arith; total = omega arith })
    where
      go : (k : ℕ) (c d : Choice) → Falls c → Revisited u ns k c d → Falls d
      go k c d f (leaves l) = record { picks = omega (arith, f.picks); total = omega (arith, f.total, l.no_higher_lem) }
      go k c d f (stays h) = f

  pub second-total : total (second_pass u ns) ≤ total_under u ns (all_of ns)
  second-total = second-falls.total

  -- a first pass that ends at the ceiling has picked nothing: each pick would have lowered the total
  none_in : (a i : ℕ) → clause_ceiling ≤ total (first_pass a u ns) → renamed (first_pass a u ns).chosen i ≡ true → ⊥
  none_in a i h r =
      let fits = fits-first u ns a in
      let inside = renamed-inside (first_pass a u ns).chosen i r in
      omega (
        arith,
        total_falls u ns a,
        most (replicate (length ns) 0),
        fits.counted,
        fits.right.size,
        below_grows (first_pass a u ns).chosen i (length ns) r (omega (arith, fits.right.size)),
      )

  -- what the choice under the larger allowance has beside the choice under the smaller one
  record Beside (c d : Choice) : Type 0 where
    nodes : (i : ℕ) → renamed c.chosen i ≡ true → renamed d.chosen i ≡ true
    totals : total d ≤ total c

  beside_first : (a b : ℕ) → a ≤ b → Beside (first_pass a u ns) (first_pass b u ns)
  beside_first a b h = let g = first_grows u ns a b h in record { nodes = g.nodes; totals = omega (arith, g.picks, g.total) }

  beside : (a b : ℕ) → a ≤ b → (c d : Choice) → Decides a c → Decides b d → Beside c d
  beside a b h c d (low p) (low q) = beside_first a b h
  beside a b h c d (low p) (few q) = beside_first a b h
  beside a b h c d (few p) (low q) = beside_first a b h
  beside a b h c d (few p) (few q) = beside_first a b h
  beside a b h c d (low p) (mends q r) = absurd (omega (arith, (beside_first a b h).totals))
  beside a b h c d (few p) (mends q r) =
      let ceiling : clause_ceiling ≤ total (first_pass a u ns) = omega (arith, (beside_first a b h).totals) in
      record { nodes = λ i s. absurd (none_in a i ceiling s); totals = omega (arith, most (second_pass u ns).chosen) }
  beside a b h c d (mends p r) (low q) =
      let same = same_first u ns a b r (omega arith) in
      absurd (omega (arith, ap total same))
  beside a b h c d (mends p r) (few q) = absurd (omega arith)
  beside a b h c d (mends p r) (mends q s) = record { nodes = λ i e. e; totals = omega arith }

  not_above : (b : ℕ) (d : Choice) → Decides b d → total d ≤ total_under u ns (replicate (length ns) 0)
  not_above b d (low p) = omega (arith, total_falls u ns b)
  not_above b d (few p) = omega (arith, total_falls u ns b)
  not_above b d (mends p r) = omega (arith, total_falls u ns b, most (second_pass u ns).chosen)

  allowed : (b : ℕ) (d : Choice) → Decides b d → d.picks ≤ b
  allowed b d (low p) = first-most u ns b
  allowed b d (few p) = first-most u ns b
  allowed b d (mends p r) = omega (arith, second-falls.picks)

  -- the comparison, of every list of nodes: the table need not be accepted
  pub compared : (a b : ℕ) → a ≤ b → Compared u ns a b
  compared a b h =
      let g : Beside (choose a u ns) (choose b u ns) = beside a b h _ _ (decides a) (decides b) in
      record {
        more_nodes = g.nodes;
        lower_total = g.totals;
        not_above_unrenamed = not_above b _ (decides b);
        within_allowance = allowed b _ (decides b);
        right_set = chosen-right u ns b;
      }

-- the choice does not depend on what is taken, which only names helpers
module _ (a : ℕ) (u : Renaming) (n : ℕ) (ns : List Node) where
  abbrev w : Renaming
  w = renaming n u.set

  pub total-options : (s : List ℕ) → total_under u ns s ≡ total_under w ns s
  total-options s = λ i. (totals-options (under u s) n ns i).clauses

  visit-options : (k : ℕ) (c : Choice) → visit a u ns k c ≡ visit a w ns k c
  visit-options k c = rw (total-options (set c.chosen k 1), total-options c.chosen)

  revisit-options : (k : ℕ) (c : Choice) → revisit u ns k c ≡ revisit w ns k c
  revisit-options k c = rw (total-options (set c.chosen k 0), total-options c.chosen)

  first-options : first_pass a u ns ≡ first_pass a w ns
  first-options = visits_same (visit a u ns) (visit a w ns) visit-options (length ns) (nothing ns)

  stands-options : stands a u ns ≡ stands a w ns
  stands-options =
      ap (λ (x : ℕ). ltb x clause_ceiling || ltb a (everything ns).picks)
      (total-options (first_pass a u ns).chosen ∙ ap (λ (c : Choice). total_under w ns c.chosen) first-options)

  pub choose-options : choose a u ns ≡ choose a w ns
  choose-options =
      let second = visits_same (revisit u ns) (revisit w ns) revisit-options (length ns) (everything ns) in
      λ i. cond (stands-options i) (first-options i) (second i)
