-- What the visits of both passes do, and the sets that they leave: right for converting, with as many nodes as are counted.
-- Assumes nothing.
use mathlib.Core.Path.{◌≡◌, refl, sym, ap, ◌∙◌}
use mathlib.Core.Bool.{Bool, true, false, cond, ◌&&◌, ◌||◌}
use mathlib.Core.List.{List}
use Prim.Native.Nat.{ℕ, suc, ◌≤◌, ◌<◌}
use native.Mathlib.Decide.{dec_lt}
use native.Mathlib.Omega.{arith}
use lib.Dec.{eqb}
use lib.ListN.{length, set, replicate, length-set, length-replicate, get_or-replicate}
use lib.Seq.{get_or-set_same, get_or-set_other}
use borrow.Author.Tests.{eqb-true, eqb-false, ltb-true, leb-true, leb-false, eq-eqb, le-ltb}
use Rattle.answer.specs.Answers.{accepted_with}
use Rattle.laws.proofs.Choices.{both}
use Rattle.laws.proofs.First.{first_fails}
use Rattle.marks.specs.Sets.{renamed, may_rename, byte_right, first_wrong_byte, set_checked}
use Rattle.formula.specs.declared.node.Node.{Node}
use Rattle.marks.proofs.Laws.Sets.{RightSet}
use Rattle.clausal.specs.Clauses.{Renaming, renamed_below}
use Rattle.clausal.specs.Totals.{total_under}
use Rattle.clausal.specs.Choosing.{Choice, taken, goes_in, visit, nothing, first_pass, dropped, no_higher, revisit, all_of}
use Rattle.clausal.specs.Choosing.{everything, second_pass, stands, choose}
use Rattle.clausal.proofs.Renamed.{below_none, renamed-set-other, below_set, below_unset}
use Rattle.choose.proofs.Laws.All.{all-size, all-byte, all_renamed}
use Rattle.choose.proofs.Laws.Folds.{visits_keep}

-- whether b is right as the byte of node i
abbrev right_byte : List Node → ℕ → ℕ → Bool
right_byte ns i b = eqb b 0 || (eqb b 1 && may_rename ns i)

-- the set of no node, and the set of all that may be renamed
right-set-none : (ns : List Node) → RightSet ns (replicate (length ns) 0)
right-set-none ns = record {
  size = length-replicate (length ns) 0;
  bytes = λ i h. ap (right_byte ns i) (get_or-replicate (length ns) i 0 0 h);
}

right-set-all : (ns : List Node) → RightSet ns (all_of ns)
right-set-all ns = record { size = all-size ns; bytes = λ i h. ap (right_byte ns i) (all-byte ns i h) ∙ own (may_rename ns i) }
  where
    own : (b : Bool) → (eqb (cond b 1 0) 0 || (eqb (cond b 1 0) 1 && b)) ≡ true
    own true = cc
    own false = cc

-- a right byte is stored
right_set_with : (ns : List Node) (s : List ℕ) (k b : ℕ) → RightSet ns s → right_byte ns k b ≡ true → RightSet ns (set s k b)
right_set_with ns s k b r m = record { size = length-set s k b ∙ r.size; bytes = λ i h. at i h (eqb i k) refl }
  where
    at : (i : ℕ) → i < length ns → (x : Bool) → eqb i k ≡ x → byte_right ns (set s k b) i ≡ true
    at i h true e =
        let q : i ≡ k = eqb-true i k e in
        let inside : k < length s = omega (arith, r.size) in
        ap (byte_right ns (set s k b)) q ∙ ap (right_byte ns k) (get_or-set_same s k b 0 inside) ∙ m
    at i h false e = ap (right_byte ns i) (get_or-set_other s k i b 0 (eqb-false i k e)) ∙ r.bytes i h

-- refusal 4 does not come where every byte is right
pub set-checked : (ns : List Node) (s : List ℕ) → RightSet ns s → set_checked ns s ≡ accepted_with 0 0
set-checked ns s r = go (dec_lt (first_wrong_byte ns s) (length ns))
  where
    go : Dec (first_wrong_byte ns s < length ns) → set_checked ns s ≡ accepted_with 0 0
    go (yes h) =
        let wrong = first_fails (byte_right ns s) (length ns) h in
        let right = r.bytes (first_wrong_byte ns s) h in
        let z : ◌≡◌ {A = ℕ} 0 1 = cc in
        absurd (omega arith)
    go (no h) = rw (eq-eqb (length s) (length ns) r.size, le-ltb (first_wrong_byte ns s) (length ns) (omega arith))

module _ (u : Renaming) (ns : List Node) where
  module _ (allowance : ℕ) where
    -- why a node goes in
    pub record Goes (k : ℕ) (c : Choice) : Type 0 where
      pub fewer : c.picks < allowance
      pub may : may_rename ns k ≡ true
      pub lower : total_under u ns (set c.chosen k 1) < total_under u ns c.chosen

    -- what a visit of node k does: the node goes in, or nothing changes
    pub data Visited (k : ℕ) (c : Choice) : Choice → Type 0 where
      enters : Goes k c → Visited k c (taken k c)
      stays : Visited k c c

    pub visited : (k : ℕ) (c : Choice) → Visited k c (visit allowance u ns k c)
    visited k c = go (goes_in allowance u ns k c) refl
      where
        go : (b : Bool) → goes_in allowance u ns k c ≡ b → Visited k c (cond b (taken k c) c)
        go true e =
            let first = both _ _ e in
            let rest = both _ _ first.1 in
            enters (record { fewer = ltb-true _ _ first.0; may = rest.0; lower = ltb-true _ _ rest.1 })
        go false e = stays

  -- why a node goes out, and what a visit of the second pass does: the node goes out, or it is worth its definition
  pub record Leaves (k : ℕ) (c : Choice) : Type 0 where
    pub may : may_rename ns k ≡ true
    pub no_higher_lem : total_under u ns (set c.chosen k 0) ≤ total_under u ns c.chosen

  pub data Revisited (k : ℕ) (c : Choice) : Choice → Type 0 where
    leaves : Leaves k c → Revisited k c (dropped k c)
    stays : (may_rename ns k ≡ true → total_under u ns c.chosen < total_under u ns (set c.chosen k 0)) → Revisited k c c

  pub revisited : (k : ℕ) (c : Choice) → Revisited k c (revisit u ns k c)
  revisited k c = go (may_rename ns k) refl (no_higher u ns k c) refl
    where
      go : (m : Bool) → may_rename ns k ≡ m → (b : Bool) → no_higher u ns k c ≡ b → Revisited k c (cond (m && b) (dropped k c) c)
      go true e true f = leaves (record { may = e; no_higher_lem = leb-true _ _ f })
      go true e false f = stays (λ g. leb-false _ _ f)
      go false e b f = stays (λ g. let z : true ≡ false = sym g ∙ e in let y : ◌≡◌ {A = ℕ} 0 1 = cc in absurd (omega arith))

  -- the nodes below k are still to be visited, and are as in the set of the beginning: the set so far
  pub record Fits (start : List ℕ) (k : ℕ) (c : Choice) : Type 0 where
    pub within : k ≤ length ns
    pub right : RightSet ns c.chosen
    pub unvisited : (i : ℕ) → i < k → renamed c.chosen i ≡ renamed start i
    pub counted : c.picks ≡ renamed_below c.chosen (length ns)

  abbrev none : List ℕ
  none = replicate (length ns) 0

  none-renamed : (i : ℕ) → i < length ns → renamed none i ≡ false
  none-renamed i h = ap (λ (b : ℕ). eqb b 1) (get_or-replicate (length ns) i 0 0 h)

  fits-none : Fits none (length ns) (nothing ns)
  fits-none = record {
    within = omega arith;
    right = right-set-none ns;
    unvisited = λ i h. refl;
    counted = sym (below_none none (length ns) none-renamed);
  }

  fits_all : Fits (all_of ns) (length ns) (everything ns)
  fits_all = record { within = omega arith; right = right-set-all ns; unvisited = λ i h. refl; counted = refl }

  -- a visit that changes nothing, and one that changes the byte of its node
  fits-less : (start : List ℕ) (k : ℕ) (c : Choice) → Fits start (suc k) c → Fits start k c
  fits-less start k c f = record {
    within = omega (arith, f.within);
    right = f.right;
    unvisited = λ i l. f.unvisited i (omega arith);
    counted = f.counted;
  }

  fits_with : (start : List ℕ) (k b picks : ℕ) (c : Choice) → Fits start (suc k) c → right_byte ns k b ≡ true
      → picks ≡ renamed_below (set c.chosen k b) (length ns) → Fits start k (record { picks = picks; chosen = set c.chosen k b })
  fits_with start k b picks c f m e = record {
    within = omega (arith, f.within);
    right = right_set_with ns c.chosen k b f.right m;
    unvisited = λ i l. renamed-set-other c.chosen k b i (omega arith) ∙ f.unvisited i (omega arith);
    counted = e;
  }

  fits-visit : (a k : ℕ) (c d : Choice) → Fits none (suc k) c → Visited a k c d → Fits none k d
  fits-visit a k c d f (enters g) =
      let plain : renamed c.chosen k ≡ false = f.unvisited k (omega arith) ∙ none-renamed k f.within in
      let more = below_set c.chosen k (length ns) f.within (omega (arith, f.right.size, f.within)) plain in
      fits_with none k 1 _ c f g.may (omega (arith, f.counted, more))
  fits-visit a k c d f stays = fits-less none k c f

  fits-revisit : (k : ℕ) (c d : Choice) → Fits (all_of ns) (suc k) c → Revisited k c d → Fits (all_of ns) k d
  fits-revisit k c d f (leaves l) =
      let in-it : renamed c.chosen k ≡ true = f.unvisited k (omega arith) ∙ all_renamed ns k f.within ∙ l.may in
      let less = below_unset c.chosen k (length ns) f.within (omega (arith, f.right.size, f.within)) in-it in
      fits_with (all_of ns) k 0 _ c f refl (omega (arith, f.counted, less))
  fits-revisit k c d f (stays h) = fits-less (all_of ns) k c f

  pub fits-first : (a : ℕ) → Fits none 0 (first_pass a u ns)
  fits-first a =
      visits_keep (visit a u ns) (Fits none) (λ k c f. fits-visit a k c _ f (visited a k c)) (length ns) (nothing ns) fits-none

  pub fits-second : Fits (all_of ns) 0 (second_pass u ns)
  fits-second =
      visits_keep (revisit u ns) (Fits (all_of ns)) (λ k c f. fits-revisit k c _ f (revisited k c)) (length ns) (everything ns) fits_all

  -- what holds of the pass that decides holds of the choice
  pub by_pass : (a : ℕ) (Q : Choice → Type 0) → (stands a u ns ≡ true → Q (first_pass a u ns)) → (stands a u ns ≡ false → Q (second_pass u ns))
      → Q (choose a u ns)
  by_pass a Q f g = go (stands a u ns) refl
    where
      go : (b : Bool) → stands a u ns ≡ b → Q (cond b (first_pass a u ns) (second_pass u ns))
      go true e = f e
      go false e = g e

  -- what is reported is the number of renamed nodes
  pub picks-counted : (a : ℕ) → (choose a u ns).picks ≡ renamed_below (choose a u ns).chosen (length ns)
  picks-counted a =
      by_pass a (λ (c : Choice). c.picks ≡ renamed_below c.chosen (length ns)) (λ e. (fits-first a).counted) (λ e. fits-second.counted)

  -- the chosen set is accepted for converting
  pub chosen-right : (a : ℕ) → set_checked ns (choose a u ns).chosen ≡ accepted_with 0 0
  chosen-right a =
      set-checked ns (choose a u ns).chosen
      (by_pass a (λ (c : Choice). RightSet ns c.chosen) (λ e. (fits-first a).right) (λ e. fits-second.right))
