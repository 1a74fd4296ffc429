-- A visit of either pass: which choice the rule makes, and what stands for the next one.
-- Assumes nothing.
use mathlib.Core.Path.{◌≡◌, refl, sym, ap, ◌∙◌, subst}
use mathlib.Core.Logic.{inl}
use mathlib.Core.Bool.{Bool, true, false, cond, not, ◌&&◌}
use mathlib.Core.List.{List}
use Prim.Native.Nat.{ℕ, zero, suc, ◌+◌, ◌<◌}
use native.Mathlib.Omega.{arith}
use lib.Dec.{eqb, ltb}
use lib.ListN.{length, get_or, set, replicate, length-set}
use lib.Seq.{get_or-set_other, set-set, set-get_or}
use borrow.Author.Tests.{le-ltb, ltb-true}
use Rattle.laws.proofs.Choices.{both}
use Rattle.formula.specs.Inner.Right.{Below}
use Rattle.formula.specs.Tables.{node_in}
use Rattle.formula.specs.declared.node.Node.{Node}
use Rattle.marks.specs.Sets.{renamed, may_rename}
use Rattle.clausal.specs.Clauses.{Row, renaming, renamed_below}
use Rattle.clausal.specs.Totals.{total_under, Size}
use Rattle.clausal.specs.Choosing.{Choice, taken, falls}
use Rattle.clausal.proofs.Renamed.{renamed-set-other, below_set, below_unset}
use Rattle.totals.specs.Inner.Columns.{cell, Ready}
use Rattle.totals.specs.Inner.Sums.{Low, Tried}
use Rattle.totals.proofs.Laws.Columns.{ready-back, ready-less}
use Rattle.totals.proofs.Laws.Small.{small-stays}
use Rattle.choose.proofs.Laws.All.{all-byte}
use Rattle.choose.specs.declared.pass.Way.{Way}
use Rattle.choose.specs.declared.pass.Way.TheVariants.{Adds, Drops}
use Rattle.choose.specs.Inner.Visits.{byte_of, byte_before, lowest, kept_by, picks_with, tried, bare, small, is_tried, turn_of, Standing, Attempted, Visited}

pub zeros : (n j : ℕ) → ◌≡◌ {A = ℕ} (get_or (replicate n 0) j 0) 0
zeros zero j = refl
zeros (suc n) zero = refl
zeros (suc n) (suc j) = zeros n j

-- a node that has not been visited, and is tried, is not as it is tried
pub untried : (w : Way) (ns : List Node) (i : ℕ) (c : Choice) (sum : ℕ) (cs ls : List (List ℕ)) → Standing w ns (i + 1) c sum cs ls
    → i < length ns → is_tried w ns i c.picks cs ≡ true → get_or c.chosen i 0 ≡ byte_before w
untried (Adds allowance) ns i c sum cs ls stands h e = stands.unvisited i (omega arith) ∙ zeros (length ns) i
untried Drops ns i c sum cs ls stands h e = stands.unvisited i (omega arith) ∙ all-byte ns i h ∙ rw e

-- a small node does not lower the total
no-fall : (allowance : ℕ) (ns : List Node) (i : ℕ) (c : Choice) (sum : ℕ) (cs ls : List (List ℕ))
    → Standing (Adds allowance) ns (i + 1) c sum cs ls → ((j : ℕ) → Below j (node_in ns j)) → i < length ns → small cs i ≡ true
    → falls bare ns i c ≡ false
no-fall allowance ns i c sum cs ls stands below inside e =
    let few = both (ltb (cell cs 0 i) 2) (ltb (cell cs 1 i) 2) e in
    let p : cell cs 0 i < 2 = ltb-true (cell cs 0 i) 2 few.0 in
    let n : cell cs 1 i < 2 = ltb-true (cell cs 1 i) 2 few.1 in
    let row = stands.ready.rows i (inl (omega arith)) in
    let plain : renamed c.chosen i ≡ false =
    ap (λ (b : ℕ). eqb b 1) (stands.unvisited i (omega arith) ∙ zeros (length ns) i) in
    let h = small-stays ns below (renaming 0 c.chosen) i (omega (arith, stands.size)) plain
    (omega (arith, ap (λ (r : Row Size). r.P.clauses) row)) (omega (arith, ap (λ (r : Row Size). r.N.clauses) row)) in
    le-ltb (total_under bare ns (set c.chosen i 1)) (total_under bare ns c.chosen) h

-- a node that is not tried stays as it is
passed-over : (w : Way) (ns : List Node) (i : ℕ) (c : Choice) (sum : ℕ) (cs ls : List (List ℕ)) → Standing w ns (i + 1) c sum cs ls
    → ((j : ℕ) → Below j (node_in ns j)) → i < length ns → is_tried w ns i c.picks cs ≡ false → c ≡ turn_of w ns i c
passed-over Drops ns i c sum cs ls stands below inside e = rw e refl
passed-over (Adds allowance) ns i c sum cs ls stands below inside e =
    go (ltb c.picks allowance) (may_rename ns i) (small cs i) refl e
  where
    go : (room may few : Bool) → small cs i ≡ few → (room && (may && not few)) ≡ false
        → c ≡ cond (room && (may && falls bare ns i c)) (taken i c) c
    go false may few f g = refl
    go true false few f g = refl
    go true true true f g = rw (no-fall allowance ns i c sum cs ls stands below inside f) refl
    go true true false f g = cc

pub skipped : (w : Way) (ns : List Node) (i : ℕ) (c : Choice) (sum : ℕ) (cs ls : List (List ℕ)) → Standing w ns (i + 1) c sum cs ls
    → ((j : ℕ) → Below j (node_in ns j)) → i < length ns → is_tried w ns i c.picks cs ≡ false → Visited w ns i c c sum cs ls
skipped w ns i c sum cs ls stands below inside e = record {
  choice = passed-over w ns i c sum cs ls stands below inside e;
  stands = record {
    size = stands.size;
    unvisited = λ j h. stands.unvisited j (omega arith);
    counted = stands.counted;
    total = stands.total;
    ready = ready-less c.chosen ns i (i + 1) cs ls (omega arith) stands.ready;
  };
}

-- an attempt is a visit of a node that is tried
attempt-rule : (w : Way) (ns : List Node) (i : ℕ) (c : Choice) (cs : List (List ℕ)) → is_tried w ns i c.picks cs ≡ true
    → cond (kept_by w (total_under bare ns c.chosen) (total_under bare ns (tried w i c).chosen)) (tried w i c) c ≡ turn_of w ns i c
attempt-rule (Adds allowance) ns i c cs e =
    let first = both (ltb c.picks allowance) _ e in
    let rest = both (may_rename ns i) _ first.1 in
    rw (first.0, rest.0) refl
attempt-rule Drops ns i c cs e = rw e refl

pub visited-by : (w : Way) (ns : List Node) (i : ℕ) (c after : Choice) (cs : List (List ℕ)) (next : ℕ) (ds ms : List (List ℕ))
    → is_tried w ns i c.picks cs ≡ true → Attempted w ns i c after next ds ms → Visited w ns i c after next ds ms
visited-by w ns i c after cs next ds ms e a = record { choice = a.choice ∙ attempt-rule w ns i c cs e; stands = a.stands }

-- a node whose P and N have at most one clause each stays out
pub too_small : (allowance : ℕ) (ns : List Node) (i : ℕ) (c : Choice) (sum : ℕ) (cs ls : List (List ℕ))
    → Standing (Adds allowance) ns (i + 1) c sum cs ls → ((j : ℕ) → Below j (node_in ns j)) → i < length ns
    → (ltb (cell cs 0 i) 2 && ltb (cell cs 1 i) 2) ≡ true → Visited (Adds allowance) ns i c c sum cs ls
too_small allowance ns i c sum cs ls stands below inside e =
    skipped (Adds allowance) ns i c sum cs ls stands below inside (go (ltb c.picks allowance) (may_rename ns i) (small cs i) e)
  where
    go : (room may few : Bool) → few ≡ true → (room && (may && not few)) ≡ false
    go false may few f = refl
    go true false few f = refl
    go true true true f = refl
    go true true false f = cc

-- an attempt to take a node out is its visit, where the node may be renamed
pub attempted_out : (ns : List Node) (i : ℕ) (c after : Choice) (next : ℕ) (ds ms : List (List ℕ)) → may_rename ns i ≡ true
    → Attempted Drops ns i c after next ds ms → Visited Drops ns i c after next ds ms
attempted_out ns i c after next ds ms may a = record { choice = a.choice ∙ rw may refl; stands = a.stands }

-- a node that is tried, in either pass
module _ (w : Way) (ns : List Node) (i picks : ℕ) (s : List ℕ) (sum : ℕ) (cs ls : List (List ℕ))
    (stands : Standing w ns (i + 1) (record { picks = picks; chosen = s }) sum cs ls) where
  abbrev before : Choice
  before = record { picks = picks; chosen = s }

  -- while nodes are put in, no node below the one that is tried is renamed
  pub tried-low : (byte from : ℕ) → byte ≡ byte_of w → from ≡ lowest w i → Low (set s i byte) from
  tried-low byte from e f = rw (e, f) (go w stands)
    where
      go : (v : Way) → Standing v ns (i + 1) before sum cs ls → Low (set s i (byte_of v)) (lowest v i)
      go Drops g j h = absurd (omega arith)
      go (Adds allowance) g j h =
          renamed-set-other s i 1 j (omega arith)
          ∙ ap (λ (b : ℕ). eqb b 1) (g.unvisited j (omega arith) ∙ zeros (length ns) j)

  module _ (inside : i < length ns) (other : get_or s i 0 ≡ byte_before w) where
    -- the byte is put back
    back : (byte : ℕ) → set (set s i byte) i (byte_before w) ≡ s
    back byte = set-set s i byte (byte_before w) ∙ ap (set s i) (sym other) ∙ set-get_or s i 0

    -- one node more, or one less
    counts : picks_with w picks ≡ renamed_below (set s i (byte_of w)) (length ns)
    counts = go w other
      where
        go : (v : Way) → get_or s i 0 ≡ byte_before v → picks_with v picks ≡ renamed_below (set s i (byte_of v)) (length ns)
        go (Adds allowance) o =
            let plain : renamed s i ≡ false = ap (λ (x : ℕ). eqb x 1) o in
            omega (arith, stands.counted, below_set s i (length ns) inside (omega (arith, stands.size)) plain)
        go Drops o =
            let in-it : renamed s i ≡ true = ap (λ (x : ℕ). eqb x 1) o in
            omega (arith, stands.counted, below_unset s i (length ns) inside (omega (arith, stands.size)) in-it)

    -- a node that goes out was one of those that are in
    pub some : w ≡ Drops → 0 < picks
    some e =
        let in-it : renamed s i ≡ true = ap (λ (x : ℕ). eqb x 1) (other ∙ ap byte_before e) in
        omega (arith, stands.counted, below_unset s i (length ns) inside (omega (arith, stands.size)) in-it)

    module _ (byte next : ℕ) (after : List ℕ) (ds ms : List (List ℕ)) (t : Tried ns i byte s after next ds ms)
        (is : byte ≡ byte_of w) where
      in_set : after ≡ set s i (byte_of w)
      in_set = t.in_set ∙ ap (set s i) is

      is_with : next ≡ total_under bare ns (set s i (byte_of w))
      is_with = t.total ∙ ap (total_under bare ns) in_set

      -- which choice the rule makes, by the totals
      decided : (b : Bool) → b ≡ kept_by w sum next
          → cond b (tried w i before) before
          ≡ cond (kept_by w (total_under bare ns s) (total_under bare ns (set s i (byte_of w)))) (tried w i before) before
      decided b e =
          ap (λ (x : Bool). cond x (tried w i before) before) (e ∙ (λ j. kept_by w (stands.total j) (is_with j)))

      pub accepted : (n : ℕ) → n ≡ picks_with w picks → true ≡ kept_by w sum next
          → Attempted w ns i before (record { picks = n; chosen = after }) next ds ms
      accepted n m e = record {
        choice = (λ j. record { picks = m j; chosen = in_set j }) ∙ decided true e;
        stands = record {
          size = ap length in_set ∙ length-set s i (byte_of w) ∙ stands.size;
          unvisited = λ j g.
              ap (λ (l : List ℕ). get_or l j 0) in_set ∙ get_or-set_other s i j (byte_of w) 0 (λ e. omega arith)
              ∙ stands.unvisited j (omega arith);
          counted = m ∙ counts ∙ ap (λ (l : List ℕ). renamed_below l (length ns)) (sym in_set);
          total = t.total;
          ready = ready-less after ns i (length ns) ds ms (omega arith) t.ready;
        };
      }

      pub rejected : ((j : ℕ) → Below j (node_in ns j)) → (old : ℕ) → old ≡ byte_before w → false ≡ kept_by w sum next
          → Attempted w ns i before (record { picks = picks; chosen = set after i old }) sum ds ms
      rejected below old o e =
          let was : set after i old ≡ s =
          (λ j. set (in_set j) i (o j)) ∙ back (byte_of w) in
          let up : Ready (set s i (byte_of w)) ns i ds ms =
          ready-less (set s i (byte_of w)) ns i (length ns) ds ms (omega arith)
          (subst (λ (l : List ℕ). Ready l ns (length ns) ds ms) in_set t.ready) in
          subst (λ (l : List ℕ). Attempted w ns i before (record { picks = picks; chosen = l }) sum ds ms) (sym was) (record {
            choice = decided false e;
            stands = record {
              size = stands.size;
              unvisited = λ j g. stands.unvisited j (omega arith);
              counted = stands.counted;
              total = stands.total;
              ready = ready-back ns below s i (byte_of w) ds ms i (omega arith) up;
            };
          })
