-- `choose::pass::attempt` meets its contract: the trial is kept, or the byte is put back. Assumes nothing.
use mathlib.Core.Path.{◌≡◌, sym, ap, ◌∙◌}
use Prim.Native.Nat.{ℕ, ◌<◌, ◌≤◌}
use native.Mathlib.Omega.{arith}
use lib.ListN.{length, length-set}
use Rattle.formula.specs.Tables.{nodes_of}
use Rattle.formula.proofs.Laws.Tables.{length-nodes_of}
use Rattle.clausal.proofs.Renamed.{below_le}
use Rattle.choose.specs.declared.pass.Way.{Way}
use Rattle.choose.specs.declared.pass.Way.TheVariants.{Adds, Drops}
use Rattle.choose.specs.Inner.Visits.{lowest, picks_with}
use Rattle.choose.proofs.Laws.Visits.{tried-low, accepted, rejected, some}
use Rattle.choose.proofs.pass.attempt.Goals.{Start}
use Rattle.choose.proofs.pass.attempt.Goals as goal

-- the node is one of the table
inside : (c : Start) → c.args.i < length (nodes_of c.args.table.now)
inside c = omega (arith, c.requires.visitable.inside, length-nodes_of c.args.table.now)

within : (w : Way) (i from n : ℕ) → from ≡ lowest w i → i < n → from ≤ n
within (Adds allowance) i from n e h = omega arith
within Drops i from n e h = omega arith

pub trial-total-requires : goal.trial-total-requires
trial-total-requires c =
    let a = c.args in
    let pre = c.requires.visitable in
    record {
      marked = pre.marked;
      below = pre.below;
      size = pre.stands.size ∙ length-nodes_of a.table.now;
      inside = pre.inside;
      low = tried-low a.way (nodes_of a.table.now) a.i _ _ _ _ _ pre.stands _ _ c.byte.ensures c.lowest.ensures;
      within = within a.way a.i _ _ c.lowest.ensures pre.inside;
      ready = pre.stands.ready;
    }

pub bounds-set-i : goal.bounds-set-i
bounds-set-i c =
    let same = ap length c.trial-total.ensures.in_set ∙ length-set c.args.set.now c.args.i c.byte.result in
    omega (arith, same, c.requires.visitable.stands.size, inside (goal.at.bounds-set-i c).Start)

pub returns-then-not-keeps : goal.returns-then-not-keeps
returns-then-not-keeps c =
    let a = c.args in
    let pre = c.requires.visitable in
    rejected a.way (nodes_of a.table.now) a.i a.picked.picks a.set.now _ _ _ pre.stands
    (inside (goal.at.returns-then-not-keeps c).Start) c.requires.other _ _ _ _ _ c.trial-total.ensures
    c.byte.ensures pre.below _ c.byte_before.ensures (sym c.if-not-keeps.true ∙ c.keeps.ensures)

pub overflow_add-result : goal.overflow_add-result
overflow_add-result c =
    let a = c.args in
    let pre = c.requires.visitable in
    record {
      fits = omega (
        arith,
        pre.stands.counted,
        below_le a.set.now (length (nodes_of a.table.now)),
        length-nodes_of a.table.now,
        pre.marked.size.most,
      );
    }

pub overflow_sub-result : goal.overflow_sub-result
overflow_sub-result c =
    let a = c.args in
    some a.way (nodes_of a.table.now) a.i a.picked.picks a.set.now _ _ _ c.requires.visitable.stands
    (inside (goal.at.overflow_sub-result c).Start) c.requires.other c.in-Drops.is

pub returns-in-Adds : goal.returns-in-Adds
returns-in-Adds c =
    let a = c.args in
    accepted a.way (nodes_of a.table.now) a.i a.picked.picks a.set.now _ _ _ c.requires.visitable.stands
    (inside (goal.at.returns-in-Adds c).Start) c.requires.other _ _ _ _ _ c.trial-total.ensures
    c.byte.ensures _ (ap (λ (w : Way). picks_with w a.picked.picks) (sym c.in-Adds.is)) (sym c.if-not-keeps.false ∙ c.keeps.ensures)

pub returns-in-Drops : goal.returns-in-Drops
returns-in-Drops c =
    let a = c.args in
    accepted a.way (nodes_of a.table.now) a.i a.picked.picks a.set.now _ _ _ c.requires.visitable.stands
    (inside (goal.at.returns-in-Drops c).Start) c.requires.other _ _ _ _ _ c.trial-total.ensures
    c.byte.ensures _ (ap (λ (w : Way). picks_with w a.picked.picks) (sym c.in-Drops.is)) (sym c.if-not-keeps.false ∙ c.keeps.ensures)
