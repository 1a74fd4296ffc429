-- `tidy::pass::put_all` meets its contract: window after window, its first clauses are looked for and it is put.
-- Assumes nothing.
use mathlib.Core.Path.{◌≡◌, subst, subst⁻¹}
use mathlib.Core.List.{List}
use Prim.Native.Nat.{ℕ, ◌+◌, ◌-◌, ◌<◌, ◌≤◌}
use Rattle.std.specs.Prelude.{min}
use native.Mathlib.Omega.{arith}
use borrow.Author.Rules.{rules}
use lib.ListN.{length, take}
use Rattle.std.proofs.lemmas.List.{length-take-le}
use Rattle.clausebytes.proofs.Encoded.{Bytes}
use Rattle.tidy.specs.Inner.Windows.{most}
use Rattle.sets.specs.Inner.Sets.{seeds}
use Rattle.tidy.specs.Inner.Passes.{start_pen, Passable, Passed}
use Rattle.tidy.specs.declared.pass.Walked.{Walked}
use Rattle.tidy.proofs.Laws.Walking.{Walking, Sized, window_sized, window_least, walking_start, walking_searchable}
use Rattle.tidy.proofs.Laws.Walking.{walking_taken, walking_next, walking_end}
use Rattle.tidy.proofs.pass.put_all.Goals.{After-first_clauses-found, After-window_size-size, At-loop-start, In-loop-start}
use Rattle.tidy.proofs.pass.put_all.Goals.{else-loop-start-test, then-loop-start-test+else-count-start-gt1024}
use Rattle.tidy.proofs.pass.put_all.Goals as goal

small : (c : At-loop-start) → Bytes c.args.bytes.now
small c i = (c.shared_slice_known-1.given i).fits

sized : (c : After-window_size-size) → Sized (c.args.count - c.loop-start.start) c.window_size-size.result
sized c =
    window_sized (c.args.count - c.loop-start.start) _ c.window_size-size.ensures

firsts-long : (c : After-first_clauses-found) → length c.first_clauses-found.result.firsts ≡ most
firsts-long c = search rules

pub loop-start-init : goal.loop-start-init
loop-start-init c =
    let x = c.args in
    let e : 0 ≡ min 0 x.count = omega arith in
    subst (λ (n : ℕ). Walking x.bytes.now x.writing x.out.now x.lines.now x.out.now x.lines.now (record { place = 0; pen = start_pen x.writing }) 0 n) e
    (walking_start x.bytes.now x.writing x.out.now x.lines.now)

-- a window begins where the clauses before it end
here : (c : In-loop-start) → let x = c.args in let l = c.loop-start in
    Walking x.bytes.now x.writing x.out.now x.lines.now l.out l.lines l.walked l.seed l.start
here c =
    let x = c.args in
    let l = c.loop-start in
    let e : min l.start x.count ≡ l.start = omega (arith, c.loop-start-test.true) in
    subst (λ (n : ℕ). Walking x.bytes.now x.writing x.out.now x.lines.now l.out l.lines l.walked l.seed n) e l.invariant

pub first_clauses-found-requires : goal.first_clauses-found-requires
first_clauses-found-requires c =
    walking_searchable (small (goal.at.first_clauses-found-requires c).At-loop-start) c.requires
    (here (goal.at.first_clauses-found-requires c).In-loop-start) (sized (goal.at.first_clauses-found-requires c).After-window_size-size)

-- the part of the first clauses that the window has
part-long : (c : After-first_clauses-found) → length (take c.window_size-size.result c.first_clauses-found.result.firsts) ≡ c.window_size-size.result
part-long c =
    let size = sized (goal.at.After-first_clauses-found c).After-window_size-size in
    length-take-le c.window_size-size.result c.first_clauses-found.result.firsts (omega (arith, size.few, firsts-long c))

pub put_window-walked-requires : goal.put_window-walked-requires
put_window-walked-requires c =
    let x = c.args in
    let size = sized (goal.at.put_window-walked-requires c).After-window_size-size in
    let found = (goal.at.put_window-walked-requires c).After-first_clauses-found in
    subst⁻¹ (λ (n : ℕ). Passable x.bytes.now c.loop-start.start c.loop-start.walked.place n
    (take c.window_size-size.result c.first_clauses-found.result.firsts) c.loop-start.out c.loop-start.lines
    c.loop-start.walked.pen) (part-long found)
    (walking_taken (small (goal.at.put_window-walked-requires c).At-loop-start) c.requires
    (here (goal.at.put_window-walked-requires c).In-loop-start) size
    c.first_clauses-found.result.firsts (firsts-long found) c.first_clauses-found.ensures.firsts_are)

-- the clauses of a window were put
after : {size : ℕ} {o m : List ℕ} {next : Walked} (c : At-loop-start) → c.loop-start.start < c.args.count
    → Sized (c.args.count - c.loop-start.start) size → size ≡ min (c.args.count - c.loop-start.start) most
    → Passed c.args.bytes.now c.loop-start.start size c.loop-start.out c.loop-start.lines c.loop-start.walked.pen o m next
    → (seed : ℕ) → seed < seeds
    → Walking c.args.bytes.now c.args.writing c.args.out.now c.args.lines.now o m next seed (min (c.loop-start.start + 1024) c.args.count)
after {size} {o} {m} {next} c h s least p seed few =
    let x = c.args in
    let l = c.loop-start in
    let begun : min l.start x.count ≡ l.start = omega (arith, h) in
    let e : l.start + size ≡ min (l.start + 1024) x.count = omega (arith, least, h) in
    let w = subst (λ (n : ℕ). Walking x.bytes.now x.writing x.out.now x.lines.now l.out l.lines l.walked l.seed n) begun l.invariant in
    subst (λ (n : ℕ). Walking x.bytes.now x.writing x.out.now x.lines.now o m next seed n) e
    (walking_next (small c) c.requires w s p seed few)

pub loop-start-preserved : goal.loop-start-preserved
loop-start-preserved c =
    after (goal.at.loop-start-preserved c).At-loop-start c.loop-start-test.true
    (sized (goal.at.loop-start-preserved c).After-window_size-size)
    (window_least (c.args.count - c.loop-start.start) _ (goal.at.loop-start-preserved c).After-window_size-size.window_size-size.ensures)
    (subst (λ (n : ℕ). Passed c.args.bytes.now c.loop-start.start n c.loop-start.out c.loop-start.lines c.loop-start.walked.pen
    c.put_window-walked.new.out c.put_window-walked.new.lines c.put_window-walked.result)
    (part-long (goal.at.loop-start-preserved c).After-first_clauses-found) c.put_window-walked.ensures) c.first_clauses-found.result.seed
    c.first_clauses-found.ensures.seed_few

-- the last window is behind, or there is none
pub returns : goal.returns
returns c =
    let x = c.args in
    let l = c.loop-start in
    let at = (goal.at.returns c).At-loop-start in
    elim c.loop-start-test.branch [
      | else-loop-start-test w ↦ let past = w.loop-start-test.false in
          rw (w.out-is, w.lines-is, w.walked-is) (walking_end (small at) c.requires l.invariant (omega (arith, past)))
      | then-loop-start-test+else-count-start-gt1024 w ↦
          let size = window_sized (x.count - l.start) _ w.window_size-size.ensures in
          let few : w.window_size-size.result ≤ length w.first_clauses-found.result.firsts = omega (arith, size.few) in
          let long = length-take-le w.window_size-size.result w.first_clauses-found.result.firsts few in
          let done = after at w.loop-start-test.true size
          (window_least (x.count - l.start) _ w.window_size-size.ensures)
          (subst (λ (n : ℕ). Passed x.bytes.now l.start n l.out l.lines l.walked.pen w.put_window-walked.new.out w.put_window-walked.new.lines
          w.put_window-walked.result) long w.put_window-walked.ensures)
          w.first_clauses-found.result.seed w.first_clauses-found.ensures.seed_few in
          rw (w.out-is, w.lines-is, w.walked-is) (walking_end (small at) c.requires done (omega (arith, w)))
    ]
