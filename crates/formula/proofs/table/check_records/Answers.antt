-- `formula::table::check_records` meets its contract: the lowest record with a fault decides. Assumes nothing.
use mathlib.Core.Path.{◌≡◌, sym, ap, ◌∙◌, subst}
use mathlib.Core.Bool.{cond}
use Prim.Native.Nat.{ℕ}
use native.Mathlib.Omega.{arith}
use lib.Dec.{eqb, ltb}
use borrow.Author.Tests.{lt-ltb, le-ltb}
use Rattle.std.specs.Prelude.{Option, Err}
use Rattle.laws.proofs.First.{looking_more, looking_here, looking_end}
use Rattle.answer.specs.Answers.{accepted_with}
use Rattle.answer.specs.declared.Fault.{Fault}
use Rattle.answer.specs.declared.Refusal.TheVariants.{Record}
use Rattle.formula.specs.Tables.{node_at, node_count, fault_told, fault_found}
use Rattle.formula.specs.Checks.{record_right, first_wrong, record_told}
use Rattle.formula.specs.declared.node.Node.{Node}
use Rattle.formula.proofs.Laws.Faults.{some_told}
use Rattle.formula.proofs.table.check_records.Goals.{After-fault}
use Rattle.formula.proofs.table.check_records.Goals as goal

-- the fault that was looked for is that of the record
found : (c : After-fault) → c.fault.result ≡ fault_found c.args.options c.loop-i.i (node_at c.args.table.now c.loop-i.i)
found c = c.fault.ensures ∙ ap (λ (n : Node). fault_found c.args.options c.loop-i.i n) c.node_at.ensures

pub returns-in-Some : goal.returns-in-Some
returns-in-Some c =
    let t = c.args.table.now in
    let v = c.args.options in
    let i = c.loop-i.i in
    let is = sym (found (goal.at.returns-in-Some c).After-fault) ∙ c.in-Some.is in
    let here = looking_here (record_right t v) _ i c.loop-i.invariant (omega arith)
    (ap (λ (f : Option Fault). eqb (fault_told f) 0) is ∙ some_told c.in-Some.fault) in
    subst (λ (k : ℕ). Err (Record c.in-Some.fault i) ≡ cond (ltb k (node_count t)) (record_told (fault_found v k (node_at t k)) k) (accepted_with 0 0)) here
    (rw (lt-ltb i (node_count t) (omega arith)) (ap (λ (f : Option Fault). record_told f i) (sym is)))

pub loop-i-preserved : goal.loop-i-preserved
loop-i-preserved c =
    let t = c.args.table.now in
    let v = c.args.options in
    looking_more (record_right t v) _ c.loop-i.i c.loop-i.invariant (omega arith)
    (ap (λ (f : Option Fault). eqb (fault_told f) 0) (sym (found (goal.at.loop-i-preserved c).After-fault) ∙ c.in_default.is))

pub returns : goal.returns
returns c =
    let t = c.args.table.now in
    let v = c.args.options in
    let none = looking_end (record_right t v) _ c.loop-i.i c.loop-i.invariant (omega arith) in
    rw (le-ltb (first_wrong t v) (node_count t) (omega (arith, none)))
