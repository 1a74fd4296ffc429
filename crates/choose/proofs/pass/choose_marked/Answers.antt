-- `choose::pass::choose_marked` meets its contract: the first pass decides, or the second one does. Assumes nothing.
use mathlib.Core.Path.{ap, ◌∙◌}
use mathlib.Core.List.{List}
use Prim.Native.Nat.{ℕ}
use lib.ListN.{length}
use Rattle.answer.specs.Answers.{Wrote}
use Rattle.formula.specs.Tables.{nodes_of}
use Rattle.formula.proofs.Laws.Tables.{length-nodes_of}
use Rattle.choose.specs.Inner.Visits.{bare}
use Rattle.choose.proofs.Laws.Chosen.{fits-first}
use Rattle.choose.proofs.pass.choose_marked.Goals as goal

pub put_all-requires : goal.put_all-requires
put_all-requires c =
    let t = c.args.table.now in
    record {
      marked = c.requires.marked;
      size =
          ap length (ap (λ (w : Wrote (List ℕ)). w.output) c.pass-first.ensures)
          ∙ (fits-first bare (nodes_of t) c.args.allowance).right.size ∙ length-nodes_of t;
    }
