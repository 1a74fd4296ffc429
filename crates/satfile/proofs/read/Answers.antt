-- `satfile::read` meets its contract: refusal 17 at the head's place or at the formula's, refusals 18 and 7, or the table. The second
-- reading reads the formula of the first. Assumes nothing.
use Rattle.std.proofs.Common.{◌≡◌, refl, sym, ap, ◌∙◌, arith}
use mathlib.Core.Path.{subst⁻¹}
use Rattle.header.specs.Inner.Heads.{head_of, Lettered}
use Rattle.header.specs.declared.Form.{Form}
use Rattle.header.specs.declared.Head.{Head}
use Rattle.header.proofs.Laws.Steps.{head_within}
use Rattle.satfile.specs.Texts.{sat}
use Rattle.satfile.proofs.Laws.Calls.{call_short}
use Rattle.satfile.proofs.read.Goals as goal
use Rattle.satfile.proofs.read.Goals.{After-read-head}

lettered : (f : Form) → f ≡ sat → Lettered f
lettered f e = subst⁻¹ Lettered e (record { first = refl; second = refl; third = refl })

-- the head, and the place behind it
head : (c : After-read-head) → c.read-head.result ≡ head_of sat c.args.text.now
head c = c.read-head.ensures ∙ ap (λ f. head_of f c.args.text.now) c.sat_form.ensures

pub list-requires : goal.list-requires
list-requires c = record {
  within =
      omega (arith, ap (λ (h : Head). h.place) (head (goal.at.list-requires c).After-read-head), head_within sat c.args.text.now);
  few = omega arith;
}

pub returns-then-table-nodes : goal.returns-then-table-nodes
returns-then-table-nodes c =
    call_short c.args.text.now c.args.table.now c.read-head.result
    (head (goal.at.returns-then-table-nodes c).After-read-head)
    (sym c.is_done.ensures ∙ c.if-not-is_done.false) c.in_ok-whole.ensures c.if-nodes-gt-MOST_NODES.false c.if-table-nodes.true
