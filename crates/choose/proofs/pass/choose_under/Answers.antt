-- `choose::pass::choose_under` meets its contract: the buffer's length first, then the passes from the empty set.
-- Assumes nothing.
use mathlib.Core.Path.{sym, ap, ◌∙◌}
use Prim.Native.Nat.{ℕ}
use lib.ListN.{replicate}
use borrow.Author.Tests.{eq-eqb, ne_eqb}
use Rattle.answer.specs.Answers.{accepted_with}
use Rattle.formula.proofs.Laws.Tables.{length-nodes_of}
use Rattle.choose.proofs.pass.choose_under.Goals as goal

pub returns-then-set-count : goal.returns-then-set-count
returns-then-set-count c =
    rw (length-nodes_of c.args.table.now, ne_eqb _ _ c.if-set-count.true)

pub choose_marked-picked-requires : goal.choose_marked-picked-requires
choose_marked-picked-requires c =
    let t = c.args.table.now in
    let empty = c.clear.ensures ∙ ap (λ (k : ℕ). replicate k 0) (c.if-set-count.false ∙ sym (length-nodes_of t)) in
    record {
      marked = record { size = c.requires.size; are = c.mark_all.ensures };
      below = c.requires.below;
      begins = λ j. record { picks = 0; chosen = empty j };
    }

pub returns : goal.returns
returns c =
    let p = c.choose_marked-picked.result in
    rw (eq-eqb _ _ (c.if-set-count.false ∙ sym (length-nodes_of c.args.table.now)))
    (ap (λ (n : ℕ). record { answer = accepted_with p.picks n; output = c.choose_marked-picked.new.set }) c.from.ensures ∙ c.choose_marked-picked.ensures)
