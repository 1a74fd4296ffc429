-- `satfile::lead::Reader::begin` meets its contract: the first byte decides, by the cases of the definition. Assumes nothing.
use mathlib.Core.Path.{sym, ◌∙◌}
use mathlib.Core.Bool.{true, false}
use Prim.Native.Nat.{◌+◌}
use native.Mathlib.Omega.{arith}
use Rattle.satfile.specs.Inner.Reads.{operand_in, open_in}
use Rattle.satfile.specs.declared.lead.Group.TheVariants as group
use Rattle.satfile.proofs.Laws.Rests.{begin-end, begin_star_no, begin_star, begin_plus_no, begin_plus, begin_minus_no}
use Rattle.satfile.proofs.Laws.Rests.{begin-minus, begin-other}
use Rattle.satfile.proofs.Laws.Tells.{begin_as, few-behind}
use Rattle.satfile.proofs.lead.Reader.begin.Goals as goal

pub returns-then-self-at : goal.returns-then-self-at
returns-then-self-at c =
    let a = c.args in
    let reader = a.self.now in
    record { out = begin-end reader.text.now a.at reader.options a.depth c.if-self-at.true; within = c.requires }

pub returns-in-42 : goal.returns-in-42
returns-in-42 c =
    let a = c.args in
    let reader = a.self.now in
    begin_as reader a.at (a.at + 1) a.depth (open_in group.And)
    (begin_star reader.text.now a.at reader.options a.depth c.if-self-at.false c.in-42.is c.if-depth-ne0.true)
    (omega arith) true (few-behind a.at) c.open.result c.open.ensures

pub returns-in-42-2 : goal.returns-in-42-2
returns-in-42-2 c =
    let a = c.args in
    let reader = a.self.now in
    record {
      out = begin_star_no reader.text.now a.at reader.options a.depth c.if-self-at.false c.in-42.is c.if-depth-ne0.false;
      within = c.requires;
    }

pub returns-in-43 : goal.returns-in-43
returns-in-43 c =
    let a = c.args in
    let reader = a.self.now in
    begin_as reader a.at (a.at + 1) a.depth (open_in group.Or)
    (begin_plus reader.text.now a.at reader.options a.depth c.if-self-at.false (λ e. omega arith) c.in-43.is c.if-depth-ne0-2.true)
    (omega arith) true (few-behind a.at) c.open-in-43.result c.open-in-43.ensures

pub returns-in-42-2-2 : goal.returns-in-42-2-2
returns-in-42-2-2 c =
    let a = c.args in
    let reader = a.self.now in
    record {
      out =
          begin_plus_no reader.text.now a.at reader.options a.depth c.if-self-at.false (λ e. omega arith) c.in-43.is c.if-depth-ne0-2.false;
      within = c.requires;
    }

pub returns-in-45 : goal.returns-in-45
returns-in-45 c =
    let a = c.args in
    let reader = a.self.now in
    begin_as reader a.at (a.at + 1) a.depth (operand_in reader.options a.depth true)
    (begin-minus reader.text.now a.at reader.options a.depth c.if-self-at.false (λ e. omega arith) (λ e. omega arith) c.in-45.is
    (sym c.is_negated.ensures ∙ c.if-is_negated.true))
    (omega arith) true (few-behind a.at) c.operand.result c.operand.ensures

pub returns-in-42-2-3 : goal.returns-in-42-2-3
returns-in-42-2-3 c =
    let a = c.args in
    let reader = a.self.now in
    record {
      out =
          begin_minus_no reader.text.now a.at reader.options a.depth c.if-self-at.false (λ e. omega arith) (λ e. omega arith) c.in-45.is
          (sym c.is_negated.ensures ∙ c.if-is_negated.false);
      within = c.requires;
    }

pub returns-in_default : goal.returns-in_default
returns-in_default c =
    let a = c.args in
    let reader = a.self.now in
    begin_as reader a.at a.at a.depth (operand_in reader.options a.depth false)
    (begin-other reader.text.now a.at reader.options a.depth c.if-self-at.false (λ e. omega arith) (λ e. omega arith) (λ e. omega arith))
    (omega arith) false (λ n. omega arith) c.operand-in_default.result c.operand-in_default.ensures
