-- `kept::clause::put_clause` meets its contract: literals, then the zero, and the row is wiped. Assumes nothing.
use mathlib.Core.Path.{refl, ◌∙◌}
use Rattle.tidied.specs.Tidying.{firsts_of, others_of, literal_changes}
use Rattle.sets.specs.Inner.Sets.{clause_from, Ready}
use Rattle.sets.proofs.Laws.Codes.{marked-wiped}
use Rattle.kept.proofs.Laws.Literals.{literals_room, zero_room, clause-drawn}
use Rattle.kept.proofs.clause.put_clause.Goals as goal

pub put_literals-drawn-requires : goal.put_literals-drawn-requires
put_literals-drawn-requires c =
    let x = c.args in
    let p = c.requires in
    let clause = clause_from x.bytes.now x.from in
    record {
      given = record {
        numbered = p.numbered;
        long = p.long;
        drawable = literals_room (firsts_of clause) (literal_changes x.clause (others_of clause)) p.drawable;
      };
      empty = x.row.now.empty;
    }

-- the row is without literals again
pub invariant_of-row : goal.invariant_of-row
invariant_of-row c =
    let x = c.args in
    let ready : Ready x.bytes.now x.row.now.bits = record { within = c.requires.numbered; empty = x.row.now.empty } in
    record { empty = marked-wiped ready x.from _ c.put_literals-drawn.ensures.1 _ c.wipe.ensures ∙ x.row.now.empty }

-- the zero has room, and one clause more is counted
pub put_word-requires : goal.put_word-requires
put_word-requires c =
    let x = c.args in
    let clause = clause_from x.bytes.now x.from in
    (zero_room (firsts_of clause) (literal_changes x.clause (others_of clause)) c.requires.drawable c.put_literals-drawn.ensures.0).kept_room

pub returns : goal.returns
returns c =
    let x = c.args in
    let clause = clause_from x.bytes.now x.from in
    clause-drawn (firsts_of clause) (literal_changes x.clause (others_of clause)) c.requires.drawable c.put_literals-drawn.ensures.0
    c.put_word.ensures refl
