-- `convert::convert::write_output` meets its contract: the helpers, then all parts. Assumes nothing.
use mathlib.Core.Path.{ap}
use mathlib.Core.List.{List}
use native.Mathlib.Omega.{arith}
use borrow.Author.Rules.{rules}
use Rattle.laws.specs.Lists.{splice}
use Rattle.clausal.specs.Clauses.{Clause, clauses_bytes}
use Rattle.convert.proofs.Laws.Written.{unnamed, parts_are, output_due}
use Rattle.convert.proofs.convert.write_output.Goals as goal

pub name_all-last-requires : goal.name_all-last-requires
name_all-last-requires c =
    let a = c.args in
    unnamed a.table.now a.taken a.marks.now a.set.now a.columns.now c.requires.prepared

pub write_all-requires : goal.write_all-requires
write_all-requires c =
    let a = c.args in
    output_due _ a.taken a.marks.now a.set.now c.requires.prepared c.name_all-last.ensures.1 a.out.now
    (omega (arith, c.well_formed)) c.requires.fits

pub returns : goal.returns
returns c =
    let a = c.args in
    let same = ap (λ (l : List Clause). splice a.out.now 0 (clauses_bytes l))
    (parts_are a.table.now a.taken a.marks.now a.set.now a.columns.now c.requires.prepared _ c.name_all-last.ensures.1) in
    search rules
