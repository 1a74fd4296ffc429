-- `dimacs::writer::lines_size` meets its contract: the sizes of the words are added up. Assumes nothing.
use mathlib.Core.Path.{subst}
use mathlib.Core.List.{List}
use Prim.Native.Nat.{ℕ}
use native.Mathlib.Omega.{arith}
use Rattle.clausebytes.specs.Words.{words_of}
use Rattle.clausebytes.proofs.Laws.Words.{words_next, words_end}
use Rattle.dimacs.proofs.Laws.Written.{word-short, Sizing, sizing_more, sizing_end}
use Rattle.dimacs.proofs.writer.lines_size.Goals as goal

pub loop-i-preserved : goal.loop-i-preserved
loop-i-preserved c =
    let l = c.loop-i in
    let bytes = c.args.bytes.now in
    let s = subst (λ (r : List ℕ). Sizing (words_of bytes) r l.i l.size)
    (words_next bytes l.i c.word_at.result (omega arith) c.word_at.ensures) l.invariant in
    sizing_more c.word_at.result c.word_size-size.result s c.word_size-size.ensures (omega (arith, c))

pub returns : goal.returns
returns c =
    let l = c.loop-i in
    let bytes = c.args.bytes.now in
    sizing_end (subst (λ (r : List ℕ). Sizing (words_of bytes) r l.i l.size) (words_end bytes l.i c.loop-i-test.false) l.invariant)

-- the sum is small
pub overflow_add-size : goal.overflow_add-size
overflow_add-size c =
    let short = word-short c.word_at.result (omega (arith, c)) in
    omega (arith, c.loop-i.invariant.small, c.word_size-size.ensures, short, c.requires)
