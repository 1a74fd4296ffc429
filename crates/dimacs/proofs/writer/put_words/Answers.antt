-- `dimacs::writer::put_words` meets its contract: the texts of the words one behind the other. Assumes nothing.
use mathlib.Core.Path.{ap, subst}
use mathlib.Core.List.{List, ◌++◌}
use Prim.Native.Nat.{ℕ, ◌+◌, ◌≤◌}
use native.Mathlib.Omega.{arith}
use lib.ListN.{length, drop}
use Rattle.laws.proofs.Stored.{Storing, storing_room, storing_more, storing_end}
use Rattle.clausebytes.specs.Words.{words_of}
use Rattle.clausebytes.proofs.Laws.Words.{words_next, words_end}
use Rattle.dimacs.specs.Inner.Words.{word_text, words_text}
use Rattle.dimacs.proofs.writer.put_words.Goals.{After-word_at}
use Rattle.dimacs.proofs.writer.put_words.Goals as goal

-- the text of the word that is looked at, and the rest
ahead : (c : After-word_at)
    → let l = c.loop-i in
    let x = c.args in
    Storing (words_text (words_of x.bytes.now)) x.text.now x.at
    (word_text c.word_at.result ++ words_text (drop (l.i + 1) (words_of x.bytes.now))) l.text l.next
unfolding words_text
ahead c =
    let l = c.loop-i in
    let x = c.args in
    subst (λ (r : List ℕ). Storing (words_text (words_of x.bytes.now)) x.text.now x.at (words_text r) l.text l.next)
    (words_next x.bytes.now l.i c.word_at.result (omega arith) c.word_at.ensures) l.invariant

has_room : (c : After-word_at)
    → let l = c.loop-i in l.next + length (word_text c.word_at.result) ≤ length l.text
has_room c =
    storing_room c.requires (word_text c.word_at.result) (words_text (drop (c.loop-i.i + 1) (words_of c.args.bytes.now))) (ahead c)

pub loop-i-preserved : goal.loop-i-preserved
loop-i-preserved c =
    let rest = words_text (drop (c.loop-i.i + 1) (words_of c.args.bytes.now)) in
    (storing_more c.requires (word_text c.word_at.result) rest (ahead (goal.at.loop-i-preserved c).After-word_at) c.put_word-next.ensures)

pub returns : goal.returns
unfolding words_text
returns c =
    let l = c.loop-i in
    let x = c.args in
    (storing_end l.invariant (ap words_text (words_end x.bytes.now l.i c.loop-i-test.false))).list

pub put_word-next-requires : goal.put_word-next-requires
put_word-next-requires c =
    has_room (goal.at.put_word-next-requires c).After-word_at
