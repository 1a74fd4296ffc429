-- `satfile::lead::Reader::is_end` meets its contract: the end of the text, or a `)`. Assumes nothing.
use mathlib.Core.Path.{sym, ◌∙◌}
use Rattle.satfile.proofs.Laws.Rests.{ends-whole}
use Rattle.satfile.proofs.lead.Reader.is_end.Goals as goal

-- the text goes on
pub returns-else-not-is_whole : goal.returns-else-not-is_whole
returns-else-not-is_whole c =
    let a = c.args in
    rw c.if-not-is_whole.false
    (sym (ends-whole a.self.now.text.now a.at a.group c.if-self-at.false (sym c.is_whole-2.ensures ∙ c.if-not-is_whole.false)))
