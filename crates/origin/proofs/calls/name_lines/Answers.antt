-- `origin::calls::name_lines` meets its contract: both lists are looked at, and then the room. Assumes nothing.
use mathlib.Core.Path.{sym, ◌∙◌}
use Rattle.origin.proofs.Laws.Shown.{helpers-notable, listed_tellable, listed_known}
use Rattle.origin.proofs.calls.name_lines.Goals as goal

pub note-requires-2 : goal.note-requires-2
note-requires-2 c =
    helpers-notable _ _ _ _ _ _ c.requires (sym c.is_right-else-not-is_right.ensures ∙ c.if-not-is_right-2.false)

pub write_lines-requires-clause-tellable : goal.write_lines-requires-clause-tellable
write_lines-requires-clause-tellable c =
    listed_tellable _ _ _ c.args.voices.now _ _ c.requires (sym c.is_right.ensures ∙ c.if-not-is_right.false)
    (sym c.is_right-else-not-is_right.ensures ∙ c.if-not-is_right-2.false) _ _ c.note.ensures c.note-2.ensures

pub write_lines-requires-clause-known : goal.write_lines-requires-clause-known
write_lines-requires-clause-known c =
    listed_known _ _ _ c.args.voices.now _ _ c.requires (sym c.is_right.ensures ∙ c.if-not-is_right.false)
    (sym c.is_right-else-not-is_right.ensures ∙ c.if-not-is_right-2.false) _ _ c.note.ensures c.note-2.ensures
