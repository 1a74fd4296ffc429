-- `text::piece::is_same` meets its contract: slices are equal where all their bytes are. Assumes nothing.
use mathlib.Core.Path.{◌∙◌}
use Rattle.text.proofs.Laws.Same.{same_pointwise}
use Rattle.text.proofs.piece.is_same.Goals as goal

pub returns : goal.returns
returns c = c.eq.ensures ∙ same_pointwise c.args.a.now c.args.b.now
