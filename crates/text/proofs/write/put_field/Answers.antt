-- `text::write::put_field` meets its contract: the number, and the byte behind it. Assumes nothing.
use mathlib.Core.List.{[], ◌∷◌}
use Rattle.laws.proofs.Stored.{stored-both}
use Rattle.text.specs.Texts.{decimal}
use Rattle.text.proofs.write.put_field.Goals as goal

pub returns : goal.returns
returns c =
    let x = c.args in
    stored-both (decimal x.number) (x.end ∷ []) x.text.now x.at c.requires c.put_number-next.ensures c.put_byte.ensures
