-- `choose::bytes::clear` meets its contract. Assumes nothing.
use Rattle.choose.proofs.bytes.clear.Goals as goal

pub returns : goal.returns
returns c = c.fill.ensures.after (λ y e. e)
