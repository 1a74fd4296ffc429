-- `classes::Classes::class_of` meets its contract: the table has an entry for every byte, and it is the number of its class. Assumes nothing.
use mathlib.Core.Path.{ap, ◌∙◌}
use mathlib.Core.List.{List}
use Prim.Native.Nat.{ℕ}
use borrow.Author.Rules.{rules}
use lib.ListN.{get_or}
use Rattle.classes.specs.Inner.Classes.{table}
use Rattle.classes.proofs.Laws.Classes.{table_at}
use Rattle.classes.proofs.Classes.class_of.Goals as goal

pub returns : goal.returns
returns c =
    ap (λ (l : List ℕ). get_or l c.from.result 0) c.args.self.now.right
    ∙ ap (λ (n : ℕ). get_or table n 0) c.from.ensures
    ∙ table_at c.args.byte (search rules)
