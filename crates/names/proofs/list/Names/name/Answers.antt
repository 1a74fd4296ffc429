-- `names::list::Names::name` meets its contract: from where a name begins to the next newline is the name. Assumes nothing.
use Rattle.names.proofs.Laws.Places.{name-here}
use Rattle.names.proofs.Laws.Notes.{reached-found}
use Rattle.names.proofs.list.Names.name.Goals as goal

pub find-end-requires : goal.find-end-requires
find-end-requires c = (reached-found c.requires c.start_of-start.ensures.0).within

pub returns : goal.returns
returns c =
    let place = c.start_of-start.ensures in
    (name-here (reached-found c.requires place.0) c.find-end.ensures, place.1)
