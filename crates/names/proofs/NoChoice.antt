-- Any two results that a promise of this crate allows are equal, and so is each lent array afterwards.
-- Stated of the promises as the check reads them: `Reads.Post` of each public function.
-- Assumes nothing.
use mathlib.Core.Path.{◌≡◌, sym, ◌∙◌}
use contract.Lifetimes.{Lfts}
use denote.Triple.Clauses.{AtExit}
use borrow.Fn.Kinds.{Dens, ended_of, res_t}
use Rattle.names.proofs.list.is_right.Kinds as is-right-kinds
use Rattle.names.proofs.list.is_right.Reads as is_right
use Rattle.names.proofs.list.Names.new.Kinds as names-new-kinds
use Rattle.names.proofs.list.Names.new.Reads as names-new
use Rattle.names.proofs.list.Names.note.Kinds as note-kinds
use Rattle.names.proofs.list.Names.note.Reads as note
use Rattle.names.proofs.list.Names.name.Kinds as name-kinds
use Rattle.names.proofs.list.Names.name.Reads as name
use Rattle.names.proofs.lookup.Voices.new.Kinds as voices-new-kinds
use Rattle.names.proofs.lookup.Voices.new.Reads as voices-new
use Rattle.names.proofs.lookup.Voices.lookup.Kinds as lookup-kinds
use Rattle.names.proofs.lookup.Voices.lookup.Reads as lookup

pub is-right-settled : (κs : Lfts 1) (a : Dens κs is-right-kinds.ps) (r q : (res_t is-right-kinds.r κs).Denot)
    (s t : AtExit (ended_of 1 is-right-kinds.ps is-right-kinds.r) κs)
    → is_right.Post κs a r s → is_right.Post κs a q t → r ≡ q
is-right-settled κs a r q s t e f = e ∙ sym f

pub names-new-settled : (κs : Lfts 1) (a : Dens κs names-new-kinds.ps) (r q : (res_t names-new-kinds.r κs).Denot)
    (s t : AtExit (ended_of 1 names-new-kinds.ps names-new-kinds.r) κs)
    → names-new.Post κs a r s → names-new.Post κs a q t → r ≡ q
names-new-settled κs a r q s t e f = e ∙ sym f

pub note-settled : (κs : Lfts 2) (a : Dens κs note-kinds.ps) (r q : (res_t note-kinds.r κs).Denot)
    (s t : AtExit (ended_of 2 note-kinds.ps note-kinds.r) κs)
    → note.Post κs a r s → note.Post κs a q t → s.0.now ≡ t.0.now
note-settled κs a r q s t e f = e ∙ sym f

pub name-settled : (κs : Lfts 2) (a : Dens κs name-kinds.ps) (r q : (res_t name-kinds.r κs).Denot)
    (s t : AtExit (ended_of 2 name-kinds.ps name-kinds.r) κs)
    → name.Post κs a r s → name.Post κs a q t → (r.now ≡ q.now) × (s.0.now ≡ t.0.now)
name-settled κs a r q s t e f = (e.0 ∙ sym f.0, e.1 ∙ sym f.1)

pub voices-new-settled : (κs : Lfts 1) (a : Dens κs voices-new-kinds.ps) (r q : (res_t voices-new-kinds.r κs).Denot)
    (s t : AtExit (ended_of 1 voices-new-kinds.ps voices-new-kinds.r) κs)
    → voices-new.Post κs a r s → voices-new.Post κs a q t → r ≡ q
voices-new-settled κs a r q s t e f = e ∙ sym f

pub lookup-settled : (κs : Lfts 2) (a : Dens κs lookup-kinds.ps) (r q : (res_t lookup-kinds.r κs).Denot)
    (s t : AtExit (ended_of 2 lookup-kinds.ps lookup-kinds.r) κs)
    → lookup.Post κs a r s → lookup.Post κs a q t → (r.now ≡ q.now) × (s.0.now ≡ t.0.now)
lookup-settled κs a r q s t e f = (e.name ∙ sym f.name, e.notes ∙ sym f.notes)
