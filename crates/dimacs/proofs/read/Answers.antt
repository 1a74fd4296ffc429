-- `dimacs::read` meets its contract: refusal 8 at the head's place or at the body's, refusal 7, or the clause bytes. Assumes nothing.
use mathlib.Core.Path.{◌≡◌, refl, sym, ap, ◌∙◌, subst⁻¹}
use mathlib.Core.Bool.{true}
use mathlib.Core.List.{List}
use Prim.Native.Nat.{ℕ, ◌≤◌}
use native.Mathlib.Omega.{arith}
use lib.ListN.{length}
use Rattle.header.specs.Inner.Heads.{head_of, Lettered}
use Rattle.header.specs.declared.Form.{Form}
use Rattle.header.specs.declared.Head.{Head}
use Rattle.header.proofs.Laws.Steps.{head_within}
use Rattle.clausebytes.specs.Inner.Checks.{room_of}
use Rattle.body.specs.Inner.States.{accepts}
use Rattle.body.specs.declared.state.State.{State}
use Rattle.dimacs.specs.Texts.{cnf}
use Rattle.dimacs.specs.Inner.Walks.{state_from}
use Rattle.dimacs.proofs.Laws.ReadCall.{Seen, read_no_room, read-room}
use Rattle.dimacs.proofs.read.Goals.{After-check-end, After-read-head, Else-clauses-room, Else-not-is_accepted}
use Rattle.dimacs.proofs.read.Goals as goal

abbrev text_of : After-read-head → List ℕ
text_of c = c.args.text.now

abbrev buffer-of : After-read-head → List ℕ
buffer-of c = c.args.clauses.now

lettered : (f : Form) → f ≡ cnf → Lettered f
lettered f e = subst⁻¹ Lettered e (record { first = refl; second = refl; third = refl })

head : (c : After-read-head) → c.read-head.result ≡ head_of cnf (text_of c)
head c = c.read-head.ensures ∙ ap (λ f. head_of f (text_of c)) c.cnf_form.ensures

pub check-end-requires : goal.check-end-requires
check-end-requires c =
    record {
      place = omega (
        arith,
        ap (λ (s : State). s.place) c.start-start.ensures,
        ap (λ (h : Head). h.place) (head (goal.at.check-end-requires c).After-read-head),
        head_within cnf (text_of (goal.at.check-end-requires c).After-read-head),
      );
      phase = ap (λ (s : State). s.phase) c.start-start.ensures;
    }

seen : (c : After-check-end) → Seen (text_of (goal.at.After-check-end c).After-read-head) c.read-head.result c.check-end.result
seen c =
    record {
      head = head (goal.at.After-check-end c).After-read-head;
      done = sym c.is_done.ensures ∙ c.if-not-is_done.false;
      read = c.check-end.ensures ∙ ap (λ (s : State). state_from s (text_of (goal.at.After-check-end c).After-read-head) s.place) c.start-start.ensures;
    }

-- it is accepted
accepted : (c : Else-not-is_accepted) → accepts c.check-end.result ≡ true
accepted c = sym c.is_accepted.ensures ∙ c.if-not-is_accepted.false

pub returns-then-clauses-room : goal.returns-then-clauses-room
returns-then-clauses-room c =
    read_no_room (buffer-of (goal.at.returns-then-clauses-room c).After-read-head) (seen (goal.at.returns-then-clauses-room c).After-check-end) (accepted (goal.at.returns-then-clauses-room c).Else-not-is_accepted) (omega (arith, c.room.ensures, c.if-clauses-room.true))

room : (c : Else-clauses-room) → room_of c.read-head.result.value c.check-end.result.literals ≤ length (buffer-of (goal.at.Else-clauses-room c).After-read-head)
room c = omega (arith, c.room.ensures, c.if-clauses-room.false)

pub copy-requires : goal.copy-requires
copy-requires c =
    record {
      accepted = ap accepts (sym (seen (goal.at.copy-requires c).After-check-end).read) ∙ accepted (goal.at.copy-requires c).Else-not-is_accepted;
      room = read-room (buffer-of (goal.at.copy-requires c).After-read-head) (seen (goal.at.copy-requires c).After-check-end) (accepted (goal.at.copy-requires c).Else-not-is_accepted) (room (goal.at.copy-requires c).Else-clauses-room);
    }
