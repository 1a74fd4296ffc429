-- What the reading call gives, in each of its cases.
-- Assumes nothing.
use mathlib.Core.Path.{◌≡◌, sym, ap, subst, ◌∙◌}
use mathlib.Core.Bool.{true, false}
use mathlib.Core.List.{List}
use Prim.Native.Nat.{ℕ, ◌≤◌, ◌<◌}
use native.Mathlib.Omega.{arith}
use lib.ListN.{length}
use Rattle.laws.specs.Lists.{splice}
use Rattle.header.specs.Inner.Heads.{is_done, head_of}
use Rattle.header.specs.declared.Head.{Head}
use Rattle.answer.specs.Answers.{stored}
use Rattle.answer.specs.Answers.{accepted_with}
use Rattle.std.specs.Prelude.{Err}
use Rattle.answer.specs.declared.Refusal.TheVariants.{Room, Text}
use Rattle.answer.proofs.Laws.Part.{stored_short, stored-fits}
use Rattle.clausebytes.specs.Inner.Checks.{room_of}
use Rattle.clausebytes.proofs.Encoded.{length-clauses}
use Rattle.body.specs.Inner.States.{start_of, accepts}
use Rattle.body.specs.declared.state.State.{State}
use Rattle.dimacs.specs.Texts.{cnf}
use Rattle.dimacs.specs.Inner.Walks.{state_from, bytes_from}
use Rattle.dimacs.specs.Inner.Calls.{read_call}
use Rattle.dimacs.proofs.Laws.Texts.{body_of_text, text_of_body}

-- the state behind a head, and at the end of the text
abbrev pub start_at : Head → State
start_at h = start_of h.place h.before h.value

abbrev pub end_at : Head → List ℕ → State
end_at h t = state_from (start_at h) t h.place

abbrev pub bytes_at : Head → List ℕ → List ℕ
bytes_at h t = bytes_from (start_at h) t h.place

module _ (t buffer : List ℕ) {h : Head} (g : h ≡ head_of cnf t) where
  pub read_headless : is_done h.phase ≡ false → record { answer = Err (Text h.place); output = buffer } ≡ read_call t buffer
  read_headless =
      subst (λ (x : Head). is_done x.phase ≡ false → record { answer = Err (Text x.place); output = buffer } ≡ read_call t buffer) (sym g)
      (λ e. rw e)

-- what is known after the head and the first reading of what follows, which ended in e
pub record Seen (t : List ℕ) (h : Head) (e : State) : Type 0 where
  pub head : h ≡ head_of cnf t
  pub done : is_done h.phase ≡ true
  pub read : e ≡ end_at h t

module _ {t : List ℕ} (buffer : List ℕ) {h : Head} {e : State} (k : Seen t h e) where
  done : is_done (head_of cnf t).phase ≡ true
  done = ap (λ (x : Head). is_done x.phase) (sym k.head) ∙ k.done

  end_is : e ≡ end_at (head_of cnf t) t
  end_is = k.read ∙ ap (λ (x : Head). end_at x t) k.head

  pub read-refused : accepts e ≡ false → record { answer = Err (Text e.place); output = buffer } ≡ read_call t buffer
  read-refused f =
      let n : accepts (end_at (head_of cnf t) t) ≡ false = ap accepts (sym end_is) ∙ f in
      (λ i. record { answer = Err (Text (end_is i).place); output = buffer }) ∙ rw (done, n)

  module _ (f : accepts e ≡ true) where
    accepted : accepts (end_at (head_of cnf t) t) ≡ true
    accepted = ap accepts (sym end_is) ∙ f

    read-stored : stored (accepted_with h.before h.value) (bytes_at (head_of cnf t) t) buffer ≡ read_call t buffer
    read-stored = (λ i. stored (accepted_with (k.head i).before (k.head i).value) (bytes_at (head_of cnf t) t) buffer) ∙ rw (done, accepted)

    -- the size that the totals tell
    size : length (bytes_at (head_of cnf t) t) ≡ room_of h.value e.literals
    size =
        let a = text_of_body t done accepted in
        let w = body_of_text t done (head_of cnf t).before a.0 a.1 in
        ap length (sym w.1)
        ∙ length-clauses a.0
        ∙ (λ i. room_of (sym w.4 i) (sym w.2 i))
        ∙ sym (λ i. room_of (k.head i).value (end_is i).literals)

    pub read_no_room : length buffer < room_of h.value e.literals → record { answer = Err Room; output = buffer } ≡ read_call t buffer
    read_no_room n =
        stored_short (accepted_with h.before h.value) (bytes_at (head_of cnf t) t) buffer (omega (arith, size)) ∙ read-stored

    -- there is room: the second reading writes
    module _ (n : room_of h.value e.literals ≤ length buffer) where
      bytes-are : bytes_at h t ≡ bytes_at (head_of cnf t) t
      bytes-are = ap (λ (x : Head). bytes_at x t) k.head

      pub read-room : length (bytes_at h t) ≤ length buffer
      read-room = omega (arith, ap length bytes-are, size)

      pub read-accepted : {after : List ℕ} → after ≡ splice buffer 0 (bytes_at h t)
          → record { answer = accepted_with h.before h.value; output = after } ≡ read_call t buffer
      read-accepted {after = after} w =
          stored-fits (accepted_with h.before h.value) (bytes_at (head_of cnf t) t) buffer after (omega (arith, size))
          (w ∙ ap (splice buffer 0) bytes-are)
          ∙ read-stored
