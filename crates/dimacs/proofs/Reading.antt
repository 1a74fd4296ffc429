-- The reader accepts exactly the grammar's texts, reads the clauses that they stand for, and refuses every other text with its place.
-- Assumes nothing.
use mathlib.Core.Path.{◌≡◌, refl, sym, ap, ◌∙◌}
use mathlib.Core.Bool.{Bool, true, false, cond, ◌&&◌}
use mathlib.Core.List.{List}
use mathlib.Core.Logic.{◌↔◌}
use Prim.Native.Nat.{ℕ}
use lib.ListN.{length}
use Rattle.laws.specs.Automata.{Longest}
use Rattle.laws.proofs.Automata.{one_place}
use Rattle.laws.proofs.Choices.{both}
use Rattle.header.specs.Inner.Heads.{is_done, head_of}
use Rattle.header.proofs.Headed.{head_continues}
use Rattle.answer.specs.Answers.{stored}
use Rattle.std.specs.Prelude.{Err}
use Rattle.answer.specs.Answers as answers
use Rattle.answer.specs.declared.Refusal.TheVariants as refusal
use Rattle.clausal.specs.Clauses.{Clause, clauses_bytes}
use Rattle.clausebytes.specs.Words.{clauses_of, Right}
use Rattle.clausebytes.proofs.Encoded.{clauses_of_bytes}
use Rattle.body.specs.Inner.States.{accepts}
use Rattle.body.specs.declared.state.State.{State}
use Rattle.dimacs.specs.Texts.{cnf, Follows, Text, Accepted}
use Rattle.dimacs.specs.Inner.Calls.{read_call}
use Rattle.dimacs.proofs.Laws.ReadCall.{end_at}
use Rattle.dimacs.proofs.Laws.Texts.{not_headed, longest_head, body_of_text, text_of_body, longest-body}

-- the state after a whole text, and whether the reader accepts the text
abbrev end : List ℕ → State
end t = end_at (head_of cnf t) t

abbrev pub accepts_text : List ℕ → Bool
accepts_text t = is_done (head_of cnf t).phase && accepts (end t)

-- the head of a text of the grammar is read
headed : (v : ℕ) (cs : List Clause) (t : List ℕ) → Text v cs t → is_done (head_of cnf t).phase ≡ true
headed v cs t h = go (is_done (head_of cnf t).phase) refl
  where
    go : (b : Bool) → is_done (head_of cnf t).phase ≡ b → is_done (head_of cnf t).phase ≡ true
    go true e = e
    go false e = absurd (not_headed t e (v, cs, h))

-- the reader and the grammar accept the same texts
pub accepts_exactly : (t : List ℕ) → accepts_text t ≡ true ↔ Accepted t
accepts_exactly t = (
  λ e. let a = both (is_done (head_of cnf t).phase) (accepts (end t)) e in
      let c = text_of_body t a.0 a.1 in ((head_of cnf t).before, c.0, c.1),
  λ a. let e = headed a.0 a.1 t a.2 in rw (e, (body_of_text t e a.0 a.1 a.2).0),
)

-- a text that stands for cs is read as the bytes of cs
pub reads : (v : ℕ) (cs : List Clause) (t buffer : List ℕ) → Text v cs t
    → read_call t buffer ≡ stored (answers.accepted_with v (length cs)) (clauses_bytes cs) buffer
reads v cs t buffer h =
    let e = headed v cs t h in
    let x = body_of_text t e v cs h in
    rw (e, x.0) (λ i. stored (answers.accepted_with (x.3 i) (x.4 i)) (sym x.1 i) buffer)

pub right_text : {v : ℕ} {cs : List Clause} {t : List ℕ} → Text v cs t → Right v cs
right_text {v} {cs} {t} h = ((head_continues cnf refl (Follows v cs) t (headed v cs t h)).0 h).right

-- a text stands for one number of variables and one list of clauses only
pub one_reading : (v w : ℕ) (cs ds : List Clause) (t : List ℕ) → Text v cs t → Text w ds t → (v ≡ w) × (cs ≡ ds)
one_reading v w cs ds t g h =
    let e = headed v cs t g in
    let x = body_of_text t e v cs g in
    let y = body_of_text t e w ds h in (
      sym x.3 ∙ y.3,
      sym (clauses_of_bytes v cs (right_text g)) ∙ ap clauses_of (x.1 ∙ sym y.1) ∙ clauses_of_bytes w ds (right_text h),
    )

-- any other text is refused with the length of its longest good beginning, and the buffer is left alone
pub refuses : (t buffer : List ℕ) (k : ℕ) → (Accepted t → ⊥) → Longest Accepted t k
    → read_call t buffer ≡ record { answer = Err (refusal.Text k); output = buffer }
refuses t buffer k n p = go (is_done (head_of cnf t).phase) refl (accepts (end t)) refl
  where
    same : (l : ℕ) → Longest Accepted t l → record { answer = Err (refusal.Text l); output = buffer } ≡ read_call t buffer
        → read_call t buffer ≡ record { answer = Err (refusal.Text k); output = buffer }
    same l q e = sym e ∙ ap (λ (x : ℕ). record { answer = Err (refusal.Text x); output = buffer }) (one_place Accepted t l k q p)

    go : (b : Bool) → is_done (head_of cnf t).phase ≡ b → (c : Bool) → accepts (end t) ≡ c
        → read_call t buffer ≡ record { answer = Err (refusal.Text k); output = buffer }
    go false e c f = same (head_of cnf t).place (longest_head t e) (rw e)
    go true e true f = let a = text_of_body t e f in absurd (n ((head_of cnf t).before, a.0, a.1))
    go true e false f = same (end t).place (longest-body t e) (rw (e, f))

-- R9.21: the place of any text, accepted or not, is the length of its longest good beginning
abbrev pub place_of : List ℕ → ℕ
place_of t = cond (is_done (head_of cnf t).phase) (end t).place (head_of cnf t).place

pub place-longest : (t : List ℕ) → Longest Accepted t (place_of t)
place-longest t = go (is_done (head_of cnf t).phase) refl
  where
    go : (b : Bool) → is_done (head_of cnf t).phase ≡ b → Longest Accepted t (cond b (end t).place (head_of cnf t).place)
    go true e = longest-body t e
    go false e = longest_head t e
