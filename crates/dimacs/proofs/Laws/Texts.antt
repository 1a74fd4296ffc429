-- A whole text: its head and what follows it. In which state the reader comes behind the head, and what the grammar lets follow there.
-- Assumes nothing.
use mathlib.Core.Path.{◌≡◌, refl, subst⁻¹}
use mathlib.Core.Bool.{Bool, true, false}
use mathlib.Core.List.{List, []}
use mathlib.Core.Logic.{◌↔◌}
use Prim.Native.Nat.{ℕ, ◌≤◌}
use native.Mathlib.Omega.{arith}
use lib.ListN.{length, drop}
use Rattle.laws.specs.Automata.{Begins, Longest}
use Rattle.header.specs.Heads.{Headed}
use Rattle.header.specs.Inner.Heads.{is_done, head_of}
use Rattle.header.specs.declared.Head.{Head}
use Rattle.header.proofs.Headed.{head_within, head_continues, head_refuses, head_longest, head_dies}
use Rattle.header.proofs.Laws.Readers.{goes, longest-same, longest-open, place-goes}
use Rattle.clausal.specs.Clauses.{Clause, clauses_bytes}
use Rattle.clausal.specs.Totals.{literals_in}
use Rattle.clausebytes.specs.Words.{most_variables, most_clauses, Within}
use Rattle.body.specs.Inner.States.{start_of, accepts, step_of}
use Rattle.body.specs.declared.state.State.{State}
use Rattle.body.proofs.Laws.Places.{live_state, body_placed}
use Rattle.dimacs.specs.Texts.{cnf, Follows, Text, Accepted}
use Rattle.dimacs.specs.Inner.Walks.{state_from, bytes_from}
use Rattle.dimacs.proofs.Laws.Bodies.{Lang, Kept}
use Rattle.dimacs.proofs.Laws.Steps.{Follow, body_reader, body_some_text, body-whole, body-sound}

-- what may follow a header of m variables and k clauses, for some clauses
abbrev pub After : ℕ → ℕ → List ℕ → Type 0
After m k r = (cs : List Clause) × Follows m cs m k r

-- the same by the language of the reader's first state
module _ (l m k : ℕ) (r : List ℕ) where
  pub lang_of_follows : (v : ℕ) (cs : List Clause) → Follows v cs m k r → Lang (start_of l m k) (literals_in cs) (clauses_bytes cs) r
  lang_of_follows v cs f = record {
    clauses = cs;
    bytes = refl;
    rest = record {
      count = omega (arith, f.count);
      total = omega arith;
      few = f.right.literals;
      within = subst⁻¹ (λ (x : ℕ). Within x cs) f.variables f.right.within;
      body = f.body;
    };
  }

  pub after_of_lang : m ≤ most_variables → k ≤ most_clauses → (n : ℕ) (out : List ℕ) → Lang (start_of l m k) n out r
      → (a : After m k r) × (out ≡ clauses_bytes a.0) × (literals_in a.0 ≡ n)
  after_of_lang h g n out w =
      let q = w.rest in (
        (
          w.clauses,
          record {
            variables = refl;
            count = omega (arith, q.count);
            right = record {
              variables = h;
              clauses = omega (arith, q.count);
              literals = omega (arith, q.total, q.few);
              within = q.within;
            };
            body = q.body;
          },
        ),
        w.bytes,
        omega (arith, q.total),
      )

  -- as languages of texts
  pub follow_after : m ≤ most_variables → k ≤ most_clauses → Follow (start_of l m k) r ↔ After m k r
  follow_after h g = (
    λ w. (after_of_lang h g w.0 w.1 w.2).0,
    λ a. (literals_in a.0, clauses_bytes a.0, lang_of_follows m a.0 a.1),
  )

-- the first state keeps what every byte keeps
pub kept-start : (l m k : ℕ) → Kept (start_of l m k)
kept-start l m k = (omega arith, omega arith)

-- every header can be followed
pub after-some : (m k : ℕ) → m ≤ most_variables → k ≤ most_clauses → Begins (After m k) []
after-some m k h g =
    let b = body_some_text (start_of 0 m k) (kept-start 0 m k) refl in
    (b.0, (follow_after 0 m k b.0 h g).0 b.1)

-- accepted texts are those with some clauses behind the head
pub headed_accepted : (t : List ℕ) → Headed cnf After t ↔ Accepted t
headed_accepted t = (back (is_done (head_of cnf t).phase) refl, go (is_done (head_of cnf t).phase) refl)
  where
    go : (b : Bool) → is_done (head_of cnf t).phase ≡ b → Accepted t → Headed cnf After t
    go true e a =
        let h = head_of cnf t in
        let f = (head_continues cnf refl (Follows a.0 a.1) t e).0 a.2 in
        (head_continues cnf refl After t e).1
        (a.1, subst⁻¹ (λ (v : ℕ). Follows v a.1 h.before h.value (drop h.place t)) f.variables f)
    go false e a = absurd (head_refuses cnf refl (Follows a.0 a.1) t e a.2)

    back : (b : Bool) → is_done (head_of cnf t).phase ≡ b → Headed cnf After t → Accepted t
    back true e h =
        let v = (head_of cnf t).before in
        let a = (head_continues cnf refl After t e).0 h in
        (v, a.0, (head_continues cnf refl (Follows v a.0) t e).1 a.1)
    back false e h = absurd (head_refuses cnf refl After t e h)

module _ (t : List ℕ) where
  abbrev head : Head
  head = head_of cnf t

  abbrev rest : List ℕ
  rest = drop head.place t

  abbrev start : State
  start = start_of head.place head.before head.value

  abbrev end : State
  end = state_from start t head.place

  -- the head is not read: no text is accepted so, and the place is the head's
  module _ (e : is_done head.phase ≡ false) where
    pub not_headed : Accepted t → ⊥
    not_headed a = head_refuses cnf refl (Follows a.0 a.1) t e a.2

    pub longest_head : Longest Accepted t head.place
    longest_head = longest-same headed_accepted (head_dies cnf refl After t after-some e)

  -- the head is read: what follows decides, and the place is the last state's
  module _ (e : is_done head.phase ≡ true) where
    pub body_of_text : (v : ℕ) (cs : List Clause) → Text v cs t
        → (accepts end ≡ true) × (clauses_bytes cs ≡ bytes_from start t head.place) × (end.literals ≡ literals_in cs)
        × (head.before ≡ v) × (head.value ≡ length cs)
    body_of_text v cs h =
        let f = (head_continues cnf refl (Follows v cs) t e).0 h in
        let w = body-whole start rest (literals_in cs) (clauses_bytes cs)
        (lang_of_follows head.place head.before head.value rest v cs f) in
        (w.0, w.1, w.2, f.variables, f.count)

    pub text_of_body : accepts end ≡ true → (cs : List Clause) × Text head.before cs t
    text_of_body a =
        let w = head_within cnf refl t e in
        let b = body-sound start rest (kept-start head.place head.before head.value) a in
        let f = (after_of_lang head.place head.before head.value rest w.0 w.1 _ _ b).0 in
        (f.0, (head_continues cnf refl (Follows head.before f.0) t e).1 f.1)

    pub longest-body : Longest Accepted t end.place
    longest-body =
        let w = head_within cnf refl t e in
        let l = head.place in
        let n = goes step_of live_state (λ s. false) start rest in
        let body = longest-open body_reader body_some_text start rest (kept-start l head.before head.value) refl refl in
        let after : Longest (After head.before head.value) rest n =
        longest-same (λ (r : List ℕ). follow_after l head.before head.value r w.0 w.1) body in
        longest-same headed_accepted
        (subst⁻¹ (Longest (Headed cnf After) t) (place-goes body_reader body_placed start rest) (head_longest cnf refl After t e after))
