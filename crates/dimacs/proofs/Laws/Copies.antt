-- The second reading of a right text follows the first: the pen is what the reader's state says, and what it writes is what the reader
-- puts out. The zero of a clause is put out at once and written at the white space behind it, so it is pending for one byte.
-- Assumes nothing.
use mathlib.Core.Path.{◌≡◌, refl, sym, ap, ◌∙◌, subst}
use mathlib.Core.Bool.{Bool, true, false, cond, false≢true}
use mathlib.Core.List.{List, [], ◌++◌, append_assoc, append-nil}
use mathlib.Core.Logic.{◌⊎◌, inl, inr}
use Prim.Native.Nat.{ℕ, zero, suc, ◌+◌, ◌*◌, ◌-◌, ◌^◌, ◌≤◌, ◌<◌}
use native.Mathlib.Omega.{arith}
use lib.Dec.{eqb, ltb}
use lib.ListN.{length, get_or, drop}
use borrow.Author.Tests.{ne_eqb, lt-ltb, le-ltb}
use Rattle.laws.specs.Lists.{splice}
use Rattle.laws.specs.Numbers.{little}
use Rattle.laws.specs.Automata.{run, output}
use Rattle.laws.specs.Inner.Stores.{Stored}
use Rattle.laws.proofs.Automata.{run-next, run_end, output-next, output-end}
use Rattle.laws.proofs.Stored.{Storing, storing_start, storing_room, storing_length, storing_more, storing_end, stored-nothing, stored_as}
use Rattle.text.specs.Inner.Numbers.{grown_of}
use Rattle.std.specs.Prelude.{Option, Some, None}
use Rattle.header.specs.Heads.{space, tab}
use Rattle.classes.specs.Inner.Classes.{class_of, is_white, is_digit}
use Rattle.clausebytes.specs.Words.{most_literals}
use Rattle.body.specs.Inner.Table.{Act, Die, Go, Close, Begin, Turn, Lead, Grow, EndPlain, EndNegated}
use Rattle.body.specs.Inner.Table.{sort_of, act_of, token_of, ends_in, is_dead}
use Rattle.body.specs.Inner.States.{start_of, accepts, dead_of, taken_of, open_of, begun_of, move_of, step_of}
use Rattle.body.specs.declared.phase.Phase.{Phase}
use Rattle.body.specs.declared.phase.Phase.TheVariants.{Between, Closed, Sign, Plain, Negated, Dead}
use Rattle.body.specs.declared.state.State.{State}
use Rattle.header.specs.Heads as head
use Rattle.header.proofs.Laws.White.{white_class}
use Rattle.dimacs.specs.Inner.Walks.{token_bytes, puts_of, state_from, bytes_from}
use Rattle.dimacs.specs.Inner.Copies.{no_pen, pen_bytes, digit_of, minus_of, pen_of, ends_word, written, Fits}
use Rattle.dimacs.specs.declared.copier.Pen.{Pen}
use Rattle.dimacs.proofs.Laws.Bodies.{st, KeptIn, Kept}
use Rattle.dimacs.proofs.Laws.Live as live
use Rattle.dimacs.proofs.Laws.Live.{Live, live_or_dead}
use Rattle.body.proofs.Laws.Places.{dead-only}
use Rattle.dimacs.proofs.Laws.Bytes.{digit_no_white, digit-least}
use Rattle.dimacs.proofs.Laws.Leads.{dead-live, run-dead}
use Rattle.dimacs.proofs.Laws.Steps.{kept_step}
use Rattle.dimacs.proofs.Laws.Texts.{kept-start}
use Rattle.dimacs.proofs.Laws.Tokens.{close-gives, turn-gives, begin-gives, lead-gives, grow-gives}

-- the pen in each phase, and what is pending
abbrev pub pen_in : Phase → ℕ → Pen
pen_in Between x = no_pen
pen_in Closed x = record { begun = true; negative = false; value = 0 }
pen_in Sign x = record { begun = true; negative = true; value = 0 }
pen_in Plain x = record { begun = true; negative = false; value = x }
pen_in Negated x = record { begun = true; negative = true; value = x }
pen_in Dead x = no_pen

abbrev pub pen_for : State → Pen
pen_for s = pen_in s.phase s.value

abbrev pub pending : Phase → List ℕ
pending Between = []
pending Closed = little 4 0
pending Sign = []
pending Plain = []
pending Negated = []
pending Dead = []

-- what a byte is
digit_class : (d : ℕ) → d < 10 → is_digit (class_of (48 + d)) ≡ true
digit_class zero h = refl
digit_class (suc d) h =
    rw (le-ltb (48 + suc d) 48 (omega arith), ne_eqb (48 + suc d) 48 (λ e. omega arith), lt-ltb (48 + suc d) 58 (omega arith))

-- one byte more of what follows the reader
record Follows (p : Phase) (x b : ℕ) (a : Act) (r : State) : Type 0 where
  pen : pen_of (pen_in p x) b ≡ pen_for r
  bytes : written (ends_word (pen_in p x) b) (pen_bytes (pen_in p x)) ++ pending r.phase ≡ pending p ++ token_bytes (token_of a) x

module _ {p : Phase} {x b : ℕ} {a : Act} {r : State} (q : Phase) (y : ℕ) (g : (r.phase ≡ q) × (r.value ≡ y))
    (pen : pen_of (pen_in p x) b ≡ pen_in q y)
    (bytes : written (ends_word (pen_in p x) b) (pen_bytes (pen_in p x)) ++ pending q ≡ pending p ++ token_bytes (token_of a) x) where
  follows : Follows p x b a r
  follows = record {
    pen = pen ∙ sym (λ i. pen_in (g.0 i) (g.1 i));
    bytes = ap (λ (z : Phase). written (ends_word (pen_in p x) b) (pen_bytes (pen_in p x)) ++ pending z) g.0 ∙ bytes;
  }

pub pen_digit : (p : Pen) (b : ℕ) → is_digit (class_of b) ≡ true → pen_of p b ≡ digit_of p b
pen_digit p b e = ap (λ (c : Bool). cond c (digit_of p b) (cond (is_white (class_of b)) no_pen (minus_of p))) e

pub pen_none : (p : Pen) (b : ℕ) → is_digit (class_of b) ≡ false → is_white (class_of b) ≡ true → pen_of p b ≡ no_pen
pen_none p b d w = λ i. cond (d i) (digit_of p b) (cond (w i) no_pen (minus_of p))

pub pen_minus : (p : Pen) (b : ℕ) → is_digit (class_of b) ≡ false → is_white (class_of b) ≡ false → pen_of p b ≡ minus_of p
pen_minus p b d w = λ i. cond (d i) (digit_of p b) (cond (w i) no_pen (minus_of p))

pen_white : (p : Pen) {b : ℕ} → head.White b → pen_of p b ≡ no_pen
pen_white p (head.blank space) = refl
pen_white p (head.blank tab) = refl
pen_white p head.return = refl
pen_white p head.newline = refl

-- what is written of a word at a byte that is no white space, and at one that is
pub not-ended : (p : Pen) (b : ℕ) (out : List ℕ) (at : ℕ) → is_white (class_of b) ≡ false
    → Stored (written (ends_word p b) (pen_bytes p)) out at at out
not-ended p b out at w =
    stored_as (ap (λ (c : Bool). written (cond p.begun c false) (pen_bytes p)) w ∙ go p.begun) (stored-nothing out at)
  where
    go : (c : Bool) → written (cond c false false) (pen_bytes p) ≡ []
    go true = refl
    go false = refl

pub ended : (p : Pen) (b word : ℕ) → is_white (class_of b) ≡ true → little 4 word ≡ pen_bytes p
    → written (ends_word p b) (pen_bytes p) ≡ written p.begun (little 4 word)
ended p b word w e =
    ap (λ (c : Bool). written (cond p.begun c false) (pen_bytes p)) w
    ∙ go p.begun
    ∙ ap (written p.begun) (sym e)
  where
    go : (c : Bool) → written (cond c true false) (pen_bytes p) ≡ written c (pen_bytes p)
    go true = refl
    go false = refl

-- no word ends at a digit, and one that was begun ends at white space
digit-bytes : (p : Pen) (b : ℕ) → p.begun ≡ true → is_digit (class_of b) ≡ true → written (ends_word p b) (pen_bytes p) ≡ []
digit-bytes p b e d =
    ap (λ (c : Bool). written (cond c (is_white (class_of b)) false) (pen_bytes p)) e
    ∙ ap (λ (c : Bool). written c (pen_bytes p)) (digit_no_white (class_of b) d)

white-bytes : (p : Pen) {b : ℕ} → p.begun ≡ true → head.White b → written (ends_word p b) (pen_bytes p) ≡ pen_bytes p
white-bytes p {b} e y =
    ap (λ (c : Bool). written (cond c (is_white (class_of b)) false) (pen_bytes p)) e
    ∙ ap (λ (c : Bool). written c (pen_bytes p)) (white_class y)

module _ (l x v k c n : ℕ) where
  pen_live : {p : Phase} {b : ℕ} {a : Act} → Live p b a → let r = move_of a (st p l x v k c n) (b - 48) in
      is_dead r.phase ≡ false
      → Follows p x b a r
  pen_live live.close e = follows Closed 0 (close-gives (st Between l x v k c n) e) refl refl
  pen_live (live.begin {d = d} i j) e =
      follows Plain (0 * 10 + (48 + d - 48)) (begin-gives (st Between l x v k c n) (48 + d - 48) e)
      (pen_digit no_pen (48 + d) (digit_class d j)) refl
  pen_live live.turn e = follows Sign 0 (turn-gives (st Between l x v k c n) e) refl refl
  pen_live (live.pass y) e = follows Between 0 (refl, refl) (pen_white no_pen y) refl
  pen_live (live.part y) e =
      follows Between 0 (refl, refl) (pen_white (pen_in Closed x) y)
      (ap (λ (xs : List ℕ). xs ++ []) (white-bytes (pen_in Closed x) refl y))
  pen_live (live.lead {d = d} i j) e =
      follows Negated (0 * 10 + (48 + d - 48)) (lead-gives (st Sign l x v k c n) (48 + d - 48) e)
      (pen_digit (pen_in Sign x) (48 + d) (digit_class d j))
      (ap (λ (xs : List ℕ). xs ++ []) (digit-bytes (pen_in Sign x) (48 + d) refl (digit_class d j)))
  pen_live (live.grow-plain {d = d} j) e =
      follows Plain (x * 10 + (48 + d - 48)) (grow-gives (st Plain l x v k c n) (48 + d - 48) e)
      (pen_digit (pen_in Plain x) (48 + d) (digit_class d j))
      (ap (λ (xs : List ℕ). xs ++ []) (digit-bytes (pen_in Plain x) (48 + d) refl (digit_class d j)))
  pen_live (live.end-plain y) e =
      follows Between 0 (refl, refl) (pen_white (pen_in Plain x) y)
      (ap (λ (xs : List ℕ). xs ++ []) (white-bytes (pen_in Plain x) refl y) ∙ append-nil (pen_bytes (pen_in Plain x)))
  pen_live (live.grow-negated {d = d} j) e =
      follows Negated (x * 10 + (48 + d - 48)) (grow-gives (st Negated l x v k c n) (48 + d - 48) e)
      (pen_digit (pen_in Negated x) (48 + d) (digit_class d j))
      (ap (λ (xs : List ℕ). xs ++ []) (digit-bytes (pen_in Negated x) (48 + d) refl (digit_class d j)))
  pen_live (live.end-negated y) e =
      follows Between 0 (refl, refl) (pen_white (pen_in Negated x) y)
      (ap (λ (xs : List ℕ). xs ++ []) (white-bytes (pen_in Negated x) refl y) ∙ append-nil (pen_bytes (pen_in Negated x)))

pen_next : (s : State) (b : ℕ) → is_dead (step_of s b).phase ≡ false
    → Follows s.phase s.value b (act_of s.phase (sort_of b)) (step_of s b)
pen_next s b e = go (live_or_dead s.phase b)
  where
    go : Live s.phase b (act_of s.phase (sort_of b)) ⊎ (act_of s.phase (sort_of b) ≡ Die)
        → Follows s.phase s.value b (act_of s.phase (sort_of b)) (step_of s b)
    go (inl w) = pen_live s.place s.value s.variables s.declared s.clauses s.literals w e
    go (inr f) = absurd (false≢true (sym (sym (ap (λ (x : Act). is_dead (move_of x s (b - 48)).phase) f) ∙ e)))

-- a reader that accepts what follows is not dead
live-accepts : (s : State) (t : List ℕ) → accepts (run step_of s t) ≡ true → is_dead s.phase ≡ false
live-accepts s t a = go (is_dead s.phase) refl
  where
    go : (c : Bool) → is_dead s.phase ≡ c → is_dead s.phase ≡ false
    go false e = e
    go true e =
        let dead : s.phase ≡ Dead = dead-only s.phase (dead-live s.phase e) in
        let none : accepts s ≡ false = ap (λ (p : Phase). cond (ends_in p) (eqb s.clauses s.declared) false) dead in
        absurd (false≢true (sym (ap accepts (run-dead s t (dead-live s.phase e)) ∙ none) ∙ a))

-- the limit stays, and what is read is within it
same_either : (v : ℕ) (c : Bool) (x y : State) → x.variables ≡ v → y.variables ≡ v → (cond c x y).variables ≡ v
same_either v true x y e f = e
same_either v false x y e f = f

module _ (s : State) where
  same-open : (p : Phase) (x : ℕ) → (open_of s p x).variables ≡ s.variables
  same-open p x =
      same_either s.variables (ltb s.clauses s.declared) _ (dead_of s)
      (same_either s.variables (ltb s.literals most_literals) _ (dead_of s) refl refl) refl

  same_begun : (z : Option ℕ) → (begun_of s z).variables ≡ s.variables
  same_begun None = refl
  same_begun (Some x) = same-open Plain x

  same_taken : (p : Phase) (z : Option ℕ) → (taken_of s p z).variables ≡ s.variables
  same_taken p None = refl
  same_taken p (Some x) = refl

  same_moved : (a : Act) (d : ℕ) → (move_of a s d).variables ≡ s.variables
  same_moved Die d = refl
  same_moved Go d = refl
  same_moved Close d = same_either s.variables (ltb s.clauses s.declared) _ (dead_of s) refl refl
  same_moved Begin d = same_begun (grown_of false 0 d s.variables)
  same_moved Turn d = same_either s.variables (eqb s.variables 0) (dead_of s) _ refl (same-open Sign 0)
  same_moved Lead d = same_taken Negated (grown_of false 0 d s.variables)
  same_moved Grow d = same_taken s.phase (grown_of true s.value d s.variables)
  same_moved EndPlain d = refl
  same_moved EndNegated d = refl

small_in : (p : Phase) (x v k c n : ℕ) → KeptIn p x v k c n → (pen_in p x).value ≤ v
small_in Between x v k c n q = omega arith
small_in Closed x v k c n q = omega arith
small_in Sign x v k c n q = omega arith
small_in Plain x v k c n q = q.3
small_in Negated x v k c n q = q.3
small_in Dead x v k c n q = omega arith

-- where a text may end, what is pending is what has been begun
end-bytes : (p : Phase) (x : ℕ) → ends_in p ≡ true → written (pen_in p x).begun (pen_bytes (pen_in p x)) ≡ pending p
end-bytes Between x e = refl
end-bytes Closed x e = refl
end-bytes Sign x e = absurd (false≢true e)
end-bytes Plain x e = absurd (false≢true e)
end-bytes Negated x e = absurd (false≢true e)
end-bytes Dead x e = absurd (false≢true e)

ends_of_accepts : (s : State) → accepts s ≡ true → ends_in s.phase ≡ true
ends_of_accepts s a = go (ends_in s.phase) a
  where
    go : (c : Bool) → cond c (eqb s.clauses s.declared) false ≡ true → c ≡ true
    go true e = refl
    go false e = absurd (false≢true e)

-- A copy on its way: the reader is in some state at i, the pen is that state's, and what is pending and what follows is still to be
-- written.
pub record Copied (text : List ℕ) (start : State) (before : List ℕ) (pen : Pen) (i at : ℕ) (out : List ℕ) : Type 0 where
  pub state : State
  pub kept : Kept state
  pub limit : state.variables ≡ start.variables
  pub same : pen ≡ pen_for state
  pub accepted : accepts (run step_of state (drop i text)) ≡ true
  pub stored : Storing (bytes_from start text start.place) before 0 (pending state.phase ++ output step_of puts_of state (drop i text))
      out at

pub copied_start : (text : List ℕ) (from v k : ℕ) (before : List ℕ) (pen : Pen) → pen ≡ no_pen
    → accepts (state_from (start_of from v k) text from) ≡ true
    → Copied text (start_of from v k) before pen from 0 before
copied_start text from v k before pen e a = record {
  state = start_of from v k;
  kept = kept-start from v k;
  limit = refl;
  same = e;
  accepted = a;
  stored = storing_start (bytes_from (start_of from v k) text from) before 0;
}

module _ (text : List ℕ) (start : State) (before : List ℕ) where
  module _ (room : length (bytes_from start text start.place) ≤ length before) (pen : Pen) (i at : ℕ) (out : List ℕ)
      (w : Copied text start before pen i at out) where
    fits : 0 + length (bytes_from start text start.place) ≤ length before
    fits = omega (arith, room)

    pub copied_length : length out ≡ length before
    copied_length = storing_length fits _ w.stored

    -- one byte on
    module _ (h : i < length text) where
      abbrev b : ℕ
      b = get_or text i 0

      abbrev next : State
      next = step_of w.state b

      accepts-next : accepts (run step_of next (drop (i + 1) text)) ≡ true
      accepts-next = ap accepts (run-next step_of w.state next text i h refl) ∙ w.accepted

      followed : Follows w.state.phase w.state.value b (act_of w.state.phase (sort_of b)) next
      followed = pen_next w.state b (live-accepts next (drop (i + 1) text) accepts-next)

      same_next : pen_of pen b ≡ pen_for next
      same_next = ap (λ (p : Pen). pen_of p b) w.same ∙ followed.pen

      pub copied_fits : start.variables < 2 ^ 32 → is_digit (class_of b) ≡ true → Fits pen b
      copied_fits small d =
          let value : pen.value * 10 + (b - 48) ≡ (pen_for next).value =
          ap (λ (p : Pen). p.value) (sym (pen_digit pen b d) ∙ same_next) in
          let kept = kept_step w.state b w.kept in
          let few = small_in next.phase next.value next.variables next.declared next.clauses next.literals kept in
          record {
            least = digit-least b d;
            value = omega (arith, value, few, same_moved w.state (act_of w.state.phase (sort_of b)) (b - 48), w.limit, small);
          }

      abbrev puts : List ℕ
      puts = written (ends_word pen b) (pen_bytes pen)

      abbrev left : List ℕ
      left = pending next.phase ++ output step_of puts_of next (drop (i + 1) text)

      splits : pending w.state.phase ++ output step_of puts_of w.state (drop i text) ≡ puts ++ left
      splits =
          ap (λ (xs : List ℕ). pending w.state.phase ++ xs) (output-next step_of puts_of w.state next text i h refl)
          ∙ sym (append_assoc (pending w.state.phase) (puts_of w.state b) (output step_of puts_of next (drop (i + 1) text)))
          ∙ ap (λ (xs : List ℕ). xs ++ output step_of puts_of next (drop (i + 1) text)) (sym followed.bytes)
          ∙ append_assoc (written (ends_word (pen_for w.state) b) (pen_bytes (pen_for w.state))) (pending next.phase)
          (output step_of puts_of next (drop (i + 1) text))
          ∙ ap (λ (p : Pen). written (ends_word p b) (pen_bytes p) ++ left) (sym w.same)

      ahead : Storing (bytes_from start text start.place) before 0 (puts ++ left) out at
      ahead = subst (λ (xs : List ℕ). Storing (bytes_from start text start.place) before 0 xs out at) splits w.stored

      pub copied_room : at + length puts ≤ length out
      copied_room = storing_room fits puts left ahead

      pub copied_next : (p : Pen) (n : ℕ) (m : List ℕ) → p ≡ pen_of pen b → Stored puts out at n m → Copied text start before p (i + 1) n m
      copied_next p n m e v = record {
        state = next;
        kept = kept_step w.state b w.kept;
        limit = same_moved w.state (act_of w.state.phase (sort_of b)) (b - 48) ∙ w.limit;
        same = e ∙ same_next;
        accepted = accepts-next;
        stored = storing_more fits puts left ahead v;
      }

    -- the end
    module _ (h : length text ≤ i) where
      last : pending w.state.phase ++ output step_of puts_of w.state (drop i text) ≡ written pen.begun (pen_bytes pen) ++ []
      last =
          (λ j. sym (end-bytes w.state.phase w.state.value
          (ends_of_accepts w.state (sym (ap accepts (run_end step_of w.state text i h)) ∙ w.accepted))) j
          ++ output-end step_of puts_of w.state text i h j)
          ∙ ap (λ (p : Pen). written p.begun (pen_bytes p) ++ []) (sym w.same)

      ends : Storing (bytes_from start text start.place) before 0 (written pen.begun (pen_bytes pen) ++ []) out at
      ends = subst (λ (xs : List ℕ). Storing (bytes_from start text start.place) before 0 xs out at) last w.stored

      pub copied_last : at + length (written pen.begun (pen_bytes pen)) ≤ length out
      copied_last = storing_room fits (written pen.begun (pen_bytes pen)) [] ends

      pub copied_end : (n : ℕ) (m : List ℕ) → Stored (written pen.begun (pen_bytes pen)) out at n m
          → m ≡ splice before 0 (bytes_from start text start.place)
      copied_end n m v = (storing_end (storing_more fits (written pen.begun (pen_bytes pen)) [] ends v) refl).list
