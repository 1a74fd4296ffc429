-- The reader behind a header, byte by byte: it follows the languages of its states, keeps what it keeps, and each live state can be
-- finished. `Laws/Places` of the crate `body` has its place.
-- Assumes nothing.
use mathlib.Core.Path.{◌≡◌, refl, ap, ◌∙◌, subst, subst⁻¹}
use mathlib.Core.Bool.{Bool, true, false, cond, false≢true}
use mathlib.Core.List.{List, [], ◌∷◌, ◌++◌}
use mathlib.Core.Logic.{◌⊎◌, inl, inr}
use Prim.Native.Nat.{ℕ, zero, suc, ◌+◌, ◌-◌, ◌≤◌, ◌<◌}
use native.Mathlib.Omega.{arith}
use lib.Dec.{eqb, ltb}
use lib.ListN.{length, length-append}
use borrow.Author.Tests.{ltb-true, eqb-true, eqb-false, eq-eqb}
use Rattle.laws.specs.Automata.{run, output, Begins}
use Rattle.text.specs.Texts.{decimal}
use Rattle.text.specs.Inner.Numbers.{grown_of}
use Rattle.std.specs.Prelude.{Option, Some, None}
use Rattle.text.proofs.Laws.Decimals.{decimal-some}
use Rattle.text.proofs.Laws.Numbers.{More, here, digit, First, first, grown_of_lem}
use Rattle.header.specs.Heads.{space}
use Rattle.header.proofs.Laws.Readers.{Reader}
use Rattle.clausal.specs.Clauses.{Literal, Clause, literal_bytes, clauses_bytes}
use Rattle.clausal.specs.Totals.{literals_in}
use Rattle.clausebytes.specs.Words as right
use Rattle.clausebytes.specs.Words.{most_literals, Within}
use Rattle.body.specs.Inner.Table.{sort_of, act_of, token_of}
use Rattle.body.specs.Inner.Table.{Act, Die}
use Rattle.body.specs.Inner.States.{accepts, dead_of, taken_of, open_of, begun_of, move_of, step_of}
use Rattle.body.specs.declared.phase.Phase.{Phase}
use Rattle.body.specs.declared.phase.Phase.TheVariants.{Between, Closed, Sign, Plain, Negated, Dead}
use Rattle.body.specs.declared.state.State.{State}
use Rattle.body.proofs.Laws.Places.{alive, live_state, dead-only, dead-step}
use Rattle.dimacs.specs.Texts.{literal_text, Body}
use Rattle.header.specs.Heads as head
use Rattle.dimacs.specs.Texts as grammar
use Rattle.dimacs.specs.Inner.Walks.{token_bytes, puts_of}
use Rattle.dimacs.proofs.Laws.Bodies.{Rest, Part, Behind, LangIn, Lang, st, KeptIn, Kept, lang_on, lang_back}
use Rattle.dimacs.proofs.Laws.Live as live
use Rattle.dimacs.proofs.Laws.Live.{Live, act_of_live, live_or_dead}

-- one byte on, and back, by the table
module _ (s : State) (m : ℕ) (b : ℕ) (t : List ℕ) where
  pub lang_forth : (out : List ℕ) → Lang s m out (b ∷ t) → (left : List ℕ) × (out ≡ puts_of s b ++ left) × Lang (step_of s b) m left t
  lang_forth out h =
      let o = lang_on s.phase s.place s.value s.variables s.declared s.clauses s.literals m out b t h in
      let e = act_of_live o.entry in (
        o.left,
        subst⁻¹ (λ (a : Act). out ≡ token_bytes (token_of a) s.value ++ o.left) e o.split,
        subst⁻¹ (λ (a : Act). Lang (move_of a s (b - 48)) m o.left t) e o.next,
      )

  pub lang_backward : (left : List ℕ) → Kept s → Lang (step_of s b) m left t → Lang s m (puts_of s b ++ left) (b ∷ t)
  lang_backward left k h = go (live_or_dead s.phase b)
    where
      go : Live s.phase b (act_of s.phase (sort_of b)) ⊎ (act_of s.phase (sort_of b) ≡ Die) → Lang s m (puts_of s b ++ left) (b ∷ t)
      go (inl w) = lang_back w s.place s.value s.variables s.declared s.clauses s.literals m left t k h
      go (inr e) = absurd (subst (λ (a : Act). Lang (move_of a s (b - 48)) m left t) e h)

-- the end of a text
body-some : {p : Bool} {cs : List Clause} {u : List ℕ} → Body p cs u → 0 < length cs → 0 < length u
body-some grammar.end h = h
body-some (grammar.white y b) h = omega arith
body-some (grammar.zero b) h = omega arith
body-some (grammar.literal {l = l} {r = r} b) h = some l.plain
  where
    some : (plain : Bool) → 0 < length (literal_text (record { plain = plain; variable = l.variable }) ++ r)
    some true = omega (arith, length-append (decimal l.variable) r, decimal-some l.variable)
    some false = omega arith

first_some : {low most : ℕ} {Next : ℕ → List ℕ → Type 0} {u : List ℕ} → First low most Next u → 0 < length u
first_some (first lo few le w) = omega arith

module _ (v k c n m : ℕ) (out : List ℕ) where
  part_end : (p : Bool) → Part p v k c n m out [] → (out ≡ []) × (c ≡ k) × (n ≡ m)
  part_end p h = go h.clauses h.bytes h.rest
    where
      go : (cs : List Clause) → out ≡ clauses_bytes cs → Rest p v k c n m cs [] → (out ≡ []) × (c ≡ k) × (n ≡ m)
      go [] e q = (e, omega (arith, q.count), omega (arith, q.total))
      go (d ∷ cs) e q = absurd (omega (arith, body-some q.body (omega arith)))

  end-part : (p : Bool) → out ≡ [] → c ≡ k → n ≡ m → m ≤ most_literals → Part p v k c n m out []
  end-part p e h g f = record {
    clauses = [];
    bytes = e;
    rest = record { count = omega arith; total = omega arith; few = f; within = right.none; body = grammar.end };
  }

  more-end : (plain : Bool) {x : ℕ} {u : List ℕ} → More v (Behind plain v k c n m out) x u → 0 < length u
  more-end plain (here h) = body-some h.rest.body (omega arith)
  more-end plain (digit p g le w) = omega arith

module _ (l x v k c n m : ℕ) (out : List ℕ) where
  ended : (p : Phase) → LangIn p x v k c n m out [] → (accepts (st p l x v k c n) ≡ true) × (out ≡ []) × (n ≡ m)
  ended Between h = let e = part_end v k c n m out true h in (eq-eqb c k e.1, e.0, e.2)
  ended Closed h = let e = part_end v k c n m out false h in (eq-eqb c k e.1, e.0, e.2)
  ended Sign h = absurd (omega (arith, first_some h))
  ended Plain h = absurd (omega (arith, more-end v k c n m out true h))
  ended Negated h = absurd (omega (arith, more-end v k c n m out false h))
  ended Dead h = absurd h

ends : (p : Phase) (l x v k c n : ℕ) → KeptIn p x v k c n → accepts (st p l x v k c n) ≡ true → LangIn p x v k c n n [] []
ends Between l x v k c n q e = end-part v k c n n [] true refl (eqb-true c k e) refl q.1
ends Closed l x v k c n q e = end-part v k c n n [] false refl (eqb-true c k e) refl q.1
ends Sign l x v k c n q e = absurd (false≢true e)
ends Plain l x v k c n q e = absurd (false≢true e)
ends Negated l x v k c n q e = absurd (false≢true e)
ends Dead l x v k c n q e = absurd (false≢true e)

-- what each byte keeps
kept-pass : (b : Bool) (r s : State) → (b ≡ true → Kept r) → Kept (cond b r (dead_of s))
kept-pass true r s h = h refl
kept-pass false r s h = tt

kept_miss : (b : Bool) (r s : State) → (b ≡ false → Kept r) → Kept (cond b (dead_of s) r)
kept_miss true r s h = tt
kept_miss false r s h = h refl

kept-number : (F : Option ℕ → State) (z : Option ℕ) → ((y : ℕ) → z ≡ Some y → Kept (F (Some y))) → Kept (F None) → Kept (F z)
kept-number F None is wrong = wrong
kept-number F (Some y) is wrong = is y refl

module _ (l x v k c n : ℕ) where
  kept-open : (p : Phase) (y : ℕ) → (c < k → n < most_literals → KeptIn p y v k c (n + 1)) → Kept (open_of (st Between l x v k c n) p y)
  kept-open p y h =
      let s = st Between l x v k c n in
      kept-pass (ltb c k) _ s (λ e. kept-pass (ltb n most_literals) (st p (l + 1) y v k c (n + 1)) s
      (λ f. h (ltb-true c k e) (ltb-true n most_literals f)))

  kept-live : {p : Phase} {b : ℕ} {a : Act} → Live p b a → KeptIn p x v k c n → Kept (move_of a (st p l x v k c n) (b - 48))
  kept-live live.close q = kept-pass (ltb c k) _ (st Between l x v k c n) (λ e. (omega (arith, ltb-true c k e), q.1))
  kept-live (live.begin {d = d} i j) q =
      kept-number (begun_of (st Between l x v k c n)) (grown_of false 0 (48 + d - 48) v)
      (λ y e. let g = grown_of_lem false 0 (48 + d - 48) v y e in
      kept-open Plain y (λ h f. (h, omega arith, omega (arith, g.value), g.bound))) tt
  kept-live live.turn q =
      kept_miss (eqb v 0) _ (st Between l x v k c n)
      (λ e. let z = eqb-false v 0 e in kept-open Sign 0 (λ h f. (h, omega arith, omega arith)))
  kept-live (live.pass y) q = q
  kept-live (live.part y) q = q
  kept-live (live.lead {d = d} i j) q =
      kept-number (taken_of (st Sign l x v k c n) Negated) (grown_of false 0 (48 + d - 48) v)
      (λ y e. let g = grown_of_lem false 0 (48 + d - 48) v y e in (q.0, q.1, omega (arith, g.value), g.bound)) tt
  kept-live (live.grow-plain {d = d} j) q =
      kept-number (taken_of (st Plain l x v k c n) Plain) (grown_of true x (48 + d - 48) v)
      (λ y e. let g = grown_of_lem true x (48 + d - 48) v y e in (q.0, q.1, omega (arith, g.value, q.2), g.bound)) tt
  kept-live (live.end-plain y) q = (omega (arith, q.0), q.1)
  kept-live (live.grow-negated {d = d} j) q =
      kept-number (taken_of (st Negated l x v k c n) Negated) (grown_of true x (48 + d - 48) v)
      (λ y e. let g = grown_of_lem true x (48 + d - 48) v y e in (q.0, q.1, omega (arith, g.value, q.2), g.bound)) tt
  kept-live (live.end-negated y) q = (omega (arith, q.0), q.1)

pub kept_step : (s : State) (b : ℕ) → Kept s → Kept (step_of s b)
kept_step s b q = go (live_or_dead s.phase b)
  where
    go : Live s.phase b (act_of s.phase (sort_of b)) ⊎ (act_of s.phase (sort_of b) ≡ Die) → Kept (step_of s b)
    go (inl w) = kept-live s.place s.value s.variables s.declared s.clauses s.literals w q
    go (inr e) = subst⁻¹ (λ (a : Act). Kept (move_of a s (b - 48))) e tt

-- a text of each live state: j clauses that are empty, each zero with a space behind it
abbrev blanks_of : ℕ → List Clause
blanks_of zero = []
blanks_of (suc j) = [] ∷ blanks_of j

abbrev SomeText : (List ℕ → Type 0) → Type 0
SomeText F = (t : List ℕ) × F t

zeros : (j : ℕ) → SomeText (Body true (blanks_of j))
zeros zero = ([], grammar.end)
zeros (suc j) = let e = zeros j in (48 ∷ 32 ∷ e.0, grammar.zero (grammar.white (head.blank space) e.1))

spaced : (j : ℕ) → SomeText (Body false (blanks_of j))
spaced j = let e = zeros j in (32 ∷ e.0, grammar.white (head.blank space) e.1)

module _ (v k c n : ℕ) (few : n ≤ most_literals) where
  count-blanks : (j : ℕ) → length (blanks_of j) ≡ j
  count-blanks zero = refl
  count-blanks (suc j) = ap suc (count-blanks j)

  none_in : (j : ℕ) → literals_in (blanks_of j) ≡ 0
  none_in zero = refl
  none_in (suc j) = omega (arith, none_in j)

  within-blanks : (j : ℕ) → Within v (blanks_of j)
  within-blanks zero = right.none
  within-blanks (suc j) = right.closed (within-blanks j)

  rest-blanks : (p : Bool) (j : ℕ) (t : List ℕ) → c + j ≡ k → Body p (blanks_of j) t → Rest p v k c n n (blanks_of j) t
  rest-blanks p j t e b = record {
    count = omega (arith, count-blanks j);
    total = omega (arith, none_in j);
    few = few;
    within = within-blanks j;
    body = b;
  }

  part-some : (p : Bool) → c ≤ k → SomeText (Body p (blanks_of (k - c))) → SomeText (λ t. (m : ℕ) × (out : List ℕ) × Part p v k c n m out t)
  part-some p h b = (
    b.0,
    (
      n,
      clauses_bytes (blanks_of (k - c)),
      record {
        clauses = blanks_of (k - c);
        bytes = refl;
        rest = rest-blanks p (k - c) b.0 (omega arith) b.1;
      },
    ),
  )

  behind-some : (plain : Bool) (y : ℕ) → c < k → SomeText (λ t. (out : List ℕ) × Behind plain v k c n n out y t)
  behind-some plain y h =
      let j : ℕ = k - c - 1 in
      let b = spaced (suc j) in
      let z : Literal = record { plain = plain; variable = y } in (
        b.0,
        (
          literal_bytes z ++ clauses_bytes ([] ∷ blanks_of j),
          record {
            first = [];
            clauses = blanks_of j;
            bytes = refl;
            rest = rest-blanks false (suc j) b.0 (omega arith) b.1;
          },
        ),
      )

-- what may follow, with some total and some bytes
abbrev pub Follow : State → List ℕ → Type 0
Follow s t = (m : ℕ) × (out : List ℕ) × Lang s m out t

some_in : (p : Phase) (l x v k c n : ℕ) → KeptIn p x v k c n → alive p ≡ true → SomeText (Follow (st p l x v k c n))
some_in Between l x v k c n q e = part-some v k c n q.1 true q.0 (zeros (k - c))
some_in Closed l x v k c n q e = part-some v k c n q.1 false q.0 (spaced (k - c))
some_in Sign l x v k c n q e =
    let b = behind-some v k c n q.1 false 1 q.0 in
    (49 ∷ b.0, (n, b.1.0, first {d = 1} (omega arith) (omega arith) q.2 (here b.1.1)))
some_in Plain l x v k c n q e = let b = behind-some v k c n q.1 true x q.0 in (b.0, (n, b.1.0, here b.1.1))
some_in Negated l x v k c n q e = let b = behind-some v k c n q.1 false x q.0 in (b.0, (n, b.1.0, here b.1.1))
some_in Dead l x v k c n q e = absurd (false≢true e)

pub body_some_text : (s : State) → Kept s → live_state s ≡ true → Begins (Follow s) []
body_some_text s q e = some_in s.phase s.place s.value s.variables s.declared s.clauses s.literals q e

-- the reader behind a header, which never stops
pub body_reader : Reader step_of live_state (λ s. false) Kept Follow
body_reader = record {
  kept = kept_step;
  forth = λ s b t k n h. let f = lang_forth s h.0 b t h.1 h.2 in (h.0, f.0, f.2);
  back = λ s b t k n h. (h.0, puts_of s b ++ h.1, lang_backward s h.0 b t h.1 k h.2);
  still = λ s b e. absurd (false≢true e);
  stopped = λ s e. absurd (false≢true e);
  dead = λ s t e h. subst (λ (p : Phase). LangIn p s.value s.variables s.declared s.clauses s.literals h.0 h.1 t)
      (dead-only s.phase e) h.2;
  dies = λ s b e. ap live_state (dead-step s b e);
}

-- a whole text: it is accepted exactly if it is one of the language, and the bytes and the total are those that were put out and counted
pub body-whole : (s : State) (t : List ℕ) (m : ℕ) (out : List ℕ) → Lang s m out t
    → (accepts (run step_of s t) ≡ true) × (out ≡ output step_of puts_of s t) × ((run step_of s t).literals ≡ m)
body-whole s [] m out h = ended s.place s.value s.variables s.declared s.clauses s.literals m out s.phase h
body-whole s (b ∷ t) m out h =
    let f = lang_forth s m b t out h in
    let w = body-whole (step_of s b) t m f.0 f.2 in
    (w.0, f.1 ∙ ap (λ (r : List ℕ). puts_of s b ++ r) w.1, w.2)

pub body-sound : (s : State) (t : List ℕ) → Kept s → accepts (run step_of s t) ≡ true
    → Lang s (run step_of s t).literals (output step_of puts_of s t) t
body-sound s [] k e = ends s.phase s.place s.value s.variables s.declared s.clauses s.literals k e
body-sound s (b ∷ t) k e =
    lang_backward s (run step_of s (b ∷ t)).literals b t (output step_of puts_of (step_of s b) t) k
    (body-sound (step_of s b) t (kept_step s b k) e)
