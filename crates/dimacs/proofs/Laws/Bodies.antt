-- What may still follow in each phase behind a header, with the bytes that are still to be put out and the total of literals at the end.
-- Each byte leads from there to what may follow it, and back.
-- Assumes nothing.
use mathlib.Core.Path.{◌≡◌, refl, sym, ap, ◌∙◌, subst, subst⁻¹}
use mathlib.Core.Bool.{Bool, true, false, cond}
use mathlib.Core.List.{List, [], ◌∷◌, ◌++◌, append_assoc}
use Prim.Native.Nat.{ℕ, ◌+◌, ◌*◌, ◌-◌, ◌≤◌, ◌<◌}
use native.Mathlib.Omega.{arith}
use lib.Dec.{eqb, ltb}
use lib.ListN.{length}
use borrow.Author.Tests.{lt-ltb, ltb-true, ne_eqb}
use Rattle.laws.specs.Numbers.{little}
use Rattle.text.specs.Texts.{decimal}
use Rattle.text.specs.Inner.Numbers.{grown_of}
use Rattle.std.specs.Prelude.{Option, Some, None}
use Rattle.text.proofs.Laws.Numbers.{More, here, digit, First, first, first_of_decimal, split_of_first, grown-more, grown-first, grown_of_lem}
use Rattle.clausal.specs.Clauses.{Literal, Clause, literal_bytes, clause_bytes, clauses_bytes}
use Rattle.clausal.specs.Totals.{literals_in}
use Rattle.clausebytes.specs.Words as right
use Rattle.clausebytes.specs.Words.{most_literals, Within}
use Rattle.body.specs.Inner.Table.{token_of}
use Rattle.body.specs.Inner.Table.{Act, Go, Close, Begin, Turn, Lead, Grow, EndPlain, EndNegated}
use Rattle.body.specs.Inner.States.{dead_of, taken_of, close_of, open_of, begun_of, turn_of, move_of}
use Rattle.body.specs.declared.phase.Phase.{Phase}
use Rattle.body.specs.declared.phase.Phase.TheVariants.{Between, Closed, Sign, Plain, Negated, Dead}
use Rattle.body.specs.declared.state.State.{State}
use Rattle.dimacs.specs.Texts.{literal_text, Body}
use Rattle.header.specs.Heads.{White}
use Rattle.dimacs.specs.Texts as grammar
use Rattle.dimacs.specs.Inner.Walks.{token_bytes}
use Rattle.dimacs.proofs.Laws.Live as live
use Rattle.dimacs.proofs.Laws.Live.{Live}

-- clauses that are still to come, with c clauses closed and n literals begun; m is the total of literals
pub record Rest (p : Bool) (v k c n m : ℕ) (cs : List Clause) (t : List ℕ) : Type 0 where
  pub count : c + length cs ≡ k
  pub total : n + literals_in cs ≡ m
  pub few : m ≤ most_literals
  pub within : Within v cs
  pub body : Body p cs t

-- the same with their bytes; and right behind a literal of the variable y, whose clause is still to be closed
pub record Part (p : Bool) (v k c n m : ℕ) (out t : List ℕ) : Type 0 where
  pub clauses : List Clause
  pub bytes : out ≡ clauses_bytes clauses
  pub rest : Rest p v k c n m clauses t

pub record Behind (plain : Bool) (v k c n m : ℕ) (out : List ℕ) (y : ℕ) (t : List ℕ) : Type 0 where
  pub first : Clause
  pub clauses : List Clause
  pub bytes : out ≡ literal_bytes (record { plain = plain; variable = y }) ++ clauses_bytes (first ∷ clauses)
  pub rest : Rest false v k c n m (first ∷ clauses) t

-- what may follow in a phase; x is what has been read of a literal
abbrev pub LangIn : Phase → ℕ → ℕ → ℕ → ℕ → ℕ → ℕ → List ℕ → List ℕ → Type 0
LangIn Between x v k c n m out t = Part true v k c n m out t
LangIn Closed x v k c n m out t = Part false v k c n m out t
LangIn Sign x v k c n m out t = First 1 v (Behind false v k c n m out) t
LangIn Plain x v k c n m out t = More v (Behind true v k c n m out) x t
LangIn Negated x v k c n m out t = More v (Behind false v k c n m out) x t
LangIn Dead x v k c n m out t = ⊥

abbrev pub Lang : State → ℕ → List ℕ → List ℕ → Type 0
Lang s m out t = LangIn s.phase s.value s.variables s.declared s.clauses s.literals m out t

-- a state by its parts
abbrev pub st : Phase → ℕ → ℕ → ℕ → ℕ → ℕ → ℕ → State
st p l x v k c n = record { phase = p; place = l; value = x; variables = v; declared = k; clauses = c; literals = n }

-- what each byte keeps: clauses that can still be closed, and a literal within the variables
abbrev pub KeptIn : Phase → ℕ → ℕ → ℕ → ℕ → ℕ → Type 0
KeptIn Between x v k c n = (c ≤ k) × (n ≤ most_literals)
KeptIn Closed x v k c n = (c ≤ k) × (n ≤ most_literals)
KeptIn Sign x v k c n = (c < k) × (n ≤ most_literals) × (0 < v)
KeptIn Plain x v k c n = (c < k) × (n ≤ most_literals) × (0 < x) × (x ≤ v)
KeptIn Negated x v k c n = (c < k) × (n ≤ most_literals) × (0 < x) × (x ≤ v)
KeptIn Dead x v k c n = Unit

abbrev pub Kept : State → Type 0
Kept s = KeptIn s.phase s.value s.variables s.declared s.clauses s.literals

-- a byte on: the entry of the table, and what it puts out
pub record On (s : State) (m : ℕ) (out : List ℕ) (b : ℕ) (t : List ℕ) : Type 0 where
  pub act : Act
  pub entry : Live s.phase b act
  pub left : List ℕ
  pub split : out ≡ token_bytes (token_of act) s.value ++ left
  pub next : Lang (move_of act s (b - 48)) m left t

abbrev OnAll : State → ℕ → List ℕ → List ℕ → Type 0
OnAll s m out [] = Unit
OnAll s m out (b ∷ t) = On s m out b t

-- a test on the way, for what follows it
module _ (m : ℕ) (out t : List ℕ) where
  passing : (b : Bool) (x y : State) → b ≡ true → Lang x m out t → Lang (cond b x y) m out t
  passing b x y e h = subst⁻¹ (λ (d : Bool). Lang (cond d x y) m out t) e h

  missing : (b : Bool) (x y : State) → b ≡ false → Lang y m out t → Lang (cond b x y) m out t
  missing b x y e h = subst⁻¹ (λ (d : Bool). Lang (cond d x y) m out t) e h

minus_48 : (d : ℕ) → 48 + d - 48 ≡ d
minus_48 d = omega arith

module _ (l x v k c n m : ℕ) where
  -- a literal begins
  opened : (p : Phase) (y : ℕ) (out t : List ℕ) → c < k → n < most_literals → LangIn p y v k c (n + 1) m out t
      → Lang (open_of (st Between l x v k c n) p y) m out t
  opened p y out t h g w =
      let s = st Between l x v k c n in
      passing m out t (ltb c k) _ (dead_of s) (lt-ltb c k h)
      (passing m out t (ltb n most_literals) (st p (l + 1) y v k c (n + 1)) (dead_of s) (lt-ltb n most_literals g) w)

  begin_on : (out : List ℕ) {u : List ℕ} → c < k → n < most_literals → First 1 v (Behind true v k c (n + 1) m out) u
      → OnAll (st Between l x v k c n) m out u
  begin_on out h g (first {d = d} {t = t} lo few le w) =
      let s = st Between l x v k c n in
      let e : grown_of false 0 (48 + d - 48) v ≡ Some d = ap (λ (z : ℕ). grown_of false 0 z v) (minus_48 d) ∙ grown-first d v le in
      record {
        act = Begin;
        entry = live.begin lo few;
        left = out;
        split = refl;
        next = subst⁻¹ (λ (z : Option ℕ). Lang (begun_of s z) m out t) e (opened Plain d out t h g w);
      }

  turn_on : (out t : List ℕ) → c < k → n < most_literals → 0 < v → First 1 v (Behind false v k c (n + 1) m out) t
      → On (st Between l x v k c n) m out 45 t
  turn_on out t h g o w =
      let s = st Between l x v k c n in
      let z : v ≡ 0 → ⊥ = λ e. omega arith in
      record {
        act = Turn;
        entry = live.turn;
        left = out;
        split = refl;
        next = missing m out t (eqb v 0) (dead_of s) _ (ne_eqb v 0 z) (opened Sign 0 out t h g w);
      }

  -- a literal of the grammar
  literal_on : (plain : Bool) (y : ℕ) (d : Clause) (cs : List Clause) (out r : List ℕ) → 0 < y → y ≤ v → c < k → n < most_literals
      → Behind plain v k c (n + 1) m out y r
      → OnAll (st Between l x v k c n) m out (literal_text (record { plain = plain; variable = y }) ++ r)
  literal_on true y d cs out r h g i j w = begin_on out i j (first_of_decimal 1 v (Behind true v k c (n + 1) m out) (omega arith) y r h g w)
  literal_on false y d cs out r h g i j w =
      turn_on out (decimal y ++ r) i j (omega arith) (first_of_decimal 1 v (Behind false v k c (n + 1) m out) (omega arith) y r h g w)

  -- where a literal or a zero may begin, and right behind a zero
  abbrev phase_of : Bool → Phase
  phase_of true = Between
  phase_of false = Closed

  body_on : {p : Bool} {cs : List Clause} {u : List ℕ} → Body p cs u → (out : List ℕ) → out ≡ clauses_bytes cs → c + length cs ≡ k
      → n + literals_in cs ≡ m → m ≤ most_literals → Within v cs → OnAll (st (phase_of p) l x v k c n) m out u
  body_on grammar.end out e h g f w = tt
  body_on (grammar.white {p = true} {cs = cs} y b) out e h g f w = record {
    act = Go;
    entry = live.pass y;
    left = out;
    split = refl;
    next = record { clauses = cs; bytes = e; rest = record { count = h; total = g; few = f; within = w; body = b } };
  }
  body_on (grammar.white {p = false} {cs = cs} y b) out e h g f w = record {
    act = Go;
    entry = live.part y;
    left = out;
    split = refl;
    next = record { clauses = cs; bytes = e; rest = record { count = h; total = g; few = f; within = w; body = b } };
  }
  body_on (grammar.zero {cs = cs} {r = r} b) out e h g f (right.closed w) =
      let s = st Between l x v k c n in
      record {
        act = Close;
        entry = live.close;
        left = clauses_bytes cs;
        split = e;
        next = passing m (clauses_bytes cs) r (ltb c k) _ (dead_of s) (lt-ltb c k (omega arith)) (record {
          clauses = cs;
          bytes = refl;
          rest = record { count = omega arith; total = omega arith; few = f; within = w; body = b };
        });
      }
  body_on (grammar.literal {l = y} {c = d} {cs = cs} {r = r} b) out e h g f (right.literal i j w) =
      literal_on y.plain y.variable d cs out r i j (omega arith) (omega arith) (record {
        first = d;
        clauses = cs;
        bytes = e ∙ append_assoc (literal_bytes y) (clause_bytes d) (clauses_bytes cs);
        rest = record { count = h; total = omega arith; few = f; within = w; body = b };
      })

  -- right behind a `-`
  sign_on : (out : List ℕ) {u : List ℕ} → First 1 v (Behind false v k c n m out) u → OnAll (st Sign l x v k c n) m out u
  sign_on out (first {d = d} {t = t} lo few le w) =
      let s = st Sign l x v k c n in
      let e : grown_of false 0 (48 + d - 48) v ≡ Some d = ap (λ (z : ℕ). grown_of false 0 z v) (minus_48 d) ∙ grown-first d v le in
      record {
        act = Lead;
        entry = live.lead lo few;
        left = out;
        split = refl;
        next = subst⁻¹ (λ (z : Option ℕ). Lang (taken_of s Negated z) m out t) e w;
      }

-- in a literal, with `-` or without
abbrev inside : Bool → Phase
inside true = Plain
inside false = Negated

module _ (l v k c n m : ℕ) (out : List ℕ) where
  grown_on : (plain : Bool) (x d : ℕ) (t : List ℕ) → 0 < x → x * 10 + d ≤ v → LangIn (inside plain) (x * 10 + d) v k c n m out t
      → let s = st (inside plain) l x v k c n in Lang (taken_of s (inside plain) (grown_of true x (48 + d - 48) v)) m out t
  grown_on plain x d t h g w =
      let s = st (inside plain) l x v k c n in
      let e : grown_of true x (48 + d - 48) v ≡ Some (x * 10 + d) = ap (λ (z : ℕ). grown_of true x z v) (minus_48 d) ∙ grown-more x d v h g in
      subst⁻¹ (λ (z : Option ℕ). Lang (taken_of s (inside plain) z) m out t) e w

  end_on : (plain : Bool) (x : ℕ) (d : Clause) (cs : List Clause) {u : List ℕ} → Body false (d ∷ cs) u
      → out ≡ literal_bytes (record { plain = plain; variable = x }) ++ clauses_bytes (d ∷ cs)
      → c + length (d ∷ cs) ≡ k → n + literals_in (d ∷ cs) ≡ m → m ≤ most_literals → Within v (d ∷ cs)
      → OnAll (st (inside plain) l x v k c n) m out u
  end_on true x d cs (grammar.white y b) e h g f w = record {
    act = EndPlain;
    entry = live.end-plain y;
    left = clauses_bytes (d ∷ cs);
    split = e;
    next = record { clauses = d ∷ cs; bytes = refl; rest = record { count = h; total = g; few = f; within = w; body = b } };
  }
  end_on false x d cs (grammar.white y b) e h g f w = record {
    act = EndNegated;
    entry = live.end-negated y;
    left = clauses_bytes (d ∷ cs);
    split = e;
    next = record { clauses = d ∷ cs; bytes = refl; rest = record { count = h; total = g; few = f; within = w; body = b } };
  }

  inside_on : (plain : Bool) {x : ℕ} {u : List ℕ} → More v (Behind plain v k c n m out) x u → OnAll (st (inside plain) l x v k c n) m out u
  inside_on plain {x} (here h) = let q = h.rest in
      end_on plain x h.first h.clauses q.body h.bytes q.count q.total q.few q.within
  inside_on true {x} (digit {d = d} {t = t} p g le w) = record {
    act = Grow;
    entry = live.grow-plain g;
    left = out;
    split = refl;
    next = grown_on true x d t p le w;
  }
  inside_on false {x} (digit {d = d} {t = t} p g le w) = record {
    act = Grow;
    entry = live.grow-negated g;
    left = out;
    split = refl;
    next = grown_on false x d t p le w;
  }

-- one byte on, in each phase
pub lang_on : (p : Phase) (l x v k c n m : ℕ) (out : List ℕ) (b : ℕ) (t : List ℕ) → LangIn p x v k c n m out (b ∷ t)
    → On (st p l x v k c n) m out b t
lang_on Between l x v k c n m out b t h = let q = h.rest in
    body_on l x v k c n m q.body out h.bytes q.count q.total q.few q.within
lang_on Closed l x v k c n m out b t h = let q = h.rest in
    body_on l x v k c n m q.body out h.bytes q.count q.total q.few q.within
lang_on Sign l x v k c n m out b t h = sign_on l x v k c n m out h
lang_on Plain l x v k c n m out b t h = inside_on l v k c n m out true h
lang_on Negated l x v k c n m out b t h = inside_on l v k c n m out false h
lang_on Dead l x v k c n m out b t h = absurd h

-- from what follows a test: how it went, and what it led to
way : {A : Type 0} (m : ℕ) (out t : List ℕ) (b : Bool) (x y : State) → (b ≡ true → Lang x m out t → A) → (b ≡ false → Lang y m out t → A)
    → Lang (cond b x y) m out t → A
way m out t true x y then else h = then refl h
way m out t false x y then else h = else refl h

module _ (l x v k c n m : ℕ) (out : List ℕ) where
  -- a literal has begun
  open-way : {A : Type 0} (p : Phase) (y : ℕ) (t : List ℕ) → (c < k → n < most_literals → LangIn p y v k c (n + 1) m out t → A)
      → Lang (open_of (st Between l x v k c n) p y) m out t → A
  open-way p y t then h =
      let s = st Between l x v k c n in
      way m out t (ltb c k) _ (dead_of s)
      (λ e g. way m out t (ltb n most_literals) (st p (l + 1) y v k c (n + 1)) (dead_of s)
      (λ f w. then (ltb-true c k e) (ltb-true n most_literals f) w) (λ _ w. absurd w) g)
      (λ _ g. absurd g) h

  -- a literal in front of the rest of its clause
  literal-part : (plain : Bool) (y : ℕ) (r : List ℕ) → 0 < y → y ≤ v → Behind plain v k c (n + 1) m out y r
      → Part true v k c n m out (literal_text (record { plain = plain; variable = y }) ++ r)
  literal-part plain y r h g w =
      let z : Literal = record { plain = plain; variable = y } in
      let q = w.rest in
      record {
        clauses = (z ∷ w.first) ∷ w.clauses;
        bytes = w.bytes ∙ sym (append_assoc (literal_bytes z) (clause_bytes w.first) (clauses_bytes w.clauses));
        rest = record {
          count = q.count;
          total = omega (arith, q.total);
          few = q.few;
          within = right.literal h g q.within;
          body = grammar.literal {l = z} q.body;
        };
      }

  -- a number of which the first digit d was taken in
  first_back : (Next : ℕ → List ℕ → Type 0) (d y : ℕ) (t : List ℕ) → 0 < d → d < 10 → grown_of false 0 (48 + d - 48) v ≡ Some y
      → More v Next y t
      → First 1 v Next ((48 + d) ∷ t)
  first_back Next d y t h g e w =
      let q = grown_of_lem false 0 (48 + d - 48) v y e in
      let r : y ≡ d = q.value ∙ omega arith in
      first h g (omega (arith, r, q.bound)) (subst (λ (z : ℕ). More v Next z t) r w)

-- what was made of a number
by_number : {A : Type 0} (m : ℕ) (out t : List ℕ) (F : Option ℕ → State) (z : Option ℕ) → ((y : ℕ) → z ≡ Some y → Lang (F (Some y)) m out t → A)
    → (Lang (F None) m out t → A) → Lang (F z) m out t → A
by_number m out t F None is wrong h = wrong h
by_number m out t F (Some y) is wrong h = is y refl h

-- one byte back, in each live entry
module _ (l x v k c n m : ℕ) (out t : List ℕ) where
  -- white space in front of clauses, and behind a literal
  white-part : {b : ℕ} (p : Bool) → White b → Part true v k c n m out t → Part p v k c n m out (b ∷ t)
  white-part p y h = let q = h.rest in record {
    clauses = h.clauses;
    bytes = h.bytes;
    rest = record { count = q.count; total = q.total; few = q.few; within = q.within; body = grammar.white y q.body };
  }

  white-behind : {b : ℕ} (plain : Bool) → White b → c < k → Part true v k c n m out t
      → Behind plain v k c n m (literal_bytes (record { plain = plain; variable = x }) ++ out) x (b ∷ t)
  white-behind {b} plain y h w = go w.clauses w.bytes w.rest
    where
      go : (cs : List Clause) → out ≡ clauses_bytes cs → Rest true v k c n m cs t
          → Behind plain v k c n m (literal_bytes (record { plain = plain; variable = x }) ++ out) x (b ∷ t)
      go [] e q = absurd (omega (arith, q.count))
      go (d ∷ cs) e q = record {
        first = d;
        clauses = cs;
        bytes = ap (λ (r : List ℕ). literal_bytes (record { plain = plain; variable = x }) ++ r) e;
        rest = record { count = q.count; total = q.total; few = q.few; within = q.within; body = grammar.white y q.body };
      }

  -- a further digit
  grow-back : (F : Option ℕ → State) (Next : ℕ → List ℕ → Type 0) (d : ℕ) → d < 10 → (Lang (F None) m out t → ⊥)
      → ((y : ℕ) → Lang (F (Some y)) m out t → More v Next y t) → Lang (F (grown_of true x (48 + d - 48) v)) m out t
      → More v Next x ((48 + d) ∷ t)
  grow-back F Next d g wrong is h =
      by_number m out t F (grown_of true x (48 + d - 48) v)
      (λ y e w. let q = grown_of_lem true x (48 + d - 48) v y e in
      let r : y ≡ x * 10 + d = q.value ∙ ap (λ (z : ℕ). x * 10 + z) (minus_48 d) in
      digit (q.some refl) g (omega (arith, r, q.bound)) (subst (λ (z : ℕ). More v Next z t) r (is y w)))
      (λ w. absurd (wrong w)) h

  -- a number that begins: a literal without `-`, and behind one
  begin-back : (d : ℕ) → 0 < d → d < 10 → Lang (begun_of (st Between l x v k c n) (grown_of false 0 (48 + d - 48) v)) m out t
      → Part true v k c n m out ((48 + d) ∷ t)
  begin-back d h g w =
      by_number m out t (begun_of (st Between l x v k c n)) (grown_of false 0 (48 + d - 48) v)
      (λ y e q. open-way l x v k c n m out Plain y t
      (λ _ _ u. let z = split_of_first (first_back l x v k c n m out (Behind true v k c (n + 1) m out) d y t h g e u) in
      subst⁻¹ (Part true v k c n m out) z.split
      (literal-part l x v k c n m out true z.value z.rest z.least z.bound z.next)) q)
      (λ q. absurd q) w

  turn-back : Lang (turn_of (st Between l x v k c n)) m out t → Part true v k c n m out (45 ∷ t)
  turn-back h =
      let s = st Between l x v k c n in
      way m out t (eqb v 0) (dead_of s) _ (λ _ w. absurd w)
      (λ _ w. open-way l x v k c n m out Sign 0 t
      (λ _ _ u. let z = split_of_first u in
      subst⁻¹ (λ (r : List ℕ). Part true v k c n m out (45 ∷ r)) z.split
      (literal-part l x v k c n m out false z.value z.rest z.least z.bound z.next)) w) h

  lead-back : (d : ℕ) → 0 < d → d < 10 → Lang (taken_of (st Sign l x v k c n) Negated (grown_of false 0 (48 + d - 48) v)) m out t
      → First 1 v (Behind false v k c n m out) ((48 + d) ∷ t)
  lead-back d h g w =
      by_number m out t (taken_of (st Sign l x v k c n) Negated) (grown_of false 0 (48 + d - 48) v)
      (λ y e q. first_back l x v k c n m out (Behind false v k c n m out) d y t h g e q) (λ q. absurd q) w

  close-back : Lang (close_of (st Between l x v k c n)) m out t → Part true v k c n m (little 4 0 ++ out) (48 ∷ t)
  close-back h =
      let s = st Between l x v k c n in
      way m out t (ltb c k) _ (dead_of s)
      (λ _ w. let q = w.rest in record {
        clauses = [] ∷ w.clauses;
        bytes = ap (λ (r : List ℕ). little 4 0 ++ r) w.bytes;
        rest = record {
          count = omega (arith, q.count);
          total = omega (arith, q.total);
          few = q.few;
          within = right.closed q.within;
          body = grammar.zero q.body;
        };
      })
      (λ _ w. absurd w) h

pub lang_back : {p : Phase} {b : ℕ} {a : Act} → Live p b a → (l x v k c n m : ℕ) (out t : List ℕ) → KeptIn p x v k c n
    → Lang (move_of a (st p l x v k c n) (b - 48)) m out t → LangIn p x v k c n m (token_bytes (token_of a) x ++ out) (b ∷ t)
lang_back live.close l x v k c n m out t q h = close-back l x v k c n m out t h
lang_back (live.begin {d = d} i j) l x v k c n m out t q h = begin-back l x v k c n m out t d i j h
lang_back live.turn l x v k c n m out t q h = turn-back l x v k c n m out t h
lang_back (live.pass y) l x v k c n m out t q h = white-part l x v k c n m out t true y h
lang_back (live.part y) l x v k c n m out t q h = white-part l x v k c n m out t false y h
lang_back (live.lead {d = d} i j) l x v k c n m out t q h = lead-back l x v k c n m out t d i j h
lang_back (live.grow-plain {d = d} j) l x v k c n m out t q h =
    grow-back l x v k c n m out t (taken_of (st Plain l x v k c n) Plain) (Behind true v k c n m out) d j (λ w. w) (λ y w. w) h
lang_back (live.end-plain y) l x v k c n m out t q h = here (white-behind l x v k c n m out t true y q.0 h)
lang_back (live.grow-negated {d = d} j) l x v k c n m out t q h =
    grow-back l x v k c n m out t (taken_of (st Negated l x v k c n) Negated) (Behind false v k c n m out) d j (λ w. w) (λ y w. w) h
lang_back (live.end-negated y) l x v k c n m out t q h = here (white-behind l x v k c n m out t false y q.0 h)
