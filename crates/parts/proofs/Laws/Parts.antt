-- The bytes of the parts: a clause with what stands around it, and clauses that are written run after run.
-- Assumes nothing.
use mathlib.Core.Path.{◌≡◌, refl, sym, ap, ◌∙◌}
use mathlib.Core.Bool.{Bool, true, false, not}
use mathlib.Core.List.{List, [], ◌∷◌, ◌++◌, map, append_assoc, append-nil}
use Prim.Native.Nat.{ℕ, zero, suc, ◌+◌, ◌*◌, ◌<◌, ◌≤◌}
use native.Mathlib.Numerals.{add-one}
use native.Mathlib.Omega.{arith}
use lib.Dec.{leb}
use lib.ListN.{length, get_or, take, length-append}
use lib.Seq.{take-suc}
use borrow.Author.Tests.{leb-true, leb-false}
use denote.Ref.{MutBor, at_last}
use Rattle.laws.specs.Lists.{splice}
use Rattle.laws.specs.Numbers.{little}
use Rattle.clausal.specs.Clauses.{Clause, literal_bytes, clause_bytes, clauses_bytes}
use Rattle.walk.specs.Inner.Lists.{names_in, own_at, own_clause, shown_all}
use Rattle.clausebytes.proofs.Encoded.{clauses_append}
use Rattle.parts.specs.Inner.Parts.{helper_literal, around, ClauseDue}
use Rattle.walk.specs.Inner.Written.{Fits, Due, Put}
use Rattle.walk.specs.declared.nodes.Nodes.{Nodes}
use Rattle.walk.specs.declared.step.Way.{Way}
use Rattle.walk.proofs.Laws.Put.{put-run, put_as, fits_as, fits-left, fits-right, put_both, shown_append}

-- the bytes of a clause are its literals' and the closing zero
clause-closed : (c : Clause) → clause_bytes c ≡ shown_all literal_bytes c ++ little 4 0
clause-closed [] = refl
clause-closed (l ∷ c) =
    ap (λ (r : List ℕ). literal_bytes l ++ r) (clause-closed c)
    ∙ sym (append_assoc (literal_bytes l) (shown_all literal_bytes c) (little 4 0))

shown-length : (c : Clause) → length (shown_all literal_bytes c) ≡ 4 * length c
shown-length [] = refl
shown-length (l ∷ c) = length-append (literal_bytes l) (shown_all literal_bytes c) ∙ omega (arith, shown-length c)

pub length-clause : (c : Clause) → length (clause_bytes c) ≡ 4 * length c + 4
length-clause c =
    ap length (clause-closed c) ∙ length-append (shown_all literal_bytes c) (little 4 0) ∙ omega (arith, shown-length c)

-- a clause with the literal of a helper around it, written in four runs
module _ (x : Nodes) (w : Way) (r : MutBor (List ℕ)) (at : ℕ) (due : ClauseDue x w r.now at) where
  abbrev h : ℕ
  h = names_in x.helpers.now w.node

  abbrev sign : Bool
  sign = w.sign

  abbrev c : Clause
  c = own_clause x w

  abbrev before : Clause
  before = helper_literal sign false h

  abbrev after : Clause
  after = helper_literal (not sign) true h

  abbrev front : List ℕ
  front = shown_all literal_bytes before

  abbrev own : List ℕ
  own = shown_all literal_bytes c

  abbrev behind : List ℕ
  behind = shown_all literal_bytes after

  runs : clause_bytes (around h sign c) ≡ front ++ (own ++ (behind ++ little 4 0))
  runs =
      clause-closed (before ++ (c ++ after))
      ∙ ap (λ (x : List ℕ). x ++ little 4 0)
      (shown_append literal_bytes before (c ++ after) ∙ ap (λ (x : List ℕ). front ++ x) (shown_append literal_bytes c after))
      ∙ append_assoc front (own ++ behind) (little 4 0)
      ∙ ap (λ (x : List ℕ). front ++ x) (append_assoc own behind (little 4 0))

  all : Fits (front ++ (own ++ (behind ++ little 4 0))) r.now at
  all = fits_as (sym runs) due.fits

  module _ (a : ℕ) (m : MutBor (List ℕ)) (p : Put front r at a m) where
    rest : Fits (own ++ (behind ++ little 4 0)) m.now a
    rest = fits-right front (own ++ (behind ++ little 4 0)) r at all p

    fits-own : Fits own m.now a
    fits-own = fits-left own (behind ++ little 4 0) m a rest

    pub due_own : Due x (own_at x w.node w.sign) w m.now a
    due_own = record { writable = due.writable; inside = due.inside; has = due.has; short = due.short; fits = fits-own }

    module _ (b : ℕ) (n : MutBor (List ℕ)) (q : Put own m a b n) where
      last : Fits (behind ++ little 4 0) n.now b
      last = fits-right own (behind ++ little 4 0) m a rest q

      pub fits-behind : Fits behind n.now b
      fits-behind = fits-left behind (little 4 0) n b last

      module _ (d : ℕ) (o : MutBor (List ℕ)) (s : Put behind n b d o) where
        zero-fits : Fits (little 4 0) o.now d
        zero-fits = fits-right behind (little 4 0) n b last s

        pub room-zero : d + 4 ≤ length o.now
        room-zero = zero-fits.room

        pub put-closed : (l : List ℕ) → l ≡ splice o.now d (little 4 0) → Put (clause_bytes (around h sign c)) r at (d + 4) (at_last o l)
        put-closed l e =
            put_as runs
            (put_both front (own ++ (behind ++ little 4 0)) r at all p
            (put_both own (behind ++ little 4 0) m a rest q
            (put_both behind (little 4 0) n b last s (put-run (little 4 0) o d (d + 4) l refl e))))

-- what stands behind the first clauses
record Behind (first whole : List Clause) : Type 0 where
  rest : List Clause
  split : whole ≡ first ++ rest

-- a loop that writes run after run: k runs are `first k`, and the next one is `next k`
module _ (first next : ℕ → List Clause) (n : ℕ) (more : (k : ℕ) → k < n → first (suc k) ≡ first k ++ next k) where
  behind-first : (m k : ℕ) → m ≤ n → k ≤ m → Behind (first k) (first m)
  behind-first zero k h g =
      let e : k ≡ 0 = omega arith in
      record { rest = []; split = ap first (sym e) ∙ sym (append-nil (first k)) }
  behind-first (suc m) k h g = go (leb k m) refl (behind-first m k (omega arith))
    where
      go : (b : Bool) → leb k m ≡ b → (k ≤ m → Behind (first k) (first m)) → Behind (first k) (first (suc m))
      go true e ih =
          let r = ih (leb-true k m e) in
          record {
            rest = r.rest ++ next m;
            split = more m h ∙ ap (λ (x : List Clause). x ++ next m) r.split ∙ append_assoc (first k) r.rest (next m);
          }
      go false e ih =
          let q : k ≡ suc m = omega (arith, leb-false k m e) in
          record { rest = []; split = ap first (sym q) ∙ sym (append-nil (first k)) }

  module _ (k : ℕ) (h : k < n) where
    -- the next run, and what stands behind it
    after_next : Behind (first (suc k)) (first n)
    after_next = behind-first n (suc k) (omega arith) h

    whole : first n ≡ first k ++ (next k ++ after_next.rest)
    whole =
        after_next.split
        ∙ ap (λ (x : List Clause). x ++ after_next.rest) (more k h)
        ∙ append_assoc (first k) (next k) after_next.rest

    pub short-next : (most : ℕ) → length (first n) < most → length (next k) < most
    short-next most l =
        omega (arith, ap length whole, length-append (first k) (next k ++ after_next.rest), length-append (next k) after_next.rest)

    module _ (r : MutBor (List ℕ)) (at : ℕ) (fits : Fits (clauses_bytes (first n)) r.now at) (to : ℕ) (m : MutBor (List ℕ))
        (p : Put (clauses_bytes (first k)) r at to m) where
      abbrev now : List ℕ
      now = clauses_bytes (next k)

      abbrev later : List ℕ
      later = clauses_bytes after_next.rest

      runs_whole : clauses_bytes (first n) ≡ clauses_bytes (first k) ++ (now ++ later)
      runs_whole =
          ap clauses_bytes whole
          ∙ clauses_append (first k) (next k ++ after_next.rest)
          ∙ ap (λ (x : List ℕ). clauses_bytes (first k) ++ x) (clauses_append (next k) after_next.rest)

      both : Fits (clauses_bytes (first k) ++ (now ++ later)) r.now at
      both = fits_as (sym runs_whole) fits

      pub fits_next : Fits now m.now to
      fits_next = fits-left now later m to (fits-right (clauses_bytes (first k)) (now ++ later) r at both p)

      pub put_next : (q : ℕ) (o : MutBor (List ℕ)) → Put now m to q o → Put (clauses_bytes (first (k + 1))) r at q o
      put_next q o s =
          let firsts : Fits ((clauses_bytes (first k) ++ now) ++ later) r.now at =
          fits_as (append_assoc (clauses_bytes (first k)) now later) both in
          put_as (ap (λ (j : ℕ). clauses_bytes (first j)) (add-one k) ∙ ap clauses_bytes (more k h) ∙ clauses_append (first k) (next k))
          (put_both (clauses_bytes (first k)) now r at (fits-left (clauses_bytes (first k) ++ now) later r at firsts) p s)

-- the clauses of a list, one by one
module _ (f : Clause → Clause) (cs : List Clause) where
  abbrev pub first_of : ℕ → List Clause
  first_of k = map f (take k cs)

  abbrev pub next_of : ℕ → List Clause
  next_of k = f (get_or cs k []) ∷ []

  map_append : (xs : List Clause) (y : Clause) → map f (xs ++ (y ∷ [])) ≡ map f xs ++ (f y ∷ [])
  map_append [] y = refl
  map_append (x ∷ xs) y = ap (λ (l : List Clause). f x ∷ l) (map_append xs y)

  pub one_more : (k : ℕ) → k < length cs → first_of (suc k) ≡ first_of k ++ next_of k
  one_more k h = ap (map f) (take-suc cs k [] h) ∙ map_append (take k cs) (get_or cs k [])
