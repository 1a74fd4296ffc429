-- Bytes and lines that are put behind each other: none, one run behind another, and a loop that puts run after run.
-- Assumes nothing.
use mathlib.Core.Path.{◌≡◌, refl, sym, ap, ◌∙◌, subst, subst⁻¹, subst₃}
use mathlib.Core.Bool.{Bool, true, false, cond}
use mathlib.Core.List.{List, [], ◌∷◌, ◌++◌, append_assoc, append-nil}
use Prim.Native.Nat.{ℕ, ◌+◌, ◌*◌, ◌≤◌}
use native.Mathlib.Nat.{zero-add}
use native.Mathlib.Omega.{arith}
use lib.ListN.{length, length-append}
use Rattle.laws.specs.Lists.{splice}
use Rattle.laws.proofs.Stored.{stored-nothing}
use Rattle.laws.proofs.Splices.{splice-splice, length-splice}
use Rattle.tidied.specs.Tidying.{Change, change_line, change_lines}
use Rattle.kept.specs.Inner.Pens.{Put, Puttable, Told, Tellable, Drawn, Drawable, longest}
use Rattle.kept.specs.declared.pen.Pen.{Pen}

-- lines of one list of changes behind another
pub lines_append : (xs ys : List Change) → change_lines (xs ++ ys) ≡ change_lines xs ++ change_lines ys
unfolding change_lines
lines_append [] ys = refl
lines_append (x ∷ xs) ys =
    ap (λ (r : List ℕ). change_line x ++ r) (lines_append xs ys)
    ∙ sym (append_assoc (change_line x) (change_lines xs) (change_lines ys))

-- no byte
pub put-nothing : (w : Bool) (l : List ℕ) (at : ℕ) → Put [] w l at at l
put-nothing w l at = record { place = omega arith; list = go w }
  where
    go : (b : Bool) → l ≡ cond b (splice l at []) l
    go true = (stored-nothing l at).list
    go false = refl

-- there is room where it is written
abbrev Room : List ℕ → Bool → List ℕ → ℕ → Type 0
Room xs w l at = w ≡ true → at + length xs ≤ length l

-- a buffer stays as long as it is
put-length : {xs : List ℕ} {w : Bool} {l m : List ℕ} {at n : ℕ} → Put xs w l at n m → Room xs w l at → length m ≡ length l
put-length {xs} {w} {l} {at = at} p room = ap length p.list ∙ go w room
  where
    go : (b : Bool) → Room xs b l at → length (cond b (splice l at xs) l) ≡ length l
    go true room = length-splice l at xs (room refl)
    go false room = refl

-- one run behind another
module _ (xs ys : List ℕ) (w : Bool) (l : List ℕ) (at : ℕ) (h : Room (xs ++ ys) w l at) where
  room-left : Room xs w l at
  room-left e = omega (arith, length-append xs ys, h e)

  module _ {m : List ℕ} {n : ℕ} (p : Put xs w l at n m) where
    room-right : Room ys w m n
    room-right e = omega (arith, length-append xs ys, h e, p.place, put-length p room-left)

    put_both : {o : List ℕ} {k : ℕ} → Put ys w m n k o → Put (xs ++ ys) w l at k o
    put_both {o} q = record {
      place = q.place ∙ omega (arith, p.place, length-append xs ys);
      list = go w p.list q.list room-left;
    }
      where
        go : (b : Bool) → m ≡ cond b (splice l at xs) l → o ≡ cond b (splice m n ys) m → Room xs b l at
            → o ≡ cond b (splice l at (xs ++ ys)) l
        go true e f room = f ∙ ap (λ (z : List ℕ). splice z n ys) e ∙ splice-splice l at xs n ys (room refl) p.place
        go false e f room = f ∙ e

pub put_as : {xs ys : List ℕ} {w : Bool} {l m : List ℕ} {at n : ℕ} → xs ≡ ys → Put ys w l at n m → Put xs w l at n m
put_as {w = w} {l} {m} {at} {n} e p = subst⁻¹ (λ (z : List ℕ). Put z w l at n m) e p

-- what is told leaves the kept clauses as they were
pub told-drawn : {xs : List Change} {out lines after : List ℕ} {p q : Pen} → Told xs lines p after q
    → Drawn [] 0 xs out lines p out after q
told-drawn {out = out} {p = p} {q} t = record {
  mode = t.mode;
  kept_put = subst⁻¹ (λ (k : ℕ). Put [] p.writing out p.kept k out) t.kept_same (put-nothing p.writing out p.kept);
  clauses_are = t.clauses_same ∙ omega arith;
  lines_put = t.lines_put;
  low = t.low;
  changes_are = t.changes_are;
}

-- one after the other: what is put first has room, and so has what comes behind it
module _ (ks js : List ℕ) (a b : ℕ) (xs ys : List Change) (out lines : List ℕ) (p : Pen)
    (h : Drawable (ks ++ js) (a + b) (xs ++ ys) out lines p) where
  lines_room : Room (change_lines xs ++ change_lines ys) p.writing lines p.lines
  lines_room e = omega (arith, ap length (lines_append xs ys), h.told.lines_room e)

  pub drawable-left : Drawable ks a xs out lines p
  drawable-left = record {
    kept_room = record {
      room = room-left ks js p.writing out p.kept h.kept_room.room;
      low = omega (arith, length-append ks js, h.kept_room.low);
    };
    clauses_few = omega (arith, h.clauses_few);
    told = record {
      lines_room = room-left (change_lines xs) (change_lines ys) p.writing lines p.lines lines_room;
      low = h.told.low;
      changes_few = omega (arith, length-append xs ys, h.told.changes_few);
    };
  }

  module _ {mid left : List ℕ} {q : Pen} (d : Drawn ks a xs out lines p mid left q) where
    pub drawable-right : Drawable js b ys mid left q
    drawable-right = record {
      kept_room = record {
        room = λ e. room-right ks js p.writing out p.kept h.kept_room.room d.kept_put (sym d.mode ∙ e);
        low = omega (arith, length-append ks js, h.kept_room.low, d.kept_put.place);
      };
      clauses_few = omega (arith, h.clauses_few, d.clauses_are);
      told = record {
        lines_room = λ e. room-right (change_lines xs) (change_lines ys) p.writing lines p.lines lines_room d.lines_put (sym d.mode ∙ e);
        low = d.low;
        changes_few = omega (arith, length-append xs ys, h.told.changes_few, d.changes_are);
      };
    }

    pub drawn-both : {o k : List ℕ} {r : Pen} → Drawn js b ys mid left q o k r → Drawn (ks ++ js) (a + b) (xs ++ ys) out lines p o k r
    drawn-both {o} {k} {r} f = record {
      mode = f.mode ∙ d.mode;
      kept_put = put_both ks js p.writing out p.kept h.kept_room.room d.kept_put
          (subst (λ (w : Bool). Put js w mid q.kept r.kept o) d.mode f.kept_put);
      clauses_are = omega (arith, f.clauses_are, d.clauses_are);
      lines_put = put_as (lines_append xs ys)
          (put_both (change_lines xs) (change_lines ys) p.writing lines p.lines lines_room d.lines_put
          (subst (λ (w : Bool). Put (change_lines ys) w left q.lines r.lines k) d.mode f.lines_put));
      low = f.low;
      changes_are = omega (arith, f.changes_are, d.changes_are, length-append xs ys);
    }

-- nothing
pub drawn-nothing : (out lines : List ℕ) (p : Pen) → p.lines ≤ longest * p.changes → Drawn [] 0 [] out lines p out lines p
unfolding change_lines
drawn-nothing out lines p low = record {
  mode = refl;
  kept_put = put-nothing p.writing out p.kept;
  clauses_are = omega arith;
  lines_put = put-nothing p.writing lines p.lines;
  low = low;
  changes_are = omega arith;
}

-- other bytes, counts and changes that are the same
module _ {ks js : List ℕ} {a b : ℕ} {xs ys : List Change} (e : ks ≡ js) (f : a ≡ b) (g : xs ≡ ys) {out lines : List ℕ} {p : Pen} where
  pub drawn_as : {mid left : List ℕ} {q : Pen} → Drawn js b ys out lines p mid left q → Drawn ks a xs out lines p mid left q
  drawn_as {mid} {left} {q} d =
      subst₃ (λ (k : List ℕ) (n : ℕ) (x : List Change). Drawn k n x out lines p mid left q) (sym e) (sym f) (sym g) d

  pub drawable_as : Drawable js b ys out lines p → Drawable ks a xs out lines p
  drawable_as d = subst₃ (λ (k : List ℕ) (n : ℕ) (x : List Change). Drawable k n x out lines p) (sym e) (sym f) (sym g) d

-- a loop that puts: of the whole, a rest is still to come
pub record Drawing (ks : List ℕ) (a : ℕ) (xs : List Change) (out lines : List ℕ) (p : Pen)
    (rest : List ℕ) (b : ℕ) (later : List Change) (mid left : List ℕ) (q : Pen) : Type 0 where
  pub kept : List ℕ
  pub count : ℕ
  pub changes : List Change
  pub drawn : Drawn kept count changes out lines p mid left q
  pub kept_split : ks ≡ kept ++ rest
  pub count_split : a ≡ count + b
  pub changes_split : xs ≡ changes ++ later

pub drawing_start : (ks : List ℕ) (a : ℕ) (xs : List Change) (out lines : List ℕ) (p : Pen) → p.lines ≤ longest * p.changes
    → Drawing ks a xs out lines p ks a xs out lines p
drawing_start ks a xs out lines p low = record {
  kept = [];
  count = 0;
  changes = [];
  drawn = drawn-nothing out lines p low;
  kept_split = refl;
  count_split = sym (zero-add a);
  changes_split = refl;
}

module _ {ks : List ℕ} {a : ℕ} {xs : List Change} {out lines : List ℕ} {p : Pen} (h : Drawable ks a xs out lines p) where
  -- there is room for what comes next, and then for the rest
  module _ (js : List ℕ) (b : ℕ) (ys : List Change) (rest : List ℕ) (c : ℕ) (later : List Change) {mid left : List ℕ} {q : Pen}
      (d : Drawing ks a xs out lines p (js ++ rest) (b + c) (ys ++ later) mid left q) where
    whole : Drawable (d.kept ++ (js ++ rest)) (d.count + (b + c)) (d.changes ++ (ys ++ later)) out lines p
    whole = drawable_as (sym d.kept_split) (sym d.count_split) (sym d.changes_split) h

    left_over : Drawable (js ++ rest) (b + c) (ys ++ later) mid left q
    left_over =
        drawable-right d.kept (js ++ rest) d.count (b + c) d.changes (ys ++ later) out lines p whole d.drawn

    pub drawing_room : Drawable js b ys mid left q
    drawing_room = drawable-left js rest b c ys later mid left q left_over

    first : Drawable (d.kept ++ js) (d.count + b) (d.changes ++ ys) out lines p
    first =
        drawable-left (d.kept ++ js) rest (d.count + b) c (d.changes ++ ys) later out lines p
        (drawable_as (append_assoc d.kept js rest) (omega arith) (append_assoc d.changes ys later) whole)

    pub drawing_more : {o k : List ℕ} {r : Pen} → Drawn js b ys mid left q o k r
        → Drawing ks a xs out lines p rest c later o k r
    drawing_more f = record {
      kept = d.kept ++ js;
      count = d.count + b;
      changes = d.changes ++ ys;
      drawn = drawn-both d.kept js d.count b d.changes ys out lines p first d.drawn f;
      kept_split = d.kept_split ∙ sym (append_assoc d.kept js rest);
      count_split = d.count_split ∙ omega arith;
      changes_split = d.changes_split ∙ sym (append_assoc d.changes ys later);
    }

-- nothing is still to come
pub drawing_end : {ks : List ℕ} {a : ℕ} {xs : List Change} {out lines : List ℕ} {p : Pen} {mid left : List ℕ} {q : Pen}
    → Drawing ks a xs out lines p [] 0 [] mid left q → Drawn ks a xs out lines p mid left q
drawing_end d =
    drawn_as (d.kept_split ∙ append-nil d.kept) (d.count_split ∙ omega arith) (d.changes_split ∙ append-nil d.changes)
    d.drawn

-- the rest may be told in other words
pub drawing_as : {ks : List ℕ} {a : ℕ} {xs : List Change} {out lines : List ℕ} {p : Pen} {rest js : List ℕ} {b c : ℕ}
    {later ys : List Change} {mid left : List ℕ} {q : Pen} → js ≡ rest → c ≡ b → ys ≡ later
    → Drawing ks a xs out lines p rest b later mid left q → Drawing ks a xs out lines p js c ys mid left q
drawing_as {ks} {a} {xs} {out} {lines} {p} {mid = mid} {left} {q} e f g d =
    subst₃ (λ (k : List ℕ) (n : ℕ) (x : List Change). Drawing ks a xs out lines p k n x mid left q) (sym e) (sym f) (sym g) d

-- buffers stay as long as they are
module _ {ks : List ℕ} {a : ℕ} {xs : List Change} {out lines : List ℕ} {p : Pen} (h : Drawable ks a xs out lines p) where
  pub drawn-lengths : {mid left : List ℕ} {q : Pen} → Drawn ks a xs out lines p mid left q
      → (length mid ≡ length out) × (length left ≡ length lines)
  drawn-lengths d = (put-length d.kept_put h.kept_room.room, put-length d.lines_put h.told.lines_room)

  pub drawing_lengths : {rest : List ℕ} {b : ℕ} {later : List Change} {mid left : List ℕ} {q : Pen}
      → Drawing ks a xs out lines p rest b later mid left q → (length mid ≡ length out) × (length left ≡ length lines)
  drawing_lengths {rest} {b} {later} d =
      let whole = drawable_as (sym d.kept_split) (sym d.count_split) (sym d.changes_split) h in
      let e = drawable-left d.kept rest d.count b d.changes later out lines p whole in
      (put-length d.drawn.kept_put e.kept_room.room, put-length d.drawn.lines_put e.told.lines_room)

-- a word of a kept clause
pub word-drawn : {ks : List ℕ} {out lines after : List ℕ} {p : Pen} (next count clauses : ℕ) → p.lines ≤ longest * p.changes
    → Put ks p.writing out p.kept next after → clauses ≡ p.clauses + count
    → Drawn ks count [] out lines p after lines
    (record { writing = p.writing; kept = next; lines = p.lines; clauses = clauses; changes = p.changes })
unfolding change_lines
word-drawn {lines = lines} {p = p} next count clauses low w e = record {
  mode = refl;
  kept_put = w;
  clauses_are = e;
  lines_put = put-nothing p.writing lines p.lines;
  low = low;
  changes_are = omega arith;
}

-- a literal that was seen is told, and another one is put
module _ (ks : List ℕ) (xs : List Change) (out lines : List ℕ) (p : Pen) where
  abbrev Either : Bool → Type 0
  Either b = Drawable (cond b [] ks) 0 (cond b xs []) out lines p

  pub seen-tellable : (b : Bool) → b ≡ true → Either b → Tellable xs lines p
  seen-tellable b e h = (subst Either e h).told

  pub seen-drawn : (b : Bool) → b ≡ true → {after : List ℕ} {q : Pen} → Told xs lines p after q
      → Drawn (cond b [] ks) 0 (cond b xs []) out lines p out after q
  seen-drawn b e {after} {q} t =
      subst⁻¹ (λ (x : Bool). Drawn (cond x [] ks) 0 (cond x xs []) out lines p out after q) e (told-drawn t)

  pub new_puttable : (b : Bool) → b ≡ false → Either b → Puttable ks p.writing out p.kept
  new_puttable b e h = (subst Either e h).kept_room

  pub new_drawn : (b : Bool) → b ≡ false → Either b → {next : ℕ} {after : List ℕ} → Put ks p.writing out p.kept next after
      → Drawn (cond b [] ks) 0 (cond b xs []) out lines p after lines
      (record { writing = p.writing; kept = next; lines = p.lines; clauses = p.clauses; changes = p.changes })
  new_drawn b e h {next} {after} w =
      let q : Pen = record { writing = p.writing; kept = next; lines = p.lines; clauses = p.clauses; changes = p.changes } in
      subst⁻¹ (λ (x : Bool). Drawn (cond x [] ks) 0 (cond x xs []) out lines p after lines q) e
      (word-drawn next 0 p.clauses h.told.low w (omega arith))
