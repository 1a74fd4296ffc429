-- The line of a change: its parts one behind the other, its length, and a pen before and after it. Assumes nothing.
use mathlib.Core.Path.{◌≡◌, refl, sym, ap, ◌∙◌, subst}
use mathlib.Core.Bool.{Bool, true, false}
use mathlib.Core.List.{List, [], ◌∷◌, ◌++◌, append_assoc, append-nil}
use Prim.Native.Nat.{ℕ, ◌+◌, ◌^◌, ◌≤◌, ◌<◌}
use native.Mathlib.Omega.{arith}
use lib.ListN.{length, length-append}
use Rattle.laws.specs.Inner.Stores.{Stored}
use Rattle.text.specs.Texts.{decimal}
use Rattle.text.proofs.Laws.Decimals.{width-least}
use Rattle.tidied.specs.Tidying.{change_lines}
use Rattle.kept.specs.Inner.Pens.{cause_text, change_for, line_for, longest, Put, Puttable, Told, Tellable}
use Rattle.kept.specs.declared.pen.Pen.{Pen}
use Rattle.kept.specs.declared.pen.Cause.{Cause}
use Rattle.kept.specs.declared.pen.Cause.TheVariants.{Literal, Tautology, Repeat}

-- bytes that are measured, and bytes that are written
pub put-measured : {xs l : List ℕ} {at n : ℕ} (writing : Bool) → writing ≡ false → n ≡ at + length xs
    → Put xs writing l at n l
put-measured writing e h = record { place = h; list = rw e refl }

pub put_written : {xs l m : List ℕ} {at n : ℕ} (writing : Bool) → writing ≡ true → Stored xs l at n m
    → Put xs writing l at n m
put_written writing e w = record { place = w.place; list = rw e w.list }

-- behind the clause's number: the cause, and the number that belongs to it
abbrev pub line_end : ℕ → List ℕ
line_end number = decimal number ++ (10 ∷ [])

abbrev pub line_rest : Cause → ℕ → List ℕ
line_rest cause number = cause_text cause ++ line_end number

module _ (clause : ℕ) (cause : Cause) (number : ℕ) where
  pub line_split : line_for clause cause number ≡ decimal clause ++ line_rest cause number
  line_split = simp append_assoc

  pub length-line : length (line_for clause cause number)
      ≡ length (decimal clause) + (length (cause_text cause) + (length (decimal number) + 1))
  length-line = ap length line_split ∙ simp length-append

-- no word is longer, with its tabs
cause-short : (cause : Cause) → length (cause_text cause) ≤ 11
cause-short Literal = omega arith
cause-short Tautology = omega arith
cause-short Repeat = omega arith

module _ (clause : ℕ) (cause : Cause) (number : ℕ) (h : clause < 2 ^ 32) (g : number < 2 ^ 32) where
  line-short : length (line_for clause cause number) ≤ longest
  line-short =
      omega (arith, length-line clause cause number, width-least clause h, cause-short cause, width-least number g)

  -- the lines of one change
  one_line : change_lines (change_for clause cause number ∷ []) ≡ line_for clause cause number
  unfolding change_lines
  one_line = append-nil _

  module _ (lines : List ℕ) (p : Pen) (t : Tellable (change_for clause cause number ∷ []) lines p) where
    pub line_puttable : Puttable (line_for clause cause number) p.writing lines p.lines
    line_puttable = record {
      room = λ e. subst (λ (xs : List ℕ). p.lines + length xs ≤ length lines) one_line (t.lines_room e);
      low = omega (arith, line-short, t.low, t.changes_few);
    }

    pub line-told : {n : ℕ} {after : List ℕ} → Put (line_for clause cause number) p.writing lines p.lines n after
        → Told (change_for clause cause number ∷ []) lines p after
        record { writing = p.writing; kept = p.kept; lines = n; clauses = p.clauses; changes = p.changes + 1 }
    line-told {n} {after} w = record {
      mode = refl;
      kept_same = refl;
      clauses_same = refl;
      lines_put = subst (λ (xs : List ℕ). Put xs p.writing lines p.lines n after) (sym one_line) w;
      low = omega (arith, line-short, t.low, w.place);
      changes_are = refl;
    }
