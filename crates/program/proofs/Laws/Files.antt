-- Printing a node file: what reading it answers.
-- Assumes nothing.
use mathlib.Core.Path.{◌≡◌, refl, sym, ap, ◌∙◌}
use mathlib.Core.Bool.{Bool, true, false, cond}
use mathlib.Core.List.{List}
use Prim.Native.Nat.{ℕ, ◌+◌, ◌*◌, ◌≤◌}
use native.Mathlib.Omega.{arith}
use lib.Dec.{ltb}
use lib.ListN.{length, take}
use Rattle.laws.specs.Lists.{splice}
use Rattle.laws.proofs.Splices.{length-splice}
use Rattle.laws.proofs.Stored.{take-stored}
use Rattle.answer.specs.Answers.{told_of, refuses, Wrote, stored}
use Rattle.answer.specs.Answers.{Answer}
use Rattle.answer.specs.Answers.{accepted_with}
use Rattle.std.specs.Prelude.{Err}
use Rattle.answer.specs.declared.Fault.{Fault}
use Rattle.answer.specs.declared.Refusal.TheVariants.{Record, Line}
use Rattle.answer.proofs.Laws.Order.{accepted-afterwards}
use Rattle.answer.proofs.Laws.Part.{stored-fits}
use Rattle.formula.specs.Checks.{checked}
use Rattle.formula.specs.Tables.{node_bytes, most_nodes, most_table}
use Rattle.nodefile.specs.Files.{line_of, first_wrong, file_right, file_nodes, file_table, most_bytes, file_checked, option_count}
use Rattle.nodefile.specs.Inner.Reads.{file_read}
use Rattle.nodefile.proofs.Laws.Files.{length_records}
use Rattle.nodefile.proofs.Laws.Fits.{few-nodes, table_fits}
use Rattle.program.specs.Printed.{refusal_line, unless_refused, table_printed, printed}
use Rattle.program.proofs.Laws.Shows.{unless_checked}

module _ (text : List ℕ) where
  abbrev said : Answer
  said = accepted_with (option_count (line_of text 0)) (file_nodes text)

  -- a file that is not refused is right
  right : refuses (file_checked text) ≡ false → (file_right text ≡ true) × (file_checked text ≡ said)
  right r = go (ltb most_bytes (length text)) (file_right text) refl r
    where
      go : (a b : Bool) → file_right text ≡ b → let c = cond a (Err (Line 0)) (cond b said (Err (Line (first_wrong text + 1)))) in
          refuses c ≡ false → (file_right text ≡ true) × (c ≡ said)
      go true b q r = let z : ◌≡◌ {A = ℕ} 0 1 = cc in absurd (omega arith)
      go false true q r = (q, refl)
      go false false q r = let z : ◌≡◌ {A = ℕ} 0 1 = cc in absurd (omega arith)

  -- a fault of a record is printed with its number and its node
  pub fault-printed : (fault : Fault) (node : ℕ) → refuses (file_checked text) ≡ false
      → checked (file_table text) (option_count (line_of text 0)) ≡ Err (Record fault node)
      → printed text ≡ refusal_line (Err (Record fault node))
  fault-printed fault node r e = rw (r, e)

  module _ (before : List ℕ) (size : length before ≡ most_table) where
    -- there is room for its table
    fits : refuses (file_checked text) ≡ false → stored (file_checked text) (file_table text) before
        ≡ record { answer = file_checked text; output = splice before 0 (file_table text) }
    fits r =
        sym (stored-fits (file_checked text) (file_table text) before _ (omega (arith, table_fits text (right r).0)) refl)

    pub read-printed : printed text
        ≡ unless_refused (file_read text before).answer (table_printed (file_table text) (option_count (line_of text 0)))
    read-printed =
        unless_checked (file_checked text) before (stored (file_checked text) (file_table text) before)
        (table_printed (file_table text) (option_count (line_of text 0)))
        (λ r. ap (λ (w : Wrote (List ℕ)). refuses w.answer) (fits r) ∙ r)

    module _ (a : Answer) (o : List ℕ) (e : record { answer = a; output = o } ≡ file_read text before) (r : refuses a ≡ false) where
      passed : (refuses (file_checked text) ≡ false) × (file_read text before ≡ stored (file_checked text) (file_table text) before)
      passed =
          accepted-afterwards (file_checked text) before (stored (file_checked text) (file_table text) before)
          (sym (ap (λ (w : Wrote (List ℕ)). refuses w.answer) e) ∙ r)

      abbrev given : Wrote (List ℕ)
      given = record { answer = a; output = o }

      made : given ≡ record { answer = said; output = splice before 0 (file_table text) }
      made =
          e ∙ passed.1 ∙ fits passed.0
          ∙ ap (λ (x : Answer). record { answer = x; output = splice before 0 (file_table text) }) (right passed.0).1

      -- the options and the nodes
      pub read-options : (told_of a).first ≡ option_count (line_of text 0)
      read-options = ap (λ (w : Wrote (List ℕ)). (told_of w.answer).first) made

      nodes : (told_of a).second ≡ file_nodes text
      nodes = ap (λ (w : Wrote (List ℕ)). (told_of w.answer).second) made

      pub read-few : (told_of a).second ≤ most_nodes
      read-few = omega (arith, nodes, few-nodes text (right passed.0).0)

      pub read-size : length o ≡ most_table
      read-size =
          ap (λ (w : Wrote (List ℕ)). length w.output) made
          ∙ length-splice before 0 (file_table text) (omega (arith, table_fits text (right passed.0).0)) ∙ size

      -- the table
      pub read_table : (n : ℕ) → n ≡ node_bytes * (told_of a).second → take n o ≡ file_table text
      read_table n q =
          ap (λ (w : Wrote (List ℕ)). take n w.output) made
          ∙ take-stored before (file_table text) n (omega (arith, length_records text (file_nodes text), nodes))
