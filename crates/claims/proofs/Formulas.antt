-- Which texts of formulas are accepted, and that the table which is left goes on to other calls and has the truth of the text.
-- Assumes nothing.
use mathlib.Core.Path.{◌≡◌, refl, sym, ap, ◌∙◌, subst}
use mathlib.Core.Bool.{Bool}
use mathlib.Core.List.{List}
use Prim.Native.Nat.{ℕ, ◌*◌, ◌≤◌, ◌<◌, ◌^◌}
use native.Mathlib.Omega.{arith}
use lib.ListN.{length, take, drop}
use lib.Seq.{take-append_seam}
use borrow.Author.Tests.{lt-ltb, le-ltb}
use Rattle.answer.specs.Answers.{told_of, bytes_of, Wrote, stored}
use Rattle.answer.specs.Answers.{accepted_with}
use Rattle.std.specs.Prelude.{Err}
use Rattle.answer.specs.declared.Refusal.TheVariants.{Nodes}
use Rattle.formula.specs.Checks.{checked}
use Rattle.formula.specs.Tables.{node_bytes, most_nodes, nodes_of}
use Rattle.formula.specs.Truths.{formula_true}
use Rattle.satfile.specs.Trees.{Tree, size_of, tree_true, table_of}
use Rattle.satfile.specs.Texts.{Text}
use Rattle.satfile.specs.Calls.{tree_call}
use Rattle.satfile.proofs.Reading.{reads, refuses, one_reading}
use Rattle.satfile.proofs.Tables.{symbols-within, table-length, text_checked, text_true}
use Rattle.claims.specs.Calls.{first, second, over, Check, check_seen, check_guard, ReadSat, sat_seen, sat_text, table_left}
use Rattle.claims.specs.Claims.{Gives, Formulas}
use Rattle.claims.proofs.Answered.{stored-room, first-told, second-told}
use Rattle.claims.proofs.Demands.{demand1, demand2, sat_wrote}

-- what a call with a right part returns and tells, by what it wrote
module _ (c : ReadSat) (p : length (sat_seen c).part ≡ 16) {w : Wrote (List ℕ)} (e : sat_wrote c ≡ w) where
  returns : (sat_seen c).returned ≡ (told_of w.answer).number
  returns = ((demand1.read_sat c).right_part p).0 ∙ ap (λ (x : Wrote (List ℕ)). (told_of x.answer).number) e

  tells : (sat_seen c).told ≡ bytes_of (told_of w.answer)
  tells = ((demand1.read_sat c).right_part p).1 ∙ ap (λ (x : Wrote (List ℕ)). bytes_of (told_of x.answer)) e

-- a text of the grammar
module _ (c : ReadSat) (v : ℕ) (t : Tree) (h : Text v t (sat_text c)) (p : length (sat_seen c).part ≡ 16) where
  many : most_nodes < size_of t → (sat_seen c).returned ≡ 18
  many m =
      let e : tree_call v t (sat_seen c).before ≡ record { answer = Err Nodes; output = (sat_seen c).before } = rw (lt-ltb _ _ m) in
      returns c p (reads v t (sat_text c) (sat_seen c).before h ∙ e)

  accepts : size_of t ≤ most_nodes → node_bytes * size_of t ≤ length (sat_seen c).before → (sat_seen c).returned ≡ 0
  accepts m r =
      let room : length (table_of t) ≤ length (sat_seen c).before = omega (arith, table-length t) in
      let e : tree_call v t (sat_seen c).before ≡ stored (accepted_with v (size_of t)) (table_of t) (sat_seen c).before = rw (le-ltb _ _ m) in
      returns c p
      (reads v t (sat_text c) (sat_seen c).before h ∙ e
      ∙ stored-room (accepted_with v (size_of t)) (table_of t) (sat_seen c).before refl room)

-- a call that returned 0
module _ (c : ReadSat) (z : (sat_seen c).returned ≡ 0) where
  abbrev v : ℕ
  v = (demand2.read_sat c z).0

  abbrev t : Tree
  t = (demand2.read_sat c z).1

  text : Text v t (sat_text c)
  text = (demand2.read_sat c z).2

  few : size_of t ≤ most_nodes
  few = (demand2.read_sat c z).3

  given : Gives (sat_seen c) v (size_of t) (over (table_of t) (sat_seen c).before)
  given = (demand2.read_sat c z).4

  options : first (sat_seen c) ≡ v
  options = first-told given (omega (arith, (symbols-within text).1))

  left : table_left c ≡ table_of t
  left =
      let k : node_bytes * second (sat_seen c) ≡ length (table_of t) =
      ap (λ (n : ℕ). node_bytes * n) (second-told given (omega (arith, few))) ∙ sym (table-length t) in
      ap (λ (n : ℕ). take n (sat_seen c).after) k ∙ ap (take (length (table_of t))) given.outputs
      ∙ take-append_seam (table_of t) (drop (length (table_of t)) (sat_seen c).before)

  passes : (d : Check) → (check_guard d).table ≡ table_left c → (check_guard d).options ≡ first (sat_seen c) → length (check_seen d).part ≡ 16
      → (check_seen d).returned ≡ 0
  passes d e f p =
      let same : checked (check_guard d).table (check_guard d).options ≡ accepted_with 0 0 =
      (λ i. checked ((e ∙ left) i) ((f ∙ options) i)) ∙ text_checked text few in
      ((demand1.check d).right_part p).0 ∙ ap (λ a. (told_of a).number) same

  true_of : (w : ℕ) (u : Tree) → Text w u (sat_text c) → (ρ : ℕ → Bool) → formula_true ρ (nodes_of (table_left c)) ≡ tree_true ρ u
  true_of w u h ρ =
      ap (λ (l : List ℕ). formula_true ρ (nodes_of l)) left ∙ text_true text few ρ
      ∙ ap (tree_true ρ) (one_reading v w t u (sat_text c) text h).1

pub formulas : Formulas
formulas = record {
  accepts = λ c v t h m r p. accepts c v t h p m r;
  many = λ c v t h m p. many c v t h p m;
  refuses = λ c k n l p. let e = refuses (sat_text c) (sat_seen c).before k n l in (returns c p e, tells c p e);
  passes = λ c d z. passes c z d;
  true = true_of;
}
