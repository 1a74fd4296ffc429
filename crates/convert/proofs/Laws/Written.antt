-- What is written after the checks: the totals decide, the array of helpers gives the names, and all parts are the output.
-- Assumes nothing.
use mathlib.Core.Path.{◌≡◌, refl, sym, ap, ◌∙◌}
use mathlib.Core.Bool.{false}
use mathlib.Core.List.{List}
use Prim.Native.Nat.{ℕ, ◌^◌, ◌<◌}
use native.Mathlib.Omega.{arith}
use lib.ListN.{length, replicate}
use Rattle.laws.specs.Lists.{splice}
use Rattle.answer.specs.Answers.{refuses, Wrote, afterwards}
use Rattle.answer.specs.Answers.{Answer}
use Rattle.answer.specs.Answers.{accepted_with}
use Rattle.formula.specs.Tables.{most_nodes, node_count, nodes_of}
use Rattle.formula.specs.declared.node.Node.{Node}
use Rattle.marks.proofs.Laws.Sets.{RightSet, right_set}
use Rattle.formula.proofs.Laws.Tables.{length-nodes_of}
use Rattle.clausal.specs.Clauses.{Clause, clauses_bytes, Renaming, renaming, name_of, variables_of, row_of}
use Rattle.clausal.specs.Output.{output_of}
use Rattle.clausal.specs.Totals.{Size, size_of, shown, capped, totals}
use Rattle.clausal.proofs.Options.{row-options, totals-options}
use Rattle.clausal.proofs.Totals.{totals-output}
use Rattle.totals.specs.declared.rows.Columns.{Columns}
use Rattle.totals.proofs.Laws.Columns.{ready-row}
use Rattle.convert.specs.Inner.Fitted.{fitted, written_under, Prepared}
use Rattle.parts.specs.Inner.Helpers.{helpers_of, Unnamed}
use Rattle.walk.specs.Inner.Lists.{names_in}
use Rattle.parts.specs.Inner.Parts.{all_parts, OutputDue}
use Rattle.walk.specs.Inner.Written.{Writable}
use Rattle.walk.specs.declared.nodes.Nodes.{Nodes}
use Rattle.convert.proofs.Laws.Fitted.{fitted-shown, fitted-below, length-bytes, fitted-stored}
use Rattle.parts.proofs.Laws.Output.{written-output, root-plain, names-are}

module _ (t : List ℕ) (taken : ℕ) (marks s : List ℕ) (columns : Columns) (p : Prepared t taken marks s columns) where
  abbrev u : Renaming
  u = renaming taken s

  abbrev ns : List Node
  ns = nodes_of t

  abbrev output : List Clause
  output = output_of u ns

  pub right : RightSet ns s
  right = right_set ns s 0 0 p.settled.set

  pub unnamed : Unnamed taken s (replicate most_nodes 0)
  unnamed = record {
    most = p.settled.convertible.most;
    few = omega (arith, right.size, length-nodes_of t, p.settled.marked.size.most);
    zeros = refl;
  }

  -- with helpers
  module _ (helpers : List ℕ) (h : helpers ≡ helpers_of u (length s)) where
    pub names : names_in helpers ≡ name_of u
    names = names-are u ns helpers (h ∙ ap (helpers_of u) right.size) right.size

    pub parts_are : all_parts (names_in helpers) ns ≡ output
    parts_are =
        ap (λ (name : ℕ → ℕ). all_parts name ns) names
        ∙ written-output u ns (root-plain u ns right (omega (arith, length-nodes_of t, p.settled.marked.size.some)))

  -- the totals of the output, read at their ceilings, decide
  module _ (sum : Size) (whole : sum ≡ totals (renaming 0 s) ns) (before : List ℕ) where
    pub sum_is : sum ≡ shown (size_of output)
    sum_is = whole ∙ sym (totals-options u 0 ns) ∙ totals-output u ns

    pub fits_as_output : (a : Answer) → a ≡ fitted sum (length before) → a ≡ fitted (size_of output) (length before)
    fits_as_output a e = e ∙ ap (λ (x : Size). fitted x (length before)) sum_is ∙ fitted-shown (size_of output) (length before)

    -- variables and clauses are reported
    abbrev pub reported : Wrote (List ℕ)
    reported = record {
      answer = accepted_with (variables_of u (length ns)) (length output);
      output = splice before 0 (clauses_bytes output);
    }

    pub reported-is : (last count : ℕ) (after : List ℕ) → refuses (fitted (size_of output) (length before)) ≡ false
        → last ≡ variables_of u (length s) → count ≡ sum.clauses → after ≡ splice before 0 (clauses_bytes output)
        → ◌≡◌ {A = Wrote (List ℕ)} (record { answer = accepted_with last count; output = after }) reported
    reported-is last count after ok e g f =
        let variables = e ∙ ap (variables_of u) right.size in
        let clauses = g ∙ ap (λ (x : Size). x.clauses) (sum_is ∙ (fitted-below (size_of output) (length before) ok).same) in
        λ i. record { answer = accepted_with (variables i) (clauses i); output = f i }

    pub written-under : afterwards (fitted (size_of output) (length before)) before reported ≡ written_under u ns before
    written-under = fitted-stored (size_of output) reported.answer (clauses_bytes output) before (length-bytes output)

-- nodes as they are lent to the writer, with their helpers
module _ (x : Nodes) (taken : ℕ) (marks s : List ℕ) (p : Prepared x.table.now taken marks s x.columns.now)
    (h : x.helpers.now ≡ helpers_of (renaming taken s) (length s)) where
  abbrev v : Renaming
  v = renaming taken s

  abbrev ms : List Node
  ms = nodes_of x.table.now

  same : all_parts (names_in x.helpers.now) ms ≡ output_of v ms
  same = parts_are x.table.now taken marks s x.columns.now p x.helpers.now h

  pub writable : Writable x
  writable = record {
    options = p.settled.convertible.options;
    right = p.settled.convertible.right;
    rows = λ i.
        ready-row s ms x.columns.now.clauses x.columns.now.literals (node_count x.table.now)
        (omega (arith, length-nodes_of x.table.now)) p.ready i
        ∙ sym (row-options capped (λ plain y z. refl) v 0 ms i)
        ∙ ap (λ (name : ℕ → ℕ). row_of capped name ms i) (sym (names x.table.now taken marks s x.columns.now p x.helpers.now h));
  }

  pub output_due : (before : List ℕ) → length before < 2 ^ 64 → refuses (fitted (size_of (output_of v ms)) (length before)) ≡ false
      → OutputDue x marks before
  output_due before most ok =
      let below = fitted-below (size_of (output_of v ms)) (length before) ok in
      record {
        writable = writable;
        marked = p.settled.marked;
        short = omega (arith, below.clauses, ap length same);
        fits = record {
          most = most;
          room = omega (arith, below.room, length-bytes (output_of v ms), ap (λ (l : List Clause). length (clauses_bytes l)) same);
        };
      }
