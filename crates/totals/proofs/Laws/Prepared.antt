-- What is prepared for calls that go on from a table and a set: where the set is refused, and where it is right.
-- Assumes nothing.
use mathlib.Core.Path.{◌≡◌, refl, sym, ap, ◌∙◌}
use mathlib.Core.Bool.{Bool, true, false}
use mathlib.Core.List.{List}
use Prim.Native.Nat.{ℕ}
use native.Mathlib.Omega.{arith}
use lib.ListN.{length}
use Rattle.std.specs.Prelude.{Result, Ok, Err}
use Rattle.answer.specs.Answers.{Answer, accepted_with, refuses}
use Rattle.answer.specs.declared.Refusal.{Refusal}
use Rattle.formula.specs.Tables.{node_count, nodes_of}
use Rattle.formula.proofs.Laws.Tables.{length-nodes_of}
use Rattle.marks.specs.Sets.{set_checked}
use Rattle.marks.proofs.Laws.Sets.{set-accepted}
use Rattle.clausal.specs.Clauses.{renaming}
use Rattle.clausal.specs.Totals.{totals}
use Rattle.capped.specs.Inner.Sized.{as_total}
use Rattle.capped.specs.declared.total.Total.{Total}
use Rattle.totals.specs.Inner.Columns.{Ready, Fillable}
use Rattle.totals.specs.Inner.Prepared.{Blank, total_after, Prepares}
use Rattle.totals.proofs.Laws.Columns.{ready-start, ready-clauses, ready-literals}

-- the rows can be filled in from the first node on
pub fillable : (t s marks : List ℕ) (cs ls : List (List ℕ)) → Blank t marks cs ls → Fillable t s 0 cs ls
fillable t s marks cs ls blank = record {
  most = blank.size.most;
  within = omega arith;
  ready = rw (blank.clauses, blank.literals) (ready-start s (nodes_of t));
}

-- all that is prepared is settled
module _ (t s : List ℕ) (p q : Result Total Refusal) (marks others : List ℕ) (cs ls ds ms : List (List ℕ)) (a : Prepares t s p marks cs ls)
    (b : Prepares t s q others ds ms) where
  pub prepared-same : p ≡ q
  prepared-same = a.result ∙ sym b.result

  pub marks_same : marks ≡ others
  marks_same = a.marked.are ∙ sym b.marked.are

  columns : (z : Bool) → refuses (set_checked (nodes_of t) s) ≡ z → (cs ≡ ds) × (ls ≡ ms)
  columns true e = ((a.kept e).0 ∙ sym (b.kept e).0, (a.kept e).1 ∙ sym (b.kept e).1)
  columns false e =
      let n : length (nodes_of t) ≡ node_count t = length-nodes_of t in (
        ready-clauses s (nodes_of t) (node_count t) (omega arith) cs ls ds ms (a.ready e) (b.ready e),
        ready-literals s (nodes_of t) (node_count t) (omega arith) cs ls ds ms (a.ready e) (b.ready e),
      )

  pub clauses_same : cs ≡ ds
  clauses_same = (columns (refuses (set_checked (nodes_of t) s)) refl).0

  pub literals-same : ls ≡ ms
  literals-same = (columns (refuses (set_checked (nodes_of t) s)) refl).1

-- what a caller reads off
module _ (t s : List ℕ) (p : Result Total Refusal) (marks : List ℕ) (cs ls : List (List ℕ)) (a : Prepares t s p marks cs ls) where
  -- a refusal is the set's
  pub prepared-refused : (r : Refusal) → p ≡ Err r → set_checked (nodes_of t) s ≡ Err r
  prepared-refused r e = go (set_checked (nodes_of t) s) (sym a.result ∙ e)
    where
      go : (b : Answer) → total_after b (as_total (totals (renaming 0 s) (nodes_of t))) ≡ Err r → b ≡ Err r
      go (Ok x) f = cc
      go (Err q) f = cc

  -- where totals are given, the set is right
  pub prepared-right : (sum : Total) → p ≡ Ok sum → set_checked (nodes_of t) s ≡ accepted_with 0 0
  prepared-right sum e = set-accepted (nodes_of t) s (go (set_checked (nodes_of t) s) (sym a.result ∙ e))
    where
      go : (b : Answer) → total_after b (as_total (totals (renaming 0 s) (nodes_of t))) ≡ Ok sum → refuses b ≡ false
      go (Ok x) f = refl
      go (Err q) f = cc

  pub sum_is : (sum : Total) → p ≡ Ok sum → sum ≡ as_total (totals (renaming 0 s) (nodes_of t))
  sum_is sum e = go (set_checked (nodes_of t) s) (sym a.result ∙ e)
    where
      go : (b : Answer) → total_after b (as_total (totals (renaming 0 s) (nodes_of t))) ≡ Ok sum
          → sum ≡ as_total (totals (renaming 0 s) (nodes_of t))
      go (Ok x) f = cc
      go (Err q) f = cc

  -- .. and the rows are there
  pub ready_is : (sum : Total) → p ≡ Ok sum → Ready s (nodes_of t) (node_count t) cs ls
  ready_is sum e = a.ready (ap refuses (prepared-right sum e))
