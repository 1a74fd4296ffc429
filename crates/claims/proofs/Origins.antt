-- Demands 1 and 2 of the calls for lines: what both pass in the same order, and then of each.
-- Assumes nothing.
use mathlib.Core.Path.{◌≡◌, refl, sym, ◌∙◌}
use mathlib.Core.Bool.{Bool, true, false, cond, ◌&&◌}
use mathlib.Core.List.{List}
use Prim.Native.Nat.{ℕ, ◌<◌}
use lib.Dec.{ltb}
use lib.ListN.{length}
use borrow.Author.Tests.{ltb-true}
use Rattle.answer.specs.Answers.{refuses, Wrote, afterwards, stored}
use Rattle.answer.specs.Answers.{Answer}
use Rattle.answer.specs.Answers.{accepted_with}
use Rattle.std.specs.Prelude.{Err}
use Rattle.answer.specs.declared.Refusal.TheVariants.{NoClause, Names}
use Rattle.answer.proofs.Laws.Order.{Kept, kept-afterwards, kept-stored, accepted-afterwards}
use Rattle.formula.specs.Checks.{checked}
use Rattle.formula.specs.Tables.{nodes_of}
use Rattle.formula.specs.declared.node.Node.{Node}
use Rattle.formula.proofs.Laws.WellFormed.{checked-accepted}
use Rattle.marks.specs.Sets.{set_checked}
use Rattle.marks.proofs.Laws.Sets.{set-accepted}
use Rattle.clausal.specs.Calls.{ceilings}
use Rattle.clausal.specs.Clauses.{Renaming, renaming, renamed_below, variables_of}
use Rattle.clausal.specs.Output.{output_of}
use Rattle.clausal.specs.Totals.{size_of}
use Rattle.names.specs.Names.{right_names, name_of}
use Rattle.origin.specs.Calls.{clause_checked, names_checked, shown_with, counted, origin_call, origins_call}
use Rattle.origin.specs.Origins.{line_of, lines_of}
use Rattle.claims.specs.Calls.{Guard, nodes, names, over}
use Rattle.claims.proofs.Answered.{not-both, passed, stored-over}

-- what a call for lines that accepts has passed and written; `Asked` is what it found of the number of a clause, where one was given
pub record Told (g : Guard) (Asked : Type 0) (on hn lines before : List ℕ) (w : Wrote (List ℕ)) : Type 0 where
  pub table : checked g.table g.options ≡ accepted_with 0 0
  pub set : set_checked (nodes g) g.set ≡ accepted_with 0 0
  pub sizes : refuses (ceilings (size_of (output_of (names g) (nodes g)))) ≡ false
  pub clause : Asked
  pub options : right_names g.options on ≡ true
  pub helpers : right_names (renamed_below g.set (length (nodes g))) hn ≡ true
  pub wrote : w ≡ record {
    answer = accepted_with (variables_of (names g) (length (nodes g))) (length (output_of (names g) (nodes g)));
    output = over lines before;
  }

-- the two checks that lines have of their own
clause-below : (count k : ℕ) → refuses (clause_checked count k) ≡ false → k < count
clause-below count k e = ltb-true k count (go (ltb k count) e)
  where
    go : (b : Bool) → refuses (cond b (accepted_with 0 0) (Err (NoClause k))) ≡ false → b ≡ true
    go true f = refl
    go false f = not-both (sym f)

both_right : (a b : Bool) → refuses (cond (a && b) (accepted_with 0 0) (Err Names)) ≡ false → (a ≡ true) × (b ≡ true)
both_right true true e = (refl, refl)
both_right true false e = not-both (sym e)
both_right false b e = not-both (sym e)

-- the order that both calls have; a is the answer about the number of a clause, an acceptance where none was given
module _ (t : List ℕ) (v : ℕ) (s : List ℕ) (a : Answer) (on hn lines before : List ℕ) where
  abbrev guard : Guard
  guard = record { table = t; options = v; taken = v; set = s }

  abbrev u : Renaming
  u = renaming v s

  abbrev ns : List Node
  ns = nodes_of t

  abbrev stores : Wrote (List ℕ)
  stores = stored (accepted_with (variables_of u (length ns)) (length (output_of u ns))) lines before

  abbrev shown : Wrote (List ℕ)
  shown = shown_with u ns on hn lines before

  abbrev numbered : Wrote (List ℕ)
  numbered = afterwards a before shown

  abbrev sized : Wrote (List ℕ)
  sized = afterwards (ceilings (size_of (output_of u ns))) before numbered

  abbrev lined : Wrote (List ℕ)
  lined = afterwards (checked t v) before (counted u ns before numbered)

  lined_kept : Kept before lined
  lined_kept =
      kept-afterwards (checked t v) before _
      (kept-afterwards (set_checked ns s) before _
      (kept-afterwards (ceilings (size_of (output_of u ns))) before _
      (kept-afterwards a before _
      (kept-afterwards (names_checked u ns on hn) before stores (kept-stored _ lines before refl)))))

  lined_told : (Asked : Type 0) → (refuses a ≡ false → Asked) → refuses lined.answer ≡ false → Told guard Asked on hn lines before lined
  lined_told Asked asked e =
      let table = accepted-afterwards (checked t v) before (counted u ns before numbered) e in
      let set = accepted-afterwards (set_checked ns s) before sized (passed table.1 e) in
      let sizes = accepted-afterwards (ceilings (size_of (output_of u ns))) before numbered (passed (table.1 ∙ set.1) e) in
      let far = table.1 ∙ set.1 ∙ sizes.1 in
      let clause = accepted-afterwards a before shown (passed far e) in
      let listed = accepted-afterwards (names_checked u ns on hn) before stores (passed (far ∙ clause.1) e) in
      let right = both_right (right_names v on) (right_names (renamed_below s (length ns)) hn) listed.0 in
      let all = far ∙ clause.1 ∙ listed.1 in
      record {
        table = checked-accepted t v table.0;
        set = set-accepted ns s set.0;
        sizes = sizes.0;
        clause = asked clause.0;
        options = right.0;
        helpers = right.1;
        wrote = all ∙ stored-over _ lines before (passed all e);
      }

module _ (t : List ℕ) (v : ℕ) (s : List ℕ) (on hn before : List ℕ) where
  abbrev here : Guard
  here = record { table = t; options = v; taken = v; set = s }

  abbrev count : ℕ
  count = length (output_of (renaming v s) (nodes_of t))

  -- one line
  module _ (k : ℕ) where
    abbrev line : List ℕ
    line = line_of (name_of on hn v) (renaming v s) (nodes_of t) k

    pub origin-kept : Kept before (origin_call t v s k on hn before)
    origin-kept = lined_kept t v s (clause_checked count k) on hn line before

    pub origin-told : refuses (origin_call t v s k on hn before).answer ≡ false
        → Told here (k < count) on hn line before (origin_call t v s k on hn before)
    origin-told = lined_told t v s (clause_checked count k) on hn line before (k < count) (clause-below count k)

  -- all lines
  abbrev all : List ℕ
  all = lines_of (name_of on hn v) (renaming v s) (nodes_of t) count

  pub origins-kept : Kept before (origins_call t v s on hn before)
  origins-kept = lined_kept t v s (accepted_with 0 0) on hn all before

  pub origins-told : refuses (origins_call t v s on hn before).answer ≡ false
      → Told here (Unit {0}) on hn all before (origins_call t v s on hn before)
  origins-told = lined_told t v s (accepted_with 0 0) on hn all before (Unit {0}) (λ e. tt)
