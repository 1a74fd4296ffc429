-- R21.17 to R21.20: what the call gives for the formula of an accepted text.
-- Assumes nothing: these are definitions.
use Rattle.std.specs.Prelude.{cond, List, ℕ, ltb}
use Rattle.answer.specs.Answers.{Wrote, stored}
use Rattle.answer.specs.Answers.{accepted_with}
use Rattle.std.specs.Prelude.{Err}
use Rattle.answer.specs.declared.Refusal.TheVariants.{Nodes}
use Rattle.formula.specs.Tables.{most_nodes}
use Rattle.satfile.specs.Trees.{Tree, size_of, table_of}

-- R21.17 to R21.20: a formula over v options and the buffer for its table: refusal 18, then 7
abbrev pub tree_call : ℕ → Tree → List ℕ → Wrote (List ℕ)
tree_call v t buffer =
    cond (ltb most_nodes (size_of t))
    (record { answer = Err Nodes; output = buffer })
    (stored (accepted_with v (size_of t)) (table_of t) buffer)
