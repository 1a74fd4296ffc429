-- Demand 3 and the naming rule, of the bytes that a conversion leaves: they stand for the clauses of the rules, which mean the formula.
-- Assumes nothing.
use mathlib.Core.Path.{◌≡◌, refl, sym, ap, subst, subst⁻¹}
use mathlib.Core.Bool.{Bool, true, false, cond}
use mathlib.Core.List.{List, ◌∷◌}
use Prim.Native.Nat.{ℕ, ◌≤◌, ◌<◌, ◌-◌}
use native.Mathlib.Omega.{arith}
use lib.Dec.{T, ltb}
use lib.ListN.{length}
use borrow.Author.Tests.{ltb-true}
use Rattle.laws.specs.Lists.{Every}
use Rattle.laws.specs.Lists as lists
use Rattle.answer.specs.Answers.{refuses, Wrote}
use Rattle.answer.specs.Answers.{accepted_with}
use Rattle.std.specs.Prelude.{Err}
use Rattle.answer.specs.declared.Refusal.TheVariants.{Clauses, Literals}
use Rattle.formula.specs.declared.node.Node.{Node}
use Rattle.formula.proofs.Laws.Tables.{length-nodes_of}
use Rattle.formula.proofs.Laws.WellFormed.{length-right}
use Rattle.clausal.specs.Clauses.{Clause, Renaming, variables_of}
use Rattle.clausal.specs.Meanings.{Origin, Named, satisfies}
use Rattle.clausal.specs.Inner.Extended.{extended}
use Rattle.clausal.specs.Output.{output_of}
use Rattle.clausal.specs.Totals.{Size, size_of, clause_ceiling, literal_ceiling}
use Rattle.clausal.proofs.Extended.{extends}
use Rattle.clausal.proofs.Helpers.{helper_above, helper-same}
use Rattle.clausal.proofs.Meaning.{sound, complete_by}
use Rattle.clausal.proofs.Names.{output-named, option_range, variable_range}
use Rattle.clausal.proofs.Truths.{truth_options}
use Rattle.clausebytes.specs.Words as right
use Rattle.clausebytes.specs.Words.{Within, Right}
use Rattle.clausebytes.proofs.Encoded.{clauses_of_bytes, not_wrong_of_right}
use Rattle.clausal.proofs.Renamed.{below_le}
use Rattle.convert.proofs.Laws.Fitted.{sizes-below}
use Rattle.claims.specs.Calls.{Guard, nodes, names}
use Rattle.claims.specs.Claims.{Means, decoded}
use Rattle.claims.proofs.Answered.{not-both}
use Rattle.claims.proofs.Outputs.{Passed}

-- clauses whose variables have an origin are within the variables that are reported
module _ (u : Renaming) (ns : List Node) (n : ℕ) (range : (x : ℕ) → Origin u ns x → (0 < x) × (x ≤ n)) where
  within : {cs : List Clause} → Named u ns cs → Within n cs
  within lists.none = right.none
  within (lists.more {x = c} {xs = cs} e f) = clause e (within f)
    where
      clause : {c : Clause} → Every (λ l. Origin u ns l.variable) c → Within n cs → Within n (c ∷ cs)
      clause lists.none w = right.closed w
      clause (lists.more {x = l} o g) w = let r = range l.variable o in right.literal r.0 r.1 (clause g w)

module _ (g : Guard) (before : List ℕ) (w : Wrote (List ℕ)) (p : Passed g before w) where
  abbrev u : Renaming
  u = names g

  abbrev ns : List Node
  ns = nodes g

  -- R10.7: what is reported fits the limits of DIMACS, and 32 bits
  pub few-variables : variables_of u (length ns) ≤ right.most_variables
  few-variables = omega (
    arith,
    p.most,
    below_le g.set (length ns),
    length-nodes_of g.table,
    (length-right g.table g.options (ap refuses p.table)).most,
  )

  pub right-clauses : Right (variables_of u (length ns)) (output_of u ns)
  right-clauses =
      let b = sizes-below (size_of (output_of u ns)) p.sizes in
      record {
        variables = few-variables;
        clauses = omega (arith, b.0);
        literals = omega (arith, b.1);
        within = within u ns (variables_of u (length ns)) (variable_range g.table g.options u p.table p.set p.least)
            (output-named u ns);
      }

  pub decoded-same : decoded g ≡ output_of u ns
  decoded-same = clauses_of_bytes (variables_of u (length ns)) (output_of u ns) right-clauses

  pub means : Means g
  means = record {
    sound = λ ρ h. sound g.table g.options p.table u ρ (subst (λ (cs : List Clause). T (satisfies ρ cs)) decoded-same h);
    complete = λ ρ τ e h. subst⁻¹ (λ (cs : List Clause). T (satisfies τ cs)) decoded-same
        (complete_by g.table g.options p.table u ρ τ e h);
    extended = λ ρ. (extended ρ u ns, extends ρ u ns g.options p.least);
    dropped = λ ρ τ e. truth_options g.table g.options p.table ρ τ e (length ns - 1);
    named = subst⁻¹ (Named u ns) decoded-same (output-named u ns);
    options = λ i e. let r = option_range g.table g.options p.table i e in (r.1, r.2);
    helpers = λ i e. (omega (arith, p.least, helper_above u i), helper_above u i);
    one = helper-same u;
    writable = not_wrong_of_right (variables_of u (length ns)) (output_of u ns) right-clauses;
  }
