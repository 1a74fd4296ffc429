-- R3.10, R3.11, R12.8, R15.9, R15.10: truth of clauses, rows with helpers, and where a variable of the output comes from.
-- Assumes nothing: these are definitions.
use Rattle.std.specs.Prelude.{Bool, true, false, ◌&&◌, ◌||◌, List, [], ◌∷◌, ◌≡◌, ℕ, ◌<◌, ◌≤◌, length}
use Rattle.std.specs.Bool.{beq}
use Rattle.marks.specs.Sets.{renamed}
use Rattle.formula.specs.Truths.{truth_of}
use Rattle.clausal.specs.Clauses.{Literal, Clause, Renaming, helper_of}
use Rattle.formula.specs.declared.node.Node.{Node}
use Rattle.laws.specs.Lists.{Every}
use Rattle.formula.specs.Tables.{node_in}
use Rattle.formula.specs.declared.node.Kind.TheVariants.{Symbol}

-- a plain literal is true where its variable is, a negated one where it is not
abbrev pub literal_true : (ℕ → Bool) → Literal → Bool
literal_true ρ l = beq l.plain (ρ l.variable)

-- a clause is true where one of its literals is
abbrev pub clause_true : (ℕ → Bool) → Clause → Bool
clause_true ρ [] = false
clause_true ρ (l ∷ c) = literal_true ρ l || clause_true ρ c

-- a row satisfies a clause list where all its clauses are true
abbrev pub satisfies : (ℕ → Bool) → List Clause → Bool
satisfies ρ [] = true
satisfies ρ (c ∷ cs) = clause_true ρ c && satisfies ρ cs

-- R15.10: τ has the values of ρ on the options 1 to V, and each helper at its node's truth in ρ
pub record Extends (v : ℕ) (u : Renaming) (ns : List Node) (ρ τ : ℕ → Bool) : Type 0 where
  pub options : (x : ℕ) → 0 < x → x ≤ v → τ x ≡ ρ x
  pub helpers : (i : ℕ) → i < length ns → renamed u.set i ≡ true → τ (helper_of u i) ≡ truth_of ρ ns i

-- a variable is an option, the symbol of a node of the table; or it is the helper of a renamed node; and nothing else
pub data Origin (u : Renaming) (ns : List Node) : ℕ → Type 0 where
  option : (i : ℕ) → (node_in ns i).kind ≡ Symbol → Origin u ns (node_in ns i).a
  helper : (i : ℕ) → renamed u.set i ≡ true → Origin u ns (helper_of u i)

-- every literal of every clause has a variable with an origin
abbrev pub Named : Renaming → List Node → List Clause → Type 0
Named u ns cs = Every (Every (λ l. Origin u ns l.variable)) cs
