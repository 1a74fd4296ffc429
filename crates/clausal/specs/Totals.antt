-- R7: true totals of clauses and literals, and the same read at their ceilings.
-- Assumes nothing: these are definitions.
use Rattle.std.specs.Prelude.{cond, List, [], ◌∷◌, ℕ, ◌+◌, ◌*◌, ltb, length}
use Rattle.laws.specs.Numbers.{cap}
use Rattle.clausal.specs.Clauses.{Algebra, Clause, Renaming, under}
use Rattle.clausal.specs.Output.{whole_of}
use Rattle.formula.specs.declared.node.Node.{Node}

-- R7.1
pub record Size : Type 0 where
  pub clauses : ℕ
  pub literals : ℕ

-- the totals of a clause list, counted
abbrev pub literals_in : List Clause → ℕ
literals_in [] = 0
literals_in (c ∷ cs) = length c + literals_in cs

abbrev pub size_of : List Clause → Size
size_of cs = record { clauses = length cs; literals = literals_in cs }

-- R7.2: true totals
abbrev pub sizes : Algebra Size
sizes = record {
  none = record { clauses = 0; literals = 0 };
  empty = record { clauses = 1; literals = 0 };
  unit = λ plain v. record { clauses = 1; literals = 1 };
  cat = λ x y. record { clauses = x.clauses + y.clauses; literals = x.literals + y.literals };
  join = λ x y. record { clauses = x.clauses * y.clauses; literals = x.literals * y.clauses + x.clauses * y.literals };
}

-- R7.3, R7.4
abbrev pub clause_ceiling : ℕ
clause_ceiling = 65_535

abbrev pub literal_ceiling : ℕ
literal_ceiling = 1_000_000

-- R7.3 to R7.5
abbrev pub read_at : ℕ → ℕ → Size → Size
read_at most full x = record {
  clauses = cap most x.clauses;
  literals = cond (ltb x.clauses most) (cap full x.literals) full;
}

-- totals read at their ceilings at each step
abbrev pub capped_at : ℕ → ℕ → Algebra Size
capped_at most full = record {
  none = sizes.none;
  empty = sizes.empty;
  unit = sizes.unit;
  cat = λ x y. read_at most full (sizes.cat x y);
  join = λ x y. read_at most full (sizes.join x y);
}

abbrev pub shown : Size → Size
shown x = read_at clause_ceiling literal_ceiling x

abbrev pub capped : Algebra Size
capped = capped_at clause_ceiling literal_ceiling

-- R7.9: the true totals of the output, and the totals as they are reported
abbrev pub true_totals : Renaming → List Node → Size
true_totals u ns = whole_of sizes u ns

abbrev pub totals : Renaming → List Node → Size
totals u ns = whole_of capped u ns

-- the clause total under a set, read at the ceiling
abbrev pub total_under : Renaming → List Node → List ℕ → ℕ
total_under u ns s = (totals (under u s) ns).clauses
