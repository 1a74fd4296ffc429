-- Clause counts that the sources state, and totals at the ceilings: each table under one statement.
-- The thesis is Pimenta's "Um algoritmo baseado em programação dinâmica e renomeamento para minimização de formas normais"
-- (Brasília 2016), the draft its version of December 2015, the slides "Forme normali congiuntive e disgiuntive".
-- Their conjunctions of more than two parts are nested to the left here.
-- Assumes nothing.
use mathlib.Core.Bool.{Bool, ◌&&◌}
use mathlib.Core.List.{List, [], ◌∷◌, ◌++◌}
use Prim.Native.Nat.{ℕ, zero, suc, ◌+◌, ◌*◌}
use lib.Dec.{T, eqb}
use lib.ListN.{length}
use Rattle.laws.specs.Lists.{first_from, up_to}
use Rattle.formula.specs.Checks.{checked}
use Rattle.marks.specs.Sets.{set_checked}
use Rattle.marks.specs.Marks.{down_from}
use Rattle.formula.specs.Tables.{nodes_of}
use Rattle.clausal.specs.Clauses.{renamed_below, renaming}
use Rattle.clausal.specs.Output.{definitions, output_of}
use Rattle.clausal.specs.Totals.{true_totals, totals}
use Rattle.clausal.proofs.Notation.{all, accepted, sized, false-node, true-node, symbol, not_of, and_of, or_of, equivalent_of}

-- a table's bytes, V, a set, and the number of clauses
record Count : Type 0 where
  table : List ℕ
  options : ℕ
  set : List ℕ
  clauses : ℕ

abbrev counted : Count → Bool
counted c =
    accepted (checked c.table c.options)
    && accepted (set_checked (nodes_of c.table) c.set)
    && eqb (length (output_of (renaming c.options c.set) (nodes_of c.table))) c.clauses
    && eqb (totals (renaming c.options c.set) (nodes_of c.table)).clauses c.clauses

-- r equivalent s
abbrev equivalence : List ℕ
equivalence = symbol 1 ++ symbol 2 ++ equivalent_of 0 1

-- three conjunctions of two symbols, joined by or
abbrev slide : List ℕ
slide =
    symbol 1 ++ symbol 2 ++ symbol 3 ++ symbol 4 ++ symbol 5 ++ symbol 6 ++ and_of 0 1 ++ and_of 2 3
    ++ or_of 6 7 ++ and_of 4 5 ++ or_of 8 9

-- a conjunction of two symbols or one of two
abbrev two_or_two : List ℕ
two_or_two = symbol 1 ++ symbol 2 ++ symbol 3 ++ symbol 4 ++ and_of 0 1 ++ and_of 2 3 ++ or_of 4 5

-- a conjunction of two symbols or one of three
abbrev two_or_three : List ℕ
two_or_three =
    symbol 1 ++ symbol 2 ++ symbol 3 ++ symbol 4 ++ symbol 5 ++ and_of 0 1 ++ and_of 2 3 ++ and_of 6 4
    ++ or_of 5 7

-- a conjunction of three symbols or one of three
abbrev three_or_three : List ℕ
three_or_three =
    symbol 1 ++ symbol 2 ++ symbol 3 ++ symbol 4 ++ symbol 5 ++ symbol 6 ++ and_of 0 1 ++ and_of 6 2
    ++ and_of 3 4 ++ and_of 8 5 ++ or_of 7 9

-- a conjunction of four symbols or one of two
abbrev four_or_two : List ℕ
four_or_two =
    symbol 1 ++ symbol 2 ++ symbol 3 ++ symbol 4 ++ symbol 5 ++ symbol 6 ++ and_of 0 1 ++ and_of 6 2
    ++ and_of 7 3 ++ and_of 4 5 ++ or_of 8 9

abbrev stated : List Count
stated =
    -- draft, Example 11: r equivalent s has 2 clauses, and so has its negation
    record { table = equivalence; options = 2; set = 0 ∷ 0 ∷ 0 ∷ []; clauses = 2 }
    ∷ record { table = equivalence ++ not_of 2; options = 2; set = 0 ∷ 0 ∷ 0 ∷ 0 ∷ []; clauses = 2 }
    -- draft, Example 11: (r equivalent s) equivalent (r equivalent s) has 8
    ∷ record { table = equivalence ++ equivalent_of 2 2; options = 2; set = 0 ∷ 0 ∷ 0 ∷ 0 ∷ []; clauses = 8 }
    -- slides, "Problemi di Convert1": three conjunctions of two have 8
    ∷ record { table = slide; options = 6; set = 0 ∷ 0 ∷ 0 ∷ 0 ∷ 0 ∷ 0 ∷ 0 ∷ 0 ∷ 0 ∷ 0 ∷ 0 ∷ []; clauses = 8 }
    -- thesis, counterexample to "Afirmação 1": of conjunctions of m and n symbols an or has m · n clauses, m + n with either
    -- renamed, and m + n + 1 with both; two and two symbols
    ∷ record { table = two_or_two; options = 4; set = 0 ∷ 0 ∷ 0 ∷ 0 ∷ 0 ∷ 0 ∷ 0 ∷ []; clauses = 4 }
    ∷ record { table = two_or_two; options = 4; set = 0 ∷ 0 ∷ 0 ∷ 0 ∷ 1 ∷ 0 ∷ 0 ∷ []; clauses = 4 }
    ∷ record { table = two_or_two; options = 4; set = 0 ∷ 0 ∷ 0 ∷ 0 ∷ 0 ∷ 1 ∷ 0 ∷ []; clauses = 4 }
    ∷ record { table = two_or_two; options = 4; set = 0 ∷ 0 ∷ 0 ∷ 0 ∷ 1 ∷ 1 ∷ 0 ∷ []; clauses = 5 }
    -- two and three symbols
    ∷ record { table = two_or_three; options = 5; set = 0 ∷ 0 ∷ 0 ∷ 0 ∷ 0 ∷ 0 ∷ 0 ∷ 0 ∷ 0 ∷ []; clauses = 6 }
    ∷ record { table = two_or_three; options = 5; set = 0 ∷ 0 ∷ 0 ∷ 0 ∷ 0 ∷ 1 ∷ 0 ∷ 0 ∷ 0 ∷ []; clauses = 5 }
    ∷ record { table = two_or_three; options = 5; set = 0 ∷ 0 ∷ 0 ∷ 0 ∷ 0 ∷ 0 ∷ 0 ∷ 1 ∷ 0 ∷ []; clauses = 5 }
    ∷ record { table = two_or_three; options = 5; set = 0 ∷ 0 ∷ 0 ∷ 0 ∷ 0 ∷ 1 ∷ 0 ∷ 1 ∷ 0 ∷ []; clauses = 6 }
    -- three and three symbols: Example 12, and what follows Algorithm 1
    ∷ record { table = three_or_three; options = 6; set = 0 ∷ 0 ∷ 0 ∷ 0 ∷ 0 ∷ 0 ∷ 0 ∷ 0 ∷ 0 ∷ 0 ∷ 0 ∷ []; clauses = 9 }
    ∷ record { table = three_or_three; options = 6; set = 0 ∷ 0 ∷ 0 ∷ 0 ∷ 0 ∷ 0 ∷ 0 ∷ 1 ∷ 0 ∷ 0 ∷ 0 ∷ []; clauses = 6 }
    ∷ record { table = three_or_three; options = 6; set = 0 ∷ 0 ∷ 0 ∷ 0 ∷ 0 ∷ 0 ∷ 0 ∷ 0 ∷ 0 ∷ 1 ∷ 0 ∷ []; clauses = 6 }
    ∷ record { table = three_or_three; options = 6; set = 0 ∷ 0 ∷ 0 ∷ 0 ∷ 0 ∷ 0 ∷ 0 ∷ 1 ∷ 0 ∷ 1 ∷ 0 ∷ []; clauses = 7 }
    -- four and two symbols
    ∷ record { table = four_or_two; options = 6; set = 0 ∷ 0 ∷ 0 ∷ 0 ∷ 0 ∷ 0 ∷ 0 ∷ 0 ∷ 0 ∷ 0 ∷ 0 ∷ []; clauses = 8 }
    ∷ record { table = four_or_two; options = 6; set = 0 ∷ 0 ∷ 0 ∷ 0 ∷ 0 ∷ 0 ∷ 0 ∷ 0 ∷ 1 ∷ 0 ∷ 0 ∷ []; clauses = 6 }
    ∷ record { table = four_or_two; options = 6; set = 0 ∷ 0 ∷ 0 ∷ 0 ∷ 0 ∷ 0 ∷ 0 ∷ 0 ∷ 0 ∷ 1 ∷ 0 ∷ []; clauses = 6 }
    ∷ record { table = four_or_two; options = 6; set = 0 ∷ 0 ∷ 0 ∷ 0 ∷ 0 ∷ 0 ∷ 0 ∷ 0 ∷ 1 ∷ 1 ∷ 0 ∷ []; clauses = 7 }
    ∷ []

pub counts_hold : T (all counted stated)
unfolding up_to first_from down_from renamed_below definitions
counts_hold = tt

-- a table's bytes with V = 1 and nothing renamed, its true totals, and its totals as reported
record Reading : Type 0 where
  table : List ℕ
  clauses : ℕ
  literals : ℕ
  clauses_read : ℕ
  literals_read : ℕ

abbrev read_right : Reading → Bool
read_right r =
    accepted (checked r.table 1)
    && sized r.clauses r.literals (true_totals (renaming 1 []) (nodes_of r.table))
    && sized r.clauses_read r.literals_read (totals (renaming 1 []) (nodes_of r.table))

-- s1, then an or of the node before with itself, k times
abbrev ors : ℕ → List ℕ
ors zero = symbol 1
ors (suc k) = ors k ++ or_of k k

-- s1, then k times an and of the node before with itself, and an and of that with s1
abbrev ands : ℕ → List ℕ
ands zero = symbol 1
ands (suc k) = ands k ++ and_of (2 * k) (2 * k) ++ and_of (2 * k + 1) 0

-- 14 times, and an and of that with itself
abbrev twice : List ℕ
twice = ands 14 ++ and_of 28 28

-- false, then an and of the node before with itself, k times
abbrev falses : ℕ → List ℕ
falses zero = false-node
falses (suc k) = falses k ++ and_of k k

abbrev readings : List Reading
readings =
    -- example 10: 19 times, and 20 times
    record { table = ors 19; clauses = 1; literals = 524_288; clauses_read = 1; literals_read = 524_288 }
    ∷ record { table = ors 20; clauses = 1; literals = 1_048_576; clauses_read = 1; literals_read = 1_000_000 }
    -- example 11: 14 times; and of that with itself; and of that with s1
    ∷ record { table = ands 14; clauses = 32_767; literals = 32_767; clauses_read = 32_767; literals_read = 32_767 }
    ∷ record { table = twice; clauses = 65_534; literals = 65_534; clauses_read = 65_534; literals_read = 65_534 }
    ∷ record { table = twice ++ and_of 29 0; clauses = 65_535; literals = 65_535; clauses_read = 65_535; literals_read = 1_000_000 }
    -- at the clause ceiling no literal total is stated, even where there is no literal
    ∷ record { table = falses 16; clauses = 65_536; literals = 0; clauses_read = 65_535; literals_read = 1_000_000 }
    -- R7.2: a total joined with that of true is 0, however large it is
    ∷ record { table = falses 16 ++ true-node ++ or_of 16 17; clauses = 0; literals = 0; clauses_read = 0; literals_read = 0 }
    ∷ []

pub readings_hold : T (all read_right readings)
unfolding up_to first_from down_from renamed_below definitions
readings_hold = tt
