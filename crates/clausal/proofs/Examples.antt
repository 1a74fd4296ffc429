-- R14: the marked examples of the rules, in one table under one statement.
-- Assumes nothing.
use mathlib.Core.List.{List, [], ◌∷◌, ◌++◌}
use Prim.Native.Nat.{ℕ}
use lib.Dec.{T}
use Rattle.laws.specs.Lists.{first_from, up_to}
use Rattle.marks.specs.Marks.{down_from}
use Rattle.clausal.specs.Choosing.{visits_from}
use Rattle.clausal.specs.Clauses.{renamed_below}
use Rattle.clausal.specs.Output.{definitions}
use Rattle.clausal.proofs.Notation.{nothing, renamed, allowed, Example, all, holds, p, n, false-node, true-node, symbol, not_of}
use Rattle.clausal.proofs.Notation.{and_of, or_of, implies_of, equivalent_of}

-- E = s1 equivalent s2, root E equivalent E, shared
abbrev seven : List ℕ
seven = symbol 1 ++ symbol 2 ++ equivalent_of 0 1 ++ equivalent_of 2 2

-- not (s1 and s2)
abbrev eight : List ℕ
eight = symbol 1 ++ symbol 2 ++ and_of 0 1 ++ not_of 2

-- (s1 and s2) or (s3 and s4), or (s5 and s6), left-nested
abbrev nine : List ℕ
nine =
    symbol 1 ++ symbol 2 ++ symbol 3 ++ symbol 4 ++ symbol 5 ++ symbol 6
    ++ and_of 0 1 ++ and_of 2 3 ++ or_of 6 7 ++ and_of 4 5 ++ or_of 8 9

-- 9 with (s7 and s8) behind it in the same way: of four joined lists two are worth renaming
abbrev ten : List ℕ
ten =
    symbol 1 ++ symbol 2 ++ symbol 3 ++ symbol 4 ++ symbol 5 ++ symbol 6 ++ symbol 7 ++ symbol 8
    ++ and_of 0 1 ++ and_of 2 3 ++ or_of 8 9 ++ and_of 4 5 ++ or_of 10 11 ++ and_of 6 7 ++ or_of 12 13

abbrev pub examples : List Example
examples =
    -- 1: symbol 1
    record {
      table = symbol 1;
      options = 1;
      given = nothing;
      set = 0 ∷ [];
      variables = 1;
      output = (p 1 ∷ []) ∷ [];
      clauses = 1;
      literals = 1;
      bytes = 8;
      first = 1 ∷ 0 ∷ 0 ∷ 0 ∷ 0 ∷ 0 ∷ 0 ∷ 0 ∷ [];
    }
    -- 2: true
    ∷ record {
      table = true-node;
      options = 0;
      given = nothing;
      set = 0 ∷ [];
      variables = 0;
      output = [];
      clauses = 0;
      literals = 0;
      bytes = 0;
      first = [];
    }
    -- 3: false
    ∷ record {
      table = false-node;
      options = 0;
      given = nothing;
      set = 0 ∷ [];
      variables = 0;
      output = [] ∷ [];
      clauses = 1;
      literals = 0;
      bytes = 4;
      first = 0 ∷ 0 ∷ 0 ∷ 0 ∷ [];
    }
    -- 4: not true
    ∷ record {
      table = true-node ++ not_of 0;
      options = 0;
      given = nothing;
      set = 0 ∷ 0 ∷ [];
      variables = 0;
      output = [] ∷ [];
      clauses = 1;
      literals = 0;
      bytes = 4;
      first = 0 ∷ 0 ∷ 0 ∷ 0 ∷ [];
    }
    -- 5: s1 implies (s2 and s3)
    ∷ record {
      table = symbol 1 ++ symbol 2 ++ symbol 3 ++ and_of 1 2 ++ implies_of 0 3;
      options = 3;
      given = nothing;
      set = 0 ∷ 0 ∷ 0 ∷ 0 ∷ 0 ∷ [];
      variables = 3;
      output = (n 1 ∷ p 2 ∷ []) ∷ (n 1 ∷ p 3 ∷ []) ∷ [];
      clauses = 2;
      literals = 4;
      bytes = 24;
      first = 255 ∷ 255 ∷ 255 ∷ 255 ∷ 2 ∷ 0 ∷ 0 ∷ 0 ∷ 0 ∷ 0 ∷ 0 ∷ 0 ∷ [];
    }
    -- 6: not (s1 equivalent s2)
    ∷ record {
      table = symbol 1 ++ symbol 2 ++ equivalent_of 0 1 ++ not_of 2;
      options = 2;
      given = nothing;
      set = 0 ∷ 0 ∷ 0 ∷ 0 ∷ [];
      variables = 2;
      output = (n 1 ∷ n 2 ∷ []) ∷ (p 1 ∷ p 2 ∷ []) ∷ [];
      clauses = 2;
      literals = 4;
      bytes = 24;
      first = [];
    }
    -- 7: nothing renamed
    ∷ record {
      table = seven;
      options = 2;
      given = nothing;
      set = 0 ∷ 0 ∷ 0 ∷ 0 ∷ [];
      variables = 2;
      output =
          (n 1 ∷ n 2 ∷ n 1 ∷ p 2 ∷ []) ∷ (n 1 ∷ n 2 ∷ n 2 ∷ p 1 ∷ []) ∷ (p 1 ∷ p 2 ∷ n 1 ∷ p 2 ∷ []) ∷
          (p 1 ∷ p 2 ∷ n 2 ∷ p 1 ∷ []) ∷ (n 1 ∷ n 2 ∷ n 1 ∷ p 2 ∷ []) ∷ (n 1 ∷ n 2 ∷ n 2 ∷ p 1 ∷ []) ∷
          (p 1 ∷ p 2 ∷ n 1 ∷ p 2 ∷ []) ∷ (p 1 ∷ p 2 ∷ n 2 ∷ p 1 ∷ []) ∷ [];
      clauses = 8;
      literals = 32;
      bytes = 160;
      first = [];
    }
    -- 7: E renamed
    ∷ record {
      table = seven;
      options = 2;
      given = renamed (0 ∷ 0 ∷ 1 ∷ 0 ∷ []);
      set = 0 ∷ 0 ∷ 1 ∷ 0 ∷ [];
      variables = 3;
      output =
          (n 3 ∷ p 3 ∷ []) ∷ (n 3 ∷ p 3 ∷ []) ∷ (n 3 ∷ n 1 ∷ p 2 ∷ []) ∷ (n 3 ∷ n 2 ∷ p 1 ∷ []) ∷
          (n 1 ∷ n 2 ∷ p 3 ∷ []) ∷ (p 1 ∷ p 2 ∷ p 3 ∷ []) ∷ [];
      clauses = 6;
      literals = 16;
      bytes = 88;
      first = [];
    }
    -- 8: the and renamed
    ∷ record {
      table = eight;
      options = 2;
      given = renamed (0 ∷ 0 ∷ 1 ∷ 0 ∷ []);
      set = 0 ∷ 0 ∷ 1 ∷ 0 ∷ [];
      variables = 3;
      output = (n 3 ∷ []) ∷ (n 1 ∷ n 2 ∷ p 3 ∷ []) ∷ [];
      clauses = 2;
      literals = 4;
      bytes = 24;
      first =
          253 ∷ 255 ∷ 255 ∷ 255 ∷ 0 ∷ 0 ∷ 0 ∷ 0 ∷ 255 ∷ 255 ∷ 255 ∷ 255 ∷ 254 ∷ 255 ∷ 255 ∷ 255 ∷ 3 ∷ 0 ∷ 0 ∷
          0 ∷ 0 ∷ 0 ∷ 0 ∷ 0 ∷ [];
    }
    -- 8 with more options than occur: the helper comes after V, not after the highest symbol
    ∷ record {
      table = eight;
      options = 9;
      given = renamed (0 ∷ 0 ∷ 1 ∷ 0 ∷ []);
      set = 0 ∷ 0 ∷ 1 ∷ 0 ∷ [];
      variables = 10;
      output = (n 10 ∷ []) ∷ (n 1 ∷ n 2 ∷ p 10 ∷ []) ∷ [];
      clauses = 2;
      literals = 4;
      bytes = 24;
      first = 246 ∷ 255 ∷ 255 ∷ 255 ∷ 0 ∷ 0 ∷ 0 ∷ 0 ∷ [];
    }
    -- 9: nothing renamed
    ∷ record {
      table = nine;
      options = 6;
      given = nothing;
      set = 0 ∷ 0 ∷ 0 ∷ 0 ∷ 0 ∷ 0 ∷ 0 ∷ 0 ∷ 0 ∷ 0 ∷ 0 ∷ [];
      variables = 6;
      output =
          (p 1 ∷ p 3 ∷ p 5 ∷ []) ∷ (p 1 ∷ p 3 ∷ p 6 ∷ []) ∷ (p 1 ∷ p 4 ∷ p 5 ∷ []) ∷ (p 1 ∷ p 4 ∷ p 6 ∷ []) ∷
          (p 2 ∷ p 3 ∷ p 5 ∷ []) ∷ (p 2 ∷ p 3 ∷ p 6 ∷ []) ∷ (p 2 ∷ p 4 ∷ p 5 ∷ []) ∷ (p 2 ∷ p 4 ∷ p 6 ∷ []) ∷ [];
      clauses = 8;
      literals = 24;
      bytes = 128;
      first = [];
    }
    -- 9: allowance 11 picks node 9 only
    ∷ record {
      table = nine;
      options = 6;
      given = allowed 11;
      set = 0 ∷ 0 ∷ 0 ∷ 0 ∷ 0 ∷ 0 ∷ 0 ∷ 0 ∷ 0 ∷ 1 ∷ 0 ∷ [];
      variables = 7;
      output =
          (p 1 ∷ p 3 ∷ p 7 ∷ []) ∷ (p 1 ∷ p 4 ∷ p 7 ∷ []) ∷ (p 2 ∷ p 3 ∷ p 7 ∷ []) ∷ (p 2 ∷ p 4 ∷ p 7 ∷ []) ∷
          (n 7 ∷ p 5 ∷ []) ∷ (n 7 ∷ p 6 ∷ []) ∷ [];
      clauses = 6;
      literals = 16;
      bytes = 88;
      first = [];
    }
    -- 9: allowance 0 picks none
    ∷ record {
      table = nine;
      options = 6;
      given = allowed 0;
      set = 0 ∷ 0 ∷ 0 ∷ 0 ∷ 0 ∷ 0 ∷ 0 ∷ 0 ∷ 0 ∷ 0 ∷ 0 ∷ [];
      variables = 6;
      output =
          (p 1 ∷ p 3 ∷ p 5 ∷ []) ∷ (p 1 ∷ p 3 ∷ p 6 ∷ []) ∷ (p 1 ∷ p 4 ∷ p 5 ∷ []) ∷ (p 1 ∷ p 4 ∷ p 6 ∷ []) ∷
          (p 2 ∷ p 3 ∷ p 5 ∷ []) ∷ (p 2 ∷ p 3 ∷ p 6 ∷ []) ∷ (p 2 ∷ p 4 ∷ p 5 ∷ []) ∷ (p 2 ∷ p 4 ∷ p 6 ∷ []) ∷ [];
      clauses = 8;
      literals = 24;
      bytes = 128;
      first = [];
    }
    -- 9 with two nodes renamed: helpers in rising node number
    ∷ record {
      table = nine;
      options = 6;
      given = renamed (0 ∷ 0 ∷ 0 ∷ 0 ∷ 0 ∷ 0 ∷ 1 ∷ 1 ∷ 0 ∷ 0 ∷ 0 ∷ []);
      set = 0 ∷ 0 ∷ 0 ∷ 0 ∷ 0 ∷ 0 ∷ 1 ∷ 1 ∷ 0 ∷ 0 ∷ 0 ∷ [];
      variables = 8;
      output =
          (p 7 ∷ p 8 ∷ p 5 ∷ []) ∷ (p 7 ∷ p 8 ∷ p 6 ∷ []) ∷ (n 7 ∷ p 1 ∷ []) ∷ (n 7 ∷ p 2 ∷ []) ∷
          (n 8 ∷ p 3 ∷ []) ∷ (n 8 ∷ p 4 ∷ []) ∷ [];
      clauses = 6;
      literals = 14;
      bytes = 80;
      first = [];
    }
    -- two picks: after the highest node that may be renamed others are tried
    ∷ record {
      table = ten;
      options = 8;
      given = allowed 15;
      set = 0 ∷ 0 ∷ 0 ∷ 0 ∷ 0 ∷ 0 ∷ 0 ∷ 0 ∷ 0 ∷ 0 ∷ 0 ∷ 1 ∷ 0 ∷ 1 ∷ 0 ∷ [];
      variables = 10;
      output =
          (p 1 ∷ p 3 ∷ p 9 ∷ p 10 ∷ []) ∷ (p 1 ∷ p 4 ∷ p 9 ∷ p 10 ∷ []) ∷ (p 2 ∷ p 3 ∷ p 9 ∷ p 10 ∷ []) ∷
          (p 2 ∷ p 4 ∷ p 9 ∷ p 10 ∷ []) ∷ (n 9 ∷ p 5 ∷ []) ∷ (n 9 ∷ p 6 ∷ []) ∷ (n 10 ∷ p 7 ∷ []) ∷ (n 10 ∷ p 8 ∷ []) ∷ [];
      clauses = 8;
      literals = 24;
      bytes = 128;
      first = [];
    }
    ∷ []

pub examples_hold : T (all holds examples)
unfolding up_to first_from down_from renamed_below definitions visits_from
examples_hold = tt
