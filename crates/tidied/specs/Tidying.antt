-- R23.1 to R23.12: which clauses and literals go when clauses are tidied, what is kept, and the lines that tell of it.
-- Assumes nothing: these are definitions.
use Rattle.std.specs.Prelude.{Bool, true, false, cond, not, ◌&&◌, ◌||◌, List, [], ◌∷◌, ◌++◌, ℕ, suc, eqb}
use Rattle.std.specs.Bool.{beq}
use Rattle.text.specs.Texts.{decimal, joined}
use Rattle.clausal.specs.Clauses.{Literal, Clause}

-- R23.2: equal literals
abbrev pub same_literal : Literal → Literal → Bool
same_literal a b = beq a.plain b.plain && eqb a.variable b.variable

-- a clause has a literal
unfoldable pub among : Literal → Clause → Bool
among l [] = false
among l (m ∷ c) = same_literal l m || among l c

-- R23.3: the first of equal literals stays; `seen` has the literals before
unfoldable pub firsts_after : Clause → Clause → Clause
firsts_after seen [] = []
firsts_after seen (l ∷ c) = cond (among l seen) (firsts_after (l ∷ seen) c) (l ∷ firsts_after (l ∷ seen) c)

abbrev pub firsts_of : Clause → Clause
firsts_of c = firsts_after [] c

-- R23.4: the positions of the others, in the clause as it was given; the first literal looked at is at p
unfoldable pub others_after : ℕ → Clause → Clause → List ℕ
others_after p seen [] = []
others_after p seen (l ∷ c) = cond (among l seen) (p ∷ others_after (suc p) (l ∷ seen) c) (others_after (suc p) (l ∷ seen) c)

abbrev pub others_of : Clause → List ℕ
others_of c = others_after 0 [] c

-- R23.5: a clause with a literal and its negation
abbrev pub negation : Literal → Literal
negation l = record { plain = not l.plain; variable = l.variable }

unfoldable pub some_negated : Clause → Clause → Bool
some_negated [] c = false
some_negated (l ∷ ls) c = among (negation l) c || some_negated ls c

abbrev pub is_tautology : Clause → Bool
is_tautology c = some_negated c c

-- R23.6: clauses with the same literals, in any order and each as often as it may be
unfoldable pub all_among : Clause → Clause → Bool
all_among [] c = true
all_among (l ∷ ls) c = among l c && all_among ls c

abbrev pub same_literals : Clause → Clause → Bool
same_literals a b = all_among a b && all_among b a

-- what becomes of a clause
pub data Fate : Type 0 where
  stays : Fate
  tautology : Fate
  repeats : ℕ → Fate

-- a clause that was kept, and its number before tidying
pub record Kept : Type 0 where
  pub number : ℕ
  pub clause : Clause

-- R23.6: it repeats the first of the kept clauses that has the same literals
unfoldable pub compared_with : List Kept → Clause → Fate
compared_with [] c = stays
compared_with (k ∷ ks) c = cond (same_literals k.clause c) (repeats k.number) (compared_with ks c)

-- R23.7: a tautology is looked at before a repeat
abbrev pub fate_after : List Kept → Clause → Fate
fate_after ks c = cond (is_tautology c) tautology (compared_with ks c)

-- the kept clauses, with clause n if it stays
abbrev pub kept_by : Fate → ℕ → Clause → List Kept
kept_by stays n c = record { number = n; clause = c } ∷ []
kept_by tautology n c = []
kept_by (repeats m) n c = []

-- what becomes of the clauses from number n on; ks has the kept ones before
unfoldable pub fates_after : List Kept → ℕ → List Clause → List Fate
fates_after ks n [] = []
fates_after ks n (c ∷ cs) = fate_after ks c ∷ fates_after (ks ++ kept_by (fate_after ks c) n c) (suc n) cs

abbrev pub fates_of : List Clause → List Fate
fates_of cs = fates_after [] 0 cs

-- R23.8: what is kept, in the order in which it was given
abbrev pub kept_of : Fate → Clause → List Clause
kept_of stays c = firsts_of c ∷ []
kept_of tautology c = []
kept_of (repeats m) c = []

unfoldable pub kept_from : List Fate → List Clause → List Clause
kept_from [] cs = []
kept_from (f ∷ fs) [] = []
kept_from (f ∷ fs) (c ∷ cs) = kept_of f c ++ kept_from fs cs

abbrev pub tidied : List Clause → List Clause
tidied cs = kept_from (fates_of cs) cs

-- R23.9: why something went
pub data Cause : Type 0 where
  equal : Cause
  both : Cause
  again : Cause

-- a change: the clause's number, why, and the number that belongs to it
pub record Change : Type 0 where
  pub clause : ℕ
  pub cause : Cause
  pub number : ℕ

abbrev pub literal_changes : ℕ → List ℕ → List Change
literal_changes n [] = []
literal_changes n (p ∷ ps) = record { clause = n; cause = equal; number = p } ∷ literal_changes n ps

-- R23.10, R23.11: a clause that goes has one change only, and a kept one has those of its literals, in rising position
abbrev pub changes_by : ℕ → Fate → Clause → List Change
changes_by n stays c = literal_changes n (others_of c)
changes_by n tautology c = record { clause = n; cause = both; number = 0 } ∷ []
changes_by n (repeats m) c = record { clause = n; cause = again; number = m } ∷ []

unfoldable pub changes_from : ℕ → List Fate → List Clause → List Change
changes_from n [] cs = []
changes_from n (f ∷ fs) [] = []
changes_from n (f ∷ fs) (c ∷ cs) = changes_by n f c ++ changes_from (suc n) fs cs

abbrev pub changes_of : List Clause → List Change
changes_of cs = changes_from 0 (fates_of cs) cs

-- R23.9: `literal`, `tautology`, `repeat`
abbrev pub cause_word : Cause → List ℕ
cause_word equal = 108 ∷ 105 ∷ 116 ∷ 101 ∷ 114 ∷ 97 ∷ 108 ∷ []
cause_word both = 116 ∷ 97 ∷ 117 ∷ 116 ∷ 111 ∷ 108 ∷ 111 ∷ 103 ∷ 121 ∷ []
cause_word again = 114 ∷ 101 ∷ 112 ∷ 101 ∷ 97 ∷ 116 ∷ []

-- R23.9: tabs part the three fields, and a newline ends the line
abbrev pub change_line : Change → List ℕ
change_line x = joined 9 (decimal x.clause ∷ cause_word x.cause ∷ decimal x.number ∷ []) ++ (10 ∷ [])

-- R23.12: the lines of changes, one behind the other
unfoldable pub change_lines : List Change → List ℕ
change_lines [] = []
change_lines (x ∷ xs) = change_line x ++ change_lines xs
