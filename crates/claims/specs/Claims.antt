-- What was asked for, said of the eleven entries over their contracts as the check reads them, in the order of the demands (R15).
-- `Calls` says what a host sees of a call. The proofs are in `proofs/`. Assumes nothing: these are statements.
use Rattle.std.specs.Prelude.{Bool, true, false, List, [], ◌∷◌, ◌++◌, map, ◌≢◌, ◌≡◌, ℕ, ◌*◌, ◌≤◌, ◌<◌, T, length, get_or, take, replicate}
use Rattle.laws.specs.Lists.{Every}
use Rattle.laws.specs.Automata.{Longest}
use Rattle.laws.specs.Numbers.{cap}
use Rattle.answer.specs.Answers.{most_shown, told_of, bytes_of, refused}
use Rattle.answer.specs.Answers.{Answer}
use Rattle.answer.specs.Answers.{accepted_with}
use Rattle.formula.specs.Checks.{length_wrong, checked}
use Rattle.marks.specs.Sets.{renamed}
use Rattle.formula.specs.Tables.{node_bytes, most_nodes, most_options, node_at, node_count, nodes_of, node_in, fault_of}
use Rattle.formula.specs.Truths.{formula_true}
use Rattle.formula.specs.declared.node.Kind.TheVariants.{Symbol}
use Rattle.clausal.specs.Totals.{clause_ceiling, total_under, totals}
use Rattle.clausal.specs.Choosing.{Choice, first_pass, everything, choose}
use Rattle.clausal.specs.Clauses.{Clause, clauses_bytes, helper_of, variables_of}
use Rattle.clausal.specs.Meanings.{Named, satisfies, Extends}
use Rattle.clausal.specs.Output.{Direction, output_of}
use Rattle.clausebytes.specs.Words.{wrong_bytes, clauses_of}
use Rattle.clausal.specs.Calls.{measured, chosen_by, converted, converted_after}
use Rattle.text.specs.Texts.{parted}
use Rattle.names.specs.Names.{tab, newline, name_of}
use Rattle.origin.specs.Origins.{Source, source_of, Comes, fields_of, line_of, lines_of}
use Rattle.origin.specs.Calls.{origin_call, origins_call}
use Rattle.dimacs.specs.Texts.{write_call, Text, written_text}
use Rattle.dimacs.specs.Inner.Calls.{read_call}
use Rattle.satfile.specs.Trees.{Tree, size_of, tree_true, table_of}
use Rattle.satfile.specs.Texts as formula
use Rattle.satfile.specs.Inner.Calls as satfile
use Rattle.tidied.specs.Tidying.{firsts_of, fates_of, tidied, changes_of, change_lines}
use Rattle.tidied.specs.Calls.{tidy_call}
use Rattle.tidied.specs.Orders.{Subsequence}
use Rattle.tidied.specs.Told.{positions_at}
use Rattle.claims.specs.Calls.{Seen, first, second, Guard, nodes, names, Check, check_seen, check_guard, Measure, measure_seen}
use Rattle.claims.specs.Calls.{measure_guard, Choose, choose_seen, choose_guard, allowance, Convert, convert_seen, convert_guard}
use Rattle.claims.specs.Calls.{ConvertAfter, after_seen, after_guard, guards, guard_in, Write, write_seen, clause_bytes, declared, Read}
use Rattle.claims.specs.Calls.{read_seen, text_of, over, Origin, origin_seen, origin_guard, clause_asked, option_names, helper_names}
use Rattle.claims.specs.Calls.{Origins, origins_seen, origins_guard, origins_option_names, origins_helper_names}
use Rattle.claims.specs.Calls.{ReadSat, sat_seen, sat_text, table_left}
use Rattle.claims.specs.Calls.{Tidy, tidy_seen, tidy_bytes, tidy_variables, tidy_clauses, kept_left, lines_left}

-- Demand 1. That every call ends (R15.2) is what the check proves of each entry: its `Statement.statement`, which is the kit's
-- `denote.Triple.Spec.Meets`. No entry has a `requires`, and what never returns meets no such contract (the kit's `no_Contract_hang`).

-- R15.3, R15.4: of a call that has to answer a. A part that is not 16 bytes long is refusal 11, and then no byte changes. Otherwise
-- the number of the table of refusals is returned, and the part has the 16 bytes. A refusal changes no other lent byte
pub record Answers {O : Type 0} (a : Answer) (s : Seen O) : Type 0 where
  pub wrong_part : length s.part ≢ 16 → (s.returned ≡ 11) × (s.told ≡ s.part) × (s.after ≡ s.before)
  pub right_part : length s.part ≡ 16 → (s.returned ≡ (told_of a).number) × (s.told ≡ bytes_of (told_of a))
  pub kept : s.returned ≢ 0 → s.after ≡ s.before

pub record Demand1 : Type 0 where
  pub check : (c : Check) → let g = check_guard c in Answers (checked g.table g.options) (check_seen c)
  pub measure : (c : Measure) → let g = measure_guard c in Answers (measured g.table g.options g.set) (measure_seen c)
  pub choose : (c : Choose) → let g = choose_guard c in
      Answers (chosen_by g.table g.options (allowance c) (choose_seen c).before).answer (choose_seen c)
  pub convert : (c : Convert) → let g = convert_guard c in
      Answers (converted g.table g.options g.set (convert_seen c).before).answer (convert_seen c)
  pub convert_after : (c : ConvertAfter) → let g = after_guard c in
      Answers (converted_after g.table g.options g.taken g.set (after_seen c).before).answer (after_seen c)
  -- R19.12 to R19.14: refusal 15 for the number of no clause, 16 for wrong names, and the order of all
  pub origin : (c : Origin) → let g = origin_guard c in
      Answers (origin_call g.table g.options g.set (clause_asked c) (option_names c) (helper_names c) (origin_seen c).before).answer
      (origin_seen c)
  pub origins : (c : Origins) → let g = origins_guard c in
      Answers (origins_call g.table g.options g.set (origins_option_names c) (origins_helper_names c) (origins_seen c).before).answer
      (origins_seen c)
  pub write : (c : Write) → Answers (write_call (clause_bytes c) (declared c) (write_seen c).before).answer (write_seen c)
  pub read : (c : Read) → Answers (read_call (text_of c) (read_seen c).before).answer (read_seen c)
  -- R21.16 to R21.18: refusal 17 for a text that is wrong, 18 for too many nodes, and 7
  pub read_sat : (c : ReadSat) → Answers (satfile.read_call (sat_text c) (sat_seen c).before).answer (sat_seen c)

-- R10.24: the length of a table and V are right, and its lowest faulty node is j
pub record Faulty (g : Guard) (j : ℕ) : Type 0 where
  pub lengths : length_wrong (length g.table) ≡ false
  pub options : g.options ≤ most_options
  pub within : j < node_count g.table
  pub below : (i : ℕ) → i < j → fault_of g.options i (node_at g.table i) ≡ 0
  pub here : fault_of g.options j (node_at g.table j) ≢ 0

-- a call with a right part returns the fault of node j and tells it with its place, whatever else was handed over
abbrev pub TellsFault : {O : Type 0} → Guard → ℕ → Seen O → Type 0
TellsFault g j s = let fault = fault_of g.options j (node_at g.table j) in
    length s.part ≡ 16 → (s.returned ≡ fault) × (s.told ≡ bytes_of (refused fault j))

-- R10.26: every call that is handed a table passes its fault on
pub record Faults : Type 0 where
  pub check : (c : Check) (j : ℕ) → Faulty (check_guard c) j → TellsFault (check_guard c) j (check_seen c)
  pub measure : (c : Measure) (j : ℕ) → Faulty (measure_guard c) j → TellsFault (measure_guard c) j (measure_seen c)
  pub choose : (c : Choose) (j : ℕ) → Faulty (choose_guard c) j → TellsFault (choose_guard c) j (choose_seen c)
  pub convert : (c : Convert) (j : ℕ) → Faulty (convert_guard c) j → TellsFault (convert_guard c) j (convert_seen c)
  pub convert_after : (c : ConvertAfter) (j : ℕ) → Faulty (after_guard c) j → TellsFault (after_guard c) j (after_seen c)
  pub origin : (c : Origin) (j : ℕ) → Faulty (origin_guard c) j → TellsFault (origin_guard c) j (origin_seen c)
  pub origins : (c : Origins) (j : ℕ) → Faulty (origins_guard c) j → TellsFault (origins_guard c) j (origins_seen c)

-- a call that accepted tells two values, and leaves the outputs so
pub record Gives {O : Type 0} (s : Seen O) (x y : ℕ) (after : O) : Type 0 where
  pub values : s.told ≡ bytes_of (told_of (accepted_with x y))
  pub outputs : s.after ≡ after

-- the bytes of a guard's clauses, and the clauses that these bytes stand for
abbrev pub written : Guard → List ℕ
written g = clauses_bytes (output_of (names g) (nodes g))

abbrev pub decoded : Guard → List Clause
decoded g = clauses_of (written g)

-- Demand 2, R15.5: where 0 is returned, totals, set, clauses, lines, text and table are those of the rules; a text that is read is in
-- the grammar. R6.4, R19.15: what writes clauses or their lines tells the variables and the clauses
abbrev pub Writes : Guard → List ℕ → Seen (List ℕ) → Type 0
Writes g bytes s = Gives s (variables_of (names g) (length (nodes g))) (length (output_of (names g) (nodes g))) (over bytes s.before)

abbrev pub Converts : Guard → Seen (List ℕ) → Type 0
Converts g s = Writes g (written g) s

pub record Demand2 : Type 0 where
  pub check : (c : Check) → (check_seen c).returned ≡ 0 → Gives (check_seen c) 0 0 tt
  pub measure : (c : Measure) → (measure_seen c).returned ≡ 0 → let g = measure_guard c in
      Gives (measure_seen c) (totals (names g) (nodes g)).clauses (totals (names g) (nodes g)).literals tt
  pub choose : (c : Choose) → (choose_seen c).returned ≡ 0 → let g = choose_guard c in
      let d : Choice = choose (allowance c) (names g) (nodes g) in
      Gives (choose_seen c) d.picks (total_under (names g) (nodes g) d.chosen) d.chosen
  pub convert : (c : Convert) → (convert_seen c).returned ≡ 0 → Converts (convert_guard c) (convert_seen c)
  pub convert_after : (c : ConvertAfter) → (after_seen c).returned ≡ 0 → Converts (after_guard c) (after_seen c)
  -- R19.1: the line of the clause that was asked for; R19.6: the lines of all
  pub origin : (c : Origin) → (origin_seen c).returned ≡ 0 → let g = origin_guard c in
      Writes g (line_of (name_of (option_names c) (helper_names c) g.options) (names g) (nodes g) (clause_asked c)) (origin_seen c)
  pub origins : (c : Origins) → (origins_seen c).returned ≡ 0 → let g = origins_guard c in
      let name = name_of (origins_option_names c) (origins_helper_names c) g.options in
      Writes g (lines_of name (names g) (nodes g) (length (output_of (names g) (nodes g)))) (origins_seen c)
  pub write : (c : Write) → (write_seen c).returned ≡ 0 → let cs = clauses_of (clause_bytes c) in
      Gives (write_seen c) (declared c) (length cs) (over (written_text (declared c) cs) (write_seen c).before)
  pub read : (c : Read) → (read_seen c).returned ≡ 0 → (v : ℕ) × (cs : List Clause) × Text v cs (text_of c)
      × Gives (read_seen c) v (length cs) (over (clauses_bytes cs) (read_seen c).before)
  -- R21.9 to R21.14, R21.20: the table of the formula that the text stands for
  pub read_sat : (c : ReadSat) → (sat_seen c).returned ≡ 0 → (v : ℕ) × (t : Tree) × formula.Text v t (sat_text c) × (size_of t ≤ most_nodes)
      × Gives (sat_seen c) v (size_of t) (over (table_of t) (sat_seen c).before)
  -- R15.6: the text that a call has written is read, given room, as the same clause bytes with the same two values
  pub round_trip : (w : Write) (r : Read) → (write_seen w).returned ≡ 0
      → text_of r ≡ take (length (written_text (declared w) (clauses_of (clause_bytes w)))) (write_seen w).after
      → length (clause_bytes w) ≤ length (read_seen r).before → length (read_seen r).part ≡ 16
      → ((read_seen r).returned ≡ 0) × ((read_seen r).told ≡ (write_seen w).told)
      × ((read_seen r).after ≡ over (clause_bytes w) (read_seen r).before)

-- R21.15 to R21.22: which texts of formulas are accepted, and what an accepted call leaves
pub record Formulas : Type 0 where
  -- R21.16, R21.17: with room, a text of the grammar is accepted where its formula has nodes enough, and else it is 18
  pub accepts : (c : ReadSat) (v : ℕ) (t : Tree) → formula.Text v t (sat_text c) → size_of t ≤ most_nodes
      → node_bytes * size_of t ≤ length (sat_seen c).before → length (sat_seen c).part ≡ 16 → (sat_seen c).returned ≡ 0
  pub many : (c : ReadSat) (v : ℕ) (t : Tree) → formula.Text v t (sat_text c) → most_nodes < size_of t → length (sat_seen c).part ≡ 16
      → (sat_seen c).returned ≡ 18
  -- R21.16: any other text is 17, with the length of the longest beginning that it shares with an accepted one
  pub refuses : (c : ReadSat) (k : ℕ) → (formula.Accepted (sat_text c) → ⊥) → Longest formula.Accepted (sat_text c) k
      → length (sat_seen c).part ≡ 16 → ((sat_seen c).returned ≡ 17) × ((sat_seen c).told ≡ bytes_of (refused 17 (cap most_shown k)))
  -- R21.22: the table that is left is accepted with the V that is told
  pub passes : (c : ReadSat) (d : Check) → (sat_seen c).returned ≡ 0 → (check_guard d).table ≡ table_left c
      → (check_guard d).options ≡ first (sat_seen c) → length (check_seen d).part ≡ 16 → (check_seen d).returned ≡ 0
  -- R21.15: in every row the truth of that table is the truth of the text
  pub true : (c : ReadSat) → (sat_seen c).returned ≡ 0 → (v : ℕ) (t : Tree) → formula.Text v t (sat_text c) → (ρ : ℕ → Bool)
      → formula_true ρ (nodes_of (table_left c)) ≡ tree_true ρ t

-- R23.14, R23.16 to R23.20: which buffers are enough, what a call that tidies leaves of the clauses, and what its lines tell
pub record Tidied : Type 0 where
  -- R23.13, R23.14: refusal 9, and 7 where either buffer is short: then neither changes
  pub answers : (c : Tidy) → Answers (tidy_call (tidy_bytes c) (tidy_variables c) (tidy_seen c).before).answer (tidy_seen c)
  -- R23.8, R23.12, R23.15: the kept clauses and the lines, and how many there are of both
  pub gives : (c : Tidy) → (tidy_seen c).returned ≡ 0 → let cs = tidy_clauses c in
      Gives (tidy_seen c) (length (changes_of cs)) (length (tidied cs)) (record {
        kept = over (clauses_bytes (tidied cs)) (tidy_seen c).before.kept;
        lines = over (change_lines (changes_of cs)) (tidy_seen c).before.lines;
      })
  -- R23.16: every row satisfies the kept clauses exactly where it satisfies the given ones
  pub rows : (c : Tidy) → (tidy_seen c).returned ≡ 0 → (ρ : ℕ → Bool)
      → satisfies ρ (clauses_of (kept_left c)) ≡ satisfies ρ (tidy_clauses c)
  -- R23.17: tidied again, given room, they come back unchanged and without a line
  pub again : (c d : Tidy) → (tidy_seen c).returned ≡ 0 → tidy_bytes d ≡ kept_left c → tidy_variables d ≡ tidy_variables c
      → length (kept_left c) ≤ length (tidy_seen d).before.kept → length (tidy_seen d).part ≡ 16
      → ((tidy_seen d).returned ≡ 0)
      × Gives (tidy_seen d) 0 (length (clauses_of (kept_left c))) (record {
        kept = over (kept_left c) (tidy_seen d).before.kept;
        lines = (tidy_seen d).before.lines;
      })
  -- R23.18: they stand in the order of the given ones, and so do the literals in each
  pub clauses : (c : Tidy) → (tidy_seen c).returned ≡ 0 → Subsequence (clauses_of (kept_left c)) (map firsts_of (tidy_clauses c))
  pub literals : (c : Clause) → Subsequence (firsts_of c) c
  -- R23.19: the lines and the number of kept clauses tell which clauses went and why, and the positions of literals that went
  pub told : (c d : Tidy) → (tidy_seen c).returned ≡ 0 → (tidy_seen d).returned ≡ 0 → lines_left c ≡ lines_left d
      → second (tidy_seen c) ≡ second (tidy_seen d)
      → (fates_of (tidy_clauses c) ≡ fates_of (tidy_clauses d)) × ((n : ℕ) → positions_at (tidy_clauses c) n ≡ positions_at (tidy_clauses d) n)
  -- R23.14: a buffer as long as the clause bytes is enough for what is kept, and one of 21 bytes for every four of them for the lines
  pub enough : (c : Tidy) → length (tidy_seen c).part ≡ 16 → wrong_bytes (tidy_bytes c) (tidy_variables c) ≡ false
      → length (tidy_bytes c) ≤ length (tidy_seen c).before.kept → 21 * length (tidy_bytes c) ≤ 4 * length (tidy_seen c).before.lines
      → (tidy_seen c).returned ≡ 0
  -- R23.20: they can be written with the same variables
  pub writable : (c : Tidy) → (tidy_seen c).returned ≡ 0 → wrong_bytes (kept_left c) (tidy_variables c) ≡ false

-- R22.6 to R22.8: which tables the mended rule of choosing reaches, and that none of them has too many clauses under its chosen set
pub record Mended : Type 0 where
  -- R22.6: where the first pass ends below the ceiling, the set is the first pass'
  pub unchanged : (c : Choose) → (choose_seen c).returned ≡ 0 → let g = choose_guard c in
      let d : Choice = first_pass (allowance c) (names g) (nodes g) in total_under (names g) (nodes g) d.chosen < clause_ceiling
      → Gives (choose_seen c) d.picks (total_under (names g) (nodes g) d.chosen) d.chosen
  -- R22.7: at most 1,022 nodes of a table may be renamed
  pub enough : (c : Choose) → (choose_seen c).returned ≡ 0 → (everything (nodes (choose_guard c))).picks ≤ 1_022
  -- R22.8: where all of them are allowed, the total that is told is below the ceiling ..
  pub below : (c : Choose) → (choose_seen c).returned ≡ 0 → (everything (nodes (choose_guard c))).picks ≤ allowance c
      → second (choose_seen c) < clause_ceiling
  -- .. and a conversion of the same table under the set that was left is no refusal 5
  pub converts : (c : Choose) (d : Convert) → (choose_seen c).returned ≡ 0 → (everything (nodes (choose_guard c))).picks ≤ allowance c
      → (convert_guard d).table ≡ (choose_guard c).table → (convert_guard d).options ≡ (choose_guard c).options
      → (convert_guard d).set ≡ (choose_seen c).after → (convert_seen d).returned ≢ 5

-- line j of a buffer, without its newline; and clause k of the bytes that a conversion has left
abbrev pub line_in : List ℕ → ℕ → List ℕ
line_in buffer j = get_or (parted newline buffer) j []

abbrev pub clause_in : Convert → ℕ → Clause
clause_in d k = get_or (clauses_of (take (length (written (convert_guard d))) (convert_seen d).after)) k []

-- the fields that the line of clause k has to have, by the literals of a clause
abbrev pub fields_for : Guard → List ℕ → List ℕ → ℕ → Clause → List (List ℕ)
fields_for g on hn k c = fields_of (name_of on hn g.options) k (source_of (names g) (nodes g) k) c

-- R19.16 to R19.19: what the lines of accepted calls say
pub record Sources : Type 0 where
  -- R19.16: the clause with the line's number, in the part with the line's origin and direction, is the clause that was asked for
  pub comes : (c : Origin) → (origin_seen c).returned ≡ 0 → let g = origin_guard c in
      let s : Source = source_of (names g) (nodes g) (clause_asked c) in
      Comes (names g) (nodes g) (clause_asked c) s.origin s.direction s.number
  -- R19.17: no other origin, direction and number gives that clause, and these three give no other clause
  pub only : (c : Origin) → (origin_seen c).returned ≡ 0 → (node m : ℕ) (way : Direction) → let g = origin_guard c in
      let s : Source = source_of (names g) (nodes g) (clause_asked c) in
      Comes (names g) (nodes g) (clause_asked c) node way m → (node ≡ s.origin) × (way ≡ s.direction) × (m ≡ s.number)
  pub one : (c : Origin) → (origin_seen c).returned ≡ 0 → (j : ℕ) → let g = origin_guard c in
      let s : Source = source_of (names g) (nodes g) (clause_asked c) in
      Comes (names g) (nodes g) j s.origin s.direction s.number → j ≡ clause_asked c
  -- R19.18, R19.19: cut at its tabs, the line in the buffer has its fields, with the literals of that clause in the converted bytes
  pub line : (c : Origin) (d : Convert) → (origin_seen c).returned ≡ 0 → (convert_seen d).returned ≡ 0 → convert_guard d ≡ origin_guard c
      → parted tab (line_in (origin_seen c).after 0)
      ≡ fields_for (origin_guard c) (option_names c) (helper_names c) (clause_asked c) (clause_in d (clause_asked c))
  -- R19.6: so has each of all lines
  pub lines : (c : Origins) (d : Convert) → (origins_seen c).returned ≡ 0 → (convert_seen d).returned ≡ 0
      → convert_guard d ≡ origins_guard c → (k : ℕ) → k < length (output_of (names (origins_guard c)) (nodes (origins_guard c)))
      → parted tab (line_in (origins_seen c).after k)
      ≡ fields_for (origins_guard c) (origins_option_names c) (origins_helper_names c) k (clause_in d k)

-- Demand 3 of clauses, and the naming rule (R3.10, R3.11, R12.8): what the clauses in the bytes of a guard mean
pub record Means (g : Guard) : Type 0 where
  -- R15.9, R15.10: a row of the clauses is one of the formula; one of the formula, with each helper at its node's truth, of the clauses
  pub sound : (ρ : ℕ → Bool) → T (satisfies ρ (decoded g)) → T (formula_true ρ (nodes g))
  pub complete : (ρ τ : ℕ → Bool) → Extends g.options (names g) (nodes g) ρ τ → T (formula_true ρ (nodes g))
      → T (satisfies τ (decoded g))
  pub extended : (ρ : ℕ → Bool) → (τ : ℕ → Bool) × Extends g.options (names g) (nodes g) ρ τ
  -- helpers dropped: the formula's truth reads a row at the options 1 to V alone
  pub dropped : (ρ τ : ℕ → Bool) → ((x : ℕ) → 0 < x → x ≤ g.options → ρ x ≡ τ x)
      → formula_true ρ (nodes g) ≡ formula_true τ (nodes g)
  -- a variable is a symbol that the guard names, an option of the project; or it is the helper of one renamed node, after all that is taken
  pub named : Named (names g) (nodes g) (decoded g)
  pub options : (i : ℕ) → (node_in (nodes g) i).kind ≡ Symbol → (0 < (node_in (nodes g) i).a) × ((node_in (nodes g) i).a ≤ g.options)
  pub helpers : (i : ℕ) → renamed g.set i ≡ true → (g.options < helper_of (names g) i) × (g.taken < helper_of (names g) i)
  pub one : (i j : ℕ) → renamed g.set i ≡ true → renamed g.set j ≡ true → helper_of (names g) i ≡ helper_of (names g) j
      → i ≡ j
  -- R10.7: the bytes may be written as DIMACS, with the variables that are reported
  pub writable : wrong_bytes (written g) (variables_of (names g) (length (nodes g))) ≡ false

-- R12.3: guards of a project of v options, converted one after the other: `taken` is handed over first, and then what was reported
pub data Chain (v : ℕ) : ℕ → List ConvertAfter → Type 0 where
  none : {taken : ℕ} → Chain v taken []
  next : {taken : ℕ} {c : ConvertAfter} {cs : List ConvertAfter} → (after_guard c).options ≡ v → (after_guard c).taken ≡ taken
      → (after_seen c).returned ≡ 0 → Chain v (first (after_seen c)) cs → Chain v taken (c ∷ cs)

abbrev pub all_clauses : List Guard → List Clause
all_clauses [] = []
all_clauses (g ∷ gs) = decoded g ++ all_clauses gs

-- R12.8 to R12.10: each guard by itself, each helper that of one node of one guard, all clauses together meaning all guards together
pub record Together (v : ℕ) (gs : List Guard) : Type 0 where
  pub each : Every Means gs
  pub one : (k l i j : ℕ) → renamed (guard_in gs k).set i ≡ true → renamed (guard_in gs l).set j ≡ true
      → helper_of (names (guard_in gs k)) i ≡ helper_of (names (guard_in gs l)) j → (k ≡ l) × (i ≡ j)
  pub sound : (ρ : ℕ → Bool) → T (satisfies ρ (all_clauses gs)) → Every (λ g. T (formula_true ρ (nodes g))) gs
  pub complete : (ρ : ℕ → Bool) → Every (λ g. T (formula_true ρ (nodes g))) gs
      → (τ : ℕ → Bool) × Every (λ g. Extends v (names g) (nodes g) ρ τ) gs × T (satisfies τ (all_clauses gs))

pub record Demand3 : Type 0 where
  -- R15.7, R15.8: two allowances for one table, and the clause total that measuring tells under the set of zeros
  pub allowances : (c d : Choose) (m : Measure) → choose_guard c ≡ choose_guard d → allowance c ≤ allowance d
      → (measure_guard m).table ≡ (choose_guard c).table → (measure_guard m).options ≡ (choose_guard c).options
      → (measure_guard m).set ≡ replicate (length (nodes (choose_guard c))) 0
      → (choose_seen c).returned ≡ 0 → (choose_seen d).returned ≡ 0 → (measure_seen m).returned ≡ 0
      → ((i : ℕ) → get_or (choose_seen c).after i 0 ≡ 1 → get_or (choose_seen d).after i 0 ≡ 1)
      × (second (choose_seen d) ≤ second (choose_seen c)) × (second (choose_seen c) ≤ first (measure_seen m))
  pub convert : (c : Convert) → (convert_seen c).returned ≡ 0 → Means (convert_guard c)
  pub convert_after : (v : ℕ) (cs : List ConvertAfter) → Chain v v cs → Together v (guards cs)
  -- R12.7: with the options taken and nothing else, it is `simbolufa_convert`
  pub same : (c : Convert) (d : ConvertAfter) → convert_guard c ≡ after_guard d → (convert_seen c).before ≡ (after_seen d).before
      → (convert_seen c).part ≡ (after_seen d).part → convert_seen c ≡ after_seen d
