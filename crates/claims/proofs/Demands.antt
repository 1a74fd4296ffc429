-- The three demands hold of the entries.
-- Assumes nothing.
use mathlib.Core.Path.{◌≡◌, refl, sym, ap, ◌∙◌, subst}
use mathlib.Core.Bool.{Bool, true, false}
use mathlib.Core.List.{List, ◌∷◌}
use Prim.Native.Nat.{ℕ, ◌≤◌, ◌<◌, ◌^◌}
use native.Mathlib.Omega.{arith}
use lib.ListN.{length, get_or, take, drop, replicate}
use lib.Seq.{take-append_seam}
use borrow.Author.Tests.{eq-eqb, eqb-true, le-ltb}
use Rattle.answer.specs.Answers.{told_of, refuses, Wrote, only, Left, leaves}
use Rattle.answer.specs.Answers.{accepted_with}
use Rattle.formula.specs.Checks.{checked}
use Rattle.formula.specs.Tables.{most_options, nodes_of}
use Rattle.formula.proofs.Laws.WellFormed.{checked-accepted}
use Rattle.clausal.specs.Totals.{total_under, totals}
use Rattle.clausal.specs.Choosing.{choose}
use Rattle.clausal.specs.Clauses.{clauses_bytes, renaming, variables_of}
use Rattle.clausal.specs.Output.{output_of}
use Rattle.clausal.proofs.Names.{helper_range}
use Rattle.clausal.proofs.Totals.{clauses-read}
use Rattle.clausebytes.specs.Words.{most_variables, wrong_bytes, clauses_of}
use Rattle.clausal.specs.Calls.{measured, chosen_by, converted, converted_after}
use Rattle.choose.proofs.Allowances.{compared}
use Rattle.convert.proofs.Laws.Checked.{few-options}
use Rattle.names.specs.Names.{name_of}
use Rattle.origin.specs.Calls.{origin_call, origins_call}
use Rattle.origin.specs.Origins.{line_of, lines_of}
use Rattle.dimacs.specs.Texts.{write_call, written_text}
use Rattle.dimacs.specs.Inner.Calls.{read_call}
use Rattle.dimacs.proofs.RoundTrip.{reads_what_writes}
use Rattle.satfile.specs.Inner.Calls as satfile
use Rattle.tidied.specs.Tidying.{tidied, changes_of, change_lines}
use Rattle.tidied.specs.Calls.{Outputs, tidy_call}
use Rattle.claims.specs.Calls.{first, second, Guard, nodes, names, guards, Check, check_seen, check_guard, Measure, measure_seen}
use Rattle.claims.specs.Calls.{measure_guard, Choose, choose_seen, choose_guard, allowance, Convert, convert_seen, convert_guard}
use Rattle.claims.specs.Calls.{ConvertAfter, after_seen, after_guard, Write, write_seen, clause_bytes, declared, Read, read_seen, text_of}
use Rattle.claims.specs.Calls.{over, Origin, origin_seen, origin_guard, clause_asked, option_names, helper_names}
use Rattle.claims.specs.Calls.{Origins, origins_seen, origins_guard, origins_option_names, origins_helper_names}
use Rattle.claims.specs.Calls.{ReadSat, sat_seen, sat_text, Tidy, tidy_seen, tidy_bytes, tidy_variables, tidy_clauses}
use Rattle.claims.specs.Claims.{Answers, Gives, Demand1, Demand2, Demand3, Chain, none, next}
use Rattle.claims.proofs.Answered.{answers, Zero, zero, gives, first-told, second-told, stored-room}
use Rattle.claims.proofs.Outputs.{measured-accepted, chosen-kept, chosen-accepted, Passed, convert-kept, convert-passed}
use Rattle.claims.proofs.Outputs.{after_kept, after-passed, write_kept, write-accepted, read_kept, read-accepted}
use Rattle.claims.proofs.Outputs.{sat-kept, sat-accepted, tidy-kept, tidy-accepted}
use Rattle.claims.proofs.Origins.{Told, origin-kept, origin-told, origins-kept, origins-told}
use Rattle.claims.proofs.Meanings.{few-variables, means}
use Rattle.claims.proofs.Chains.{Follows, nothing, guard, together}

-- what each contract says that the call wrote
abbrev check_wrote : Check → Wrote (Unit {0})
check_wrote c = let g = check_guard c in only (checked g.table g.options)

abbrev measure_wrote : Measure → Wrote (Unit {0})
measure_wrote c = let g = measure_guard c in only (measured g.table g.options g.set)

abbrev pub choose_wrote : Choose → Wrote (List ℕ)
choose_wrote c = let g = choose_guard c in chosen_by g.table g.options (allowance c) (choose_seen c).before

abbrev convert_wrote : Convert → Wrote (List ℕ)
convert_wrote c = let g = convert_guard c in converted g.table g.options g.set (convert_seen c).before

abbrev after_wrote : ConvertAfter → Wrote (List ℕ)
after_wrote c = let g = after_guard c in converted_after g.table g.options g.taken g.set (after_seen c).before

abbrev pub origin_wrote : Origin → Wrote (List ℕ)
origin_wrote c = let g = origin_guard c in
    origin_call g.table g.options g.set (clause_asked c) (option_names c) (helper_names c) (origin_seen c).before

abbrev pub origins_wrote : Origins → Wrote (List ℕ)
origins_wrote c = let g = origins_guard c in
    origins_call g.table g.options g.set (origins_option_names c) (origins_helper_names c) (origins_seen c).before

abbrev write_wrote : Write → Wrote (List ℕ)
write_wrote c = write_call (clause_bytes c) (declared c) (write_seen c).before

abbrev read_wrote : Read → Wrote (List ℕ)
read_wrote c = read_call (text_of c) (read_seen c).before

abbrev pub sat_wrote : ReadSat → Wrote (List ℕ)
sat_wrote c = satfile.read_call (sat_text c) (sat_seen c).before

abbrev pub tidy_wrote : Tidy → Wrote Outputs
tidy_wrote c = tidy_call (tidy_bytes c) (tidy_variables c) (tidy_seen c).before

pub demand1 : Demand1
demand1 = record {
  check = λ c. answers (check_seen c) (check_wrote c) c.promise (λ e. refl);
  measure = λ c. answers (measure_seen c) (measure_wrote c) c.promise (λ e. refl);
  choose = λ c. let g = choose_guard c in answers (choose_seen c) (choose_wrote c) c.promise
      (chosen-kept g.table g.options (allowance c) (choose_seen c).before);
  convert = λ c. let g = convert_guard c in answers (convert_seen c) (convert_wrote c) c.promise
      (convert-kept g.table g.options g.set (convert_seen c).before);
  convert_after = λ c. let g = after_guard c in answers (after_seen c) (after_wrote c) c.promise
      (after_kept g.table g.options g.set (after_seen c).before g.taken);
  origin = λ c. let g = origin_guard c in answers (origin_seen c) (origin_wrote c) c.promise
      (origin-kept g.table g.options g.set (option_names c) (helper_names c) (origin_seen c).before (clause_asked c));
  origins = λ c. let g = origins_guard c in answers (origins_seen c) (origins_wrote c) c.promise
      (origins-kept g.table g.options g.set (origins_option_names c) (origins_helper_names c) (origins_seen c).before);
  write = λ c. answers (write_seen c) (write_wrote c) c.promise.0 (write_kept (clause_bytes c) (declared c) (write_seen c).before);
  read = λ c. answers (read_seen c) (read_wrote c) c.promise (read_kept (text_of c) (read_seen c).before);
  read_sat = λ c. answers (sat_seen c) (sat_wrote c) c.promise (sat-kept (sat_text c) (sat_seen c).before);
}

-- where 0 is returned
pub convert_done : (c : Convert) → (convert_seen c).returned ≡ 0 → Passed (convert_guard c) (convert_seen c).before (convert_wrote c)
convert_done c z = let g = convert_guard c in
    convert-passed g.table g.options g.set (convert_seen c).before (zero (convert_seen c) (convert_wrote c) c.promise z).accepted

after_done : (c : ConvertAfter) → (after_seen c).returned ≡ 0 → Passed (after_guard c) (after_seen c).before (after_wrote c)
after_done c z = let g = after_guard c in
    after-passed g.table g.options g.set (after_seen c).before g.taken
    (zero (after_seen c) (after_wrote c) c.promise z).accepted

-- the line, and the lines, that a call has to leave
abbrev pub line_asked : Origin → List ℕ
line_asked c = let g = origin_guard c in line_of (name_of (option_names c) (helper_names c) g.options) (names g) (nodes g) (clause_asked c)

abbrev pub lines_asked : Origins → List ℕ
lines_asked c = let g = origins_guard c in
    lines_of (name_of (origins_option_names c) (origins_helper_names c) g.options) (names g) (nodes g) (length (output_of (names g) (nodes g)))

pub origin_done : (c : Origin) → (origin_seen c).returned ≡ 0 → let g = origin_guard c in
    Told g (clause_asked c < length (output_of (names g) (nodes g))) (option_names c) (helper_names c) (line_asked c) (origin_seen c).before
    (origin_wrote c)
origin_done c z = let g = origin_guard c in
    origin-told g.table g.options g.set (option_names c) (helper_names c) (origin_seen c).before (clause_asked c)
    (zero (origin_seen c) (origin_wrote c) c.promise z).accepted

pub origins_done : (c : Origins) → (origins_seen c).returned ≡ 0
    → Told (origins_guard c) (Unit {0}) (origins_option_names c) (origins_helper_names c) (lines_asked c) (origins_seen c).before (origins_wrote c)
origins_done c z = let g = origins_guard c in
    origins-told g.table g.options g.set (origins_option_names c) (origins_helper_names c) (origins_seen c).before
    (zero (origins_seen c) (origins_wrote c) c.promise z).accepted

pub tidy_done : (c : Tidy) → (tidy_seen c).returned ≡ 0 → let cs = tidy_clauses c in
    (wrong_bytes (tidy_bytes c) (tidy_variables c) ≡ false)
    × (tidy_wrote c ≡ record {
      answer = accepted_with (length (changes_of cs)) (length (tidied cs));
      output = record {
        kept = over (clauses_bytes (tidied cs)) (tidy_seen c).before.kept;
        lines = over (change_lines (changes_of cs)) (tidy_seen c).before.lines;
      };
    })
tidy_done c z =
    tidy-accepted (tidy_bytes c) (tidy_variables c) (tidy_seen c).before (zero (tidy_seen c) (tidy_wrote c) c.promise.0 z).accepted

-- what a call that tidies answers, and what it gives
pub tidy_answers : (c : Tidy) → Answers (tidy_wrote c).answer (tidy_seen c)
tidy_answers c = answers (tidy_seen c) (tidy_wrote c) c.promise.0 (tidy-kept (tidy_bytes c) (tidy_variables c) (tidy_seen c).before)

pub tidy_gives : (c : Tidy) → (tidy_seen c).returned ≡ 0 → let cs = tidy_clauses c in
    Gives (tidy_seen c) (length (changes_of cs)) (length (tidied cs)) (record {
      kept = over (clauses_bytes (tidied cs)) (tidy_seen c).before.kept;
      lines = over (change_lines (changes_of cs)) (tidy_seen c).before.lines;
    })
tidy_gives c z = gives (tidy_seen c) (tidy_wrote c) c.promise.0 _ _ _
    (zero (tidy_seen c) (tidy_wrote c) c.promise.0 z) (tidy_done c z).1

-- the round trip
module _ (w : Write) (r : Read) (z : (write_seen w).returned ≡ 0)
    (same : text_of r ≡ take (length (written_text (declared w) (clauses_of (clause_bytes w)))) (write_seen w).after)
    (room : length (clause_bytes w) ≤ length (read_seen r).before) (part : length (read_seen r).part ≡ 16) where
  abbrev bytes : List ℕ
  bytes = clause_bytes w

  abbrev text : List ℕ
  text = written_text (declared w) (clauses_of bytes)

  done : Zero (write_seen w) (write_wrote w) w.promise.0
  done = zero (write_seen w) (write_wrote w) w.promise.0 z

  wrote : (wrong_bytes bytes (declared w) ≡ false) × (write_wrote w ≡ record {
    answer = accepted_with (declared w) (length (clauses_of bytes));
    output = over text (write_seen w).before;
  })
  wrote = write-accepted bytes (declared w) (write_seen w).before done.accepted

  -- the text that is read is the one that was written
  text_same : text_of r ≡ text
  text_same =
      same
      ∙ ap (take (length text)) (done.outputs ∙ ap (λ (x : Wrote (List ℕ)). x.output) wrote.1)
      ∙ take-append_seam text (drop (length text) (write_seen w).before)

  read_again : read_wrote r ≡ record {
    answer = accepted_with (declared w) (length (clauses_of bytes));
    output = over bytes (read_seen r).before;
  }
  read_again =
      ap (λ (t : List ℕ). read_call t (read_seen r).before) text_same
      ∙ reads_what_writes bytes (read_seen r).before (declared w) w.promise.1 wrote.0
      ∙ stored-room _ bytes (read_seen r).before refl room

  abbrev answered : ℕ
  answered = length (clauses_of bytes)

  back : ((read_seen r).returned ≡ 0) × ((read_seen r).told ≡ (write_seen w).told)
      × ((read_seen r).after ≡ over bytes (read_seen r).before)
  back =
      let own = (demand1.read r).right_part part in
      let zeroed : (read_seen r).returned ≡ 0 = own.0 ∙ ap (λ (x : Wrote (List ℕ)). (told_of x.answer).number) read_again in
      let given = gives (read_seen r) (read_wrote r) r.promise (declared w) answered (over bytes (read_seen r).before)
      (zero (read_seen r) (read_wrote r) r.promise zeroed) read_again in
      let written = gives (write_seen w) (write_wrote w) w.promise.0 (declared w) answered (over text (write_seen w).before) done
      wrote.1 in
      (zeroed, given.values ∙ sym written.values, given.outputs)

pub demand2 : Demand2
demand2 = record {
  check = λ c z. let g = check_guard c in let d = zero (check_seen c) (check_wrote c) c.promise z in
      gives (check_seen c) (check_wrote c) c.promise 0 0 tt d (ap only (checked-accepted g.table g.options d.accepted));
  measure = λ c z. let g = measure_guard c in let d = zero (measure_seen c) (measure_wrote c) c.promise z in
      gives (measure_seen c) (measure_wrote c) c.promise _ _ tt d
      (ap only (measured-accepted g.table g.options g.set d.accepted));
  choose = λ c z. let g = choose_guard c in let d = zero (choose_seen c) (choose_wrote c) c.promise z in
      gives (choose_seen c) (choose_wrote c) c.promise _ _ _ d
      (chosen-accepted g.table g.options (allowance c) (choose_seen c).before d.accepted);
  convert = λ c z. gives (convert_seen c) (convert_wrote c) c.promise _ _ _
      (zero (convert_seen c) (convert_wrote c) c.promise z) (convert_done c z).wrote;
  convert_after = λ c z. gives (after_seen c) (after_wrote c) c.promise _ _ _
      (zero (after_seen c) (after_wrote c) c.promise z) (after_done c z).wrote;
  origin = λ c z. gives (origin_seen c) (origin_wrote c) c.promise _ _ _
      (zero (origin_seen c) (origin_wrote c) c.promise z) (origin_done c z).wrote;
  origins = λ c z. gives (origins_seen c) (origins_wrote c) c.promise _ _ _
      (zero (origins_seen c) (origins_wrote c) c.promise z) (origins_done c z).wrote;
  write = λ c z. let d = zero (write_seen c) (write_wrote c) c.promise.0 z in
      gives (write_seen c) (write_wrote c) c.promise.0 _ _ _ d
      (write-accepted (clause_bytes c) (declared c) (write_seen c).before d.accepted).1;
  read = λ c z. let d = zero (read_seen c) (read_wrote c) c.promise z in
      let a = read-accepted (text_of c) (read_seen c).before d.accepted in
      (a.0, a.1, a.2, gives (read_seen c) (read_wrote c) c.promise _ _ _ d a.3);
  read_sat = λ c z. let d = zero (sat_seen c) (sat_wrote c) c.promise z in
      let a = sat-accepted (sat_text c) (sat_seen c).before d.accepted in
      (a.0, a.1, a.2, a.3, gives (sat_seen c) (sat_wrote c) c.promise _ _ _ d a.4);
  round_trip = back;
}

-- a clause total is read at its ceiling, and so fits 32 bits
total-fits : (g : Guard) → (totals (names g) (nodes g)).clauses < 2 ^ 32
total-fits g = omega (arith, clauses-read (names g) (nodes g))

-- two allowances, and nothing renamed
module _ (c d : Choose) (m : Measure) (same : choose_guard c ≡ choose_guard d) (larger : allowance c ≤ allowance d)
    (table : (measure_guard m).table ≡ (choose_guard c).table) (options : (measure_guard m).options ≡ (choose_guard c).options)
    (set : (measure_guard m).set ≡ replicate (length (nodes (choose_guard c))) 0)
    (zc : (choose_seen c).returned ≡ 0) (zd : (choose_seen d).returned ≡ 0) (zm : (measure_seen m).returned ≡ 0) where
  abbrev g : Guard
  g = choose_guard c

  abbrev chosen : ℕ → List ℕ
  chosen a = (choose a (names g) (nodes g)).chosen

  abbrev total : List ℕ → ℕ
  total s = total_under (names g) (nodes g) s

  small : (s : List ℕ) → total s < 2 ^ 32
  small s = total-fits (record { table = g.table; options = g.options; taken = g.taken; set = s })

  second_is : (e : Choose) → g ≡ choose_guard e → (choose_seen e).returned ≡ 0
      → ((choose_seen e).after ≡ chosen (allowance e)) × (second (choose_seen e) ≡ total (chosen (allowance e)))
  second_is e q z =
      let given = demand2.choose e z in
      let result : ℕ → Guard → List ℕ = λ a h. (choose a (names h) (nodes h)).chosen in
      let shown : ℕ → Guard → ℕ = λ a h. total_under (names h) (nodes h) (result a h) in (
        given.outputs ∙ ap (result (allowance e)) (sym q),
        second-told given (subst (λ (h : Guard). shown (allowance e) h < 2 ^ 32) q (small (chosen (allowance e))))
            ∙ ap (shown (allowance e)) (sym q),
      )

  first-is : first (measure_seen m) ≡ total (replicate (length (nodes g)) 0)
  first-is =
      first-told (demand2.measure m zm) (total-fits (measure_guard m))
      ∙ (λ i. (totals (renaming (options i) (set i)) (nodes_of (table i))).clauses)

  pub allowances : ((i : ℕ) → get_or (choose_seen c).after i 0 ≡ 1 → get_or (choose_seen d).after i 0 ≡ 1)
      × (second (choose_seen d) ≤ second (choose_seen c)) × (second (choose_seen c) ≤ first (measure_seen m))
  allowances =
      let x = second_is c refl zc in
      let y = second_is d same zd in
      let k = compared (names g) (nodes g) (allowance c) (allowance d) larger in
      let own = compared (names g) (nodes g) (allowance c) (allowance c) (omega arith) in (
        λ i e. ap (λ (l : List ℕ). get_or l i 0) y.0
            ∙ eqb-true _ 1 (k.more_nodes i (eq-eqb _ 1 (sym (ap (λ (l : List ℕ). get_or l i 0) x.0) ∙ e))),
        omega (arith, x.1, y.1, k.lower_total),
        omega (arith, x.1, first-is, own.not_above_unrenamed),
      )

-- a chain of calls
follows : {v taken : ℕ} {cs : List ConvertAfter} → Chain v taken cs → Follows v taken (guards cs)
follows none = nothing
follows {v} (next {c = c} {cs = cs} o t z chain) =
    let h = after_guard c in
    let p = after_done c z in
    let used : ℕ = variables_of (names h) (length (nodes h)) in
    let few : used ≤ most_variables = few-variables h (after_seen c).before (after_wrote c) p in
    let reported : first (after_seen c) ≡ used = first-told (demand2.convert_after c z) (omega arith) in
    subst (λ (n : ℕ). Follows v n (h ∷ guards cs)) t
    (guard o (omega (arith, p.least)) (means h (after_seen c).before (after_wrote c) p)
    (λ i e. record { most = (helper_range (nodes h) (names h) p.set i e).2 })
    (subst (λ (n : ℕ). Follows v n (guards cs)) reported (follows chain)))

-- with the options taken and nothing else, both conversions are one
after-options : (t : List ℕ) (v : ℕ) (s before : List ℕ) → converted_after t v v s before ≡ converted t v s before
after-options t v s before = go (refuses (checked t v)) refl
  where
    go : (b : Bool) → refuses (checked t v) ≡ b → converted_after t v v s before ≡ converted t v s before
    go true e = rw e
    go false e = rw (e, le-ltb v v (omega arith), le-ltb most_options v (few-options t v e))

same_seen : (c : Convert) (d : ConvertAfter) → convert_guard c ≡ after_guard d → (convert_seen c).before ≡ (after_seen d).before
    → (convert_seen c).part ≡ (after_seen d).part → convert_seen c ≡ after_seen d
same_seen c d g before part =
    let wrote : convert_wrote c ≡ after_wrote d =
    sym (after-options (convert_guard c).table (convert_guard c).options (convert_guard c).set (convert_seen c).before)
    ∙ (λ i. converted_after (g i).table (g i).options (g i).taken (g i).set (before i)) in
    let left : Left (List ℕ) = record { result = (convert_seen c).returned; output = (convert_seen c).after; part = (convert_seen c).told } in
    let other : Left (List ℕ) = record { result = (after_seen d).returned; output = (after_seen d).after; part = (after_seen d).told } in
    let same : left ≡ other = c.promise ∙ (λ i. leaves (part i) (before i) (wrote i)) ∙ sym d.promise in
    λ i. record { returned = (same i).result; before = before i; after = (same i).output; part = part i; told = (same i).part }

pub demand3 : Demand3
demand3 = record {
  allowances = allowances;
  convert = λ c z. means (convert_guard c) (convert_seen c).before (convert_wrote c) (convert_done c z);
  convert_after = λ v cs chain. together (follows chain);
  same = same_seen;
}
