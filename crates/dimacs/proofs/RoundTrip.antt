-- What is written is accepted and read again as the same clauses: same bytes, same variables, same number of clauses.
-- Assumes nothing.
use mathlib.Core.Path.{◌≡◌, refl, ap, ◌∙◌, subst⁻¹}
use mathlib.Core.Bool.{true, false}
use mathlib.Core.List.{List, [], ◌∷◌, ◌++◌, append_assoc}
use Prim.Native.Nat.{ℕ}
use lib.ListN.{length}
use Rattle.text.specs.Texts.{decimal}
use Rattle.header.specs.Heads.{Blanks, Numbers, space, blank, newline, none, blanks, just, number, header}
use Rattle.answer.specs.Answers.{stored}
use Rattle.answer.specs.Answers as answers
use Rattle.clausal.specs.Clauses.{Clause, clauses_bytes}
use Rattle.clausebytes.specs.Words.{clauses_of, Right, wrong_bytes}
use Rattle.clausebytes.proofs.Encoded.{Bytes, not_wrong_of_right, clauses_of_bytes, right_of_bytes, bytes_back}
use Rattle.dimacs.specs.Texts.{literal_text, clause_line, lines_of, written_text, cnf, Body, end, white, zero, literal}
use Rattle.dimacs.specs.Texts.{Follows, Text, write_call}
use Rattle.dimacs.specs.Inner.Calls.{read_call}
use Rattle.dimacs.proofs.Reading.{reads, right_text}

-- the lines of clauses stand for them
clause-body : (c : Clause) (cs : List Clause) → Body true cs (lines_of cs) → Body true (c ∷ cs) (clause_line c ++ lines_of cs)
clause-body [] cs b = zero (white newline b)
clause-body (l ∷ c) cs b =
    subst⁻¹ (Body true ((l ∷ c) ∷ cs)) (append_assoc (literal_text l) (32 ∷ clause_line c) (lines_of cs))
    (literal {l = l} (white (blank space) (clause-body c cs b)))

lines-body : (cs : List Clause) → Body true cs (lines_of cs)
lines-body [] = end
lines-body (c ∷ cs) = clause-body c cs (lines-body cs)

-- the header line, part by part
parts : (v k : ℕ) (r : List ℕ) → ((decimal v ++ (32 ∷ [])) ++ (decimal k ++ (10 ∷ []))) ++ r ≡ decimal v ++ (32 ∷ (decimal k ++ (10 ∷ r)))
parts v k r =
    append_assoc (decimal v ++ (32 ∷ [])) (decimal k ++ (10 ∷ [])) r
    ∙ append_assoc (decimal v) (32 ∷ []) ((decimal k ++ (10 ∷ [])) ++ r)
    ∙ ap (λ (l : List ℕ). decimal v ++ (32 ∷ l)) (append_assoc (decimal k) (10 ∷ []) r)

-- the written text is accepted, and stands for the clauses
pub written-accepted : (v : ℕ) (cs : List Clause) → Right v cs → Text v cs (written_text v cs)
written-accepted v cs r =
    let f : Follows v cs v (length cs) (lines_of cs) = record { variables = refl; count = refl; right = r; body = lines-body cs } in
    header (blanks space (none (just (just (just
    (subst⁻¹ (λ (l : List ℕ). Blanks (Numbers cnf (Follows v cs) false 0) (32 ∷ l)) (parts v (length cs) (lines_of cs))
    (blanks space (none (number r.variables (blanks space (none (number r.clauses (none (just f))))))))))))))

-- right clauses are written ..
pub writes : (v : ℕ) (cs : List Clause) (buffer : List ℕ) → Right v cs
    → write_call (clauses_bytes cs) v buffer ≡ stored (answers.accepted_with v (length cs)) (written_text v cs) buffer
writes v cs buffer r =
    rw (not_wrong_of_right v cs r)
    (ap (λ (ds : List Clause). stored (answers.accepted_with v (length ds)) (written_text v ds) buffer) (clauses_of_bytes v cs r))

-- .. and read again
pub reads-written : (v : ℕ) (cs : List Clause) (buffer : List ℕ) → Right v cs
    → read_call (written_text v cs) buffer ≡ stored (answers.accepted_with v (length cs)) (clauses_bytes cs) buffer
reads-written v cs buffer r = reads v cs (written_text v cs) buffer (written-accepted v cs r)

-- the same from bytes that are not refused: what the call writes is read as those bytes
pub reads_what_writes : (bytes buffer : List ℕ) (v : ℕ) → Bytes bytes → wrong_bytes bytes v ≡ false
    → read_call (written_text v (clauses_of bytes)) buffer ≡ stored (answers.accepted_with v (length (clauses_of bytes))) bytes buffer
reads_what_writes bytes buffer v b e =
    reads-written v (clauses_of bytes) buffer (right_of_bytes bytes v b e)
    ∙ ap (λ (l : List ℕ). stored (answers.accepted_with v (length (clauses_of bytes))) l buffer) (bytes_back bytes v b e)

-- an accepted text and the same clauses written anew stand for the same clauses
pub rewritten : (v : ℕ) (cs : List Clause) (t : List ℕ) → Text v cs t → Text v cs (written_text v cs)
rewritten v cs t h = written-accepted v cs (right_text h)
