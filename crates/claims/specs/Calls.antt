-- What a host sees of a call of each entry: a call is whatever the entry's contract allows, as the check reads it (`Reads.Post`).
-- Assumes nothing: these are definitions.
use Rattle.std.specs.Prelude.{List, [], ◌∷◌, ◌++◌, ℕ, ◌*◌, length, get_or, take, drop}
use contract.Lifetimes.{Lfts}
use denote.Triple.Clauses.{AtExit}
use borrow.Fn.Kinds.{ParamKind, ResultKind, Dens, Out, ended_of, res_t}
use Rattle.laws.specs.Numbers.{little_at}
use Rattle.formula.specs.Tables.{node_bytes, nodes_of}
use Rattle.formula.specs.declared.node.Node.{Node}
use Rattle.clausal.specs.Clauses.{Clause, clauses_bytes, Renaming, renaming}
use Rattle.clausebytes.specs.Words.{clauses_of}
use Rattle.tidied.specs.Tidying.{tidied, changes_of, change_lines}
use Rattle.tidied.specs.Calls.{Outputs}
use Rattle.host.proofs.simbolufa_check.Kinds as check-kinds
use Rattle.host.proofs.simbolufa_check.Reads as check
use Rattle.host.proofs.simbolufa_measure.Kinds as measure-kinds
use Rattle.host.proofs.simbolufa_measure.Reads as measure
use Rattle.host.proofs.simbolufa_choose.Kinds as choose-kinds
use Rattle.host.proofs.simbolufa_choose.Reads as choose
use Rattle.host.proofs.simbolufa_convert.Kinds as convert-kinds
use Rattle.host.proofs.simbolufa_convert.Reads as convert
use Rattle.host.proofs.simbolufa_convert_after.Kinds as after-kinds
use Rattle.host.proofs.simbolufa_convert_after.Reads as after
use Rattle.host.proofs.simbolufa_origin.Kinds as origin-kinds
use Rattle.host.proofs.simbolufa_origin.Reads as origin
use Rattle.host.proofs.simbolufa_origins.Kinds as origins-kinds
use Rattle.host.proofs.simbolufa_origins.Reads as origins
use Rattle.host.proofs.simbolufa_write_dimacs.Kinds as write-kinds
use Rattle.host.proofs.simbolufa_write_dimacs.Reads as write
use Rattle.host.proofs.simbolufa_read_dimacs.Kinds as read-kinds
use Rattle.host.proofs.simbolufa_read_dimacs.Reads as read
use Rattle.host.proofs.simbolufa_read_sat.Kinds as sat-kinds
use Rattle.host.proofs.simbolufa_read_sat.Reads as sat
use Rattle.host.proofs.simbolufa_tidy.Kinds as tidy-kinds
use Rattle.host.proofs.simbolufa_tidy.Reads as tidy

-- the arguments, what is returned, what is lent as it stands at the end, and the contract's word for it
pub record Call {n : ℕ} (ps : List (ParamKind n)) (r : ResultKind n) (Post : Out n ps r) : Type 0 where
  pub κs : Lfts n
  pub args : Dens κs ps
  pub result : (res_t r κs).Denot
  pub exit : AtExit (ended_of n ps r) κs
  pub promise : Post κs args result exit

-- what is returned, the lent outputs before and after the call, and the answer part before and after it
pub record Seen (O : Type 0) : Type 0 where
  pub returned : ℕ
  pub before : O
  pub after : O
  pub part : List ℕ
  pub told : List ℕ

-- R11.3: the two values that the answer part tells
abbrev pub first : {O : Type 0} → Seen O → ℕ
first s = little_at 4 s.told 8

abbrev pub second : {O : Type 0} → Seen O → ℕ
second s = little_at 4 s.told 12

-- R11.6: bytes that lead a buffer, behind which it is as before
abbrev pub over : List ℕ → List ℕ → List ℕ
over bytes before = bytes ++ drop (length bytes) before

-- what is handed over of a guard: its table, the project's options, what is taken (the options, where nothing else is), and the set
pub record Guard : Type 0 where
  pub table : List ℕ
  pub options : ℕ
  pub taken : ℕ
  pub set : List ℕ

abbrev pub nodes : Guard → List Node
nodes g = nodes_of g.table

abbrev pub names : Guard → Renaming
names g = renaming g.taken g.set

-- `simbolufa_check`
abbrev pub Check : Type 0
Check = Call check-kinds.ps check-kinds.r check.Post

abbrev pub check_seen : Check → Seen (Unit {0})
check_seen c = record {
  returned = c.result;
  before = tt;
  after = tt;
  part = c.args.1.1.0.now;
  told = c.exit.1.1.0.now;
}

abbrev pub check_guard : Check → Guard
check_guard c = record { table = c.args.0.now; options = c.args.1.0; taken = c.args.1.0; set = [] }

-- `simbolufa_measure`
abbrev pub Measure : Type 0
Measure = Call measure-kinds.ps measure-kinds.r measure.Post

abbrev pub measure_seen : Measure → Seen (Unit {0})
measure_seen c = record {
  returned = c.result;
  before = tt;
  after = tt;
  part = c.args.1.1.1.0.now;
  told = c.exit.1.1.1.0.now;
}

abbrev pub measure_guard : Measure → Guard
measure_guard c = record { table = c.args.0.now; options = c.args.1.0; taken = c.args.1.0; set = c.args.1.1.0.now }

-- `simbolufa_choose`
abbrev pub Choose : Type 0
Choose = Call choose-kinds.ps choose-kinds.r choose.Post

abbrev pub choose_seen : Choose → Seen (List ℕ)
choose_seen c = record {
  returned = c.result;
  before = c.args.1.1.1.0.now;
  after = c.exit.1.1.1.0.now;
  part = c.args.1.1.1.1.0.now;
  told = c.exit.1.1.1.1.0.now;
}

abbrev pub choose_guard : Choose → Guard
choose_guard c = record { table = c.args.0.now; options = c.args.1.0; taken = c.args.1.0; set = [] }

abbrev pub allowance : Choose → ℕ
allowance c = c.args.1.1.0

-- `simbolufa_convert`
abbrev pub Convert : Type 0
Convert = Call convert-kinds.ps convert-kinds.r convert.Post

abbrev pub convert_seen : Convert → Seen (List ℕ)
convert_seen c = record {
  returned = c.result;
  before = c.args.1.1.1.0.now;
  after = c.exit.1.1.1.0.now;
  part = c.args.1.1.1.1.0.now;
  told = c.exit.1.1.1.1.0.now;
}

abbrev pub convert_guard : Convert → Guard
convert_guard c = record { table = c.args.0.now; options = c.args.1.0; taken = c.args.1.0; set = c.args.1.1.0.now }

-- `simbolufa_convert_after`
abbrev pub ConvertAfter : Type 0
ConvertAfter = Call after-kinds.ps after-kinds.r after.Post

abbrev pub after_seen : ConvertAfter → Seen (List ℕ)
after_seen c = record {
  returned = c.result;
  before = c.args.1.1.1.1.0.now;
  after = c.exit.1.1.1.1.0.now;
  part = c.args.1.1.1.1.1.0.now;
  told = c.exit.1.1.1.1.1.0.now;
}

abbrev pub after_guard : ConvertAfter → Guard
after_guard c = record { table = c.args.0.now; options = c.args.1.0; taken = c.args.1.1.0; set = c.args.1.1.1.0.now }

-- the guards of calls one after the other, and guard k of them
abbrev pub guards : List ConvertAfter → List Guard
guards [] = []
guards (c ∷ cs) = after_guard c ∷ guards cs

abbrev pub guard_in : List Guard → ℕ → Guard
guard_in gs k = get_or gs k (record { table = []; options = 0; taken = 0; set = [] })

-- `simbolufa_origin`; R19.1, R19.7: the number of the clause that is asked for, and the two lists of names
abbrev pub Origin : Type 0
Origin = Call origin-kinds.ps origin-kinds.r origin.Post

abbrev pub origin_seen : Origin → Seen (List ℕ)
origin_seen c = record {
  returned = c.result;
  before = c.args.1.1.1.1.1.1.0.now;
  after = c.exit.1.1.1.1.1.1.0.now;
  part = c.args.1.1.1.1.1.1.1.0.now;
  told = c.exit.1.1.1.1.1.1.1.0.now;
}

abbrev pub origin_guard : Origin → Guard
origin_guard c = record { table = c.args.0.now; options = c.args.1.0; taken = c.args.1.0; set = c.args.1.1.0.now }

abbrev pub clause_asked : Origin → ℕ
clause_asked c = c.args.1.1.1.0

abbrev pub option_names : Origin → List ℕ
option_names c = c.args.1.1.1.1.0.now

abbrev pub helper_names : Origin → List ℕ
helper_names c = c.args.1.1.1.1.1.0.now

-- `simbolufa_origins`, with its two lists of names
abbrev pub Origins : Type 0
Origins = Call origins-kinds.ps origins-kinds.r origins.Post

abbrev pub origins_seen : Origins → Seen (List ℕ)
origins_seen c = record {
  returned = c.result;
  before = c.args.1.1.1.1.1.0.now;
  after = c.exit.1.1.1.1.1.0.now;
  part = c.args.1.1.1.1.1.1.0.now;
  told = c.exit.1.1.1.1.1.1.0.now;
}

abbrev pub origins_guard : Origins → Guard
origins_guard c = record { table = c.args.0.now; options = c.args.1.0; taken = c.args.1.0; set = c.args.1.1.0.now }

abbrev pub origins_option_names : Origins → List ℕ
origins_option_names c = c.args.1.1.1.0.now

abbrev pub origins_helper_names : Origins → List ℕ
origins_helper_names c = c.args.1.1.1.1.0.now

-- `simbolufa_write_dimacs`
abbrev pub Write : Type 0
Write = Call write-kinds.ps write-kinds.r write.Post

abbrev pub write_seen : Write → Seen (List ℕ)
write_seen c = record {
  returned = c.result;
  before = c.args.1.1.0.now;
  after = c.exit.1.1.0.now;
  part = c.args.1.1.1.0.now;
  told = c.exit.1.1.1.0.now;
}

abbrev pub clause_bytes : Write → List ℕ
clause_bytes c = c.args.0.now

abbrev pub declared : Write → ℕ
declared c = c.args.1.0

-- `simbolufa_read_dimacs`
abbrev pub Read : Type 0
Read = Call read-kinds.ps read-kinds.r read.Post

abbrev pub read_seen : Read → Seen (List ℕ)
read_seen c = record {
  returned = c.result;
  before = c.args.1.0.now;
  after = c.exit.1.0.now;
  part = c.args.1.1.0.now;
  told = c.exit.1.1.0.now;
}

abbrev pub text_of : Read → List ℕ
text_of c = c.args.0.now

-- `simbolufa_read_sat`
abbrev pub ReadSat : Type 0
ReadSat = Call sat-kinds.ps sat-kinds.r sat.Post

abbrev pub sat_seen : ReadSat → Seen (List ℕ)
sat_seen c = record {
  returned = c.result;
  before = c.args.1.0.now;
  after = c.exit.1.0.now;
  part = c.args.1.1.0.now;
  told = c.exit.1.1.0.now;
}

abbrev pub sat_text : ReadSat → List ℕ
sat_text c = c.args.0.now

-- R21.19, R21.20: the bytes of the table that an accepted call has left: five for each node that is reported
abbrev pub table_left : ReadSat → List ℕ
table_left c = take (node_bytes * second (sat_seen c)) (sat_seen c).after

-- `simbolufa_tidy`
abbrev pub Tidy : Type 0
Tidy = Call tidy-kinds.ps tidy-kinds.r tidy.Post

abbrev pub tidy_seen : Tidy → Seen Outputs
tidy_seen c = record {
  returned = c.result;
  before = record { kept = c.args.1.1.0.now; lines = c.args.1.1.1.0.now };
  after = record { kept = c.exit.1.1.0.now; lines = c.exit.1.1.1.0.now };
  part = c.args.1.1.1.1.0.now;
  told = c.exit.1.1.1.1.0.now;
}

abbrev pub tidy_bytes : Tidy → List ℕ
tidy_bytes c = c.args.0.now

abbrev pub tidy_variables : Tidy → ℕ
tidy_variables c = c.args.1.0

-- the clauses that are given
abbrev pub tidy_clauses : Tidy → List Clause
tidy_clauses c = clauses_of (tidy_bytes c)

-- R23.15: the bytes of the kept clauses and of the lines, which lead their buffers when a call has accepted
abbrev pub kept_left : Tidy → List ℕ
kept_left c = take (length (clauses_bytes (tidied (tidy_clauses c)))) (tidy_seen c).after.kept

abbrev pub lines_left : Tidy → List ℕ
lines_left c = take (length (change_lines (changes_of (tidy_clauses c)))) (tidy_seen c).after.lines
