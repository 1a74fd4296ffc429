-- `program::print` meets its contract: a refusal's line, or what the table comes to. Assumes nothing.
use mathlib.Core.Path.{◌≡◌, refl, sym, ap, ◌∙◌}
use mathlib.Core.Bool.{false}
use mathlib.Core.List.{List}
use Prim.Native.Nat.{ℕ, ◌*◌, ◌≤◌}
use native.Mathlib.Omega.{arith}
use lib.ListN.{length, take, replicate, length-replicate}
use lib.Seq.{length-take-le}
use Rattle.answer.specs.Answers.{Answer, told_of, refuses, Wrote}
use Rattle.formula.specs.Tables.{node_bytes, most_table}
use Rattle.nodefile.specs.Files.{line_of, file_table, option_count}
use Rattle.nodefile.specs.Inner.Reads.{file_read}
use Rattle.program.specs.Printed.{table_printed}
use Rattle.program.proofs.Laws.Files.{read-printed, read-options, read-few, read-size, read_table}
use Rattle.program.proofs.Laws.Shows.{shows_as, line_refused, line-accepted}
use Rattle.program.proofs.print.Goals.{After-read-read, After-table_size-bytes}
use Rattle.program.proofs.print.Goals as goal

abbrev lent : List ℕ
lent = replicate most_table 0

size : length lent ≡ most_table
size = length-replicate {A = ℕ} most_table 0

abbrev text : (c : After-read-read) → List ℕ
text c = c.args.text.now

abbrev out : (c : After-read-read) → List ℕ
out c = c.read-read.new.table

abbrev printed : (c : After-read-read) → List ℕ
printed c = table_printed (file_table (text c)) (option_count (line_of (text c) 0))

answered : (c : After-read-read) → c.read-read.result ≡ (file_read (text c) lent).answer
answered c = ap (λ (w : Wrote (List ℕ)). w.answer) c.read-read.ensures

pub returns-in-Err : goal.returns-in-Err
returns-in-Err c =
    let at = (goal.at.returns-in-Err c).After-read-read in
    shows_as
    (line_refused _ _ (printed at) (read-printed (text at) lent size) _ (answered at) c.in-Err.refusal c.in-Err.is) refl
    c.put_refusal.ensures

ok : (c : After-table_size-bytes) → refuses c.read-read.result ≡ false
ok c = ap refuses c.in-Ok.is

abbrev bytes : (c : After-table_size-bytes) → ℕ
bytes c = c.table_size-bytes.result

counted : (c : After-table_size-bytes) → (bytes c) ≡ node_bytes * (told_of c.read-read.result).second
counted c = c.table_size-bytes.ensures ∙ sym (ap (λ (a : Answer). node_bytes * (told_of a).second) c.in-Ok.is)

few : (c : After-table_size-bytes) → (bytes c) ≤ most_table
few c = omega (arith, (counted c), read-few (text (goal.at.After-table_size-bytes c).After-read-read) lent size c.read-read.result (out (goal.at.After-table_size-bytes c).After-read-read) c.read-read.ensures (ok c))

whole : (c : After-table_size-bytes) → length (out (goal.at.After-table_size-bytes c).After-read-read) ≡ most_table
whole c = read-size (text (goal.at.After-table_size-bytes c).After-read-read) lent size c.read-read.result (out (goal.at.After-table_size-bytes c).After-read-read) c.read-read.ensures (ok c)

length_cut : (c : After-table_size-bytes) → length (take (bytes c) (out (goal.at.After-table_size-bytes c).After-read-read)) ≡ (bytes c)
length_cut c = length-take-le (bytes c) (out (goal.at.After-table_size-bytes c).After-read-read) (omega (arith, (few c), (whole c)))

pub slice_bounds-table-end : goal.slice_bounds-table-end
slice_bounds-table-end c = omega (arith, few c, whole c)

pub slice_bounds-print_table-end : goal.slice_bounds-print_table-end
slice_bounds-print_table-end c = sym (length_cut (goal.at.slice_bounds-print_table-end c).After-table_size-bytes)

pub print_table-requires : goal.print_table-requires
print_table-requires c =
    record { table = omega (arith, length_cut (goal.at.print_table-requires c).After-table_size-bytes, few (goal.at.print_table-requires c).After-table_size-bytes); buffer = c.requires }

pub returns-in-Ok : goal.returns-in-Ok
returns-in-Ok c =
    let at = (goal.at.returns-in-Ok c).After-read-read in
    let bytes-at = (goal.at.returns-in-Ok c).After-table_size-bytes in
    let r = c.read-read.result in
    let table = read_table (text at) lent size r (out at) c.read-read.ensures (ok bytes-at) (bytes bytes-at) (counted bytes-at) in
    let options = sym (ap (λ (a : Answer). (told_of a).first) c.in-Ok.is)
    ∙ read-options (text at) lent size r (out at) c.read-read.ensures (ok bytes-at) in
    shows_as
    (line-accepted _ _ (printed at) (read-printed (text at) lent size) _ (answered at) c.in-Ok.reported c.in-Ok.is
    ∙ (λ i. table_printed (sym table i) (sym options i))) refl c.print_table.ensures
