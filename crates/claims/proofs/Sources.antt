-- R19.16 to R19.19: what the lines of accepted calls say is true, and is said of the converted bytes.
-- Assumes nothing.
use mathlib.Core.Path.{◌≡◌, refl, sym, ap, ◌∙◌, subst}
use mathlib.Core.Bool.{true}
use mathlib.Core.List.{List, []}
use Prim.Native.Nat.{ℕ, ◌+◌, ◌<◌}
use lib.ListN.{length, get_or, take, drop}
use lib.Seq.{take-append_seam}
use Rattle.answer.specs.Answers.{accepted_with}
use Rattle.formula.specs.Checks.{checked}
use Rattle.formula.specs.Tables.{nodes_of}
use Rattle.formula.specs.declared.node.Node.{Node}
use Rattle.marks.specs.Sets.{set_checked}
use Rattle.text.specs.Texts.{parted, joined}
use Rattle.names.specs.Names.{tab, right_names, name_of}
use Rattle.clausal.specs.Clauses.{Clause, Renaming, renaming, renamed_below}
use Rattle.clausal.specs.Output.{output_of}
use Rattle.clausebytes.specs.Words.{clauses_of}
use Rattle.origin.specs.Origins.{source_of, fields_of, line_of, lines_of}
use Rattle.origin.proofs.Fields.{line_cut, line_first, line-among}
use Rattle.origin.proofs.Laws.Lines.{output-ranged}
use Rattle.origin.proofs.Sources as origin
use Rattle.claims.specs.Calls.{Guard, nodes, names, over, Convert, convert_seen, convert_guard, Origin, origin_seen, origin_guard}
use Rattle.claims.specs.Calls.{clause_asked, option_names, helper_names, Origins, origins_seen, origins_guard, origins_option_names}
use Rattle.claims.specs.Calls.{origins_helper_names}
use Rattle.claims.specs.Claims.{written, line_in, clause_in, fields_for, Sources}
use Rattle.claims.proofs.Demands.{convert_done, origin_done, origins_done, demand2}
use Rattle.claims.proofs.Meanings.{decoded-same}

-- clause k of the output of a guard
abbrev clause_of : Guard → ℕ → Clause
clause_of g k = get_or (output_of (names g) (nodes g)) k []

-- the clauses in the bytes that a conversion has left are those of the rules
converted-clause : (d : Convert) (k : ℕ) → (convert_seen d).returned ≡ 0
    → clause_in d k ≡ get_or (output_of (names (convert_guard d)) (nodes (convert_guard d))) k []
converted-clause d k z =
    let g = convert_guard d in
    let bytes = written g in
    ap (λ (l : List ℕ). get_or (clauses_of (take (length bytes) l)) k []) (demand2.convert d z).outputs
    ∙ ap (λ (l : List ℕ). get_or (clauses_of l) k []) (take-append_seam bytes (drop (length bytes) (convert_seen d).before))
    ∙ ap (λ (cs : List Clause). get_or cs k []) (decoded-same g (convert_seen d).before _ (convert_done d z))

-- lines of a right formula with right lists of names, in a buffer
module _ (t : List ℕ) (v : ℕ) (s on hn : List ℕ) (table : checked t v ≡ accepted_with 0 0) (set : set_checked (nodes_of t) s ≡ accepted_with 0 0)
    (options : right_names v on ≡ true) (helpers : right_names (renamed_below s (length (nodes_of t))) hn ≡ true) where
  abbrev u : Renaming
  u = renaming v s

  abbrev ns : List Node
  ns = nodes_of t

  abbrev helped : ℕ
  helped = renamed_below s (length ns)

  abbrev fields : ℕ → List (List ℕ)
  fields k = fields_of (name_of on hn v) k (source_of u ns k) (get_or (output_of u ns) k [])

  fields_cut : (k : ℕ) → parted tab (joined tab (fields k)) ≡ fields k
  fields_cut k = line_cut v helped on hn options helpers k (source_of u ns k) (get_or (output_of u ns) k []) (output-ranged t v s table set k)

  line_said : (k : ℕ) (after before : List ℕ) → after ≡ over (line_of (name_of on hn v) u ns k) before
      → parted tab (line_in after 0) ≡ fields k
  line_said k after before e =
      ap (λ (l : List ℕ). parted tab (line_in l 0)) e
      ∙ ap (λ (ps : List (List ℕ)). parted tab (get_or ps 0 []))
      (line_first v helped on hn options helpers k (source_of u ns k) (get_or (output_of u ns) k []) (output-ranged t v s table set k) _)
      ∙ fields_cut k

  lines_said : (k n : ℕ) (after before : List ℕ) → k < n → after ≡ over (lines_of (name_of on hn v) u ns n) before
      → parted tab (line_in after k) ≡ fields k
  lines_said k n after before h e =
      ap (λ (l : List ℕ). parted tab (line_in l k)) e
      ∙ ap (parted tab) (line-among v helped on hn options helpers u ns (output-ranged t v s table set) n k _ h)
      ∙ fields_cut k

pub sources : Sources
sources = record {
  comes = λ c z. let g = origin_guard c in origin.comes (names g) (nodes g) (clause_asked c) (origin_done c z).clause;
  only = λ c z node m way h. let g = origin_guard c in origin.only (names g) (nodes g) (clause_asked c) node m way h;
  one = λ c z j h. let g = origin_guard c in
      origin.one-clause (names g) (nodes g) (clause_asked c) j _ _ _
      (origin.comes (names g) (nodes g) (clause_asked c) (origin_done c z).clause) h;
  line = λ c d z y e. let g = origin_guard c in let t = origin_done c z in let k = clause_asked c in
      line_said g.table g.options g.set (option_names c) (helper_names c) t.table t.set t.options t.helpers k
      (origin_seen c).after (origin_seen c).before (demand2.origin c z).outputs
      ∙ ap (fields_for g (option_names c) (helper_names c) k) (sym (converted-clause d k y ∙ ap (λ (x : Guard). clause_of x k) e));
  lines = λ c d z y e k h. let g = origins_guard c in let t = origins_done c z in
      lines_said g.table g.options g.set (origins_option_names c) (origins_helper_names c) t.table t.set t.options
      t.helpers
      k _ (origins_seen c).after (origins_seen c).before h (demand2.origins c z).outputs
      ∙ ap (fields_for g (origins_option_names c) (origins_helper_names c) k)
      (sym (converted-clause d k y ∙ ap (λ (x : Guard). clause_of x k) e));
}
