-- The calls for lines: the lists with their notes, both passes, and the order of the refusals.
-- Assumes nothing.
use mathlib.Core.Path.{◌≡◌, refl, sym, ap, ◌∙◌, subst⁻¹}
use mathlib.Core.Bool.{Bool, true, false, cond}
use mathlib.Core.List.{List, [], ◌++◌}
use Prim.Native.Nat.{ℕ, zero, suc, ◌+◌, ◌-◌, ◌≤◌, ◌<◌}
use native.Mathlib.Nat.{zero-add, add-zero}
use native.Mathlib.Omega.{arith}
use lib.Dec.{ltb, leb}
use lib.ListN.{length, replicate}
use borrow.Author.Tests.{lt-ltb, le-ltb, ltb-true, leb-true, leb-false}
use denote.Ref.{Bor}
use Rattle.std.specs.Prelude.{Option, Some, None, Result, Ok, Err}
use Rattle.laws.specs.Lists.{splice}
use Rattle.answer.specs.Answers.{refuses, Answer, accepted_with, Wrote, afterwards, stored}
use Rattle.answer.specs.declared.Accepted.{Accepted}
use Rattle.answer.proofs.Laws.Order.{accepts_of, refused-wrote, accepted-wrote}
use Rattle.answer.specs.declared.Refusal.{Refusal}
use Rattle.answer.specs.declared.Refusal.TheVariants.{NoClause, Room}
use Rattle.formula.specs.Checks.{checked}
use Rattle.formula.specs.Tables.{nodes_of}
use Rattle.formula.specs.declared.node.Node.{Node}
use Rattle.formula.proofs.Laws.Tables.{length-nodes_of}
use Rattle.formula.proofs.Laws.WellFormed.{checked-accepted}
use Rattle.marks.specs.Sets.{set_checked}
use Rattle.text.specs.Texts.{parted}
use Rattle.names.specs.Names.{newline, right_names}
use Rattle.names.specs.Inner.Notes.{name_count, Noted, Notable, Known, notes_of, unnoted}
use Rattle.names.specs.declared.list.Names.{Names}
use Rattle.names.specs.declared.lookup.Voices.{Voices}
use Rattle.names.proofs.Laws.Names.{names-length}
use Rattle.names.proofs.Laws.Notes.{noted-first}
use Rattle.clausal.specs.Calls.{ceilings}
use Rattle.clausal.specs.Clauses.{Renaming, renaming, renamed_below, variables_of}
use Rattle.clausal.specs.Output.{output_of}
use Rattle.clausal.specs.Totals.{Size, size_of, clause_ceiling}
use Rattle.clausal.specs.Totals as totals
use Rattle.clausal.proofs.Renamed.{below_le}
use Rattle.totals.specs.declared.rows.Columns.{Columns}
use Rattle.parts.specs.Inner.Helpers.{helpers_of, Unnamed}
use Rattle.convert.specs.Inner.Fitted.{Measured}
use Rattle.convert.proofs.Laws.Checked.{convertible, few-options}
use Rattle.convert.proofs.Laws.Fitted.{ceilings-shown, sizes-below}
use Rattle.convert.proofs.Laws.Written as written
use Rattle.walk.specs.declared.nodes.Nodes.{Nodes}
use Rattle.origin.specs.Calls.{clause_checked, names_checked, shown_with}
use Rattle.origin.specs.Origins.{line_of, lines_of}
use Rattle.origin.specs.Inner.Lines.{lines_from, Lists, lists_of, named, Spoken, Tellable}
use Rattle.origin.specs.Inner.Shown.{spanned, lines_between, named_with, Listed, Showable, shown_under}
use Rattle.origin.specs.declared.line.Span.{Span}
use Rattle.origin.specs.declared.pen.Pen.{Pen}
use Rattle.origin.proofs.Laws.Sources.{right}
use Rattle.origin.proofs.Laws.Spoken.{spoken_along}

-- a right list has as many names as were asked
count-names : (n : ℕ) (list : List ℕ) → right_names n list ≡ true → name_count list ≡ n
count-names n list h = omega (arith, names-length n (parted newline list) h)

-- the notes of a right list
first-noted : (x y : Names) (n : ℕ) → right_names n x.list.now ≡ true → n ≤ 32_000 → y ≡ notes_of x n → Noted y n
first-noted x y n r f e =
    subst⁻¹ (λ (z : Names). Noted z n) e (noted-first (record { right = r; few = f; none = refl }))

-- lines are measured, and then written
module _ (x : Nodes) (s : List ℕ) (span : Span) (y : Voices) (out mid : List ℕ) (y1 : Voices) (q : Pen) where
  abbrev bytes : Lists → List ℕ
  bytes l = lines_between l (renaming l.options s) (nodes_of x.table.now) span

  abbrev text : List ℕ
  text = bytes (lists_of y)

  module _ (m : Spoken text (lists_of y) out (record { at = 0; fits = true; writing = false }) y1 mid q) where
    room : q.fits ≡ leb (length text) (length out)
    room = m.drawn.fits ∙ ap (λ (n : ℕ). leb n (length out)) (zero-add (length text))

    kept : mid ≡ out
    kept = m.drawn.kept refl

    abbrev either : Bool → Wrote (List ℕ)
    either b = cond b (record { answer = Err Room; output = out }) (record { answer = accepted_with 0 0; output = splice out 0 text })

    pub lines-over : q.fits ≡ false → record { answer = Err Room; output = mid } ≡ stored (accepted_with 0 0) text out
    lines-over e =
        let over = lt-ltb (length out) (length text) (leb-false (length text) (length out) (sym room ∙ e)) in
        ap (λ (l : List ℕ). record { answer = Err Room; output = l }) kept ∙ sym (ap either over)

    -- the lists stay the same
    pub again : (marks : List ℕ) → Tellable x marks s (lists_of y) span → Tellable x marks s (lists_of y1) span
    again marks t = subst⁻¹ (λ (l : Lists). Tellable x marks s l span) m.lists t

    pub lines-written : q.fits ≡ true → (y2 : Voices) (after : List ℕ) (r : Pen)
        → Spoken (bytes (lists_of y1)) (lists_of y1) mid (record { at = 0; fits = true; writing = true }) y2 after r
        → record { answer = accepted_with 0 0; output = after } ≡ stored (accepted_with 0 0) text out
    lines-written e y2 after r f =
        let w = spoken_along (lists_of y) bytes y1 m.lists f in
        let fits = w.drawn.fits ∙ (λ i. leb (zero-add (length text) i) (length (kept i))) ∙ sym room ∙ e in
        let fit = le-ltb (length out) (length text) (leb-true (length text) (length out) (sym room ∙ e)) in
        let put = w.drawn.wrote refl fits ∙ ap (λ (l : List ℕ). splice l 0 text) kept in
        ap (λ (l : List ℕ). record { answer = accepted_with 0 0; output = l }) put ∙ sym (ap either fit)

-- what was prepared, and lists that are right
module _ (x : Nodes) (marks s : List ℕ) (y : Voices) (count : ℕ) (span : Span) (w : Listed x marks s y count span) where
  few-helpers : count ≤ 32_000
  few-helpers = omega (
    arith,
    w.helped,
    below_le s (length (nodes_of x.table.now)),
    length-nodes_of x.table.now,
    w.ground.prepared.settled.marked.size.most,
  )

  pub helpers-notable : right_names count y.helper_names.list.now ≡ true → Notable y.helper_names count
  helpers-notable r = record { right = r; few = few-helpers; none = w.unnoted.helpers }

  -- both are noted, and stay the same
  module _ (o : right_names y.options y.option_names.list.now ≡ true) (r : right_names count y.helper_names.list.now ≡ true)
      (on hn : Names) (e : on ≡ notes_of y.option_names y.options) (f : hn ≡ notes_of y.helper_names count) where
    listed_same : lists_of (record y { option_names = on; helper_names = hn }) ≡ lists_of y
    listed_same = λ i. lists_of (record y { option_names = e i; helper_names = f i })

    pub listed_tellable : Tellable x marks s (lists_of (record y { option_names = on; helper_names = hn })) span
    listed_tellable = subst⁻¹ (λ (l : Lists). Tellable x marks s l span) listed_same (record {
      ground = w.ground;
      count = count-names count y.helper_names.list.now r ∙ w.helped
          ∙ ap (renamed_below s) (sym (right x y.options marks s w.ground).size);
      order = w.order;
      within = w.within;
    })

    pub listed_known : Known (record y { option_names = on; helper_names = hn })
    listed_known = record {
      options = first-noted y.option_names on y.options o w.ground.prepared.settled.convertible.most e;
      helpers = subst⁻¹ (Noted hn) (ap (λ (z : Names). name_count z.list.now) f ∙ count-names count y.helper_names.list.now r)
          (first-noted y.helper_names hn count r few-helpers f);
    }

-- a call that ends with what is stored: the values that are reported may be others
module _ (n : Answer) (bytes before : List ℕ) (z : Answer) (a : Answer) (output : List ℕ)
    (e : ◌≡◌ {A = Wrote (List ℕ)} (record { answer = a; output = output }) (afterwards n before (stored (accepted_with 0 0) bytes before))) where
  abbrev stores : Answer → Bool → Wrote (List ℕ)
  stores b over = cond over (record { answer = Err Room; output = before }) (record { answer = b; output = splice before 0 bytes })

  abbrev over : Bool
  over = ltb (length before) (length bytes)

  refused_as : (m : Answer) (b : Bool) (r : Refusal) → ◌≡◌ {A = Wrote (List ℕ)} (record { answer = a; output = output })
      (afterwards m before (stores (accepted_with 0 0) b)) → a ≡ Err r → record { answer = Err r; output = output } ≡ afterwards m before (stores z b)
  refused_as (Err q) b r f g = ap (λ (c : Answer). record { answer = c; output = output }) (sym g) ∙ f
  refused_as (Ok k) true r f g = ap (λ (c : Answer). record { answer = c; output = output }) (sym g) ∙ f
  refused_as (Ok k) false r f g = absurd (clash (sym (ap (λ (v : Wrote (List ℕ)). v.answer) f) ∙ g))
    where
      clash : accepted_with 0 0 ≡ Err r → ⊥
      clash h = let q = ap refuses h in let t : ◌≡◌ {A = ℕ} 0 1 = cc in omega arith

  accepted-as : (m : Answer) (b : Bool) (k : Accepted) → ◌≡◌ {A = Wrote (List ℕ)} (record { answer = a; output = output })
      (afterwards m before (stores (accepted_with 0 0) b)) → a ≡ Ok k → record { answer = z; output = output } ≡ afterwards m before (stores z b)
  accepted-as (Err q) b k f g = absurd (clash (sym (ap (λ (v : Wrote (List ℕ)). v.answer) f) ∙ g))
    where
      clash : Err q ≡ Ok k → ⊥
      clash h = let r = ap refuses h in let t : ◌≡◌ {A = ℕ} 0 1 = cc in omega arith
  accepted-as (Ok j) true k f g = absurd (clash (sym (ap (λ (v : Wrote (List ℕ)). v.answer) f) ∙ g))
    where
      clash : Err Room ≡ Ok k → ⊥
      clash h = let r = ap refuses h in let t : ◌≡◌ {A = ℕ} 0 1 = cc in omega arith
  accepted-as (Ok j) false k f g = ap (λ (l : List ℕ). record { answer = z; output = l }) (ap (λ (v : Wrote (List ℕ)). v.output) f)

  pub stored_refused : (r : Refusal) → a ≡ Err r → record { answer = Err r; output = output } ≡ afterwards n before (stored z bytes before)
  stored_refused r g = refused_as n over r e g

  pub stored_accepted : (k : Accepted) → a ≡ Ok k → record { answer = z; output = output } ≡ afterwards n before (stored z bytes before)
  stored_accepted k g = accepted-as n over k e g

-- one line, and all lines
module _ (name : ℕ → List ℕ) (u : Renaming) (ns : List Node) where
  one_line : (k : ℕ) → lines_from name u ns k (k + 1 - k) ≡ line_of name u ns k
  unfolding lines_from
  one_line k =
      let e : k + 1 - k ≡ 1 = omega arith in
      ap (lines_from name u ns k) e ∙ ap (line_of name u ns) (add-zero k)

  lines_from_lem : (n : ℕ) → lines_from name u ns 0 n ≡ lines_of name u ns n
  unfolding lines_from lines_of
  lines_from_lem zero = refl
  lines_from_lem (suc n) = λ i. lines_from_lem n i ++ line_of name u ns (zero-add n i)

  all_lines : (n : ℕ) → lines_from name u ns 0 (n - 0) ≡ lines_of name u ns n
  all_lines n = let e : n - 0 ≡ n = omega arith in ap (lines_from name u ns 0) e ∙ lines_from_lem n

-- what a result says, at each of its cases
abbrev is-wrong : Result Span Refusal → Bool
is-wrong (Ok p) = false
is-wrong (Err r) = true

abbrev as-answer : Result Span Refusal → Answer
as-answer (Ok p) = accepted_with 0 0
as-answer (Err r) = Err r

abbrev span-of : Result Span Refusal → Span
span-of (Ok p) = p
span-of (Err r) = record { from = 0; end = 0 }

apart : {A : Type 0} (x y : Result Span Refusal) → is-wrong x ≡ false → is-wrong y ≡ true → x ≡ y → A
apart x y f g h = let q = sym f ∙ ap is-wrong h ∙ g in let t : ◌≡◌ {A = ℕ} 0 1 = cc in absurd (omega arith)

-- the line of one clause, or the lines of all, behind the checks that both have
module _ (l : Lists) (u : Renaming) (ns : List Node) (before : List ℕ) where
  abbrev shown : List ℕ → Wrote (List ℕ)
  shown lines = shown_with u ns l.option_list l.helper_list lines before

  abbrev pub line_or_lines : Option ℕ → Wrote (List ℕ)
  line_or_lines None = shown (lines_of (named l) u ns (length (output_of u ns)))
  line_or_lines (Some k) = afterwards (clause_checked (length (output_of u ns)) k) before (shown (line_of (named l) u ns k))

  module _ (total : ℕ) (e : total ≡ length (output_of u ns)) where
    abbrev here : ℕ → Span
    here k = record { from = k; end = k + 1 }

    abbrev choice : Bool → ℕ → Result Span Refusal
    choice b k = cond b (Ok (here k)) (Err (NoClause k))

    abbrev line : Bool → ℕ → Wrote (List ℕ)
    line b k = afterwards (cond b (accepted_with 0 0) (Err (NoClause k))) before (shown (line_of (named l) u ns k))

    counted-line : (k : ℕ) → line (ltb k total) k ≡ line_or_lines (Some k)
    counted-line k = ap (λ (n : ℕ). line (ltb k n) k) e

    -- refusal 15
    pub span-refused : (clause : Option ℕ) (r : Refusal) → spanned clause total ≡ Err r
        → record { answer = Err r; output = before } ≡ line_or_lines clause
    span-refused None r f = apart _ (Err r) refl refl f
    span-refused (Some k) r f = go (ltb k total) f ∙ counted-line k
      where
        go : (b : Bool) → choice b k ≡ Err r → record { answer = Err r; output = before } ≡ line b k
        go true g = apart _ (Err r) refl refl g
        go false g = sym (ap (λ (a : Result Span Refusal). record { answer = as-answer a; output = before }) g)

    -- the lines of the span are those that are told
    pub span-shown : (clause : Option ℕ) (p : Span) → spanned clause total ≡ Ok p → shown (lines_between l u ns p) ≡ line_or_lines clause
    span-shown None p f =
        ap shown (ap (λ (a : Result Span Refusal). lines_between l u ns (span-of a)) (sym f)
        ∙ ap (λ (n : ℕ). lines_between l u ns (record { from = 0; end = n })) e
        ∙ all_lines (named l) u ns (length (output_of u ns)))
    span-shown (Some k) p f = go (ltb k total) f ∙ counted-line k
      where
        go : (b : Bool) → choice b k ≡ Ok p → shown (lines_between l u ns p) ≡ line b k
        go true g =
            ap shown (ap (λ (a : Result Span Refusal). lines_between l u ns (span-of a)) (sym g) ∙ one_line (named l) u ns k)
        go false g = apart (Ok p) _ refl refl (sym g)

    -- and it lies in the output
    pub span-inside : (clause : Option ℕ) (p : Span) → spanned clause total ≡ Ok p
        → (p.from ≤ p.end) × (p.end ≤ length (output_of u ns))
    span-inside None p f =
        let from = ap (λ (a : Result Span Refusal). (span-of a).from) f in
        let end = ap (λ (a : Result Span Refusal). (span-of a).end) f in
        (omega arith, omega (arith, e))
    span-inside (Some k) p f = go (ltb k total) refl f
      where
        go : (b : Bool) → ltb k total ≡ b → choice b k ≡ Ok p → (p.from ≤ p.end) × (p.end ≤ length (output_of u ns))
        go true h g =
            let from = ap (λ (a : Result Span Refusal). (span-of a).from) g in
            let end = ap (λ (a : Result Span Refusal). (span-of a).end) g in
            let low = ltb-true k total h in
            (omega arith, omega (arith, e))
        go false h g = apart (Ok p) _ refl refl (sym g)

-- a formula that was prepared: what is answered behind the check of its set
module _ (t : List ℕ) (l : Lists) (marks s : List ℕ) (columns : Columns) (sum : Size) (m : Measured t l.options marks s columns sum)
    (before : List ℕ) (clause : Option ℕ) where
  abbrev v : ℕ
  v = l.options

  abbrev u : Renaming
  u = renaming v s

  abbrev ns : List Node
  ns = nodes_of t

  abbrev told : Wrote (List ℕ)
  told = line_or_lines l u ns before clause

  abbrev output : Size
  output = size_of (output_of u ns)

  -- the totals decide as the output does
  whole-is : sum ≡ totals.shown output
  whole-is = written.sum_is t v marks s columns m.prepared sum m.whole []

  counted-told : (b : Answer) → b ≡ accepted_with 0 0 → (c : Option ℕ)
      → afterwards b before (afterwards (ceilings output) before (line_or_lines l u ns before c))
      ≡ afterwards (ceilings output) before (line_or_lines l u ns before c)
  counted-told b e c = ap (λ (a : Answer). afterwards a before (afterwards (ceilings output) before (line_or_lines l u ns before c))) e

  under : (c : Option ℕ) → afterwards (ceilings output) before (line_or_lines l u ns before c) ≡ shown_under c l u ns before
  under None = sym (counted-told (set_checked ns s) m.prepared.settled.set None)
  under (Some k) = sym (counted-told (set_checked ns s) m.prepared.settled.set (Some k))

  module _ (a : Answer) (e : a ≡ ceilings sum) where
    decides : a ≡ ceilings output
    decides = e ∙ ap ceilings whole-is ∙ ceilings-shown output

    pub below-refused : (r : Refusal) → a ≡ Err r → record { answer = Err r; output = before } ≡ shown_under clause l u ns before
    below-refused r g = refused-wrote a (ceilings output) decides r before told g ∙ under clause

    module _ (k : Accepted) (g : a ≡ Ok k) where
      ok : refuses (ceilings output) ≡ false
      ok = accepts_of a (ceilings output) decides k g

      behind : told ≡ shown_under clause l u ns before
      behind = accepted-wrote a (ceilings output) decides k before told told g refl ∙ under clause

      pub total-short : length (output_of u ns) < clause_ceiling
      total-short = (sizes-below output ok).0

      module _ (total : ℕ) (f : total ≡ sum.clauses) where
        pub total-is : total ≡ length (output_of u ns)
        total-is = f ∙ ap (λ (x : Size). x.clauses) (whole-is ∙ (sizes-below output ok).2)

        pub told-refused : (r : Refusal) → spanned clause total ≡ Err r
            → record { answer = Err r; output = before } ≡ shown_under clause l u ns before
        told-refused r h = span-refused l u ns before total total-is clause r h ∙ behind

        module _ (p : Span) (h : spanned clause total ≡ Ok p) (b : Answer) (after : List ℕ)
            (q : ◌≡◌ {A = Wrote (List ℕ)} (record { answer = b; output = after }) (named_with l u ns (lines_between l u ns p) before)) where
          abbrev values : Answer
          values = accepted_with (variables_of u (length ns)) (length (output_of u ns))

          lines : shown_with u ns l.option_list l.helper_list (lines_between l u ns p) before ≡ shown_under clause l u ns before
          lines = span-shown l u ns before total total-is clause p h ∙ behind

          pub names-refused : (r : Refusal) → b ≡ Err r → record { answer = Err r; output = after } ≡ shown_under clause l u ns before
          names-refused r j =
              stored_refused (names_checked u ns l.option_list l.helper_list) (lines_between l u ns p) before values b after q r j ∙ lines

          pub names-accepted : (last : ℕ) → last ≡ variables_of u (length s) → (x : Accepted) → b ≡ Ok x
              → record { answer = accepted_with last total; output = after } ≡ shown_under clause l u ns before
          names-accepted last w x j =
              let variables = w ∙ ap (variables_of u) (written.right t v marks s columns m.prepared).size in
              (λ i. record { answer = accepted_with (variables i) (total-is i); output = after })
              ∙ stored_accepted (names_checked u ns l.option_list l.helper_list) (lines_between l u ns p) before values b after q x j
              ∙ lines

  pub listed-unnamed : Unnamed v s (replicate 1_024 0)
  listed-unnamed = written.unnamed t v marks s columns m.prepared

-- the same of nodes that are lent, with their helpers and lists
module _ (x : Nodes) (y : Voices) (marks s : List ℕ) (sum : Size) (m : Measured x.table.now y.options marks s x.columns.now sum)
    (w : Showable x.table.now y) (last : ℕ) (e : last ≡ variables_of (renaming y.options s) (length s))
    (h : x.helpers.now ≡ helpers_of (renaming y.options s) (length s)) where
  pub listed : (clause : Option ℕ) (total : ℕ) → total ≡ length (output_of (renaming y.options s) (nodes_of x.table.now))
      → length (output_of (renaming y.options s) (nodes_of x.table.now)) < clause_ceiling
      → (p : Span) → spanned clause total ≡ Ok p → Listed x marks s y (last - y.options) p
  listed clause total f short p g =
      let inside = span-inside (lists_of y) (renaming y.options s) (nodes_of x.table.now) [] total f clause p g in
      let size = (written.right x.table.now y.options marks s x.columns.now m.prepared).size in
      record {
        ground = record { table = w.table; prepared = m.prepared; named = h; short = short };
        helped = omega (arith, ap (renamed_below s) size);
        order = inside.0;
        within = inside.1;
        unnoted = w.unnoted;
      }

-- a table that was checked, and lists of which nothing is noted
pub showable : (t : List ℕ) (v : ℕ) → refuses (checked t v) ≡ false → (options helpers : Bor (List ℕ)) (y : Voices)
    → y ≡ unnoted v options helpers → Showable t y
showable t v ok options helpers y e = subst⁻¹ (Showable t) e (record {
  table = checked-accepted t v ok;
  convertible = convertible t v ok v (few-options t v ok);
  unnoted = record { options = refl; helpers = refl };
})
