-- R19.19: a line cut at its tabs has the fields, each name whole, and no newline stands in a line but at its end.
-- Assumes nothing.
use mathlib.Core.Path.{◌≡◌, refl, sym, ap, ◌∙◌}
use mathlib.Core.Bool.{Bool, true, false, cond, not, ◌&&◌, ◌||◌}
use mathlib.Core.List.{List, [], ◌∷◌, ◌++◌, map, append_assoc}
use Prim.Native.Nat.{ℕ, zero, suc, ◌+◌, ◌-◌, ◌≤◌, ◌<◌}
use native.Mathlib.Omega.{arith}
use lib.Dec.{eqb, leb}
use lib.ListN.{get_or, get_or-append}
use borrow.Author.Tests.{leb-true, leb-false}
use Rattle.laws.specs.Lists.{Every, none, more, up_to}
use Rattle.laws.proofs.Choices.{both}
use Rattle.laws.proofs.Upward.{length-up_to, get_d_up_to}
use Rattle.formula.specs.declared.node.Node.{Node}
use Rattle.text.specs.Texts.{decimal, parted, joined}
use Rattle.text.specs.Inner.Numbers.{is_digit}
use Rattle.text.proofs.Laws.Pieces.{free, parted-whole, parted_piece, decimal-free}
use Rattle.names.specs.Names.{tab, newline, has, is_none, right_names, name_in, name_of}
use Rattle.names.proofs.Laws.Names.{name-right, name_no_newline}
use Rattle.clausal.specs.Clauses.{Literal, Clause, Renaming}
use Rattle.clausal.specs.Output.{Direction, root, down, up, output_of}
use Rattle.origin.specs.Origins.{Source, source_of, direction_word, shown_literal, fields_of, line_text, line_of, lines_of}
use Rattle.origin.specs.Inner.Lines.{Ranged}

-- pieces without the mark, put together and cut again
parted-joined : (mark : ℕ) {p : List ℕ} {ps : List (List ℕ)} → free mark p ≡ true → Every (λ q. free mark q ≡ true) ps
    → parted mark (joined mark (p ∷ ps)) ≡ p ∷ ps
parted-joined mark {p} h none = parted-whole mark p h
parted-joined mark {p} h (more {x = q} {xs = qs} g e) =
    parted_piece mark p (joined mark (q ∷ qs)) h ∙ ap (λ (l : List (List ℕ)). p ∷ l) (parted-joined mark g e)

module _ (mark : ℕ) where
  free_append : (xs ys : List ℕ) → free mark xs ≡ true → free mark ys ≡ true → free mark (xs ++ ys) ≡ true
  unfolding free
  free_append [] ys f g = g
  free_append (x ∷ xs) ys f g =
      let c = both (not (eqb x mark)) (free mark xs) f in
      λ i. c.0 i && free_append xs ys c.1 g i

  free-has : (xs : List ℕ) → has mark xs ≡ false → free mark xs ≡ true
  unfolding free has
  free-has [] h = refl
  free-has (x ∷ xs) h = go (eqb x mark) h (free-has xs)
    where
      go : (b : Bool) → (b || has mark xs) ≡ false → (has mark xs ≡ false → free mark xs ≡ true) → (not b && free mark xs) ≡ true
      go true e ih = let z : ◌≡◌ {A = ℕ} 0 1 = cc in absurd (omega arith)
      go false e ih = ih e

  -- joined by another byte, pieces without the mark have no mark
  free-joined : (by : ℕ) → eqb by mark ≡ false → (p : List ℕ) (ps : List (List ℕ)) → free mark p ≡ true
      → Every (λ q. free mark q ≡ true) ps → free mark (joined by (p ∷ ps)) ≡ true
  unfolding free
  free-joined by n p [] h none = h
  free-joined by n p (q ∷ qs) h (more g e) =
      free_append p (by ∷ joined by (q ∷ qs)) h (step (joined by (q ∷ qs)) (free-joined by n q qs g e))
    where
      step : (l : List ℕ) → free mark l ≡ true → free mark (by ∷ l) ≡ true
      step l f = λ i. not (n i) && f i

has-none : (mark : ℕ) → has mark [] ≡ false
unfolding has
has-none mark = refl

-- the words have neither mark
word_no_tab : (d : Direction) → free tab (direction_word d) ≡ true
unfolding free
word_no_tab root = refl
word_no_tab down = refl
word_no_tab up = refl

word_no_newline : (d : Direction) → free newline (direction_word d) ≡ true
unfolding free
word_no_newline root = refl
word_no_newline down = refl
word_no_newline up = refl

-- fields without a mark that is no digit, not `!`, and in no word and no name
module _ (mark most : ℕ) (name : ℕ → List ℕ) (digit : is_digit mark ≡ false) (word : (d : Direction) → free mark (direction_word d) ≡ true)
    (negation : free mark (33 ∷ []) ≡ true) (named : (x : ℕ) → 0 < x → x ≤ most → has mark (name x) ≡ false) where
  literal-free : (l : Literal) → (0 < l.variable) × (l.variable ≤ most) → free mark (shown_literal name l) ≡ true
  literal-free l r = free_append mark (cond l.plain [] (33 ∷ [])) (name l.variable) (go l.plain)
      (free-has mark (name l.variable) (named l.variable r.0 r.1))
    where
      go : (b : Bool) → free mark (cond b [] (33 ∷ [])) ≡ true
      go true = free-has mark [] (has-none mark)
      go false = negation

  literals-free : {c : Clause} → Ranged most c → Every (λ (q : List ℕ). free mark q ≡ true) (map (shown_literal name) c)
  literals-free none = none
  literals-free (more {x = l} r e) = more (literal-free l r) (literals-free e)

  rest-free : (s : Source) {c : Clause} → Ranged most c → Every (λ (q : List ℕ). free mark q ≡ true)
      (decimal s.origin ∷ decimal s.helper ∷ direction_word s.direction ∷ decimal s.number ∷ map (shown_literal name) c)
  rest-free s r =
      more (decimal-free mark digit s.origin)
      (more (decimal-free mark digit s.helper)
      (more (word s.direction) (more (decimal-free mark digit s.number) (literals-free r))))

  pub cut_fields : (k : ℕ) (s : Source) (c : Clause) → Ranged most c → parted mark (joined mark (fields_of name k s c)) ≡ fields_of name k s c
  cut_fields k s c r = parted-joined mark (decimal-free mark digit k) (rest-free s r)

  pub joined_fields : (by : ℕ) → eqb by mark ≡ false → (k : ℕ) (s : Source) (c : Clause) → Ranged most c
      → free mark (joined by (fields_of name k s c)) ≡ true
  joined_fields by n k s c r = free-joined mark by n (decimal k) _ (decimal-free mark digit k) (rest-free s r)

-- lists of names that are right
module _ (v h : ℕ) (ol hl : List ℕ) (right : right_names v ol ≡ true) (helped : right_names h hl ≡ true) where
  abbrev name : ℕ → List ℕ
  name = name_of ol hl v

  name-is : (x : ℕ) → 0 < x → x ≤ v + h → (has tab (name x) ≡ false) × (has newline (name x) ≡ false)
  name-is x some most = go (leb x v) refl
    where
      whole : (n : ℕ) (list : List ℕ) (j : ℕ) → right_names n list ≡ true → j < n
          → (has tab (name_in list j) ≡ false) × (has newline (name_in list j) ≡ false)
      whole n list j r l =
          let c = both (not (is_none (name_in list j))) (not (has tab (name_in list j))) (name-right n list j r l) in
          (turned (has tab (name_in list j)) c.1, name_no_newline list j)
        where
          turned : (b : Bool) → not b ≡ true → b ≡ false
          turned false e = refl
          turned true e = let z : ◌≡◌ {A = ℕ} 0 1 = cc in absurd (omega arith)

      Whole : List ℕ → Type 0
      Whole l = (has tab l ≡ false) × (has newline l ≡ false)

      go : (b : Bool) → leb x v ≡ b → Whole (cond b (name_in ol (x - 1)) (name_in hl (x - v - 1)))
      go true e = let l = leb-true x v e in whole v ol (x - 1) right (omega arith)
      go false e = let l = leb-false x v e in whole h hl (x - v - 1) helped (omega arith)

  -- R19.19: cut at its tabs, a line has its fields and nothing else
  pub line_cut : (k : ℕ) (s : Source) (c : Clause) → Ranged (v + h) c → parted tab (joined tab (fields_of name k s c)) ≡ fields_of name k s c
  unfolding free
  line_cut k s c r =
      cut_fields tab (v + h) name refl word_no_tab refl (λ x some most. (name-is x some most).0) k s c r

  -- the only newline of a line is its last byte
  pub line-whole : (k : ℕ) (s : Source) (c : Clause) → Ranged (v + h) c → free newline (joined tab (fields_of name k s c)) ≡ true
  unfolding free
  line-whole k s c r =
      joined_fields newline (v + h) name refl word_no_newline refl (λ x some most. (name-is x some most).1) tab refl k s c r

  -- a line that leads a buffer is what stands before the first newline
  pub line_first : (k : ℕ) (s : Source) (c : Clause) → Ranged (v + h) c → (rest : List ℕ)
      → parted newline (line_text (fields_of name k s c) ++ rest) ≡ joined tab (fields_of name k s c) ∷ parted newline rest
  line_first k s c r rest =
      ap (parted newline) (append_assoc (joined tab (fields_of name k s c)) (10 ∷ []) rest)
      ∙ parted_piece newline (joined tab (fields_of name k s c)) rest (line-whole k s c r)

  -- lines one behind another, cut at the newlines
  module _ (u : Renaming) (ns : List Node) (ranged : (k : ℕ) → Ranged (v + h) (get_or (output_of u ns) k [])) where
    abbrev text : ℕ → List ℕ
    text k = joined tab (fields_of name k (source_of u ns k) (get_or (output_of u ns) k []))

    lines-parted : (n : ℕ) (rest : List ℕ)
        → parted newline (lines_of name u ns n ++ rest) ≡ up_to (λ before k. text k) n ++ parted newline rest
    unfolding lines_of up_to
    lines-parted zero rest = refl
    lines-parted (suc n) rest =
        ap (parted newline) (append_assoc (lines_of name u ns n) (line_of name u ns n) rest)
        ∙ lines-parted n (line_of name u ns n ++ rest)
        ∙ ap (λ (ps : List (List ℕ)). up_to (λ before k. text k) n ++ ps) (line_first n (source_of u ns n) _ (ranged n) rest)
        ∙ sym (append_assoc (up_to (λ before k. text k) n) (text n ∷ []) (parted newline rest))

    pub line-among : (n k : ℕ) (rest : List ℕ) → k < n → get_or (parted newline (lines_of name u ns n ++ rest)) k [] ≡ text k
    line-among n k rest l =
        ap (λ (ps : List (List ℕ)). get_or ps k []) (lines-parted n rest)
        ∙ get_or-append (up_to (λ before j. text j) n) (parted newline rest) [] k (omega (arith, length-up_to (λ before j. text j) n))
        ∙ get_d_up_to (λ before j. text j) [] k n l
