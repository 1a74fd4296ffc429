-- The next line of a text, from a place on.
-- Assumes nothing.
use mathlib.Core.Path.{◌≡◌, refl, sym, ap, ◌∙◌}
use mathlib.Core.Bool.{Bool, true, false}
use mathlib.Core.List.{List, [], ◌∷◌}
use Prim.Native.Nat.{ℕ, ◌+◌, ◌-◌, ◌≤◌, ◌<◌}
use native.Mathlib.Omega.{arith}
use lib.ListN.{length, take, drop}
use borrow.Author.Tests.{lt-ltb, le-ltb}
use Rattle.laws.proofs.Choices.{chose_first, chose_second}
use Rattle.text.specs.Texts.{parted}
use Rattle.text.specs.Inner.Pieces.{MarkAt}
use Rattle.std.specs.Prelude.{Some, None}
use Rattle.text.proofs.Laws.Pieces.{parted-next, pieces-within, pieces-past, parted-some}
use Rattle.formula.specs.Tables.{most_nodes, node_record}
use Rattle.nodefile.specs.Files.{newline, field_value, option_line, option_count, node_line}
use Rattle.nodefile.specs.Inner.Steps.{next_passes, LineIs, OptionsAre, node_test, NodeIs, options_of, node_of}
use Rattle.nodefile.specs.declared.line.Node.{Node}
use Rattle.nodefile.proofs.Laws.Fields.{number-differs, number_same}

module _ (test : List ℕ → Bool) (text : List ℕ) (at end : ℕ) (m : MarkAt newline text at end) where
  -- no newline
  pub next-open : end ≡ length text → next_passes test (parted newline (drop at text)) ≡ false
  next-open h = rw (parted-next newline m, pieces-past newline text (end + 1) (omega arith))

  module _ (h : end ≡ length text → ⊥) where
    ended : parted newline (drop at text) ≡ take (end - at) (drop at text) ∷ parted newline (drop (end + 1) text)
    ended =
        parted-next newline m
        ∙ ap (λ (ps : List (List ℕ)). take (end - at) (drop at text) ∷ ps)
        (pieces-within newline text (end + 1) (omega (arith, m.within)))

    pub next_fails : test (take (end - at) (drop at text)) ≡ false
        → next_passes test (parted newline (drop at text)) ≡ false
    next_fails e = rw (ended, parted-some newline (drop (end + 1) text)) e

    pub next-is : test (take (end - at) (drop at text)) ≡ true
        → LineIs test text at (end + 1) (take (end - at) (drop at text))
    next-is e = record {
      pieces = ended;
      passes = e;
      beyond = omega (arith, m.behind);
      within = omega (arith, m.within);
    }

-- the option line
module _ (text : List ℕ) (end : ℕ) (m : MarkAt newline text 0 end) (h : end ≡ length text → ⊥) where
  front : take (end - 0) text ≡ take end text
  front = let k : end - 0 ≡ end = omega arith in ap (λ (n : ℕ). take n text) k

  pub options_fail : None ≡ options_of (take end text) → next_passes option_line (parted newline text) ≡ false
  options_fail e =
      let line = take end text in
      let v = option_count line in
      let f = chose_second (Some v) None (number-differs v) (option_line line) e in
      next_fails option_line text 0 end m h (ap option_line front ∙ f)

  pub options-are : (v : ℕ) → Some v ≡ options_of (take end text) → OptionsAre text v (end + 1)
  options-are v e =
      let line = take end text in
      let x = Some (option_count line) in
      let c = chose_first x None (Some v) (number-differs v) (option_line line) e in
      record {
        line = take (end - 0) text;
        found = next-is option_line text 0 end m h (ap option_line front ∙ c.0);
        same = number_same v (option_count line) c.1 ∙ sym (ap option_count front);
      }

-- the line of a node
node-differs : (n : Node) → Some n ≡ None → ⊥
node-differs n e = let z : ◌≡◌ {A = ℕ} 0 1 = cc in omega arith

node_record_lem : (n m : Node) → Some n ≡ Some m → node_record m.kind m.a m.b ≡ node_record n.kind n.a n.b
node_record_lem n m e =
    let p : m ≡ n = cc in
    ap (λ (x : Node). node_record x.kind x.a x.b) p

-- a node too many
over : (i : ℕ) (ps : List (List ℕ)) → most_nodes ≤ i → next_passes (node_test i) ps ≡ false
over i [] h = refl
over i (l ∷ []) h = refl
over i (l ∷ p ∷ ps) h = rw (le-ltb i most_nodes h)

module _ (text : List ℕ) (at end i : ℕ) (m : MarkAt newline text at end) (h : end ≡ length text → ⊥)
    (few : i < most_nodes) where
  abbrev pub line : List ℕ
  line = take (end - at) (drop at text)

  -- what its fields say
  abbrev said : Node
  said = record { kind = field_value line 1; a = field_value line 2; b = field_value line 3 }

  pub node_fails : None ≡ node_of i line → next_passes (node_test i) (parted newline (drop at text)) ≡ false
  node_fails e =
      let f = chose_second (Some said) None (node-differs said) (node_line i line) e in
      next_fails (node_test i) text at end m h (rw (lt-ltb i most_nodes few) f)

  pub node-is : (n : Node) → Some n ≡ node_of i line → NodeIs text at i n.kind n.a n.b (end + 1)
  node-is n e =
      let c = chose_first (Some said) None (Some n) (node-differs n) (node_line i line) e in
      record {
        line = line;
        found = next-is (node_test i) text at end m h (rw (lt-ltb i most_nodes few) c.0);
        same = node_record_lem n said c.1;
      }
