-- A file, line by line: what a reader knows who stands behind some right lines, and the records that it has collected.
-- Assumes nothing.
use mathlib.Core.Path.{◌≡◌, refl, sym, ap, ◌∙◌}
use mathlib.Core.Bool.{Bool, true, false, and-false}
use mathlib.Core.List.{List, [], ◌∷◌, ◌++◌, append_assoc}
use Prim.Native.Nat.{ℕ, zero, suc, ◌+◌, ◌*◌, ◌≤◌, ◌<◌}
use native.Mathlib.Nat.{add-zero}
use native.Mathlib.Numerals.{add-one}
use native.Mathlib.Omega.{arith}
use lib.Dec.{eqb, ltb}
use lib.ListN.{length, get_or, take, drop, length-drop, length-append, drop_of_length-le}
use lib.Seq.{drop-drop, get_or-drop, take_at, length-take-le}
use borrow.Author.Tests.{ltb-true, ltb-false, lt-ltb, le-ltb, eq-eqb, ne_eqb}
use Rattle.laws.specs.Lists.{splice}
use Rattle.laws.proofs.Choices.{both}
use Rattle.laws.proofs.First.{Looking, looking_start, looking_more, looking_here, looking_end}
use Rattle.laws.proofs.Splices.{length-splice}
use Rattle.formula.specs.Tables.{node_bytes, most_nodes, node_record}
use Rattle.text.specs.Texts.{parted}
use Rattle.text.proofs.Laws.Pieces.{parted-some, parted_alone}
use Rattle.nodefile.specs.Files.{newline, option_count, node_line, record_of, line_count, line_of, line_right, first_wrong, file_right}
use Rattle.nodefile.specs.Files.{file_nodes, records_to}
use Rattle.nodefile.specs.Inner.Steps.{next_passes, LineIs, OptionsAre, node_test, NodeIs}

-- the lowest wrong or missing line is line i
pub record Refused (text : List ℕ) (i : ℕ) : Type 0 where
  pub line : first_wrong text ≡ i
  pub wrong : file_right text ≡ false

module _ (text : List ℕ) where
  -- a reader stands at `at`, behind i lines, all of them right
  pub record Standing (at i : ℕ) : Type 0 where
    pub behind : drop i (parted newline text) ≡ parted newline (drop at text)
    pub looking : Looking (line_right text) (line_count text) i

  pub standing-start : Standing 0 0
  standing-start = record { behind = refl; looking = looking_start (line_right text) (line_count text) }

  module _ {at i : ℕ} (s : Standing at i) where
    -- how many pieces there are in all
    pieces-left : (n : ℕ) → length (parted newline (drop at text)) ≡ suc n → length (parted newline text) ≡ i + suc n
    pieces-left n e = omega (arith, ap length s.behind, length-drop i (parted newline text))

    line-here : (l : List ℕ) (ps : List (List ℕ)) → parted newline (drop at text) ≡ l ∷ ps → line_of text i ≡ l
    line-here l ps e =
        ap (λ (n : ℕ). get_or (parted newline text) n []) (sym (add-zero i))
        ∙ sym (get_or-drop i (parted newline text) 0 [])
        ∙ ap (λ (qs : List (List ℕ)). get_or qs 0 []) (s.behind ∙ e)

    -- a right line more
    module _ {test : List ℕ → Bool} {next : ℕ} {line : List ℕ} (f : LineIs test text at next line) where
      pub passed-line : line_of text i ≡ line
      passed-line = line-here line (parted newline (drop next text)) f.pieces

      pub standing-more : line_right text i ≡ test (line_of text i) → Standing next (i + 1)
      standing-more e =
          let rest = parted newline (drop next text) in
          let some = ap length (parted-some newline (drop next text)) in
          let all = pieces-left (length rest) (ap length f.pieces) in
          record {
            behind = sym (drop-drop 1 i (parted newline text)) ∙ ap (drop 1) (s.behind ∙ f.pieces);
            looking =
                let right : line_right text i ≡ true = e ∙ ap test passed-line ∙ f.passes in
                looking_more (line_right text) (line_count text) i s.looking (omega (arith, all, some)) right;
          }

    -- what stands here is not ended: the option line, or some bytes
    refused-open : (l : List ℕ) → parted newline (drop at text) ≡ l ∷ [] → (0 < i → at < length text) → Refused text i
    refused-open l q more = record {
      line = sym (looking_end (line_right text) (line_count text) i s.looking (omega (arith, count)));
      wrong = go (ltb 0 i) refl;
    }
      where
        count : line_count text ≡ i
        count = omega (arith, pieces-left 0 (ap length q))

        bytes : line_of text (line_count text) ≡ drop at text
        bytes = ap (line_of text) count ∙ line-here l [] q ∙ parted_alone newline (drop at text) l q

        go : (b : Bool) → ltb 0 i ≡ b → file_right text ≡ false
        go false g = rw (le-ltb 0 (line_count text) (omega (arith, count, ltb-false 0 i g)))
        go true g =
            let h = more (ltb-true 0 i g) in
            let k = ne_eqb (length (line_of text (line_count text))) 0
            (λ z. omega (arith, z, ap length bytes, length-drop at text)) in
            rw (k, and-false (eqb (first_wrong text) (line_count text)), and-false (ltb 0 (line_count text)))

    -- a line that is ended and wrong
    refused-wrong : (l : List ℕ) (ps : List (List ℕ)) → parted newline (drop at text) ≡ l ∷ ps → 0 < length ps
        → line_right text i ≡ false → Refused text i
    refused-wrong l ps q h e =
        let all = pieces-left (length ps) (ap length q) in
        let here = looking_here (line_right text) (line_count text) i s.looking (omega (arith, all)) e in
        record {
          line = sym here;
          wrong =
              let k = ne_eqb (first_wrong text) (line_count text) (λ z. omega (arith, z, here, all)) in
              rw (k, and-false (ltb 0 (line_count text)));
        }

    pub refused-here : (test : List ℕ → Bool) → line_right text i ≡ test (line_of text i)
        → next_passes test (parted newline (drop at text)) ≡ false → (0 < i → at < length text) → Refused text i
    refused-here test e p more = go (parted newline (drop at text)) refl p
      where
        go : (ps : List (List ℕ)) → parted newline (drop at text) ≡ ps → next_passes test ps ≡ false → Refused text i
        go [] q r = absurd (omega (arith, ap length q, ap length (parted-some newline (drop at text))))
        go (l ∷ []) q r = refused-open l q more
        go (l ∷ k ∷ ps) q r = refused-wrong l (k ∷ ps) q (omega arith) (e ∙ ap test (line-here l (k ∷ ps) q) ∙ r)

  -- behind the option line
  pub options-standing : {v next : ℕ} → OptionsAre text v next → (v ≡ option_count (line_of text 0)) × Standing next 1
  options-standing o = (
    o.same ∙ ap option_count (sym (passed-line standing-start o.found)),
    standing-more standing-start o.found refl,
  )

  -- the test of the line of node k
  pub node-tested : (k : ℕ) → line_right text (k + 1) ≡ node_test k (line_of text (k + 1))
  node-tested k = rw (add-one k)

  -- behind the line of node k
  module _ {at k kind a b next : ℕ} (s : Standing at (k + 1)) (n : NodeIs text at k kind a b next) where
    pub node-standing : Standing next (k + 1 + 1)
    node-standing = standing-more s n.found (node-tested k)

    pub node_record_lem : record_of (line_of text (k + 1)) ≡ node_record kind a b
    node_record_lem = ap record_of (passed-line s n.found) ∙ n.same

    pub node-few : k < most_nodes
    node-few = ltb-true k most_nodes (both (ltb k most_nodes) (node_line k n.line) n.found.passes).0

  -- the end of the text, behind the option line and k node lines
  pub right_end : {at k : ℕ} → Standing at (k + 1) → length text ≤ at → (file_right text ≡ true) × (file_nodes text ≡ k)
  unfolding parted
  right_end {at} {k} s h =
      let end : parted newline (drop at text) ≡ [] ∷ [] = rw (drop_of_length-le text h) in
      let all : length (parted newline text) ≡ k + 1 + 1 = pieces-left s 0 (ap length end) in
      let n : line_count text ≡ k + 1 = omega arith in
      let found = looking_end (line_right text) (line_count text) (k + 1) s.looking (omega arith) in
      let last : line_of text (line_count text) ≡ [] = ap (line_of text) n ∙ line-here s [] [] end in
      let f = eq-eqb (first_wrong text) (line_count text) (omega (arith, found)) in
      let g = eq-eqb (length (line_of text (line_count text))) 0 (ap length last) in
      (rw (lt-ltb 0 (line_count text) (omega arith), f, g), omega arith)

-- the records of the first k nodes stand in the front of an array
pub record Collected (text bytes : List ℕ) (k : ℕ) : Type 0 where
  pub size : length bytes ≡ node_bytes * most_nodes
  pub front : take (node_bytes * k) bytes ≡ records_to text k

pub length_records : (text : List ℕ) (k : ℕ) → length (records_to text k) ≡ node_bytes * k
unfolding records_to
length_records text zero = refl
length_records text (suc k) =
    length-append (records_to text k) (record_of (line_of text (suc k))) ∙ omega (arith, length_records text k)

pub collected_start : (text bytes : List ℕ) → length bytes ≡ node_bytes * most_nodes → Collected text bytes 0
unfolding records_to
collected_start text bytes h = record { size = h; front = refl }

pub collected_more : {text bytes : List ℕ} {k : ℕ} → Collected text bytes k → k < most_nodes
    → (kind a b : ℕ) (after : List ℕ) → record_of (line_of text (k + 1)) ≡ node_record kind a b
    → after ≡ splice bytes (node_bytes * k) (node_record kind a b) → Collected text after (k + 1)
unfolding records_to
collected_more {text} {bytes} {k} c h kind a b after e f =
    let at : ℕ = node_bytes * k in
    let r : List ℕ = node_record kind a b in
    let l = length-take-le at bytes (omega (arith, c.size)) in
    let n : length (take at bytes ++ r) ≡ node_bytes * (k + 1) = length-append (take at bytes) r ∙ omega arith in
    record {
      size = ap length f ∙ length-splice bytes at r (omega (arith, c.size)) ∙ c.size;
      front =
          ap (take (node_bytes * (k + 1))) (f ∙ sym (append_assoc (take at bytes) r (drop (at + node_bytes) bytes)))
          ∙ take_at (take at bytes ++ r) (drop (at + node_bytes) bytes) (node_bytes * (k + 1)) n
          ∙ rw (c.front, ← e, add-one k);
    }
