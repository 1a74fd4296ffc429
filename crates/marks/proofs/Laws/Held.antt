-- The array that holds marks: reading, marking and passing on in the array are those of the list of marks.
-- Assumes nothing.
use mathlib.Core.Path.{◌≡◌, refl, sym, ap, ◌∙◌}
use mathlib.Core.Bool.{Bool, true, false, cond, not, ◌&&◌}
use mathlib.Core.List.{List, [], ◌∷◌, ◌++◌, map}
use Prim.Native.Nat.{ℕ, zero, suc, ◌+◌, ◌-◌, ◌≤◌, ◌<◌}
use native.Mathlib.Omega.{arith}
use native.Mathlib.Numerals.{add-one}
use lib.Dec.{eqb, ltb}
use lib.ListN.{length, set, replicate, length-map, length-replicate, length-set, get_or-map, replicate-append-replicate}
use lib.Seq.{set_out}
use borrow.Author.Tests.{ltb-true, ltb-false}
use Rattle.laws.specs.Inner.Stores.{pad_to}
use Rattle.laws.proofs.Arrays.{get_d_pad, pad_set}
use Rattle.formula.specs.Tables.{most_nodes, node_at, node_count, nodes_of}
use Rattle.formula.proofs.Laws.Tables.{length-nodes_of, node_in-nodes_of}
use Rattle.marks.specs.Marks.{unmarked, positive, joined, to_a, to_b, mark_in, mark, pass_on, root_marked, marks_of, mark_of}
use Rattle.marks.specs.Sets.{operator, reached, may_rename}
use Rattle.marks.specs.Inner.Held.{byte_of, mark_by, held, held_at, held_more, held_passed, MarkedAt}
use Rattle.marks.specs.declared.mark.Mark.{Mark}
use Rattle.formula.specs.declared.node.Node.{Node}

mark_by-byte_of : (m : Mark) → mark_by (byte_of m) ≡ m
mark_by-byte_of m = go m.positive m.negative
  where
    go : (p n : Bool) → mark_by (cond p 1 0 + cond n 2 0) ≡ record { positive = p; negative = n }
    go true true = refl
    go true false = refl
    go false true = refl
    go false false = refl

map-set : (ms : List Mark) (i : ℕ) (m : Mark) → map byte_of (set ms i m) ≡ set (map byte_of ms) i (byte_of m)
map-set [] i m = refl
map-set (x ∷ ms) zero m = refl
map-set (x ∷ ms) (suc i) m = ap (λ (l : List ℕ). byte_of x ∷ l) (map-set ms i m)

map-replicate : (n : ℕ) (m : Mark) → map byte_of (replicate n m) ≡ replicate n (byte_of m)
map-replicate zero m = refl
map-replicate (suc n) m = ap (λ (l : List ℕ). byte_of m ∷ l) (map-replicate n m)

pub held_at-held : (ms : List Mark) (i : ℕ) → held_at (held ms) i ≡ mark_in ms i
held_at-held ms i =
    ap mark_by (get_d_pad 0 most_nodes (map byte_of ms) i ∙ get_or-map byte_of ms i unmarked) ∙ mark_by-byte_of (mark_in ms i)

-- a store in the list is a store in the array
held-set : (ms : List Mark) (i : ℕ) (m : Mark) → i < length ms → set (held ms) i (byte_of m) ≡ held (set ms i m)
held-set ms i m h =
    pad_set 0 most_nodes (map byte_of ms) i (byte_of m) (omega (arith, length-map ms byte_of))
    ∙ ap (pad_to most_nodes 0) (sym (map-set ms i m))

pub held_more-held : (ms : List Mark) (i : ℕ) (m : Mark) → held_more (length ms) (held ms) i m ≡ held (mark i m ms)
held_more-held ms i m = go (ltb i (length ms)) refl
  where
    go : (b : Bool) → ltb i (length ms) ≡ b → cond b (set (held ms) i (byte_of (joined (held_at (held ms) i) m))) (held ms)
        ≡ held (mark i m ms)
    go true e =
        ap (λ (x : Mark). set (held ms) i (byte_of (joined x m))) (held_at-held ms i)
        ∙ held-set ms i (joined (mark_in ms i) m) (ltb-true i (length ms) e)
    go false e = ap held (sym (set_out ms i (joined (mark_in ms i) m) (ltb-false i (length ms) e)))

pub held_passed-held : (ms : List Mark) (i : ℕ) (n : Node) → held_passed (length ms) (held ms) i n ≡ held (pass_on n (mark_in ms i) ms)
held_passed-held ms i n =
    let m : Mark = mark_in ms i in
    let before : List Mark = mark n.a (to_a n.kind m) ms in
    let len : length ms ≡ length before = sym (length-set ms n.a (joined (mark_in ms n.a) (to_a n.kind m))) in
    ap (λ (x : Mark). held_more (length ms) (held_more (length ms) (held ms) n.a (to_a n.kind x)) n.b (to_b n.kind x))
    (held_at-held ms i)
    ∙ ap (λ (l : List ℕ). held_more (length ms) l n.b (to_b n.kind m)) (held_more-held ms n.a (to_a n.kind m))
    ∙ ap (λ (k : ℕ). held_more k (held before) n.b (to_b n.kind m)) len
    ∙ held_more-held before n.b (to_b n.kind m)

-- an empty array holds the marks of nodes that nothing reaches
held-unmarked : (n : ℕ) → n ≤ most_nodes → replicate most_nodes 0 ≡ held (replicate n unmarked)
held-unmarked n h =
    let e : most_nodes ≡ n + (most_nodes - length (map byte_of (replicate n unmarked))) =
    omega (arith, length-map (replicate n unmarked) byte_of, length-replicate n unmarked) in
    ap (λ (k : ℕ). replicate k 0) e
    ∙ sym (replicate-append-replicate n (most_nodes - length (map byte_of (replicate n unmarked))) 0)
    ∙ ap (λ (l : List ℕ). l ++ replicate (most_nodes - length (map byte_of (replicate n unmarked))) 0) (sym (map-replicate n unmarked))

pub held-root : (n : ℕ) → 0 < n → n ≤ most_nodes → set (replicate most_nodes 0) (n - 1) 1 ≡ held (root_marked n)
held-root n p h =
    ap (λ (l : List ℕ). set l (n - 1) 1) (held-unmarked n h)
    ∙ held-set (replicate n unmarked) (n - 1) positive (omega (arith, length-replicate n unmarked))

-- whether a node may be renamed, as the table and the array tell it
pub may_rename_at : (t marks : List ℕ) (i : ℕ) → MarkedAt t marks i
    → (operator (node_at t i).kind && (reached (held_at marks i) && not (eqb (i + 1) (node_count t)))) ≡ may_rename (nodes_of t) i
may_rename_at t marks i m =
    let ns = nodes_of t in
    let mark : held_at marks i ≡ mark_of ns i = ap (λ l. held_at l i) m.marked.are ∙ held_at-held (marks_of ns) i in
    rw (node_in-nodes_of t i m.inside, ← mark, length-nodes_of t, add-one i)
