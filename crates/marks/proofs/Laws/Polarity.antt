-- The marks are exactly what the rules say: a node has a sign if and only if some path from the root gives it.
-- Assumes nothing.
use mathlib.Core.Path.{◌≡◌, refl, ap, ◌∙◌, subst, subst⁻¹}
use mathlib.Core.Logic.{⊎_elim, ◌≢◌, ◌↔◌}
use mathlib.Core.Bool.{Bool, true, false, not}
use mathlib.Core.List.{List, []}
use Prim.Native.Nat.{ℕ, zero, suc, ◌-◌, ◌≤◌, ◌<◌}
use native.Mathlib.Omega.{arith}
use lib.Dec.{T, eqb, ltb}
use lib.ListN.{length, replicate, length-set, length-replicate, get_or-eq_default, get_or-replicate}
use lib.Seq.{get_or-set_same, get_or-set_other, set_out}
use borrow.Author.Tests.{eqb-true, eqb-false, ltb-true, ltb-false}
use Rattle.answer.specs.Answers.{accepted_with}
use Rattle.formula.specs.Tables.{nodes_of, node_in}
use Rattle.formula.specs.Checks.{checked}
use Rattle.marks.specs.Marks.{unmarked, positive, joined, to_a, to_b, mark_in, mark, pass_on, down_from, root_marked}
use Rattle.marks.specs.Marks.{marks_of, mark_of}
use Rattle.marks.specs.Paths.{Reached, root, not_a, and_a, and_b, or_a, or_b, implies_a, implies_b, equivalent_a, equivalent_b, has}
use Rattle.formula.specs.Inner.Right.{Below, WellFormed}
use Rattle.formula.proofs.Laws.WellFormed.{accepted_well_formed}
use Rattle.marks.proofs.Laws.Marks.{Le, joined_either, turned-has, doubled-has, doubled_either, unmarked-has, mark-same}
use Rattle.marks.proofs.Laws.Marks.{mark-other, Passed, passed}
use Rattle.marks.specs.declared.mark.Mark.{Mark}
use Rattle.formula.specs.declared.node.Kind.{Kind}
use Rattle.formula.specs.declared.node.Kind.TheVariants.{False, True, Symbol, Not, And, Or, Implies, Equivalent, Unknown}
use Rattle.formula.specs.declared.node.Node.{Node}

module _ (ns : List Node) where
  -- from node k on, what a node passes on to a child is in the child's mark
  abbrev Closed : (Kind → Mark → Mark) → (Node → ℕ) → ℕ → List Mark → Type 0
  Closed to child k ms = (i : ℕ) → k ≤ i → Le (to (node_in ns i).kind (mark_in ms i)) (mark_in ms (child (node_in ns i)))

  -- every sign of a mark is given by a path
  abbrev Sound : List Mark → Type 0
  Sound ms = (z : Bool) (i : ℕ) → T (has z (mark_in ms i)) → Reached ns z i

  -- the children of a node are reached with what the node gives them
  module _ (i : ℕ) (m : Mark) (r : (z : Bool) → T (has z m) → Reached ns z i) where
    reached_a : (kd : Kind) → (node_in ns i).kind ≡ kd → (z : Bool) → T (has z (to_a kd m)) → Reached ns z (node_in ns i).a
    reached_a False e z t = absurd (unmarked-has z t)
    reached_a True e z t = absurd (unmarked-has z t)
    reached_a Symbol e z t = absurd (unmarked-has z t)
    reached_a Not e true t = not_a i (r false t) e
    reached_a Not e false t = not_a i (r true t) e
    reached_a And e z t = and_a i (r z t) e
    reached_a Or e z t = or_a i (r z t) e
    reached_a Implies e true t = implies_a i (r false t) e
    reached_a Implies e false t = implies_a i (r true t) e
    reached_a Equivalent e z t = ⊎_elim (λ u. equivalent_a z i (r true u) e) (λ u. equivalent_a z i (r false u) e) (doubled_either m z t)
    reached_a Unknown e z t = absurd (unmarked-has z t)

    reached_b : (kd : Kind) → (node_in ns i).kind ≡ kd → (z : Bool) → T (has z (to_b kd m)) → Reached ns z (node_in ns i).b
    reached_b False e z t = absurd (unmarked-has z t)
    reached_b True e z t = absurd (unmarked-has z t)
    reached_b Symbol e z t = absurd (unmarked-has z t)
    reached_b Not e z t = absurd (unmarked-has z t)
    reached_b And e z t = and_b i (r z t) e
    reached_b Or e z t = or_b i (r z t) e
    reached_b Implies e z t = implies_b i (r z t) e
    reached_b Equivalent e z t = ⊎_elim (λ u. equivalent_b z i (r true u) e) (λ u. equivalent_b z i (r false u) e) (doubled_either m z t)
    reached_b Unknown e z t = absurd (unmarked-has z t)

  -- a node marked with signs that paths give it
  sound-mark : (i : ℕ) (m : Mark) (ms : List Mark) → Sound ms → ((z : Bool) → T (has z m) → Reached ns z i) → Sound (mark i m ms)
  sound-mark i m ms s r z j t = go (eqb j i) refl (ltb i (length ms)) refl
    where
      go : (b : Bool) → eqb j i ≡ b → (l : Bool) → ltb i (length ms) ≡ l → Reached ns z j
      go false e l q = s z j (subst (λ (x : Mark). T (has z x)) (mark-other i m ms j (eqb-false j i e)) t)
      go true e false q = s z j (subst (λ (l : List Mark). T (has z (mark_in l j)))
          (set_out ms i (joined (mark_in ms i) m) (ltb-false i (length ms) q)) t)
      go true e true q =
          let same : j ≡ i = eqb-true j i e in
          let u : T (has z (joined (mark_in ms i) m)) =
          subst (λ (x : Mark). T (has z x)) (ap (mark_in (mark i m ms)) same ∙ mark-same i m ms (ltb-true i (length ms) q)) t in
          subst⁻¹ (Reached ns z) same (⊎_elim (s z i) (r z) (joined_either (mark_in ms i) m z u))

  sound-pass : (k : ℕ) (ms : List Mark) → Sound ms → Sound (pass_on (node_in ns k) (mark_in ms k) ms)
  sound-pass k ms s =
      let n : Node = node_in ns k in
      let m : Mark = mark_in ms k in
      sound-mark n.b (to_b n.kind m) (mark n.a (to_a n.kind m) ms)
      (sound-mark n.a (to_a n.kind m) ms s (reached_a k m (λ z. s z k) n.kind refl))
      (reached_b k m (λ z. s z k) n.kind refl)

  sound-down : (k : ℕ) (ms : List Mark) → Sound ms → Sound (down_from ns k ms)
  unfolding down_from
  sound-down zero ms s = s
  sound-down (suc k) ms s = sound-down k (pass_on (node_in ns k) (mark_in ms k) ms) (sound-pass k ms s)

  sound-root : Sound (root_marked (length ns))
  sound-root z i t = go (eqb i (length ns - 1)) refl (ltb i (length ns)) refl
    where
      is-root : (z : Bool) → T (has z positive) → Reached ns z (length ns - 1)
      is-root true u = root
      is-root false u = absurd u

      go : (b : Bool) → eqb i (length ns - 1) ≡ b → (l : Bool) → ltb i (length ns) ≡ l → Reached ns z i
      go b e false q =
          let past : length (root_marked (length ns)) ≤ i =
          omega (
            arith,
            length-set (replicate (length ns) unmarked) (length ns - 1) positive,
            length-replicate (length ns) unmarked,
            ltb-false i (length ns) q,
          ) in
          absurd (unmarked-has z (subst (λ (x : Mark). T (has z x)) (get_or-eq_default (root_marked (length ns)) unmarked past) t))
      go true e true q =
          let same : i ≡ length ns - 1 = eqb-true i (length ns - 1) e in
          let in-range : length ns - 1 < length (replicate (length ns) unmarked) = omega
          (arith, length-replicate (length ns) unmarked, ltb-true i (length ns) q) in
          subst⁻¹ (Reached ns z) same
          (is-root z (subst (λ (x : Mark). T (has z x))
          (ap (mark_in (root_marked (length ns))) same ∙ get_or-set_same (replicate (length ns) unmarked)
          (length ns - 1) positive unmarked in-range) t))
      go false e true q =
          let n : i ≢ length ns - 1 = eqb-false i (length ns - 1) e in
          let f : mark_in (root_marked (length ns)) i ≡ unmarked =
          get_or-set_other (replicate (length ns) unmarked) (length ns - 1) i positive unmarked n
          ∙ get_or-replicate (length ns) i unmarked unmarked (ltb-true i (length ns) q) in
          absurd (unmarked-has z (subst (λ (x : Mark). T (has z x)) f t))

  -- the nodes from k on have passed their marks on, and node k does so too: for either child
  closed-pass : (to : Kind → Mark → Mark) (child : Node → ℕ) (k : ℕ) (before after : List Mark)
      → ((j : ℕ) → k ≤ j → mark_in after j ≡ mark_in before j) → ((j : ℕ) → Le (mark_in before j) (mark_in after j))
      → Le (to (node_in ns k).kind (mark_in before k)) (mark_in after (child (node_in ns k)))
      → Closed to child (suc k) before → Closed to child k after
  closed-pass to child k before after stays rises gives c i g = go (eqb i k) refl
    where
      go : (b : Bool) → eqb i k ≡ b → Le (to (node_in ns i).kind (mark_in after i)) (mark_in after (child (node_in ns i)))
      go true e =
          subst⁻¹ (λ (j : ℕ). Le (to (node_in ns j).kind (mark_in after j)) (mark_in after (child (node_in ns j)))) (eqb-true i k e)
          (subst⁻¹ (λ (x : Mark). Le (to (node_in ns k).kind x) (mark_in after (child (node_in ns k)))) (stays k (omega arith)) gives)
      go false e =
          let n : i ≢ k = eqb-false i k e in
          subst⁻¹ (λ (x : Mark). Le (to (node_in ns i).kind x) (mark_in after (child (node_in ns i)))) (stays i g)
          (λ z t. rises (child (node_in ns i)) z (c i (omega arith) z t))

  -- both children of every node from k on
  record BothClosed (k : ℕ) (ms : List Mark) : Type 0 where
    a : Closed to_a (λ n. n.a) k ms
    b : Closed to_b (λ n. n.b) k ms

  module _ (below : (i : ℕ) → Below i (node_in ns i)) where
    closed-down : (k : ℕ) (ms : List Mark) → k ≤ length ms → BothClosed k ms → BothClosed 0 (down_from ns k ms)
    unfolding down_from
    closed-down zero ms h c = c
    closed-down (suc k) ms h c =
        let after : List Mark = pass_on (node_in ns k) (mark_in ms k) ms in
        let p : Passed k (node_in ns k) (mark_in ms k) ms after = passed k (node_in ns k) (mark_in ms k) ms (omega arith) (below k) in
        closed-down k after (omega (arith, p.size)) (record {
          a = closed-pass to_a (λ n. n.a) k ms after p.stays p.rises p.gives_a c.a;
          b = closed-pass to_b (λ n. n.b) k ms after p.stays p.rises p.gives_b c.b;
        })

    rises_down : (k : ℕ) (ms : List Mark) → k ≤ length ms → (j : ℕ) → Le (mark_in ms j) (mark_in (down_from ns k ms) j)
    unfolding down_from
    rises_down zero ms h j z t = t
    rises_down (suc k) ms h j z t =
        let after : List Mark = pass_on (node_in ns k) (mark_in ms k) ms in
        let p : Passed k (node_in ns k) (mark_in ms k) ms after = passed k (node_in ns k) (mark_in ms k) ms (omega arith) (below k) in
        rises_down k after (omega (arith, p.size)) j z (p.rises j z t)

    length-root : length (root_marked (length ns)) ≡ length ns
    length-root = length-set (replicate (length ns) unmarked) (length ns - 1) positive ∙ length-replicate (length ns) unmarked

    -- past the last node stands false, which passes nothing on
    closed-start : (to : Kind → Mark → Mark) (child : Node → ℕ) → ((m : Mark) → to False m ≡ unmarked)
        → Closed to child (length ns) (root_marked (length ns))
    closed-start to child e i g z t =
        let past : node_in ns i ≡ node_in [] i = get_or-eq_default ns (node_in [] i) g in
        absurd (unmarked-has z (subst (λ (x : Mark). T (has z x))
        (ap (λ (n : Node). to n.kind (mark_in (root_marked (length ns)) i)) past ∙ e _) t))

    closed : BothClosed 0 (marks_of ns)
    closed = closed-down (length ns) (root_marked (length ns)) (omega (arith, length-root)) (record {
      a = closed-start to_a (λ n. n.a) (λ m. refl);
      b = closed-start to_b (λ n. n.b) (λ m. refl);
    })

    -- what a node passes on is in its children's marks, and the root is positive
    pub passed_a : (i : ℕ) (z : Bool) → T (has z (to_a (node_in ns i).kind (mark_of ns i))) → T (has z (mark_of ns (node_in ns i).a))
    passed_a i z t = closed.a i (omega arith) z t

    pub passed_b : (i : ℕ) (z : Bool) → T (has z (to_b (node_in ns i).kind (mark_of ns i))) → T (has z (mark_of ns (node_in ns i).b))
    passed_b i z t = closed.b i (omega arith) z t

    pub root-positive : 0 < length ns → T (has true (mark_of ns (length ns - 1)))
    root-positive h =
        let e : mark_in (root_marked (length ns)) (length ns - 1) ≡ positive =
        get_or-set_same (replicate (length ns) unmarked) (length ns - 1) positive unmarked
        (omega (arith, length-replicate (length ns) unmarked)) in
        rises_down (length ns) (root_marked (length ns)) (omega (arith, length-root)) (length ns - 1) true
        (subst⁻¹ (λ (m : Mark). T (has true m)) e tt)

    -- a mark follows every path
    to_a_lem : (i : ℕ) (z : Bool) {kd : Kind} → (node_in ns i).kind ≡ kd → T (has z (to_a kd (mark_of ns i)))
        → T (has z (mark_of ns (node_in ns i).a))
    to_a_lem i z e t = passed_a i z (subst⁻¹ (λ (k : Kind). T (has z (to_a k (mark_of ns i)))) e t)

    to_b_lem : (i : ℕ) (z : Bool) {kd : Kind} → (node_in ns i).kind ≡ kd → T (has z (to_b kd (mark_of ns i)))
        → T (has z (mark_of ns (node_in ns i).b))
    to_b_lem i z e t = passed_b i z (subst⁻¹ (λ (k : Kind). T (has z (to_b k (mark_of ns i)))) e t)

    marked : 0 < length ns → {z : Bool} {i : ℕ} → Reached ns z i → T (has z (mark_of ns i))
    marked h root = root-positive h
    marked h (not_a {s} i r e) = to_a_lem i (not s) e (turned-has (mark_of ns i) s (marked h r))
    marked h (and_a {s} i r e) = to_a_lem i s e (marked h r)
    marked h (and_b {s} i r e) = to_b_lem i s e (marked h r)
    marked h (or_a {s} i r e) = to_a_lem i s e (marked h r)
    marked h (or_b {s} i r e) = to_b_lem i s e (marked h r)
    marked h (implies_a {s} i r e) = to_a_lem i (not s) e (turned-has (mark_of ns i) s (marked h r))
    marked h (implies_b {s} i r e) = to_b_lem i s e (marked h r)
    marked h (equivalent_a {s} z i r e) = to_a_lem i z e (doubled-has (mark_of ns i) s z (marked h r))
    marked h (equivalent_b {s} z i r e) = to_b_lem i z e (doubled-has (mark_of ns i) s z (marked h r))

-- a node of an accepted table has a sign if and only if some path from the root gives it
pub marks_are_paths : (t : List ℕ) (v x y : ℕ) → checked t v ≡ accepted_with x y → (z : Bool) (i : ℕ)
    → T (has z (mark_of (nodes_of t) i)) ↔ Reached (nodes_of t) z i
marks_are_paths t v x y e z i =
    let ns : List Node = nodes_of t in
    let w : WellFormed v ns = accepted_well_formed t v x y e in
    (sound-down ns (length ns) (root_marked (length ns)) (sound-root ns) z i, marked ns w.below w.some)
