-- The records of a formula: how many bytes they are, and the nodes that a table shows of them, wherever in it they stand. Then what
-- those nodes are: none has a fault, where the formula's symbols are options; and the last is true where the formula is.
-- What follows for a whole table, and for a text, is in Tables.
-- Assumes nothing.
use mathlib.Core.Path.{◌≡◌, refl, sym, ap, ◌∙◌}
use mathlib.Core.Bool.{Bool, false, not, ◌&&◌, ◌||◌}
use mathlib.Core.List.{List, [], ◌++◌, append_assoc, append-nil}
use Prim.Native.Nat.{ℕ, ◌+◌, ◌-◌, ◌*◌, ◌/◌, ◌%◌, ◌^◌, ◌≤◌, ◌<◌}
use native.Mathlib.Decide.{dec_lt}
use native.Mathlib.Omega.{arith}
use lib.ListN.{length, get_or, length-append}
use lib.Seq.{get_or-append-add}
use borrow.Author.Tests.{ne_eqb, le-leb, lt-ltb}
use Rattle.laws.specs.Lists.{Every, none, more, up_to}
use Rattle.laws.specs.Numbers.{little_at}
use Rattle.formula.specs.Tables.{field_bytes, node_bytes, most_nodes, most_options, node_at, kind_of, node_record, fault_of}
use Rattle.formula.specs.Tables.{node_count, nodes_of}
use Rattle.formula.specs.Truths.{truth_by, truth_from, truth_of}
use Rattle.formula.specs.declared.node.Node.{Node}
use Rattle.formula.proofs.Laws.Tables.{length-nodes_of, node_in-nodes_of}
use Rattle.laws.proofs.Upward.{get_d_up_to}
use Rattle.satfile.specs.Trees.{Join, And, Or, Tree, Symbol, Empty, Not, Joined, folded_from, folded, size_of, empty_kind, join_kind}
use Rattle.satfile.specs.Trees.{joined_true, tree_true, records_from}

-- a formula has a node
pub size-some : (t : Tree) → 0 < size_of t
size-some (Symbol n) = omega arith
size-some (Empty j) = omega arith
size-some (Not t) = omega arith
size-some (Joined j t u) = omega arith

pub length_records : (i : ℕ) (t : Tree) → length (records_from i t) ≡ node_bytes * size_of t
unfolding records_from
length_records i (Symbol n) = refl
length_records i (Empty j) = refl
length_records i (Not t) = simp length-append (omega (arith, length_records i t))
length_records i (Joined j t u) =
    simp length-append (omega (arith, length_records i t, length_records (i + size_of t) u))

-- xs stands in a list of bytes, from the place of node i on
pub record Stands (bytes : List ℕ) (i : ℕ) (xs : List ℕ) : Type 0 where
  front : List ℕ
  behind : List ℕ
  size : length front ≡ node_bytes * i
  whole : bytes ≡ front ++ (xs ++ behind)

pub stands-all : (bytes : List ℕ) → Stands bytes 0 bytes
stands-all bytes = record { front = []; behind = []; size = refl; whole = sym (append-nil bytes) }

-- two lists, one behind the other
module _ {bytes : List ℕ} {i : ℕ} (xs ys : List ℕ) (p : Stands bytes i (xs ++ ys)) where
  pub stands-first : Stands bytes i xs
  stands-first = record {
    front = p.front;
    behind = ys ++ p.behind;
    size = p.size;
    whole = p.whole ∙ ap (◌++◌ p.front) (append_assoc xs ys p.behind);
  }

  pub stands-second : (n : ℕ) → length xs ≡ node_bytes * n → Stands bytes (i + n) ys
  stands-second n e = record {
    front = p.front ++ xs;
    behind = p.behind;
    size = length-append p.front xs ∙ omega (arith, p.size);
    whole = p.whole ∙ simp append_assoc;
  }

-- the node of a record, and the bytes of a record show it, where its numbers fit
abbrev pub node : ℕ → ℕ → ℕ → Node
node k a b = record { kind = kind_of k; a = a; b = b }

pub stands-node : {bytes : List ℕ} {i : ℕ} (k a b : ℕ) → Stands bytes i (node_record k a b)
    → a < 256 ^ field_bytes → b < 256 ^ field_bytes → node_at bytes i ≡ node k a b
stands-node {bytes} {i} k a b p g h =
    let z : get_or bytes (node_bytes * i) 0 ≡ k = at 0 (node_bytes * i) (omega arith) in
    λ x. record { kind = kind_of (z x); a = first x; b = second x }
  where
    at : (j n : ℕ) → n ≡ node_bytes * i + j → get_or bytes n 0 ≡ get_or (node_record k a b ++ p.behind) j 0
    at j n e =
        let f : n ≡ length p.front + j = omega (arith, p.size) in
        (λ x. get_or (p.whole x) (f x) 0) ∙ get_or-append-add p.front (node_record k a b ++ p.behind) j 0

    first : little_at field_bytes bytes (node_bytes * i + 1) ≡ a
    first =
        let j = node_bytes * i + 1 in
        let low : get_or bytes j 0 ≡ a % 256 = at 1 j refl in
        let high : get_or bytes (j + 1) 0 ≡ a / 256 % 256 = at 2 (j + 1) (omega arith) in
        omega arith

    second : little_at field_bytes bytes (node_bytes * i + 1 + field_bytes) ≡ b
    second =
        let j = node_bytes * i + 1 + field_bytes in
        let low : get_or bytes j 0 ≡ b % 256 = at 3 j (omega arith) in
        let high : get_or bytes (j + 1) 0 ≡ b / 256 % 256 = at 4 (j + 1) (omega arith) in
        omega arith

-- every symbol of a formula is from 1 to v
pub data Within (v : ℕ) : Tree → Type 0 where
  symbol : {n : ℕ} → 1 ≤ n → n ≤ v → Within v (Symbol n)
  empty : {j : Join} → Within v (Empty j)
  negated : {t : Tree} → Within v t → Within v (Not t)
  joined : {j : Join} {t u : Tree} → Within v t → Within v u → Within v (Joined j t u)

folded_from_within : {v : ℕ} (j : Join) {t : Tree} {us : List Tree} → Within v t → Every (Within v) us → Within v (folded_from j t us)
folded_from_within j w none = w
folded_from_within j w (more x e) = folded_from_within j (joined w x) e

pub folded-within : {v : ℕ} (j : Join) {ts : List Tree} → Every (Within v) ts → Within v (folded j ts)
folded-within j none = empty
folded-within j (more w e) = folded_from_within j w e

-- the nodes of a formula, from node i on, are those that f gives
abbrev pub Holds : (ℕ → Node) → ℕ → Tree → Type 0
Holds f i (Symbol n) = f i ≡ node 2 n 0
Holds f i (Empty j) = f i ≡ node (empty_kind j) 0 0
Holds f i (Not t) = Holds f i t × (f (i + size_of t) ≡ node 3 (i + size_of t - 1) 0)
Holds f i (Joined j t u) =
    Holds f i t × Holds f (i + size_of t) u
    × (f (i + size_of t + size_of u) ≡ node (join_kind j) (i + size_of t - 1) (i + size_of t + size_of u - 1))

-- a table shows the nodes of the records that stand in it: their numbers fit, as there are few symbols and few nodes
pub holds_of_stands : (bytes : List ℕ) {v : ℕ} → v ≤ most_options → {t : Tree} → Within v t → (i : ℕ) → i + size_of t ≤ most_nodes
    → Stands bytes i (records_from i t) → Holds (node_at bytes) i t
unfolding records_from
holds_of_stands bytes few (symbol {n} g h) i m s = stands-node 2 n 0 s (omega arith) (omega arith)
holds_of_stands bytes few (empty {j}) i m s = stands-node (empty_kind j) 0 0 s (omega arith) (omega arith)
holds_of_stands bytes few (negated {t} w) i m s =
    let c = i + size_of t - 1 in
    let last = stands-second (records_from i t) (node_record 3 c 0) s (size_of t) (length_records i t) in (
      holds_of_stands bytes few w i (omega arith) (stands-first (records_from i t) (node_record 3 c 0) s),
      stands-node 3 c 0 last (omega arith) (omega arith),
    )
holds_of_stands bytes few (joined {j} {t} {u} w x) i m s =
    let k = i + size_of t in
    let r = node_record (join_kind j) (k - 1) (k + size_of u - 1) in
    let s₂ = stands-second (records_from i t) (records_from k u ++ r) s (size_of t) (length_records i t) in
    let last = stands-second (records_from k u) r s₂ (size_of u) (length_records k u) in (
      holds_of_stands bytes few w i (omega arith) (stands-first (records_from i t) (records_from k u ++ r) s),
      holds_of_stands bytes few x k (omega arith) (stands-first (records_from k u) r s₂),
      stands-node (join_kind j) (k - 1) (k + size_of u - 1) last (omega arith) (omega arith),
    )

-- the kinds of nodes of a formula, each without a fault at node i
module _ (v i : ℕ) where
  symbol-right : (n : ℕ) → 1 ≤ n → n ≤ v → fault_of v i (node 2 n 0) ≡ 0
  symbol-right n g h = rw (ne_eqb n 0 (omega arith), le-leb n v h)

  empty_right : (j : Join) → fault_of v i (node (empty_kind j) 0 0) ≡ 0
  empty_right And = refl
  empty_right Or = refl

  not_right : (c : ℕ) → c < i → fault_of v i (node 3 c 0) ≡ 0
  not_right c h = rw (lt-ltb c i h)

  join-right : (j : Join) (c d : ℕ) → c < i → d < i → fault_of v i (node (join_kind j) c d) ≡ 0
  join-right And c d g h = rw (lt-ltb c i g, lt-ltb d i h)
  join-right Or c d g h = rw (lt-ltb c i g, lt-ltb d i h)

  right-here : (f : ℕ → Node) (k : ℕ) {n : Node} → k ≡ i → f i ≡ n → fault_of v i n ≡ 0 → fault_of v k (f k) ≡ 0
  right-here f k e h r = ap (λ (p : ℕ). fault_of v p (f p)) e ∙ ap (fault_of v i) h ∙ r

-- before a place, or from there on
by_place : {P : Type 0} (k n : ℕ) → (k < n → P) → (n ≤ k → P) → P
by_place {P} k n before from = go (dec_lt k n)
  where
    go : Dec (k < n) → P
    go (yes h) = before h
    go (no h) = from (omega arith)

-- a formula's nodes have no fault
pub no_fault_of_holds : (f : ℕ → Node) {v : ℕ} {t : Tree} → Within v t → (i : ℕ) → Holds f i t
    → (k : ℕ) → i ≤ k → k < i + size_of t → fault_of v k (f k) ≡ 0
no_fault_of_holds f {v} (symbol {n} g h) i e k l m = right-here v i f k (omega arith) e (symbol-right v i n g h)
no_fault_of_holds f {v} (empty {j}) i e k l m = right-here v i f k (omega arith) e (empty_right v i j)
no_fault_of_holds f {v} (negated {t} w) i e k l m =
    let p = i + size_of t in
    by_place k p (no_fault_of_holds f w i e.0 k l)
    (λ h. right-here v p f k (omega arith) e.1 (not_right v p (p - 1) (omega (arith, size-some t))))
no_fault_of_holds f {v} (joined {j} {t} {u} w x) i e k l m =
    let p = i + size_of t in
    let q = p + size_of u in
    by_place k p (no_fault_of_holds f w i e.0 k l)
    (λ h. by_place k q (no_fault_of_holds f x p e.1 k h)
    (λ g. right-here v q f k (omega arith) e.2
    (join-right v q j (p - 1) (q - 1) (omega (arith, size-some t, size-some u)) (omega (arith, size-some t)))))

-- the truth of a formula is that of its last node
module _ (ρ : ℕ → Bool) (bytes : List ℕ) where
  abbrev nodes : List Node
  nodes = nodes_of bytes

  abbrev before : ℕ → List Bool
  before k = up_to (truth_from ρ nodes) k

  truth_node : (k : ℕ) (n : Node) → k < node_count bytes → node_at bytes k ≡ n
      → truth_of ρ nodes k ≡ truth_by n.kind (ρ n.a) (get_or (before k) n.a false) (get_or (before k) n.b false)
  truth_node k n h e =
      get_d_up_to (truth_from ρ nodes) false k (length nodes) (omega (arith, length-nodes_of bytes))
      ∙ ap (λ (m : Node). truth_by m.kind (ρ m.a) (get_or (before k) m.a false) (get_or (before k) m.b false))
      (node_in-nodes_of bytes k h ∙ e)

  -- what was made before stays
  truth_before : (k c : ℕ) → k < node_count bytes → c < k → get_or (before k) c false ≡ truth_of ρ nodes c
  truth_before k c h g =
      get_d_up_to (truth_from ρ nodes) false c k g
      ∙ sym (get_d_up_to (truth_from ρ nodes) false c (length nodes) (omega (arith, length-nodes_of bytes)))

  truth_joined : (j : Join) (s : Bool) {x y p q : Bool} → x ≡ p → y ≡ q → truth_by (kind_of (join_kind j)) s x y ≡ joined_true j p q
  truth_joined And s e f = λ i. e i && f i
  truth_joined Or s e f = λ i. e i || f i

  -- the last node of a formula
  truth_last : (p i : ℕ) → p ≡ i + 1 → {b : Bool} → truth_of ρ nodes i ≡ b → truth_of ρ nodes (p - 1) ≡ b
  truth_last p i e h = let k : p - 1 ≡ i = omega arith in ap (truth_of ρ nodes) k ∙ h

  pub truth_of_holds : (i : ℕ) (t : Tree) → Holds (node_at bytes) i t → i + size_of t ≤ node_count bytes
      → truth_of ρ nodes (i + size_of t - 1) ≡ tree_true ρ t
  truth_of_holds i (Symbol n) e m = truth_last (i + 1) i refl (truth_node i (node 2 n 0) (omega arith) e)
  truth_of_holds i (Empty And) e m = truth_last (i + 1) i refl (truth_node i (node 1 0 0) (omega arith) e)
  truth_of_holds i (Empty Or) e m = truth_last (i + 1) i refl (truth_node i (node 0 0 0) (omega arith) e)
  truth_of_holds i (Not t) e m =
      let p = i + size_of t in
      let child = truth_before p (p - 1) (omega arith) (omega (arith, size-some t)) ∙ truth_of_holds i t e.0 (omega arith) in
      truth_last (i + (size_of t + 1)) p (omega arith) (truth_node p (node 3 (p - 1) 0) (omega arith) e.1 ∙ ap not child)
  truth_of_holds i (Joined j t u) e m =
      let p = i + size_of t in
      let q = p + size_of u in
      let left = truth_before q (p - 1) (omega arith) (omega (arith, size-some t, size-some u))
      ∙ truth_of_holds i t e.0 (omega arith) in
      let right = truth_before q (q - 1) (omega arith) (omega (arith, size-some t)) ∙ truth_of_holds p u e.1 (omega arith) in
      truth_last (i + (size_of t + size_of u + 1)) q (omega arith)
      (truth_node q (node (join_kind j) (p - 1) (q - 1)) (omega arith) e.2 ∙ truth_joined j (ρ (p - 1)) left right)
