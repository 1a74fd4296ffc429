-- The table of an accepted text: its symbols are options (R21.3), it is as long as its nodes, the check of a table accepts it, and it is
-- true in the rows in which the formula is (R21.15). A list is true exactly if all, or some, of its members are.
-- The laws of records and nodes behind this are in Laws/Records.
-- Assumes nothing.
use mathlib.Core.Path.{◌≡◌, refl, sym, ap, ◌∙◌}
use mathlib.Core.Bool.{Bool, true, false, ◌&&◌, ◌||◌, and_assoc, or_assoc, and-true, or-false}
use mathlib.Core.List.{List, [], ◌∷◌, foldr}
use Prim.Native.Nat.{ℕ, zero, suc, ◌+◌, ◌-◌, ◌*◌, ◌%◌, ◌≤◌}
use native.Mathlib.Omega.{arith}
use lib.ListN.{length}
use borrow.Author.Tests.{ne_eqb, eq-eqb, le-ltb}
use Rattle.laws.specs.Lists.{Every, none, more}
use Rattle.answer.specs.Answers.{accepted_with}
use Rattle.header.specs.Inner.Heads.{is_done, head_of}
use Rattle.header.proofs.Headed.{head_within, head_continues, head_refuses}
use Rattle.formula.specs.Tables.{node_bytes, most_nodes, most_table, most_options, node_at, node_count, nodes_of}
use Rattle.formula.specs.Checks.{length_wrong, checked}
use Rattle.formula.specs.Truths.{truth_of, formula_true}
use Rattle.formula.proofs.Laws.Faults.{accepted_of_no_fault}
use Rattle.formula.proofs.Laws.Tables.{length-nodes_of}
use Rattle.satfile.specs.Trees.{Join, And, Or, Tree, Joined, folded_from, folded, empty_true, joined_true, tree_true, size_of, table_of}
use Rattle.satfile.specs.Texts as grammar
use Rattle.satfile.specs.Texts.{sat, Operand, Members, Over, Nothing, Formula, most_open, Body, Text}
use Rattle.satfile.proofs.Laws.Records.{size-some, length_records, stands-all, Within, symbol, negated, folded-within}
use Rattle.satfile.proofs.Laws.Records.{Holds, holds_of_stands, no_fault_of_holds, truth_of_holds}

-- where the formulas inside have symbols from 1 to v only, the one around them has too
module _ {v : ℕ} {Inside : Tree → List ℕ → List ℕ → Type 0}
    (inside : (t : Tree) (l r : List ℕ) → Inside t l r → Within v t) where
  operand-within : {opens : Bool} {t : Tree} {l r : List ℕ} → Operand v opens Inside t l r → Within v t
  operand-within (grammar.symbol g h) = symbol g h
  operand-within (grammar.parens {t} {m = m} {n} o s f e) = inside t m n f

  members_within : {p : Bool} {ts : List Tree} {l r : List ℕ} → Members Inside p ts l r → Every (Within v) ts
  members_within grammar.close = none
  members_within (grammar.white w m) = members_within m
  members_within (grammar.member {t} {l = l} {m} f r) = more (inside t l m f) (members_within r)

  over-within : {opens : Bool} {t : Tree} {l r : List ℕ} → Over v opens Inside t l r → Within v t
  over-within (grammar.plain o) = operand-within o
  over-within (grammar.negated o) = negated (operand-within o)
  over-within (grammar.all o m) = folded-within And (members_within m)
  over-within (grammar.any o m) = folded-within Or (members_within m)

nothing-within : (v : ℕ) (t : Tree) (l r : List ℕ) → Nothing t l r → Within v t
nothing-within v t l r n = elim n [ ]

pub formula-within : (v d : ℕ) (t : Tree) (l r : List ℕ) → Formula v d t l r → Within v t
formula-within v zero t l r f = over-within (nothing-within v) f
formula-within v (suc d) t l r f = over-within (formula-within v d) f

pub body-within : {v : ℕ} {t : Tree} {l : List ℕ} → Body v t l → Within v t
body-within {v} {t} (grammar.body {m = m} {n} s f e) = formula-within v most_open t m n f

-- R21.3: the symbols of a text are options, and there are no more options than a call takes
pub symbols-within : {v : ℕ} {t : Tree} {x : List ℕ} → Text v t x → Within v t × (v ≤ most_options)
symbols-within {v} {t} {x} h = go (is_done (head_of sat x).phase) refl
  where
    next : ℕ → ℕ → List ℕ → Type 0
    next before given r = (given ≡ v) × Body v t r

    go : (b : Bool) → is_done (head_of sat x).phase ≡ b → Within v t × (v ≤ most_options)
    go false e = absurd (head_refuses sat refl next x e h)
    go true e =
        let f = (head_continues sat refl next x e).0 h in
        let w = head_within sat refl x e in
        (body-within f.1, omega (arith, f.0, w.1))

pub table-length : (t : Tree) → length (table_of t) ≡ node_bytes * size_of t
table-length t = length_records 0 t

pub table-nodes : (t : Tree) → node_count (table_of t) ≡ size_of t
table-nodes t = omega (arith, table-length t)

-- a formula of few nodes, whose symbols are options
module _ {v : ℕ} {t : Tree} (w : Within v t) (few : v ≤ most_options) (fits : size_of t ≤ most_nodes) where
  holds : Holds (node_at (table_of t)) 0 t
  holds = holds_of_stands (table_of t) few w 0 (omega arith) (stands-all (table_of t))

  right-length : length_wrong (length (table_of t)) ≡ false
  right-length =
      let n = table-length t in
      let some = ne_eqb (length (table_of t)) 0 (λ e. omega (arith, n, size-some t)) in
      let even = eq-eqb (length (table_of t) % node_bytes) 0 (omega arith) in
      rw (some, even, le-ltb most_table (length (table_of t)) (omega arith))

  -- the table can be handed to every call that takes one
  pub table-checked : checked (table_of t) v ≡ accepted_with 0 0
  table-checked =
      accepted_of_no_fault (table_of t) v right-length few
      (λ k h. no_fault_of_holds (node_at (table_of t)) w 0 holds k (omega arith) (omega (arith, table-nodes t)))

  -- R21.15: and it says what the formula says
  pub table-true : (ρ : ℕ → Bool) → formula_true ρ (nodes_of (table_of t)) ≡ tree_true ρ t
  table-true ρ =
      let last : length (nodes_of (table_of t)) - 1 ≡ 0 + size_of t - 1 = omega (arith, length-nodes_of (table_of t), table-nodes t) in
      ap (truth_of ρ (nodes_of (table_of t))) last ∙ truth_of_holds ρ (table_of t) 0 t holds (omega (arith, table-nodes t))

-- the same of a text
module _ {v : ℕ} {t : Tree} {x : List ℕ} (h : Text v t x) (fits : size_of t ≤ most_nodes) where
  pub text_checked : checked (table_of t) v ≡ accepted_with 0 0
  text_checked = let w = symbols-within h in table-checked w.0 w.1 fits

  pub text_true : (ρ : ℕ → Bool) → formula_true ρ (nodes_of (table_of t)) ≡ tree_true ρ t
  text_true = let w = symbols-within h in table-true w.0 w.1 fits

-- R21.10 and R21.13: that a list is folded from the left does not matter for its truth
joined_assoc : (j : Join) (x y z : Bool) → joined_true j (joined_true j x y) z ≡ joined_true j x (joined_true j y z)
joined_assoc And x y z = and_assoc x y z
joined_assoc Or x y z = or_assoc x y z

joined-empty : (j : Join) (x : Bool) → joined_true j x (empty_true j) ≡ x
joined-empty And x = and-true x
joined-empty Or x = or-false x

module _ (ρ : ℕ → Bool) where
  -- the truth of a list, from its last member on
  abbrev pub list_true : Join → List Tree → Bool
  list_true j ts = foldr (λ t rest. joined_true j (tree_true ρ t) rest) (empty_true j) ts

  folded_from_true : (j : Join) (t : Tree) (us : List Tree)
      → tree_true ρ (folded_from j t us) ≡ joined_true j (tree_true ρ t) (list_true j us)
  folded_from_true j t [] = sym (joined-empty j (tree_true ρ t))
  folded_from_true j t (u ∷ us) =
      folded_from_true j (Joined j t u) us ∙ joined_assoc j (tree_true ρ t) (tree_true ρ u) (list_true j us)

  pub list-true : (j : Join) (ts : List Tree) → tree_true ρ (folded j ts) ≡ list_true j ts
  list-true j [] = refl
  list-true j (t ∷ ts) = folded_from_true j t ts

  -- `*` is true exactly if every member is
  pub all_true : (ts : List Tree) → tree_true ρ (folded And ts) ≡ foldr (λ t rest. tree_true ρ t && rest) true ts
  all_true ts = list-true And ts

  -- `+` is true exactly if some member is
  pub any-true : (ts : List Tree) → tree_true ρ (folded Or ts) ≡ foldr (λ t rest. tree_true ρ t || rest) false ts
  any-true ts = list-true Or ts
