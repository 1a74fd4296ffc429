-- A formula as it begins, with a symbol or with a group: what the function that reads one cites.
-- Assumes nothing.
use mathlib.Core.Path.{◌≡◌, refl, sym, ap, ◌∙◌, subst}
use mathlib.Core.Bool.{Bool, true, false}
use mathlib.Core.List.{List}
use Rattle.std.specs.Prelude.{Result, Ok, Err}
use Prim.Native.Nat.{ℕ, zero, suc, ◌+◌, ◌-◌, ◌<◌}
use native.Mathlib.Omega.{arith}
use Rattle.satfile.specs.Trees.{Tree, size_of, records_from}
use Rattle.satfile.specs.Inner.Reads.{Out, Read, Bad, and_then, Leaf, Open, leaf_of, begin_in, begin_then, group_in, formula_in, list_in}
use Rattle.satfile.specs.Inner.Stores.{Adds}
use Rattle.satfile.specs.Inner.Parts.{text_from, ReadTo, OpenTo, leaf_nodes, DoneTo, Tells}
use Rattle.satfile.specs.declared.lead.Group.{Group}
use Rattle.satfile.specs.declared.lead.Reader.{Reader}
use Rattle.satfile.specs.declared.nested.Part.{Part}
use Rattle.satfile.specs.declared.lead.Wrong.{Wrong}

-- a formula that begins with a symbol, with a group, or not at all
module _ (v d : ℕ) (l : List ℕ) where
  by_begin : (d : ℕ) → (k : Group → List ℕ → Out Tree) × (formula_in v d l ≡ and_then (begin_then k) (begin_in v d l))
  unfolding formula_in
  by_begin zero = (λ g r. Bad r, refl)
  by_begin (suc d) = (group_in (formula_in v d), refl)

  pub formula-leaf : (n : ℕ) (negated : Bool) (r : List ℕ) → begin_in v d l ≡ Read (Leaf n negated) r
      → formula_in v d l ≡ Read (leaf_of n negated) r
  formula-leaf n negated r e = let b = by_begin d in b.1 ∙ ap (and_then (begin_then b.0)) e

  pub formula-wrong : (m : List ℕ) → begin_in v d l ≡ Bad m → formula_in v d l ≡ Bad m
  formula-wrong m e = let b = by_begin d in b.1 ∙ ap (and_then (begin_then b.0)) e

pub formula-open : (v d : ℕ) (l r : List ℕ) (g : Group) → 0 < d → begin_in v d l ≡ Read (Open g) r → formula_in v d l ≡ list_in v (d - 1) g r
unfolding formula_in
formula-open v d l r g h e =
    let f : d ≡ suc (d - 1) = omega arith in
    ap (λ (x : ℕ). formula_in v x l) f ∙ go (d - 1) (ap (λ (x : ℕ). begin_in v x l) (sym f) ∙ e)
  where
    go : (x : ℕ) → begin_in v (suc x) l ≡ Read (Open g) r → formula_in v (suc x) l ≡ list_in v x g r
    go x q = ap (and_then (begin_then (group_in (formula_in v x)))) q

-- a symbol is a formula, and its nodes are no more than its bytes
module _ (x : Reader) (d from n : ℕ) (negated : Bool) {at : ℕ}
    (t : ReadTo x (begin_in x.options d (text_from x from)) (Leaf n negated) (from + leaf_nodes negated) at) where
  pub leaf_done : {before after : List ℕ} {i next : ℕ} → Adds (records_from i (leaf_of n negated)) (leaf_nodes negated) before i next after
      → DoneTo x before from i (formula_in x.options d (text_from x from)) at next after
  leaf_done {before} {after} {i} {next} a = record {
    tree = leaf_of n negated;
    to = record {
      out = formula-leaf x.options d (text_from x from) n negated (text_from x at) t.out;
      onward = omega (arith, t.onward);
      within = t.within;
    };
    few = omega (arith, a.nodes, t.onward);
    adds = subst (λ (k : ℕ). Adds (records_from i (leaf_of n negated)) k before i next after) (size negated) a;
  }
    where
      size : (b : Bool) → leaf_nodes b ≡ size_of (leaf_of n b)
      size false = refl
      size true = refl

-- a group that is opened is the formula
module _ (x : Reader) (d from at : ℕ) (g : Group) (t : OpenTo x (begin_in x.options d (text_from x from)) g from at d) where
  same : formula_in x.options d (text_from x from) ≡ list_in x.options (d - 1) g (text_from x at)
  same = formula-open x.options d (text_from x from) (text_from x at) g t.deep t.to.out

  pub open_told : (before after : List ℕ) (i : ℕ) (r : Result Part Wrong) → Tells x before at i (list_in x.options (d - 1) g) r after
      → Tells x before from i (formula_in x.options d) r after
  open_told before after i (Ok p) y = record {
    tree = y.tree;
    to = record { out = same ∙ y.to.out; onward = omega (arith, t.to.onward, y.to.onward); within = y.to.within };
    few = omega (arith, t.to.onward, y.few);
    adds = y.adds;
  }
  open_told before after i (Err w) y = record { at = record { out = same ∙ y.at.out; within = y.at.within }; same = y.same }
