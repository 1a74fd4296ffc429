-- What the functions of the reader tell: of each of their answers, and of a text that is read the same.
-- Assumes nothing.
use mathlib.Core.Path.{◌≡◌, ◌∙◌, subst}
use mathlib.Core.Bool.{Bool, true, false}
use mathlib.Core.List.{List}
use Rattle.std.specs.Prelude.{Result, Ok, Err}
use Prim.Native.Nat.{ℕ, ◌+◌, ◌≤◌}
use native.Mathlib.Omega.{arith}
use Rattle.satfile.specs.Inner.Reads.{Out, Begin, Leaf, begin_in, formula_in}
use Rattle.satfile.specs.Inner.Parts.{text_from, ReadTo, WrongAt, OpenTo, TellsBegin, leaf_nodes, leaf_bytes, DoneTo, WrongTo, Tells}
use Rattle.satfile.specs.declared.lead.Group.{Group}
use Rattle.satfile.specs.declared.lead.Wrong.{Wrong}
use Rattle.satfile.specs.declared.lead.Lead.{Lead}
use Rattle.satfile.specs.declared.lead.Lead.TheVariants as lead
use Rattle.satfile.specs.declared.lead.Reader.{Reader}
use Rattle.satfile.specs.declared.nested.Part.{Part}

-- how a formula begins, from a place before it on
module _ (x : Reader) (from at d : ℕ) (f : List ℕ → Out Begin) (e : begin_in x.options d (text_from x from) ≡ f (text_from x at))
    (h : from ≤ at) (minus : Bool)
    (few : (n : Bool) → from + leaf_nodes n ≤ at + leaf_bytes minus n) where
  pub begin_as : (r : Result Lead Wrong) → TellsBegin (leaf_bytes minus) x at d f r → TellsBegin leaf_nodes x from d (begin_in x.options d) r
  begin_as (Ok (lead.Symbol value n end)) t =
      record { out = e ∙ t.out; onward = omega (arith, few n, t.onward); within = t.within }
  begin_as (Ok (lead.Open g end)) t = record {
    to = record { out = e ∙ t.to.out; onward = omega (arith, h, t.to.onward); within = t.to.within };
    deep = t.deep;
  }
  begin_as (Err _) w = record { out = e ∙ w.out; within = w.within }

-- behind the first byte, there is room for a not
pub few-behind : (at : ℕ) (n : Bool) → at + leaf_nodes n ≤ at + 1 + leaf_bytes true n
few-behind at false = omega arith
few-behind at true = omega arith

-- how a formula begins, by each answer
module _ (x : Reader) (from d : ℕ) (r : Result Lead Wrong) (h : TellsBegin leaf_nodes x from d (begin_in x.options d) r) where
  pub begin-leaf : (value : ℕ) (negated : Bool) (at : ℕ) → r ≡ Ok (lead.Symbol value negated at)
      → ReadTo x (begin_in x.options d (text_from x from)) (Leaf value negated) (from + leaf_nodes negated) at
  begin-leaf value negated at e = subst (TellsBegin leaf_nodes x from d (begin_in x.options d)) e h

  pub begin-open : (g : Group) (at : ℕ) → r ≡ Ok (lead.Open g at) → OpenTo x (begin_in x.options d (text_from x from)) g from at d
  begin-open g at e = subst (TellsBegin leaf_nodes x from d (begin_in x.options d)) e h

  pub begin-wrong : (w : Wrong) → r ≡ Err w → WrongAt x (begin_in x.options d (text_from x from)) w.place
  begin-wrong w e = subst (TellsBegin leaf_nodes x from d (begin_in x.options d)) e h

-- a formula, by each answer
module _ (x : Reader) (d : ℕ) (before : List ℕ) (from i : ℕ) (r : Result Part Wrong) (after : List ℕ)
    (h : Tells x before from i (formula_in x.options d) r after) where
  pub told_done : (p : Part) → r ≡ Ok p → DoneTo x before from i (formula_in x.options d (text_from x from)) p.at p.next after
  told_done p e = subst (λ (q : Result Part Wrong). Tells x before from i (formula_in x.options d) q after) e h

  pub told-wrong : (w : Wrong) → r ≡ Err w → WrongTo x before (formula_in x.options d (text_from x from)) w.place after
  told-wrong w e = subst (λ (q : Result Part Wrong). Tells x before from i (formula_in x.options d) q after) e h
