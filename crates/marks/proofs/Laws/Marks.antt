-- Marks: what marking a node and passing marks on change and keep.
-- Assumes nothing.
use mathlib.Core.Path.{◌≡◌, refl, ap, ◌∙◌, subst, subst⁻¹}
use mathlib.Core.Logic.{◌⊎◌, inl, inr, ⊎_elim, ◌≢◌}
use mathlib.Core.Bool.{Bool, true, false, not, ◌||◌, or-false}
use mathlib.Core.List.{List}
use Prim.Native.Nat.{ℕ, ◌≤◌, ◌<◌}
use native.Mathlib.Omega.{arith}
use lib.Dec.{T, eqb}
use lib.ListN.{length, set, length-set}
use lib.Seq.{get_or-set_same, get_or-set_other, set-get_or}
use borrow.Author.Tests.{eqb-true, eqb-false}
use Rattle.formula.specs.Tables.{use_of_a, use_of_b}
use Rattle.formula.specs.Inner.Right.{FieldBelow, Below}
use Rattle.marks.specs.Marks.{unmarked, joined, turned, doubled, to_a, to_b, mark_in, mark, pass_on}
use Rattle.marks.specs.Paths.{has}
use Rattle.marks.specs.declared.mark.Mark.{Mark}
use Rattle.formula.specs.declared.node.Kind.{Kind}
use Rattle.formula.specs.declared.node.Kind.TheVariants.{False, True, Symbol, Not, And, Or, Implies, Equivalent, Unknown}
use Rattle.formula.specs.declared.node.Node.{Node}

-- n has every sign that m has
abbrev pub Le : Mark → Mark → Type 0
Le m n = (z : Bool) → T (has z m) → T (has z n)

or_left : (a b : Bool) → T a → T (a || b)
or_left true b t = tt
or_left false b t = absurd t

or_right : (a b : Bool) → T b → T (a || b)
or_right true b t = tt
or_right false b t = t

or_either : (a b : Bool) → T (a || b) → T a ⊎ T b
or_either true b t = inl tt
or_either false b t = inr t

pub joined-left : (m n : Mark) → Le m (joined m n)
joined-left m n true t = or_left m.positive n.positive t
joined-left m n false t = or_left m.negative n.negative t

pub joined-right : (m n : Mark) → Le n (joined m n)
joined-right m n true t = or_right m.positive n.positive t
joined-right m n false t = or_right m.negative n.negative t

pub joined_either : (m n : Mark) (z : Bool) → T (has z (joined m n)) → T (has z m) ⊎ T (has z n)
joined_either m n true t = or_either m.positive n.positive t
joined_either m n false t = or_either m.negative n.negative t

pub turned-has : (m : Mark) (z : Bool) → T (has z m) → T (has (not z) (turned m))
turned-has m true t = t
turned-has m false t = t

pub doubled-has : (m : Mark) (s z : Bool) → T (has s m) → T (has z (doubled m))
doubled-has m true true t = or_left m.positive m.negative t
doubled-has m true false t = or_right m.negative m.positive t
doubled-has m false true t = or_right m.positive m.negative t
doubled-has m false false t = or_left m.negative m.positive t

pub doubled_either : (m : Mark) (z : Bool) → T (has z (doubled m)) → T (has true m) ⊎ T (has false m)
doubled_either m true t = or_either m.positive m.negative t
doubled_either m false t = ⊎_elim inr inl (or_either m.negative m.positive t)

pub unmarked-has : (z : Bool) → T (has z unmarked) → ⊥
unmarked-has true t = t
unmarked-has false t = t

-- a mark of nothing changes nothing
mark-unmarked : (i : ℕ) (ms : List Mark) → mark i unmarked ms ≡ ms
mark-unmarked i ms =
    let m : Mark = mark_in ms i in
    let e : joined m unmarked ≡ m = λ j. record { positive = or-false m.positive j; negative = or-false m.negative j } in
    ap (set ms i) e ∙ set-get_or ms i unmarked

module _ (i : ℕ) (m : Mark) (ms : List Mark) where
  pub mark-same : i < length ms → mark_in (mark i m ms) i ≡ joined (mark_in ms i) m
  mark-same h = get_or-set_same ms i (joined (mark_in ms i) m) unmarked h

  pub mark-other : (j : ℕ) → j ≢ i → mark_in (mark i m ms) j ≡ mark_in ms j
  mark-other j n = get_or-set_other ms i j (joined (mark_in ms i) m) unmarked n

  mark_rises : i < length ms → (j : ℕ) → Le (mark_in ms j) (mark_in (mark i m ms) j)
  mark_rises h j z t = go (eqb j i) refl
    where
      go : (b : Bool) → eqb j i ≡ b → T (has z (mark_in (mark i m ms) j))
      go true e =
          let q : j ≡ i = eqb-true j i e in
          subst⁻¹ (λ (k : ℕ). T (has z (mark_in (mark i m ms) k))) q
          (subst⁻¹ (λ (x : Mark). T (has z x)) (mark-same h)
          (joined-left (mark_in ms i) m z (subst (λ (k : ℕ). T (has z (mark_in ms k))) q t)))
      go false e = subst⁻¹ (λ (x : Mark). T (has z x)) (mark-other j (eqb-false j i e)) t

-- one child marked by a node k: from k on nothing changes, nothing is lost, and the child has what it was given
pub record Gave (k i : ℕ) (m : Mark) (before after : List Mark) : Type 0 where
  pub size : length after ≡ length before
  pub stays : (j : ℕ) → k ≤ j → mark_in after j ≡ mark_in before j
  pub rises : (j : ℕ) → Le (mark_in before j) (mark_in after j)
  pub gives : Le m (mark_in after i)

gave : (k i : ℕ) (m : Mark) (ms : List Mark) → k ≤ length ms → (i < k) ⊎ (m ≡ unmarked) → Gave k i m ms (mark i m ms)
gave k i m ms h (inl l) = record {
  size = length-set ms i (joined (mark_in ms i) m);
  stays = λ j q. mark-other i m ms j (λ e. omega arith);
  rises = mark_rises i m ms (omega arith);
  gives = λ z t. subst⁻¹ (λ (x : Mark). T (has z x)) (mark-same i m ms (omega arith)) (joined-right (mark_in ms i) m z t);
}
gave k i m ms h (inr e) =
    let q : mark i m ms ≡ ms = ap (λ (x : Mark). mark i x ms) e ∙ mark-unmarked i ms in
    record {
      size = ap length q;
      stays = λ j l. ap (λ (l : List Mark). mark_in l j) q;
      rises = λ j z t. subst⁻¹ (λ (l : List Mark). T (has z (mark_in l j))) q t;
      gives = λ z t. absurd (unmarked-has z (subst (λ (x : Mark). T (has z x)) e t));
    }

-- a field that holds no child is given nothing
a_child : (kd : Kind) (m : Mark) (k x : ℕ) → FieldBelow k (use_of_a kd) x → (x < k) ⊎ (to_a kd m ≡ unmarked)
a_child False m k x h = inr refl
a_child True m k x h = inr refl
a_child Symbol m k x h = inr refl
a_child Not m k x h = inl h
a_child And m k x h = inl h
a_child Or m k x h = inl h
a_child Implies m k x h = inl h
a_child Equivalent m k x h = inl h
a_child Unknown m k x h = inr refl

b_child : (kd : Kind) (m : Mark) (k x : ℕ) → FieldBelow k (use_of_b kd) x → (x < k) ⊎ (to_b kd m ≡ unmarked)
b_child False m k x h = inr refl
b_child True m k x h = inr refl
b_child Symbol m k x h = inr refl
b_child Not m k x h = inr refl
b_child And m k x h = inl h
b_child Or m k x h = inl h
b_child Implies m k x h = inl h
b_child Equivalent m k x h = inl h
b_child Unknown m k x h = inr refl

-- a node k passes its mark on
pub record Passed (k : ℕ) (n : Node) (m : Mark) (before after : List Mark) : Type 0 where
  pub size : length after ≡ length before
  pub stays : (j : ℕ) → k ≤ j → mark_in after j ≡ mark_in before j
  pub rises : (j : ℕ) → Le (mark_in before j) (mark_in after j)
  pub gives_a : Le (to_a n.kind m) (mark_in after n.a)
  pub gives_b : Le (to_b n.kind m) (mark_in after n.b)

pub passed : (k : ℕ) (n : Node) (m : Mark) (ms : List Mark) → k ≤ length ms → Below k n → Passed k n m ms (pass_on n m ms)
passed k n m ms h b =
    let first : Gave k n.a (to_a n.kind m) ms (mark n.a (to_a n.kind m) ms) = gave k n.a (to_a n.kind m) ms h
    (a_child n.kind m k n.a b.0) in
    let second : Gave k n.b (to_b n.kind m) (mark n.a (to_a n.kind m) ms) (pass_on n m ms) =
    gave k n.b (to_b n.kind m) (mark n.a (to_a n.kind m) ms) (omega (arith, first.size)) (b_child n.kind m k n.b b.1) in
    record {
      size = second.size ∙ first.size;
      stays = λ j q. second.stays j q ∙ first.stays j q;
      rises = λ j z t. second.rises j z (first.rises j z t);
      gives_a = λ z t. second.rises n.a z (first.gives z t);
      gives_b = second.gives;
    }
