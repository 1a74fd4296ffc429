-- Steps and ways come back from their numbers, and every step of the writer has one.
-- Assumes nothing.
use mathlib.Core.Path.{◌≡◌, refl, sym, ap, ◌∙◌}
use mathlib.Core.Bool.{Bool, true, false, cond}
use mathlib.Core.List.{List}
use Prim.Native.Nat.{ℕ, ◌+◌, ◌*◌, ◌-◌, ◌/◌, ◌%◌, ◌<◌, ◌≤◌}
use native.Mathlib.Nat.{div-le_self, mod-le, mod-eq_of_lt}
use native.Mathlib.Omega.{arith}
use lib.Dec.{eqb, ltb}
use borrow.Author.Tests.{eq-eqb, ne_eqb}
use Rattle.formula.specs.Inner.Right.{FieldBelow}
use Rattle.formula.specs.Tables.{most_nodes, use_of_a, use_of_b}
use Rattle.formula.specs.declared.node.Kind.{Kind}
use Rattle.formula.specs.declared.node.Kind.TheVariants as kind
use Rattle.formula.specs.declared.node.Node.{Node}
use Rattle.walk.specs.Inner.Lists.{signed, pair_in}
use Rattle.walk.specs.Inner.Packed.{packed, way_of, Packable, packed_step, step_of, Made, Led}
use Rattle.walk.specs.Inner.Steps.{way, count_in, cat_step, join_step, joins_step, step_by, lead_step}
use Rattle.walk.specs.Inner.Steps.{Walkable}
use Rattle.walk.specs.declared.step.Step.TheVariants.{Nothing, Literal, Left, Right, Both}
use Rattle.walk.specs.declared.step.Step.{Step}
use Rattle.walk.specs.declared.step.Way.{Way}

-- a way comes back from its number
packed_by_lem : (n k : ℕ) → n < most_nodes → (sign : Bool) → way_of (packed (way n sign k)) ≡ way n sign k
packed_by_lem n k h true =
    let e : ((k * 1_024 + n) * 2 + 1) / 2 % 1_024 ≡ n = omega arith in
    let f : ((k * 1_024 + n) * 2 + 1) % 2 ≡ 1 = omega arith in
    let g : ((k * 1_024 + n) * 2 + 1) / 2_048 ≡ k = omega arith in
    λ i. record { node = e i; sign = eq-eqb (((k * 1_024 + n) * 2 + 1) % 2) 1 f i; k = g i }
packed_by_lem n k h false =
    let e : ((k * 1_024 + n) * 2 + 0) / 2 % 1_024 ≡ n = omega arith in
    let g : ((k * 1_024 + n) * 2 + 0) / 2_048 ≡ k = omega arith in
    λ i. record { node = e i; sign = ne_eqb (((k * 1_024 + n) * 2 + 0) % 2) 1 (λ z. omega arith) i; k = g i }

pub way-packed : (w : Way) → w.node < most_nodes → way_of (packed w) ≡ w
way-packed w h = packed_by_lem w.node w.k h w.sign

bit : (b : Bool) → cond {A = ℕ} b 1 0 ≤ 1
bit true = omega arith
bit false = omega arith

pub packed-few : (w : Way) → Packable w → packed w < 134_217_728
packed-few w p = omega (arith, p.node, p.k, bit w.sign)

-- tests of the remainder
tests : {A : Type 0} (c n : ℕ) (x y : A) → c % 8 ≡ n → cond (eqb (c % 8) n) x y ≡ x
tests c n x y e = ap (λ (b : Bool). cond b x y) (eq-eqb (c % 8) n e)

skips : {A : Type 0} (c n : ℕ) (x y : A) → ¬ (c % 8 ≡ n) → cond (eqb (c % 8) n) x y ≡ y
skips c n x y e = ap (λ (b : Bool). cond b x y) (ne_eqb (c % 8) n e)

-- what stands behind the remainder by 8
behind : (x r : ℕ) → r < 8 → (x * 8 + r) / 8 ≡ x
behind x r h = omega arith

remainder : (x r : ℕ) → r < 8 → (x * 8 + r) % 8 ≡ r
remainder x r h = omega arith

first_way : (x y : ℕ) → x < 134_217_728 → y < 134_217_728 → (x * 134_217_728 + y) / 134_217_728 % 134_217_728 ≡ x
first_way x y h g =
    let e : (x * 134_217_728 + y) / 134_217_728 ≡ x = omega arith in
    ap (λ (n : ℕ). n % 134_217_728) e ∙ mod-eq_of_lt h

second_way : (x y : ℕ) → y < 134_217_728 → (x * 134_217_728 + y) % 134_217_728 ≡ y
second_way x y g = omega arith

-- the step of a number, by its remainder
module _ (c : ℕ) (s : Step) where
  pub is-literal : c % 8 ≡ 1 → s ≡ Literal (c / 8 % 4_294_967_296) → s ≡ step_of c
  is-literal e f = f ∙ sym (skips c 0 _ _ (λ z. omega arith) ∙ tests c 1 _ _ e)

  pub is-left : c % 8 ≡ 2 → s ≡ Left (way_of (c / 8 % 134_217_728)) → s ≡ step_of c
  is-left e f = f ∙ sym (skips c 0 _ _ (λ z. omega arith) ∙ skips c 1 _ _ (λ z. omega arith) ∙ tests c 2 _ _ e)

  pub is_right : c % 8 ≡ 3 → s ≡ Right (way_of (c / 8 % 134_217_728)) → s ≡ step_of c
  is_right e f =
      f ∙ sym (skips c 0 _ _ (λ z. omega arith) ∙ skips c 1 _ _ (λ z. omega arith) ∙ skips c 2 _ _ (λ z. omega arith) ∙ tests c 3 _ _ e)

  pub is-both : ¬ (c % 8 ≡ 0) → ¬ (c % 8 ≡ 1) → ¬ (c % 8 ≡ 2) → ¬ (c % 8 ≡ 3)
      → s ≡ Both (way_of (c / 8 / 134_217_728 % 134_217_728)) (way_of (c / 8 % 134_217_728)) → s ≡ step_of c
  is-both a b d e f = f ∙ sym (skips c 0 _ _ a ∙ skips c 1 _ _ b ∙ skips c 2 _ _ d ∙ skips c 3 _ _ e)

-- a number that ends in r
module _ (x r n : ℕ) (h : r < 8) (d : ¬ (r ≡ n)) where
  ends_else : ¬ ((x * 8 + r) % 8 ≡ n)
  ends_else e = d (sym (remainder x r h) ∙ e)

pub made_back : (s : Step) → Made s → step_of (packed_step s) ≡ s
made_back Nothing m = refl
made_back (Literal x) h =
    sym (is-literal (x * 8 + 1) (Literal x) (remainder x 1 (omega arith))
    (ap Literal (sym (ap (λ (n : ℕ). n % 4_294_967_296) (behind x 1 (omega arith)) ∙ mod-eq_of_lt h))))
made_back (Left w) p =
    let number = ap (λ (n : ℕ). n % 134_217_728) (behind (packed w) 2 (omega arith)) ∙ mod-eq_of_lt (packed-few w p) in
    sym (is-left (packed w * 8 + 2) (Left w) (remainder (packed w) 2 (omega arith))
    (ap Left (sym (ap way_of number ∙ way-packed w p.node))))
made_back (Right w) p =
    let number = ap (λ (n : ℕ). n % 134_217_728) (behind (packed w) 3 (omega arith)) ∙ mod-eq_of_lt (packed-few w p) in
    sym (is_right (packed w * 8 + 3) (Right w) (remainder (packed w) 3 (omega arith))
    (ap Right (sym (ap way_of number ∙ way-packed w p.node))))
made_back (Both w x) (p, q) =
    let whole = behind (packed w * 134_217_728 + packed x) 4 (omega arith) in
    let one = ap (λ (n : ℕ). n / 134_217_728 % 134_217_728) whole ∙ first_way (packed w) (packed x) (packed-few w p) (packed-few x q) in
    let two = ap (λ (n : ℕ). n % 134_217_728) whole ∙ second_way (packed w) (packed x) (packed-few x q) in
    let code = packed w * 134_217_728 + packed x in
    sym (is-both (code * 8 + 4) (Both w x)
    (ends_else code 4 0 (omega arith) (λ z. omega arith)) (ends_else code 4 1 (omega arith) (λ z. omega arith))
    (ends_else code 4 2 (omega arith) (λ z. omega arith)) (ends_else code 4 3 (omega arith) (λ z. omega arith))
    (λ i. Both (sym (ap way_of one ∙ way-packed w p.node) i) (sym (ap way_of two ∙ way-packed x q.node) i)))

-- the steps of the rules
module _ (cs : List (List ℕ)) (helpers : List ℕ) where
  made_cat : (a b k : ℕ) (x y : Bool) → a < most_nodes → b < most_nodes → k < 65_536 → Made (cat_step cs helpers a x b y k)
  made_cat a b k x y h g l = go (ltb k (count_in cs helpers a x))
    where
      go : (z : Bool) → Made (cond z (Left (way a x k)) (Right (way b y (k - count_in cs helpers a x))))
      go true = record { node = h; k = l }
      go false = record { node = g; k = omega arith }

  made_join : (a b k : ℕ) (x y : Bool) → a < most_nodes → b < most_nodes → k < 65_536 → Made (join_step cs helpers a x b y k)
  made_join a b k x y h g l = go (eqb (count_in cs helpers b y) 0)
    where
      go : (z : Bool) → Made (cond z Nothing (Both (way a x (k / count_in cs helpers b y)) (way b y (k % count_in cs helpers b y))))
      go true = tt
      go false = (
        record { node = h; k = omega (arith, div-le_self k (count_in cs helpers b y)) },
        record { node = g; k = omega (arith, mod-le k (count_in cs helpers b y)) },
      )

  made_joins : (a b k : ℕ) (sign : Bool) → a < most_nodes → b < most_nodes → k < 65_536 → Made (joins_step cs helpers a b sign k)
  made_joins a b k sign h g l = go (ltb k first) sign
    where
      first : ℕ
      first = count_in cs helpers a false * count_in cs helpers b sign

      go : (z s : Bool) → Made (cond z (join_step cs helpers a false b sign k)
          (cond s (join_step cs helpers b false a true (k - count_in cs helpers a false * count_in cs helpers b sign))
          (join_step cs helpers a true b true (k - count_in cs helpers a false * count_in cs helpers b sign))))
      go true s = made_join a b k false sign h g l
      go false true = made_join b a (k - count_in cs helpers a false * count_in cs helpers b sign) false true g h (omega arith)
      go false false = made_join a b (k - count_in cs helpers a false * count_in cs helpers b sign) true true h g (omega arith)

  made_kind : (c : Kind) (a b k : ℕ) (sign : Bool) → FieldBelow most_nodes (use_of_a c) a → FieldBelow most_nodes (use_of_b c) b
      → (c ≡ kind.Symbol → a < 4_294_967_296) → k < 65_536 → Made (step_by c cs helpers a b sign k)
  made_kind kind.False a b k sign ha hb v l = tt
  made_kind kind.True a b k sign ha hb v l = tt
  made_kind kind.Symbol a b k sign ha hb v l = v refl
  made_kind kind.Not a b k sign ha hb v l = record { node = ha; k = l }
  made_kind kind.And a b k true ha hb v l = made_cat a b k true true ha hb l
  made_kind kind.And a b k false ha hb v l = made_join a b k false false ha hb l
  made_kind kind.Or a b k true ha hb v l = made_join a b k true true ha hb l
  made_kind kind.Or a b k false ha hb v l = made_cat a b k false false ha hb l
  made_kind kind.Implies a b k true ha hb v l = made_join a b k false true ha hb l
  made_kind kind.Implies a b k false ha hb v l = made_cat a b k true false ha hb l
  made_kind kind.Equivalent a b k sign ha hb v l = made_joins a b k sign ha hb l
  made_kind kind.Unknown a b k sign ha hb v l = tt

  pub made_lead : (m : Node) (ls : List (List ℕ)) (n k : ℕ) (sign : Bool) → Walkable m → k < 65_536
      → Made (lead_step m cs ls helpers n sign k)
  made_lead m ls n k sign w l = go (eqb (signed sign (pair_in ls n)) 0)
    where
      go : (z : Bool) → Made (cond z Nothing (step_by m.kind cs helpers m.a m.b sign k))
      go true = tt
      go false = made_kind m.kind m.a m.b k sign w.children.0 w.children.1 (λ e. omega (arith, (w.symbol e).1)) l

-- a step that was packed
pub led : (s x : Step) (code : ℕ) → x ≡ s → code ≡ packed_step x → Made s → Led s code
led s x code e f m =
    let number = f ∙ ap packed_step e in
    record { number = number; back = ap step_of number ∙ made_back s m }
