-- Totals read at their ceilings at each step are the true totals read at their ceilings: one argument for both ceilings and
-- both signs. The side fact that carries it: no clause, no literal.
-- Assumes nothing.
use mathlib.Core.Path.{◌≡◌, refl, sym, ap, ◌∙◌}
use mathlib.Core.List.{List}
use Prim.Native.Nat.{ℕ, zero, suc, ◌+◌, ◌*◌, ◌≤◌, ◌<◌}
use native.Mathlib.Nat.{zero-mul, mul-zero, suc-mul, mul_comm, le-mul_of_pos_right}
use native.Mathlib.Decide.{dec_lt}
use native.Mathlib.Omega.{arith}
use borrow.Author.Tests.{lt-ltb, le-ltb}
use Rattle.laws.specs.Numbers.{cap}
use Rattle.laws.proofs.Caps.{cap-add, cap_scale, cap_mul}
use Rattle.clausal.specs.Output.{whole_of}
use Rattle.clausal.specs.Clauses.{row_of, Renaming}
use Rattle.clausal.specs.Totals.{Size, sizes, read_at, capped_at}
use Rattle.clausal.proofs.Related.{Keeps, related_row_by, related_whole}
use Rattle.formula.specs.declared.node.Node.{Node}

-- below or not
data Side (n most : ℕ) : Type 0 where
  under : n < most → Side n most
  over : most ≤ n → Side n most

side : (n most : ℕ) → Side n most
side n most = go (dec_lt n most)
  where
    go : Dec (n < most) → Side n most
    go (yes h) = under h
    go (no h) = over (omega arith)

-- a size of no clause has no literal
abbrev pub Bare : Size → Type 0
Bare x = x.clauses ≡ 0 → x.literals ≡ 0

-- a factor of 0 clauses leaves nothing of the literals
right-gone : (l a b k : ℕ) → b ≡ 0 → k ≡ 0 → l * b + a * k ≡ 0
right-gone l a b k p q = rw (p, q, mul-zero l, mul-zero a)

left-gone : (l a b k : ℕ) → a ≡ 0 → l ≡ 0 → l * b + a * k ≡ 0
left-gone l a b k p q = rw (p, q, zero-mul b, zero-mul k)

zero_of_mul : (a b : ℕ) → a * b ≡ 0 → 0 < a → b ≡ 0
zero_of_mul zero b e h = absurd (omega arith)
zero_of_mul (suc a) b e h = omega (arith, suc-mul a b)

bare-join : (x y : Size) → Bare x → Bare y → Bare (sizes.join x y)
bare-join x y p q e = go (side x.clauses 1)
  where
    go : Side x.clauses 1 → (sizes.join x y).literals ≡ 0
    go (under h) =
        let z : x.clauses ≡ 0 = omega arith in
        left-gone _ _ y.clauses y.literals z (p z)
    go (over h) =
        let z : y.clauses ≡ 0 = zero_of_mul x.clauses y.clauses e h in
        right-gone x.literals x.clauses _ _ z (q z)

module _ (most full : ℕ) (one : 1 < most) (some : 0 < full) where
  pub read_under : (x : Size) → x.clauses < most
      → read_at most full x ≡ record { clauses = x.clauses; literals = cap full x.literals }
  read_under x h = let e : cap most x.clauses ≡ x.clauses = omega arith in rw (e, lt-ltb x.clauses most h)

  pub read-over : (x : Size) → most ≤ x.clauses → read_at most full x ≡ record { clauses = most; literals = full }
  read-over x h = let e : cap most x.clauses ≡ most = omega arith in rw (e, le-ltb x.clauses most h)

  literals-under : (x : Size) → x.clauses < most → (read_at most full x).literals ≡ cap full x.literals
  literals-under x h = ap (λ (y : Size). y.literals) (read_under x h)

  -- two sizes read the same where their clauses do and, below the ceiling, their literals
  read_same : (x y : Size) → cap most x.clauses ≡ cap most y.clauses
      → (y.clauses < most → cap full x.literals ≡ cap full y.literals) → read_at most full x ≡ read_at most full y
  read_same x y e h = go (side y.clauses most)
    where
      go : Side y.clauses most → read_at most full x ≡ read_at most full y
      go (over g) = read-over x (omega arith) ∙ sym (read-over y g)
      go (under g) =
          let f : x.clauses ≡ y.clauses = omega arith in
          read_under x (omega arith) ∙ (λ i. record { clauses = f i; literals = h g i }) ∙ sym (read_under y g)

  read-cat : (x y : Size)
      → read_at most full (sizes.cat (read_at most full x) (read_at most full y)) ≡ read_at most full (sizes.cat x y)
  read-cat x y = read_same _ _ (cap-add most x.clauses y.clauses) λ h.
      rw (literals-under x (omega arith), literals-under y (omega arith)) (cap-add full x.literals y.literals)

  -- of a sum, both parts may be read at the ceiling
  cap-sum : (a b c d : ℕ) → cap full a ≡ cap full c → cap full b ≡ cap full d → cap full (a + b) ≡ cap full (c + d)
  cap-sum a b c d p q = omega arith

  cap_scale_right : (k a : ℕ) → cap full (k * cap full a) ≡ cap full (k * a)
  cap_scale_right k a = rw (mul_comm k (cap full a), mul_comm k a) (cap_scale full a k)

  -- a factor at the ceiling leaves a product below it only where the other is 0
  zero_of_over : (a b : ℕ) → most ≤ a → a * b < most → b ≡ 0
  zero_of_over a zero h g = refl
  zero_of_over a (suc b) h g = let p : 0 < suc b = omega arith in absurd (omega (arith, le-mul_of_pos_right a p))

  read-bare : (x : Size) → Bare x → x.clauses ≡ 0 → (read_at most full x).literals ≡ 0
  read-bare x p z = literals-under x (omega arith) ∙ rw (p z) (omega arith)

  read_join : (x y : Size) → Bare x → Bare y
      → read_at most full (sizes.join (read_at most full x) (read_at most full y)) ≡ read_at most full (sizes.join x y)
  read_join x y p q = read_same _ _ (cap_mul most x.clauses y.clauses) λ h.
      go h (side x.clauses most) (side y.clauses most)
    where
      go : x.clauses * y.clauses < most → Side x.clauses most → Side y.clauses most
          → cap full (sizes.join (read_at most full x) (read_at most full y)).literals ≡ cap full (sizes.join x y).literals
      go h (under f) (under g) =
          let a : cap most x.clauses ≡ x.clauses = omega arith in
          let b : cap most y.clauses ≡ y.clauses = omega arith in
          rw (a, b, literals-under x f, literals-under y g)
          (cap-sum _ _ _ _ (cap_scale full x.literals y.clauses) (cap_scale_right x.clauses y.literals))
      go h (over f) g =
          let z : y.clauses ≡ 0 = zero_of_over x.clauses y.clauses f h in
          let gone = right-gone x.literals x.clauses _ _ z (q z) in
          ap (cap full) (right-gone _ _ _ _ (rw z (omega arith)) (read-bare y q z) ∙ sym gone)
      go h (under f) (over g) =
          let z : x.clauses ≡ 0 = zero_of_over y.clauses x.clauses g (rw mul_comm at h) in
          let gone = left-gone _ _ y.clauses y.literals z (p z) in
          ap (cap full) (left-gone _ _ _ _ (rw z (omega arith)) (read-bare x p z) ∙ sym gone)

  -- y is x read at the ceilings, and x has no literal without a clause
  pub record Reads (x y : Size) : Type 0 where
    pub read : y ≡ read_at most full x
    pub bare : Bare x

  read_small : (x : Size) → x.clauses < 2 → x.literals < 2 → x ≡ read_at most full x
  read_small x h g =
      let e : cap full x.literals ≡ x.literals = omega arith in
      sym (read_under x (omega arith) ∙ rw e)

  pub reads_keeps : (Known : ℕ → Type 0) → Keeps Known sizes (capped_at most full) Reads
  reads_keeps Known = record {
    none = record { read = read_small sizes.none (omega arith) (omega arith); bare = λ e. refl };
    empty = record { read = read_small sizes.empty (omega arith) (omega arith); bare = λ e. refl };
    unit = λ plain x k. record {
      read = read_small (sizes.unit plain x) (omega arith) (omega arith);
      bare = λ e. absurd (omega arith);
    };
    cat = λ x y z w p q. record {
      read = (λ i. read_at most full (sizes.cat (p.read i) (q.read i))) ∙ read-cat x y;
      bare = λ e. omega (arith, p.bare (omega arith), q.bare (omega arith));
    };
    join = λ x y z w p q. record {
      read = (λ i. read_at most full (sizes.join (p.read i) (q.read i))) ∙ read_join x y p.bare q.bare;
      bare = bare-join x y p.bare q.bare;
    };
  }

  -- every row, both signs
  pub capped-row : (name : ℕ → ℕ) (ns : List Node) (i : ℕ)
      → row_of (capped_at most full) name ns i
      ≡ record { P = read_at most full (row_of sizes name ns i).P; N = read_at most full (row_of sizes name ns i).N }
  capped-row name ns i =
      let r = related_row_by (λ x. Unit {0}) sizes (capped_at most full) Reads (reads_keeps _) name ns (λ j e. tt) (λ j e. tt) i in
      λ j. record { P = (r.P tt).read j; N = (r.N tt).read j }

  -- the whole output
  pub capped-whole : (u : Renaming) (ns : List Node)
      → whole_of (capped_at most full) u ns ≡ read_at most full (whole_of sizes u ns)
  capped-whole u ns = (related_whole sizes (capped_at most full) Reads u ns (reads_keeps _)).read
