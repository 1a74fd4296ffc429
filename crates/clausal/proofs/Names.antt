-- The naming rule: every variable of the output is one of the project's options or a helper of its own, and no helper is
-- anybody's option.
-- Assumes nothing.
use mathlib.Core.Path.{◌≡◌, refl, ap}
use mathlib.Core.Bool.{Bool, true, false, cond}
use mathlib.Core.List.{List, [], ◌++◌, map}
use mathlib.Core.Logic.{◌≢◌}
use Prim.Native.Nat.{ℕ, ◌≤◌, ◌<◌}
use native.Mathlib.Decide.{dec_lt}
use native.Mathlib.Omega.{arith}
use lib.Dec.{eqb}
use lib.ListN.{length, get_or-eq_default}
use borrow.Author.Tests.{eqb-true}
use Rattle.answer.specs.Answers.{Answer}
use Rattle.answer.specs.Answers.{accepted_with}
use Rattle.std.specs.Prelude.{Err}
use Rattle.answer.specs.declared.Refusal.TheVariants.{Set}
use Rattle.laws.specs.Lists.{Every, none, more}
use Rattle.laws.proofs.Every.{every_append}
use Rattle.formula.specs.Checks.{checked}
use Rattle.marks.specs.Sets.{set_checked, renamed}
use Rattle.formula.specs.Tables.{nodes_of, node_in}
use Rattle.formula.proofs.Laws.WellFormed.{accepted_well_formed}
use Rattle.clausal.specs.Clauses.{Algebra, join_all, clauses, helper_of, variables_of, Renaming, Literal, Clause}
use Rattle.clausal.specs.Meanings.{Origin, option, helper, Named}
use Rattle.clausal.specs.Output.{output_of}
use Rattle.clausal.proofs.Related.{Keeps, related_whole}
use Rattle.clausal.proofs.Helpers.{renamed-inside, helper_above, helper-most}
use Rattle.formula.specs.declared.node.Kind.TheVariants.{Symbol}
use Rattle.formula.specs.declared.node.Node.{Node}

-- the names of a join are those of its sides
module _ (Q : Literal → Type 0) where
  every_one : (c : Clause) {ds : List Clause} → Every Q c → Every (Every Q) ds → Every (Every Q) (map (λ d. c ++ d) ds)
  every_one c e none = none
  every_one c e (more f g) = more (every_append e f) (every_one c e g)

  every_join : {cs ds : List Clause} → Every (Every Q) cs → Every (Every Q) ds → Every (Every Q) (join_all cs ds)
  every_join none f = none
  every_join (more {x = c} e g) f = every_append (every_one c e f) (every_join g f)

-- nothing is collected
nothing : Algebra (Unit {0})
nothing = record { none = tt; empty = tt; unit = λ plain x. tt; cat = λ x y. tt; join = λ x y. tt }

module _ (u : Renaming) (ns : List Node) where
  named_keeps : Keeps (Origin u ns) clauses nothing (λ cs x. Named u ns cs)
  named_keeps = record {
    none = none;
    empty = more none none;
    unit = λ plain x o. more (more o none) none;
    cat = λ x y z w p q. every_append p q;
    join = λ x y z w p q. every_join (λ l. Origin u ns l.variable) p q;
  }

  -- every variable of the output has an origin
  pub output-named : Named u ns (output_of u ns)
  output-named = related_whole clauses nothing (λ cs x. Named u ns cs) u ns named_keeps

-- a right set is as long as the table
length-right : (ns : List Node) (s : List ℕ) (x y : ℕ) → set_checked ns s ≡ accepted_with x y → length s ≡ length ns
length-right ns s x y = go (eqb (length s) (length ns)) refl _
  where
    go : (b : Bool) → eqb (length s) (length ns) ≡ b → (rest : Answer) → cond b rest (Err (Set (length ns))) ≡ accepted_with x y
        → length s ≡ length ns
    go true e rest a = eqb-true (length s) (length ns) e
    go false e rest a = let z : ◌≡◌ {A = ℕ} 0 1 = cc in absurd (omega arith)

-- a symbol stands in the table
symbol-inside : (ns : List Node) (i : ℕ) → (node_in ns i).kind ≡ Symbol → i < length ns
symbol-inside ns i e = go (dec_lt i (length ns))
  where
    go : Dec (i < length ns) → i < length ns
    go (yes h) = h
    go (no h) =
        let past : node_in ns i ≡ node_in [] i = get_or-eq_default ns (node_in [] i) (omega arith) in
        let f : (node_in ns i).kind ≡ (node_in [] i).kind = ap (λ (n : Node). n.kind) past in
        let z : ◌≡◌ {A = ℕ} 0 1 = cc in
        absurd (omega arith)

-- no helper is taken, and so none is anybody's option
pub helper_no_option : (u : Renaming) (i x : ℕ) → x ≤ u.taken → helper_of u i ≢ x
helper_no_option u i x h e = omega (arith, helper_above u i)

-- a helper of one formula comes before every helper of a later one
pub helper_earlier : (u w : Renaming) (n i j : ℕ) → renamed u.set i ≡ true → i < n → variables_of u n ≤ w.taken
    → helper_of u i < helper_of w j
helper_earlier u w n i j e h later = omega (arith, helper-most u i n e h, helper_above w j)

-- an accepted table: an option is a symbol that the table holds, from 1 to V
pub option_range : (t : List ℕ) (v : ℕ) → checked t v ≡ accepted_with 0 0 → (i : ℕ) → (node_in (nodes_of t) i).kind ≡ Symbol
    → (i < length (nodes_of t)) × (0 < (node_in (nodes_of t) i).a) × ((node_in (nodes_of t) i).a ≤ v)
option_range t v accepted i e =
    let w = (accepted_well_formed t v 0 0 accepted).symbols i e in
    (symbol-inside (nodes_of t) i e, w.0, w.1)

-- a right set: a helper is that of a node of the table, after all that is taken, and no more than the variables reported
pub helper_range : (ns : List Node) (u : Renaming) → set_checked ns u.set ≡ accepted_with 0 0 → (i : ℕ) → renamed u.set i ≡ true
    → (i < length ns) × (u.taken < helper_of u i) × (helper_of u i ≤ variables_of u (length ns))
helper_range ns u right i e =
    let h : i < length ns = omega (arith, renamed-inside u.set i e, length-right ns u.set 0 0 right) in
    (h, helper_above u i, helper-most u i (length ns) e h)

-- every variable, where all options are taken
module _ (t : List ℕ) (v : ℕ) (u : Renaming) (accepted : checked t v ≡ accepted_with 0 0)
    (right : set_checked (nodes_of t) u.set ≡ accepted_with 0 0) (all : v ≤ u.taken) where
  pub variable_range : (x : ℕ) → Origin u (nodes_of t) x → (0 < x) × (x ≤ variables_of u (length (nodes_of t)))
  variable_range x (option i e) = let r = option_range t v accepted i e in (r.1, omega (arith, r.2))
  variable_range x (helper i e) = let r = helper_range (nodes_of t) u right i e in (omega (arith, r.1), r.2)
