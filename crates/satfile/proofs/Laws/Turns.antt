-- A group as it is read member by member: what the loop of the function that reads one cites. Laws/Groups has the steps of its reader.
-- Assumes nothing.
use mathlib.Core.Path.{◌≡◌, refl, sym, ap, ◌∙◌}
use mathlib.Core.Bool.{Bool, true, false, cond, not, ◌||◌, false≢true}
use mathlib.Core.List.{List, [], ◌∷◌}
use Prim.Native.Nat.{ℕ, suc, ◌+◌, ◌-◌, ◌≤◌, ◌<◌}
use native.Mathlib.Omega.{arith}
use lib.Dec.{eqb, ltb}
use lib.ListN.{length, get_or, length-drop}
use lib.Seq.{drop-drop}
use borrow.Author.Tests.{eq-eqb, ne_eqb, eqb-true, eqb-false, ltb-true, ltb-false}
use Rattle.satfile.specs.Inner.Reads.{Read, is_space, skipped, Partly, none, some, is_begun, is_many, takes, is_full, is_whole, ends_at}
use Rattle.satfile.specs.Inner.Reads.{behind, with_one, group_tree, is_parted, group_from, formula_in, list_in}
use Rattle.satfile.specs.Inner.Stores.{Adds, part_records, part_nodes, fold_records, fold_nodes, empty_nodes, end_records}
use Rattle.satfile.specs.Inner.Stores.{end_nodes}
use Rattle.satfile.specs.Inner.Parts.{text_from, Skipped, DoneTo, WrongTo}
use Rattle.satfile.specs.declared.lead.Group.{Group}
use Rattle.satfile.specs.declared.lead.Group.TheVariants as group
use Rattle.satfile.specs.declared.lead.Reader.{Reader}
use Rattle.satfile.proofs.Laws.Groups as steps
use Rattle.satfile.proofs.Laws.Records.{size-some}
use Rattle.satfile.proofs.Laws.Rests.{taken, left, ends-end, ends_close, parted-space, skipped_on, skipped_stop}
use Rattle.satfile.proofs.Laws.Stores.{adds_none, adds-member, adds-end}

-- whether a group has begun, by the numbers of its nodes
pub begun_by : {xs before after : List ℕ} {i next : ℕ} (p : Partly) → Adds xs (part_nodes p) before i next after
    → eqb next i ≡ not (is_begun p)
begun_by {i = i} {next = next} none a = eq-eqb next i (a.nodes ∙ omega arith)
begun_by {i = i} {next = next} (some t) a = ne_eqb next i (λ e. omega (arith, a.nodes, size-some t))

-- only a list goes on behind a member; and it does not end with the text
many_of : (g : Group) (p : Partly) → takes g p ≡ true → is_begun p ≡ true → is_many g ≡ true
many_of g none e b = absurd (false≢true b)
many_of group.And (some t) e b = refl
many_of group.Or (some t) e b = refl
many_of group.One (some t) e b = absurd (false≢true e)
many_of group.Not (some t) e b = absurd (false≢true e)
many_of group.Whole (some t) e b = absurd (false≢true e)

whole-not : (g : Group) → is_many g ≡ true → is_whole g ≡ false
whole-not group.And e = refl
whole-not group.Or e = refl
whole-not group.One e = absurd (false≢true e)
whole-not group.Not e = absurd (false≢true e)
whole-not group.Whole e = absurd (false≢true e)

-- where the next member begins, at least one byte was passed
skipped-length : (l : List ℕ) → length (skipped l) ≤ length l
unfolding skipped
skipped-length [] = omega arith
skipped-length (b ∷ l) = go (is_space b) (skipped-length l)
  where
    go : (s : Bool) → length (skipped l) ≤ length l → length (cond s (skipped l) (b ∷ l)) ≤ suc (length l)
    go true h = omega arith
    go false h = omega arith

parted-ahead : (x : Reader) (end place : ℕ) → is_parted (text_from x end) ≡ true → Skipped x end place → place < length x.text.now
    → (get_or x.text.now place 0 ≡ 41 → ⊥) → end + 1 ≤ place
parted-ahead x end place p k h n = go (eqb (get_or x.text.now end 0) 41) refl
  where
    within : end < length x.text.now
    within = omega (arith, k.onward)

    go : (b : Bool) → eqb (get_or x.text.now end 0) 41 ≡ b → end + 1 ≤ place
    go true q =
        let e = eqb-true (get_or x.text.now end 0) 41 q in
        let stop = skipped_stop x.text.now end within (ap is_space e) in
        let same = ap length (k.rest ∙ stop) in
        let at : place ≡ end = omega (arith, same, length-drop place x.text.now, length-drop end x.text.now) in
        absurd (n (ap (λ (j : ℕ). get_or x.text.now j 0) at ∙ e))
    go false q =
        let space = sym (parted-space x.text.now end within (eqb-false (get_or x.text.now end 0) 41 q)) ∙ p in
        let past = ap length (k.rest ∙ skipped_on x.text.now end within space) in
        omega (arith, past, skipped-length (text_from x (end + 1)), length-drop place x.text.now, length-drop (end + 1) x.text.now)

-- the end of a group adds a node at most, and only behind a `)`; a not has a child
empty-few : (i node : ℕ) → empty_nodes i node ≤ 1
empty-few i node = go (eqb node i)
  where
    go : (b : Bool) → cond b 1 0 ≤ 1
    go true = omega arith
    go false = omega arith

end-few : (g : Group) (i node : ℕ) → end_nodes g i node ≤ cond (is_whole g) 0 1
end-few group.And i node = empty-few i node
end-few group.Or i node = empty-few i node
end-few group.One i node = omega arith
end-few group.Not i node = omega arith
end-few group.Whole i node = omega arith

-- a group that was begun at `at` with node i, and read up to a place and a node
pub record Grouping (x : Reader) (d : ℕ) (g : Group) (before : List ℕ) (at i : ℕ) (table : List ℕ) (place node : ℕ) : Type 0 where
  pub fuel : ℕ
  pub part : Partly
  pub onward : at ≤ place
  pub within : place ≤ length x.text.now
  pub enough : length x.text.now ≤ place + fuel
  pub same : group_from (formula_in x.options d) g (suc fuel) part (text_from x place) ≡ list_in x.options d g (text_from x at)
  pub adds : Adds (part_records i part) (part_nodes part) before i node table
  pub few : node + at ≤ i + place
  pub wide : is_begun part ≡ true → place < length x.text.now → (get_or x.text.now place 0 ≡ 41 → ⊥) → node + 1 + at ≤ i + place

module _ {r : Reader} {d : ℕ} {g : Group} {before : List ℕ} {at i : ℕ} where
  pub group_start : {place : ℕ} → at ≤ length r.text.now → Skipped r at place → Grouping r d g before at i before place i
  group_start {place} h s = record {
    fuel = length (text_from r at);
    part = none;
    onward = s.onward;
    within = s.within;
    enough = omega (arith, length-drop at r.text.now, s.onward);
    same = ap (group_from (formula_in r.options d) g (suc (length (text_from r at))) none) s.rest;
    adds = adds_none before i;
    few = omega (arith, s.onward);
    wide = λ b. absurd (false≢true b);
  }

  -- the tests of the code are those of the definition
  module _ {table : List ℕ} {place node : ℕ} (w : Grouping r d g before at i table place node) where
    pub takes_by : (many room : Bool) → many ≡ is_many g → room ≡ (many || eqb node i) → room ≡ takes g w.part
    takes_by many room e f =
        f ∙ ap (λ (b : Bool). b || eqb node i) e ∙ ap (λ (b : Bool). is_many g || b) (begun_by w.part w.adds)

    pub full_by : (many full : Bool) → many ≡ is_many g → full ≡ (many || not (eqb node i)) → full ≡ is_full g w.part
    full_by many full e f =
        f ∙ ap (λ (b : Bool). b || not (eqb node i)) e
        ∙ ap (λ (b : Bool). is_many g || not b) (begun_by w.part w.adds)
        ∙ ap (λ (b : Bool). is_many g || b) (twice (is_begun w.part))
      where
        twice : (b : Bool) → not (not b) ≡ b
        twice true = refl
        twice false = refl

    -- no member more, or one too few: wrong from here on
    pub group_over : ends_at g (text_from r place) ≡ false → takes g w.part ≡ false
        → WrongTo r before (list_in r.options d g (text_from r at)) place table
    group_over e f = record {
      at = record {
        out = sym w.same ∙ steps.group_sated (formula_in r.options d) g w.part (text_from r place) e f (suc w.fuel) (omega arith);
        within = w.within;
      };
      same = w.adds.same;
    }

    pub group_lacks : ends_at g (text_from r place) ≡ true → is_full g w.part ≡ false
        → WrongTo r before (list_in r.options d g (text_from r at)) place table
    group_lacks e f = record {
      at = record {
        out = sym w.same ∙ steps.group_lacks (formula_in r.options d) g w.part (text_from r place) e f (suc w.fuel) (omega arith);
        within = w.within;
      };
      same = w.adds.same;
    }

    -- a member is read
    module _ (e : ends_at g (text_from r place) ≡ false) (f : takes g w.part ≡ true) where
      pub group_wrong : {p : ℕ} {after : List ℕ} → WrongTo r table (formula_in r.options d (text_from r place)) p after
          → WrongTo r before (list_in r.options d g (text_from r at)) p after
      group_wrong x = record {
        at = record {
          out =
              sym w.same
              ∙ steps.group_wrong (formula_in r.options d) g w.part (text_from r place) e f _ x.at.out (suc w.fuel) (omega arith);
          within = x.at.within;
        };
        same = x.same ∙ w.adds.same;
      }

      module _ {end after : ℕ} {stored : List ℕ} (x : DoneTo r table place node (formula_in r.options d (text_from r place)) end after stored) where
        told : list_in r.options d g (text_from r at) ≡ steps.on (formula_in r.options d) g w.part (text_from r place) e f w.fuel x.tree (text_from r end)
        told = sym w.same ∙ steps.group_on (formula_in r.options d) g w.part (text_from r place) e f x.tree _ x.to.out w.fuel

        pub group_unparted : is_parted (text_from r end) ≡ false → WrongTo r before (list_in r.options d g (text_from r at)) end stored
        group_unparted n = record {
          at = record { out = told ∙ left _ _ _ n; within = x.to.within };
          same = x.adds.same ∙ w.adds.same;
        }

        -- each member has a byte, and a byte parts it from the next
        pub ahead : place + 1 ≤ end
        ahead = omega (arith, x.few, x.adds.nodes, size-some x.tree)

        -- of a group that has begun and goes on, the byte here is no `)`
        no_close : is_begun w.part ≡ true → get_or r.text.now place 0 ≡ 41 → ⊥
        no_close b q =
            let h : place < length r.text.now = omega (arith, ahead, x.to.within) in
            eqb-false (get_or r.text.now place 0) 41 (sym (ends_close r.text.now place g h (whole-not g (many_of g w.part f b))) ∙ e) q

        -- the numbers of nodes behind the fold
        module _ {node2 : ℕ} {table2 : List ℕ} (y : Adds (fold_records g i node after) (fold_nodes i node) stored after node2 table2) where
          few-end : node2 + at ≤ i + end
          few-end = go (is_begun w.part) refl
            where
              by : fold_nodes i node ≡ cond (not (is_begun w.part)) 0 1
              by = ap (λ (b : Bool). cond b 0 1) (begun_by w.part w.adds)

              go : (b : Bool) → is_begun w.part ≡ b → node2 + at ≤ i + end
              go false q =
                  let z : fold_nodes i node ≡ 0 = by ∙ ap (λ (b : Bool). cond (not b) 0 1) q in
                  omega (arith, y.nodes, x.few, w.few)
              go true q =
                  let z : fold_nodes i node ≡ 1 = by ∙ ap (λ (b : Bool). cond (not b) 0 1) q in
                  let h : place < length r.text.now = omega (arith, ahead, x.to.within) in
                  omega (arith, y.nodes, x.few, w.wide q h (no_close q))

          pub group_next : {place2 : ℕ} → is_parted (text_from r end) ≡ true → Skipped r end place2
              → Grouping r d g before at i table2 place2 node2
          group_next {place2} p k = record {
            fuel = w.fuel - 1;
            part = with_one g w.part x.tree;
            onward = omega (arith, w.onward, ahead, k.onward);
            within = k.within;
            enough = omega (arith, w.enough, ahead, x.to.within, k.onward);
            same =
                let more : suc (w.fuel - 1) ≡ w.fuel = omega (arith, w.enough, ahead, x.to.within) in
                ap (λ (n : ℕ). group_from (formula_in r.options d) g n (with_one g w.part x.tree) (text_from r place2)) more
                ∙ ap (group_from (formula_in r.options d) g w.fuel (with_one g w.part x.tree)) k.rest
                ∙ sym (told ∙ taken _ _ _ p);
            adds = adds-member g i x.tree w.part w.adds x.adds y;
            few = omega (arith, few-end, k.onward);
            wide = λ b h n. omega (arith, few-end, parted-ahead r end place2 p k h n);
          }

    -- a group ends
    module _ (e : ends_at g (text_from r place) ≡ true) where
      pub closes_within : is_whole g ≡ false → place < length r.text.now
      closes_within n = go (ltb place (length r.text.now)) refl
        where
          go : (b : Bool) → ltb place (length r.text.now) ≡ b → place < length r.text.now
          go true q = ltb-true place (length r.text.now) q
          go false q = absurd (false≢true (sym n ∙ sym (ends-end r.text.now place g (ltb-false place (length r.text.now) q)) ∙ e))

      module _ (f : is_full g w.part ≡ true) where
        module _ {past : ℕ} (q : past ≡ cond (is_whole g) place (place + 1)) where
          past-within : past ≤ length r.text.now
          past-within = go (is_whole g) refl
            where
              go : (b : Bool) → is_whole g ≡ b → past ≤ length r.text.now
              go true z = omega (arith, q ∙ taken _ _ _ z, w.within)
              go false z = omega (arith, q ∙ left _ _ _ z, closes_within z)

          past-rest : behind g (text_from r place) ≡ text_from r past
          past-rest = go (is_whole g) refl
            where
              go : (b : Bool) → is_whole g ≡ b → behind g (text_from r place) ≡ text_from r past
              go true z = taken _ _ _ z ∙ ap (λ (k : ℕ). text_from r k) (sym (q ∙ taken _ _ _ z))
              go false z = left _ _ _ z ∙ drop-drop 1 place r.text.now ∙ ap (λ (k : ℕ). text_from r k) (sym (q ∙ left _ _ _ z))

          pub group_done : {next : ℕ} {stored : List ℕ} → Adds (end_records g i node) (end_nodes g i node) table node next stored
              → DoneTo r before at i (list_in r.options d g (text_from r at)) past next stored
          group_done {next} y = record {
            tree = group_tree g w.part;
            to = record {
              out =
                  sym w.same ∙ steps.group_full (formula_in r.options d) g w.part (text_from r place) e f (suc w.fuel) (omega arith)
                  ∙ ap (Read (group_tree g w.part)) past-rest;
              onward = go (is_whole g) refl;
              within = past-within;
            };
            few = few (is_whole g) refl;
            adds = adds-end i g w.part f w.adds y;
          }
            where
              go : (b : Bool) → is_whole g ≡ b → at ≤ past
              go true z = omega (arith, q ∙ taken _ _ _ z, w.onward)
              go false z = omega (arith, q ∙ left _ _ _ z, w.onward)

              few : (b : Bool) → is_whole g ≡ b → next + at ≤ i + past
              few true z =
                  omega (arith, q ∙ taken _ _ _ z, y.nodes, w.few, end-few g i node, taken {A = ℕ} (is_whole g) 0 1 z)
              few false z =
                  omega (arith, q ∙ left _ _ _ z, y.nodes, w.few, end-few g i node, left {A = ℕ} (is_whole g) 0 1 z)
