-- The reader of a group against what may stand in it: how it stops, and that it reads what may stand there.
-- The steps of the reader and what finishes a group are in Laws/Groups.
-- Assumes nothing.
use mathlib.Core.Path.{◌≡◌, refl, sym, ap, ◌∙◌, subst, subst⁻¹}
use mathlib.Core.Bool.{Bool, true, false, cond, ◌||◌, false≢true}
use mathlib.Core.List.{List, [], ◌∷◌, ◌++◌, append_assoc, append-nil}
use Prim.Native.Nat.{ℕ, zero, suc, ◌<◌}
use native.Mathlib.Omega.{arith}
use lib.Dec.{eqb}
use lib.ListN.{length, length-append}
use borrow.Author.Tests.{eqb-true}
use Rattle.laws.proofs.Choices.{neither}
use Rattle.header.proofs.Laws.White.{white_class, white_of}
use Rattle.satfile.specs.Trees.{Tree}
use Rattle.satfile.specs.Inner.Reads.{Out, Read, Bad, is_space, skipped, Partly, is_many, takes, is_full, is_whole}
use Rattle.satfile.specs.Inner.Reads.{ends_at, with_one, group_tree, is_parted, group_from}
use Rattle.satfile.specs.declared.lead.Group.{Group}
use Rattle.satfile.proofs.Laws.Rests.{taken, left}
use Rattle.satfile.proofs.Laws.Outcomes.{Same, empty, first, same_refl, same_split, Word, Some}
use Rattle.satfile.proofs.Laws.Outcomes.{Outcome, good, wrong, none, passed, sound}
use Rattle.satfile.proofs.Laws.Groups.{Matches, Rest, close, end, white, member, or_right, same_ends, same-parted}
use Rattle.satfile.proofs.Laws.Groups.{Settled, settled-empty, settled-byte, skipped-white}
use Rattle.satfile.proofs.Laws.Groups.{group_full, group_lacks, group_sated, group_wrong, group_on, behind-member, finishes}

-- the reader at a place of a group, right behind a member (false) or not, and what it makes of a text with any fuel that is enough
abbrev pub group_at : (List ℕ → Out Tree) → Group → Bool → ℕ → Partly → List ℕ → Out Tree
group_at inner g b n p l = cond (b || is_parted l) (group_from inner g n p (skipped l)) (Bad l)

abbrev pub Gives : (List ℕ → Out Tree) → Group → Bool → Partly → List ℕ → Out Tree → Type 0
Gives inner g b p l o = (n : ℕ) → length l < n → group_at inner g b n p l ≡ o

-- white space and the end of a group may follow a member
parted-white : (c : ℕ) → is_space c ≡ true → (eqb c 41 || is_space c) ≡ true
parted-white c e = ap (λ (s : Bool). eqb c 41 || s) e ∙ or_right (eqb c 41)

close_of_end : (g : Group) (b : ℕ) → cond (is_whole g) false (eqb b 41) ≡ true → (is_whole g ≡ false) × (eqb b 41 ≡ true)
close_of_end g b e = go (is_whole g) refl e
  where
    go : (w : Bool) → is_whole g ≡ w → cond w false (eqb b 41) ≡ true → (is_whole g ≡ false) × (eqb b 41 ≡ true)
    go true q e = absurd (false≢true e)
    go false q e = (q, e)

parted-end : (g : Group) (l : List ℕ) → ends_at g l ≡ true → is_parted l ≡ true
parted-end g [] e = refl
parted-end g (c ∷ l) e = ap (λ (s : Bool). s || is_space c) (close_of_end g c e).1

module _ {inner : List ℕ → Out Tree} {Inside : Tree → List ℕ → List ℕ → Type 0} (m : Matches inner Inside) where
  -- what may follow a member is no member
  not-parted : (c : ℕ) (q l : List ℕ) → Some Inside (c ∷ q) → is_parted (c ∷ l) ≡ true → ⊥
  not-parted c q l s e = false≢true (sym (m.starts s.value _ [] (s.word [])) ∙ e)

  -- and a member takes a byte
  shorter : (u : Tree) (q s : List ℕ) → Word Inside u q → length s < length (q ++ s)
  shorter u [] s w = absurd (false≢true (sym (m.starts u [] [] (w []))))
  shorter u (c ∷ q) s w = omega (arith, length-append q s)

  no_member : (l : List ℕ) → is_parted l ≡ true → (s : List ℕ) → Same l s → inner s ≡ Bad s
  no_member l e = go (m.stops l)
    where
      go : Outcome (λ k o. inner k ≡ o) Inside l → (s : List ℕ) → Same l s → inner s ≡ Bad s
      go (good t q r d k w) = absurd (false≢true (sym (m.starts t (q ++ r) r (w r)) ∙ ap is_parted (sym d) ∙ e))
      go (wrong [] r d k w) = λ s h. k s (subst (λ (x : List ℕ). Same x s) d h)
      go (wrong (c ∷ q) r d k w) = absurd (not-parted c q (q ++ r) w (ap is_parted (sym d) ∙ e))
      go (none k) = k

-- what begins a member is no white space, and ends no group
settled_begun : (l : List ℕ) → is_parted l ≡ false → Settled l
settled_begun [] e = settled-empty
settled_begun (c ∷ l) e = settled-byte c l (neither (eqb c 41) (is_space c) e).1

begun_ends : (g : Group) (l : List ℕ) → is_parted l ≡ false → ends_at g l ≡ false
begun_ends g l e = go (ends_at g l) refl
  where
    go : (b : Bool) → ends_at g l ≡ b → ends_at g l ≡ false
    go true h = absurd (false≢true (sym e ∙ parted-end g l h))
    go false h = h

-- how the reader stops where no white space comes first
module _ {inner : List ℕ → Out Tree} {Inside : Tree → List ℕ → List ℕ → Type 0} (m : Matches inner Inside) (g : Group) (p : Partly) where
  at_once : (b : Bool) (l : List ℕ) (o : Out Tree) → (b || is_parted l) ≡ true → skipped l ≡ l
      → ((n : ℕ) → 0 < n → group_from inner g n p l ≡ o) → Gives inner g b p l o
  at_once b l o e s k n h = taken _ _ _ e ∙ ap (group_from inner g n p) s ∙ k n (omega arith)

  either : (b : Bool) {s : Bool} → s ≡ true → (b || s) ≡ true
  either b e = ap (λ (s : Bool). b || s) e ∙ or_right b

  -- at the end of the group
  end_empty : (b : Bool) → is_whole g ≡ true → is_full g p ≡ true → (s : List ℕ) → Same [] s → Gives inner g b p s (Read (group_tree g p) s)
  end_empty b e f [] empty =
      at_once b [] _ (either b refl) (settled-empty [] empty)
      (λ n h. group_full inner g p [] e f n h ∙ ap (Read (group_tree g p)) (taken _ _ _ e))
  end_empty b e f (_ ∷ _) h = elim h [ ]

  stop_full : (b : Bool) (l : List ℕ) → Settled l → ends_at g l ≡ true → is_full g p ≡ true
      → Outcome (Gives inner g b p) (Rest Inside g b p) l
  stop_full b [] t e f = good (group_tree g p) [] [] refl (end_empty b e f) (λ r. end e f)
  stop_full b (c ∷ l) t e f =
      let w = close_of_end g c e in
      good (group_tree g p) (c ∷ []) l refl
      (λ s h. at_once b (c ∷ s) _ (either b (parted-end g (c ∷ s) e)) (t (c ∷ s) first)
      (λ n i. group_full inner g p (c ∷ s) e f n i ∙ ap (Read (group_tree g p)) (left _ _ _ w.0)))
      (λ r. subst⁻¹ (λ (x : ℕ). Rest Inside g b p (group_tree g p) (x ∷ r) r) (eqb-true c 41 w.1) (close w.0 f))

  module _ (l : List ℕ) (t : Settled l) where
    stop_lacks : (b : Bool) → ends_at g l ≡ true → is_full g p ≡ false → Outcome (Gives inner g b p) (Rest Inside g b p) l
    stop_lacks b e f =
        none (λ s h. let i = same_ends g h ∙ e in
        at_once b s (Bad s) (either b (parted-end g s i)) (t s h) (group_lacks inner g p s i f))

    module _ (e : ends_at g l ≡ false) where
      stop_sated : takes g p ≡ false → Outcome (Gives inner g true p) (Rest Inside g true p) l
      stop_sated f = none (λ s h. at_once true s (Bad s) refl (t s h) (group_sated inner g p s (same_ends g h ∙ e) f))

      -- right behind a member
      stop_behind : Outcome (Gives inner g false p) (Rest Inside g false p) l
      stop_behind = go (is_parted l) refl (takes g p) refl
        where
          go : (i : Bool) → is_parted l ≡ i → (f : Bool) → takes g p ≡ f → Outcome (Gives inner g false p) (Rest Inside g false p) l
          go false i f q = none (λ s h n k. left _ _ _ (same-parted h ∙ i))
          go true i false q =
              none (λ s h. at_once false s (Bad s) (same-parted h ∙ i) (t s h) (group_sated inner g p s (same_ends g h ∙ e) q))
          go true i true q =
              none (λ s h. at_once false s (Bad s) (same-parted h ∙ i) (t s h)
              (group_wrong inner g p s (same_ends g h ∙ e) q s (no_member m l i s h)))

      -- a member is read: the reader goes on behind it
      module _ (f : takes g p ≡ true) where
        goes_on : (u : Tree) (q s : List ℕ) → Same l (q ++ s) → inner (q ++ s) ≡ Read u s → length s < length (q ++ s) → (o : Out Tree)
            → Gives inner g false (with_one g p u) s o → Gives inner g true p (q ++ s) o
        goes_on u q s h i j o k zero n = absurd (omega arith)
        goes_on u q s h i j o k (suc z) n =
            ap (group_from inner g (suc z) p) (t (q ++ s) h)
            ∙ group_on inner g p (q ++ s) (same_ends g h ∙ e) f u s i z ∙ k z (omega arith)

        stop_member : ((u : Tree) (r : List ℕ) → length r < length l
            → Outcome (Gives inner g false (with_one g p u)) (Rest Inside g false (with_one g p u)) r)
            → Outcome (λ k o. inner k ≡ o) Inside l → Outcome (Gives inner g true p) (Rest Inside g true p) l
        stop_member next (none k) =
            none (λ s h. at_once true s (Bad s) refl (t s h) (group_wrong inner g p s (same_ends g h ∙ e) f s (k s h)))
        stop_member next (wrong q r d k w) =
            wrong q r d
            (λ s h. let i = same_split q d h in
            at_once true (q ++ s) (Bad s) refl (t (q ++ s) i) (group_wrong inner g p (q ++ s) (same_ends g i ∙ e) f s (k s h)))
            (behind-member Inside g p f q w)
        stop_member next (good u q r d k w) =
            let j = subst⁻¹ (λ (x : List ℕ). length r < length x) d (shorter m u q r w) in
            let z = behind-member Inside g p f q (record { value = u; rest = []; word = subst⁻¹ (Word Inside u) (append-nil q) w }) in
            subst⁻¹ (Outcome (Gives inner g true p) (Rest Inside g true p)) d
            (passed q r (λ s o h i. goes_on u q s (same_split q d h) (k s h) (shorter m u q s w) o i)
            (λ v x y s. subst⁻¹ (λ (a : List ℕ). Rest Inside g true p v a s) (append_assoc q x s) (member f (w (x ++ s)) (y s)))
            z (next u r j))

-- how the reader stops on any text
module _ {inner : List ℕ → Out Tree} {Inside : Tree → List ℕ → List ℕ → Type 0} (m : Matches inner Inside) (g : Group)
    (some : is_many g ≡ false → Some Inside []) where
  stop_settled : (b : Bool) (p : Partly) (l : List ℕ) → Settled l → ((u : Tree) (r : List ℕ) → length r < length l
      → Outcome (Gives inner g false (with_one g p u)) (Rest Inside g false (with_one g p u)) r)
      → Outcome (Gives inner g b p) (Rest Inside g b p) l
  stop_settled b p l t next = go (ends_at g l) refl (is_full g p) refl (takes g p) refl b
    where
      go : (e : Bool) → ends_at g l ≡ e → (f : Bool) → is_full g p ≡ f → (k : Bool) → takes g p ≡ k → (b : Bool)
          → Outcome (Gives inner g b p) (Rest Inside g b p) l
      go true e true f k h b = stop_full m g p b l t e f
      go true e false f k h b = stop_lacks m g p l t b e f
      go false e x f k h false = stop_behind m g p l t e
      go false e x f false h true = stop_sated m g p l t e h
      go false e x f true h true = stop_member m g p l t e h next (m.stops l)

  stop_white : (b : Bool) (p : Partly) (c : ℕ) (l : List ℕ) → is_space c ≡ true → Outcome (Gives inner g true p) (Rest Inside g true p) l
      → Outcome (Gives inner g b p) (Rest Inside g b p) (c ∷ l)
  stop_white b p c l e =
      let z = finishes Inside g some p in
      passed (c ∷ []) l
      (λ r o h k n i. taken _ _ _ (either m g p b (parted-white c e))
      ∙ ap (group_from inner g n p) (skipped-white c r e) ∙ k n (omega arith))
      (λ t w y r. white (white_of c e) (y r))
      (record { value = z.value; rest = z.rest; word = λ r. white (white_of c e) (z.word r) })

  pub group_stop : (n : ℕ) (b : Bool) (p : Partly) (l : List ℕ) → length l < n → Outcome (Gives inner g b p) (Rest Inside g b p) l
  group_stop zero b p l h = absurd (omega arith)
  group_stop (suc n) b p [] h = stop_settled b p [] settled-empty (λ u r k. group_stop n false (with_one g p u) r (omega arith))
  group_stop (suc n) b p (c ∷ l) h =
      go (is_space c) refl (group_stop n true p l (omega arith)) (λ u r k. group_stop n false (with_one g p u) r (omega arith))
    where
      go : (e : Bool) → is_space c ≡ e → Outcome (Gives inner g true p) (Rest Inside g true p) l
          → ((u : Tree) (r : List ℕ) → length r < length (c ∷ l)
          → Outcome (Gives inner g false (with_one g p u)) (Rest Inside g false (with_one g p u)) r)
          → Outcome (Gives inner g b p) (Rest Inside g b p) (c ∷ l)
      go true e after next = stop_white b p c l e after
      go false e after next = stop_settled b p (c ∷ l) (settled-byte c l e) next

-- the reader reads what may stand in the group; of a whole text nothing may follow
module _ {inner : List ℕ → Out Tree} {Inside : Tree → List ℕ → List ℕ → Type 0} (m : Matches inner Inside) (g : Group) where
  rest-parted : {p : Partly} {t : Tree} {l r : List ℕ} → (is_whole g ≡ true → r ≡ []) → Rest Inside g false p t l r → is_parted l ≡ true
  rest-parted h (close w f) = refl
  rest-parted h (end w f) = ap is_parted (h w)
  rest-parted h (white {c = c} w d) = parted-white c (white_class w)

  member_on : (p : Partly) (s : Tree) (l r : List ℕ) → takes g p ≡ true → Inside s l r → is_parted r ≡ true → (o : Out Tree)
      → Gives inner g false (with_one g p s) r o → Gives inner g true p l o
  member_on p s l r f i j o k zero n = absurd (omega arith)
  member_on p s l r f i j o k (suc z) n =
      let b = m.starts s l r i in
      let q = m.whole s l r i j in
      let w = sound (m.stops l) s r q in
      let x : length r < length l = subst⁻¹ (λ (y : List ℕ). length r < length y) w.1 (shorter m s w.0 r w.2) in
      ap (group_from inner g (suc z) p) (settled_begun l b l (same_refl l))
      ∙ group_on inner g p l (begun_ends g l b) f s r q z ∙ k z (omega arith)

  pub group_whole : {b : Bool} {p : Partly} {t : Tree} {l r : List ℕ} → (is_whole g ≡ true → r ≡ []) → Rest Inside g b p t l r
      → Gives inner g b p l (Read t r)
  group_whole {b} {p} {r = r} h (close w f) =
      at_once m g p b (41 ∷ r) _ (either m g p b refl) (settled-byte 41 r refl (41 ∷ r) first)
      (λ n i. group_full inner g p (41 ∷ r) (left _ _ _ w) f n i ∙ ap (Read (group_tree g p)) (left _ _ _ w))
  group_whole {b} {p} h (end w f) =
      subst⁻¹ (λ (x : List ℕ). Gives inner g b p x (Read (group_tree g p) x)) (h w) (end_empty m g p b w f [] empty)
  group_whole {b} {p} h (white {c = c} {l = l} w d) = λ n i.
      let e = white_class w in
      taken _ _ _ (either m g p b (parted-white c e)) ∙ ap (group_from inner g n p) (skipped-white c l e)
      ∙ group_whole h d n (omega arith)
  group_whole {p = p} {t} {l} {r} h (member {s = s} {m = k} f i d) =
      member_on p s l k f i (rest-parted h d) (Read t r) (group_whole h d)
