-- The reader accepts exactly the grammar's texts, reads the formula that they stand for, and refuses every other text with its place.
-- Assumes nothing.
use mathlib.Core.Path.{◌≡◌, refl, sym, ap, ◌∙◌, subst, subst⁻¹}
use mathlib.Core.Bool.{Bool, true, false, cond, ◌&&◌, false≢true}
use mathlib.Core.List.{List, []}
use mathlib.Core.Logic.{◌↔◌}
use Prim.Native.Nat.{ℕ, ◌+◌, ◌-◌}
use native.Mathlib.Omega.{arith}
use lib.ListN.{length, drop, length-drop}
use Rattle.laws.specs.Automata.{Longest}
use Rattle.laws.proofs.Automata.{one_place}
use Rattle.laws.proofs.Choices.{both}
use Rattle.header.specs.Heads.{Headed}
use Rattle.header.specs.Inner.Heads.{is_done, head_of}
use Rattle.header.proofs.Headed.{head_continues, head_refuses, head_longest, head_dies}
use Rattle.header.proofs.Laws.Readers.{longest-same}
use Rattle.std.specs.Prelude.{Err}
use Rattle.answer.specs.declared.Refusal.TheVariants.{SatText}
use Rattle.satfile.specs.Trees.{Tree}
use Rattle.satfile.specs.Texts.{sat, Body, Text, Accepted}
use Rattle.satfile.specs.Inner.Reads.{Out, Read, Bad, whole_in}
use Rattle.satfile.specs.Calls.{tree_call}
use Rattle.satfile.specs.Inner.Calls.{read_call}
use Rattle.satfile.proofs.Laws.Outcomes.{left_of}
use Rattle.satfile.proofs.Laws.Bodies.{body-read, read-body, Bodies, bodies_some, body-left, longest_bodies}

-- what may follow a header, for one formula over v options and for some formula
abbrev Follows : ℕ → Tree → ℕ → ℕ → List ℕ → Type 0
Follows v t before given r = (given ≡ v) × Body v t r

abbrev After : ℕ → ℕ → List ℕ → Type 0
After before given r = Bodies given r

-- what is read behind the head of a text, and whether the reader accepts the text
abbrev body_in : List ℕ → Out Tree
body_in x = whole_in (head_of sat x).value (drop (head_of sat x).place x)

abbrev is_read : Out Tree → Bool
is_read (Read t r) = true
is_read (Bad m) = false

abbrev pub accepts_text : List ℕ → Bool
accepts_text t = is_done (head_of sat t).phase && is_read (body_in t)

-- the head of a text of the grammar is read
headed : (v : ℕ) (t : Tree) (x : List ℕ) → Text v t x → is_done (head_of sat x).phase ≡ true
headed v t x h = go (is_done (head_of sat x).phase) refl
  where
    go : (b : Bool) → is_done (head_of sat x).phase ≡ b → is_done (head_of sat x).phase ≡ true
    go true e = e
    go false e = absurd (head_refuses sat refl (Follows v t) x e h)

-- and what follows it is read as the formula
body_of_text : (v : ℕ) (t : Tree) (x : List ℕ) → Text v t x → ((head_of sat x).value ≡ v) × (body_in x ≡ Read t [])
body_of_text v t x h =
    let f = (head_continues sat refl (Follows v t) x (headed v t x h)).0 h in (
      f.0,
      ap (λ (n : ℕ). whole_in n (drop (head_of sat x).place x)) f.0 ∙ body-read v t (drop (head_of sat x).place x) f.1,
    )

text_of_body : (x : List ℕ) → is_done (head_of sat x).phase ≡ true → (t : Tree) (r : List ℕ) → body_in x ≡ Read t r
    → Text (head_of sat x).value t x
text_of_body x e t r h =
    let v = (head_of sat x).value in
    (head_continues sat refl (Follows v t) x e).1 (refl, read-body v t (drop (head_of sat x).place x) r h)

-- the reader and the grammar accept the same texts
pub accepts_exactly : (t : List ℕ) → accepts_text t ≡ true ↔ Accepted t
accepts_exactly x = (
  λ e. let a = both (is_done (head_of sat x).phase) (is_read (body_in x)) e in read a.0 (body_in x) refl a.1,
  λ a. let e = headed a.0 a.1 x a.2 in rw (e, (body_of_text a.0 a.1 x a.2).1),
)
  where
    read : is_done (head_of sat x).phase ≡ true → (o : Out Tree) → body_in x ≡ o → is_read o ≡ true → Accepted x
    read e (Read t r) h f = ((head_of sat x).value, t, text_of_body x e t r h)
    read e (Bad m) h f = absurd (false≢true f)

-- a text that stands for t over v options is read as the table of t
pub reads : (v : ℕ) (t : Tree) (x buffer : List ℕ) → Text v t x → read_call x buffer ≡ tree_call v t buffer
reads v t x buffer h =
    let e = headed v t x h in
    let b = body_of_text v t x h in
    rw (e, b.1) (ap (λ (n : ℕ). tree_call n t buffer) b.0)

-- a text stands for one number of options and one formula only
pub one_reading : (v w : ℕ) (t u : Tree) (x : List ℕ) → Text v t x → Text w u x → (v ≡ w) × (t ≡ u)
one_reading v w t u x g h =
    let a = body_of_text v t x g in
    let b = body_of_text w u x h in
    let same : Read t [] ≡ Read u [] = sym a.1 ∙ b.1 in
    (sym a.0 ∙ b.0, cc)

-- accepted texts are those with some formula behind the head
headed_accepted : (x : List ℕ) → Headed sat After x ↔ Accepted x
headed_accepted x = (back (is_done (head_of sat x).phase) refl, λ a. go a.0 a.1 a.2)
  where
    go : (v : ℕ) (t : Tree) → Text v t x → Headed sat After x
    go v t h =
        let e = headed v t x h in
        let f = (head_continues sat refl (Follows v t) x e).0 h in
        (head_continues sat refl After x e).1 (t, subst⁻¹ (λ (n : ℕ). Body n t (drop (head_of sat x).place x)) f.0 f.1)

    back : (b : Bool) → is_done (head_of sat x).phase ≡ b → Headed sat After x → Accepted x
    back true e h =
        let v = (head_of sat x).value in
        let a = (head_continues sat refl After x e).0 h in
        (v, a.0, (head_continues sat refl (Follows v a.0) x e).1 (refl, a.1))
    back false e h = absurd (head_refuses sat refl After x e h)

-- R9.21: the place of any text, accepted or not, is the length of its longest good beginning
abbrev pub place_of : List ℕ → ℕ
place_of x = cond (is_done (head_of sat x).phase) (length x - length (left_of (body_in x))) (head_of sat x).place

longest_head : (x : List ℕ) → is_done (head_of sat x).phase ≡ false → Longest Accepted x (head_of sat x).place
longest_head x e = longest-same headed_accepted (head_dies sat refl After x (λ m n h g. bodies_some n) e)

longest-body : (x : List ℕ) → is_done (head_of sat x).phase ≡ true → Longest Accepted x (length x - length (left_of (body_in x)))
longest-body x e =
    let h = head_of sat x in
    let rest = drop h.place x in
    let w = head_longest sat refl After x e (longest_bodies h.value rest) in
    let p : h.place + (length rest - length (left_of (body_in x))) ≡ length x - length (left_of (body_in x)) =
    omega (arith, w.within, length-drop h.place x, body-left h.value rest) in
    longest-same headed_accepted (subst (Longest (Headed sat After) x) p w)

pub place-longest : (x : List ℕ) → Longest Accepted x (place_of x)
place-longest x = go (is_done (head_of sat x).phase) refl
  where
    go : (b : Bool) → is_done (head_of sat x).phase ≡ b
        → Longest Accepted x (cond b (length x - length (left_of (body_in x))) (head_of sat x).place)
    go true e = longest-body x e
    go false e = longest_head x e

-- any other text is refused with the length of its longest good beginning, and the buffer is left alone
pub refuses : (x buffer : List ℕ) (k : ℕ) → (Accepted x → ⊥) → Longest Accepted x k
    → read_call x buffer ≡ record { answer = Err (SatText k); output = buffer }
refuses x buffer k n p = go (is_done (head_of sat x).phase) refl (body_in x) refl
  where
    same : (l : ℕ) → Longest Accepted x l → read_call x buffer ≡ record { answer = Err (SatText l); output = buffer }
        → read_call x buffer ≡ record { answer = Err (SatText k); output = buffer }
    same l q e = e ∙ ap (λ (y : ℕ). record { answer = Err (SatText y); output = buffer }) (one_place Accepted x l k q p)

    go : (b : Bool) → is_done (head_of sat x).phase ≡ b → (o : Out Tree) → body_in x ≡ o
        → read_call x buffer ≡ record { answer = Err (SatText k); output = buffer }
    go false e o f = same (head_of sat x).place (longest_head x e) (rw e)
    go true e (Read t r) f = absurd (n ((head_of sat x).value, t, text_of_body x e t r f))
    go true e (Bad m) f =
        same (length x - length m)
        (subst (λ (y : ℕ). Longest Accepted x (length x - y)) (ap (λ o. length (left_of o)) f) (longest-body x e)) (rw (e, f))
