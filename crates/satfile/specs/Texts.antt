-- R21.1 to R21.8: the texts that are accepted, by productions, and the formula that each stands for.
-- A family says what may stand in a place of a text: `l` is such a thing and then `r`.
-- Assumes nothing: these are definitions.
use Rattle.std.specs.Prelude.{◌≡◌, None, Bool, true, false, List, [], ◌∷◌, ◌++◌, ℕ, zero, suc, ◌≤◌}
use Rattle.text.specs.Texts.{decimal}
use Rattle.header.specs.Heads.{White, Headed}
use Rattle.header.specs.declared.Form.{Form}
use Rattle.formula.specs.Tables.{most_options}
use Rattle.satfile.specs.Trees.{Tree, Symbol, Not, And, Or, folded}

-- R21.1: the header has `sat` and V
abbrev pub sat : Form
sat = record { first = 115; second = 97; third = 116; before = None; last = most_options }

-- R21.7: any white space
pub data Spaces (r : List ℕ) : List ℕ → Type 0 where
  none : Spaces r r
  more : {b : ℕ} {l : List ℕ} → White b → Spaces r l → Spaces r (b ∷ l)

-- R21.3 and R21.4: a number from 1 to v, or a formula in parentheses. `opens` says whether a parenthesis may be opened here, and Inside
-- what may stand in it
pub data Operand (v : ℕ) (opens : Bool) (Inside : Tree → List ℕ → List ℕ → Type 0) : Tree → List ℕ → List ℕ → Type 0 where
  symbol : {n : ℕ} {r : List ℕ} → 1 ≤ n → n ≤ v → Operand v opens Inside (Symbol n) (decimal n ++ r) r
  parens : {t : Tree} {l m n r : List ℕ} → opens ≡ true → Spaces m l → Inside t m n → Spaces (41 ∷ r) n
      → Operand v opens Inside t (40 ∷ l) r

-- R21.6: the members of a list, and its `)`. The Bool says whether a member may stand here: not right behind another
pub data Members (One : Tree → List ℕ → List ℕ → Type 0) : Bool → List Tree → List ℕ → List ℕ → Type 0 where
  close : {p : Bool} {r : List ℕ} → Members One p [] (41 ∷ r) r
  white : {p : Bool} {ts : List Tree} {b : ℕ} {l r : List ℕ} → White b → Members One true ts l r → Members One p ts (b ∷ l) r
  member : {t : Tree} {ts : List Tree} {l m r : List ℕ} → One t l m → Members One false ts m r → Members One true (t ∷ ts) l r

-- R21.3 to R21.5: a formula: a number or one in parentheses; `-` and such a one; `*(` or `+(`, a list and `)`
pub data Over (v : ℕ) (opens : Bool) (Inside : Tree → List ℕ → List ℕ → Type 0) : Tree → List ℕ → List ℕ → Type 0 where
  plain : {t : Tree} {l r : List ℕ} → Operand v opens Inside t l r → Over v opens Inside t l r
  negated : {t : Tree} {l r : List ℕ} → Operand v opens Inside t l r → Over v opens Inside (Not t) (45 ∷ l) r
  all : {ts : List Tree} {l r : List ℕ} → opens ≡ true → Members Inside true ts l r → Over v opens Inside (folded And ts) (42 ∷ 40 ∷ l) r
  any : {ts : List Tree} {l r : List ℕ} → opens ≡ true → Members Inside true ts l r → Over v opens Inside (folded Or ts) (43 ∷ 40 ∷ l) r

-- R21.8: a formula in which d parentheses may be open at once; each that is opened leaves one less for what stands in it
pub data Nothing (t : Tree) (l r : List ℕ) : Type 0 where

abbrev pub Formula : ℕ → ℕ → Tree → List ℕ → List ℕ → Type 0
Formula v zero = Over v false Nothing
Formula v (suc d) = Over v true (Formula v d)

-- R21.8
abbrev pub most_open : ℕ
most_open = 64

-- R21.2 and R21.7: what follows the header: one formula, with white space before and behind it
pub data Body (v : ℕ) (t : Tree) : List ℕ → Type 0 where
  body : {l m n : List ℕ} → Spaces m l → Formula v most_open t m n → Spaces [] n → Body v t l

-- R21.1 and R21.2: a text that gives v options and stands for the formula t
abbrev pub Text : ℕ → Tree → List ℕ → Type 0
Text v t = Headed sat (λ (none given : ℕ) (r : List ℕ). (given ≡ v) × Body v t r)

abbrev pub Accepted : List ℕ → Type 0
Accepted x = (v : ℕ) × (t : Tree) × Text v t x
