-- The reader of a formula, as the code goes: how a formula begins, a group of formulas up to where it ends, and the whole.
-- It says of a text what was read and what is left of the text; or, where no accepted text goes on so, what is left from there on.
-- Assumes nothing: these are definitions.
use Rattle.std.specs.Prelude.{Bool, true, false, cond, not, ◌&&◌, ◌||◌, List, [], ◌∷◌, ℕ, zero, suc, ◌-◌, eqb, leb, ltb, length, drop, Option, Some, None}
use Rattle.text.specs.Inner.Numbers.{is_digit, grown_of}
use Rattle.classes.specs.Inner.Classes.{class_of, is_white}
use Rattle.satfile.specs.Trees.{Join, And, Or, Tree, Symbol, Empty, Not, Joined}
use Rattle.satfile.specs.Texts.{most_open}
use Rattle.satfile.specs.declared.lead.Group.{Group}
use Rattle.satfile.specs.declared.lead.Group.TheVariants as group

-- what was read, and the text behind it; or the text from where it is wrong
pub data Out (A : Type 0) : Type 0 where
  Read : A → List ℕ → Out A
  Bad : List ℕ → Out A

abbrev pub and_then : {A B : Type 0} → (A → List ℕ → Out B) → Out A → Out B
and_then k (Read a r) = k a r
and_then k (Bad m) = Bad m

-- the text behind white space
abbrev pub is_space : ℕ → Bool
is_space b = is_white (class_of b)

unfoldable pub skipped : List ℕ → List ℕ
skipped [] = []
skipped (b ∷ l) = cond (is_space b) (skipped l) (b ∷ l)

-- a number, behind the digits of x, and from its first digit on
abbrev pub grown_by : Option ℕ → (ℕ → Out ℕ) → Out ℕ → Out ℕ
grown_by (Some y) k bad = k y
grown_by None k bad = bad

unfoldable pub digits_from : ℕ → ℕ → List ℕ → Out ℕ
digits_from v x [] = Read x []
digits_from v x (b ∷ l) =
    cond (is_digit b) (grown_by (grown_of true x (b - 48) v) (λ y. digits_from v y l) (Bad (b ∷ l))) (Read x (b ∷ l))

abbrev pub is_first : ℕ → Bool
is_first b = leb 49 b && leb b 57

abbrev pub number_in : ℕ → List ℕ → Out ℕ
number_in v [] = Bad []
number_in v (b ∷ l) = cond (is_first b) (cond (ltb v (b - 48)) (Bad (b ∷ l)) (digits_from v (b - 48) l)) (Bad (b ∷ l))

-- whether a formula can stand in a parenthesis, where d of them may still be opened; and a number or such a formula behind a `-`
abbrev pub fills : ℕ → ℕ → Bool
fills v d = cond (eqb d 0) false (cond (eqb v 0) (not (eqb d 1)) true)

abbrev pub negates : ℕ → ℕ → Bool
negates v d = cond (eqb v 0) (fills v d) true

-- how a formula begins: a symbol, negated or not; or a group that is opened
pub data Begin : Type 0 where
  Leaf : ℕ → Bool → Begin
  Open : Group → Begin

abbrev pub leaf_of : ℕ → Bool → Tree
leaf_of n false = Symbol n
leaf_of n true = Not (Symbol n)

abbrev pub one_of : Bool → Group
one_of false = group.One
one_of true = group.Not

abbrev pub operand_in : ℕ → ℕ → Bool → List ℕ → Out Begin
operand_in v d negated [] = Bad []
operand_in v d negated (b ∷ l) =
    cond (eqb b 40) (cond (fills v d) (Read (Open (one_of negated)) l) (Bad (b ∷ l)))
    (and_then (λ n r. Read (Leaf n negated) r) (number_in v (b ∷ l)))

abbrev pub open_in : Group → List ℕ → Out Begin
open_in g [] = Bad []
open_in g (b ∷ l) = cond (eqb b 40) (Read (Open g) l) (Bad (b ∷ l))

unfoldable pub begin_in : ℕ → ℕ → List ℕ → Out Begin
begin_in v d [] = Bad []
begin_in v d (b ∷ l) =
    cond (eqb b 42) (cond (eqb d 0) (Bad (b ∷ l)) (open_in group.And l))
    (cond (eqb b 43) (cond (eqb d 0) (Bad (b ∷ l)) (open_in group.Or l))
    (cond (eqb b 45) (cond (negates v d) (operand_in v d true l) (Bad (b ∷ l)))
    (operand_in v d false (b ∷ l))))

-- the members of a group that were read so far, folded
pub data Partly : Type 0 where
  none : Partly
  some : Tree → Partly

abbrev pub is_begun : Partly → Bool
is_begun none = false
is_begun (some t) = true

-- a list has any number of members, every other group has one
abbrev pub is_many : Group → Bool
is_many group.And = true
is_many group.Or = true
is_many group.One = false
is_many group.Not = false
is_many group.Whole = false

abbrev pub takes : Group → Partly → Bool
takes g p = is_many g || not (is_begun p)

abbrev pub is_full : Group → Partly → Bool
is_full g p = is_many g || is_begun p

-- where a group ends: before a `)`, or, of a text, where the text ends; and what is behind that
abbrev pub is_whole : Group → Bool
is_whole group.And = false
is_whole group.Or = false
is_whole group.One = false
is_whole group.Not = false
is_whole group.Whole = true

abbrev pub ends_at : Group → List ℕ → Bool
ends_at g [] = is_whole g
ends_at g (b ∷ l) = cond (is_whole g) false (eqb b 41)

abbrev pub behind : Group → List ℕ → List ℕ
behind g l = cond (is_whole g) l (drop 1 l)

-- one member more, and the formula of a whole group. (Only a list has a second member; only a list may be empty.)
abbrev pub join_of : Group → Join
join_of group.And = And
join_of group.Or = Or
join_of group.One = Or
join_of group.Not = Or
join_of group.Whole = Or

abbrev pub with_one : Group → Partly → Tree → Partly
with_one g none t = some t
with_one g (some s) t = some (Joined (join_of g) s t)

abbrev pub made_of : Group → Tree → Tree
made_of group.And t = t
made_of group.Or t = t
made_of group.One t = t
made_of group.Not t = Not t
made_of group.Whole t = t

abbrev pub group_tree : Group → Partly → Tree
group_tree g none = Empty (join_of g)
group_tree g (some t) = made_of g t

-- what may follow a member: white space, the `)`, or the end of the text
abbrev pub is_parted : List ℕ → Bool
is_parted [] = true
is_parted (b ∷ l) = eqb b 41 || is_space b

-- the members of a group, and its end; `inner` reads one, and n is at least the length of the text
unfoldable pub group_from : (List ℕ → Out Tree) → Group → ℕ → Partly → List ℕ → Out Tree
group_from inner g zero p l = Bad l
group_from inner g (suc n) p l =
    cond (ends_at g l) (cond (is_full g p) (Read (group_tree g p) (behind g l)) (Bad l))
    (cond (takes g p)
    (and_then (λ t r. cond (is_parted r) (group_from inner g n (with_one g p t) (skipped r)) (Bad r)) (inner l))
    (Bad l))

abbrev pub group_in : (List ℕ → Out Tree) → Group → List ℕ → Out Tree
group_in inner g l = group_from inner g (suc (length l)) none (skipped l)

-- a formula, where d parentheses may still be opened
abbrev pub begin_then : (Group → List ℕ → Out Tree) → Begin → List ℕ → Out Tree
begin_then k (Leaf n negated) r = Read (leaf_of n negated) r
begin_then k (Open g) r = k g r

unfoldable pub formula_in : ℕ → ℕ → List ℕ → Out Tree
formula_in v zero l = and_then (begin_then (λ g r. Bad r)) (begin_in v zero l)
formula_in v (suc d) l = and_then (begin_then (group_in (formula_in v d))) (begin_in v (suc d) l)

-- what stands behind a header
abbrev pub list_in : ℕ → ℕ → Group → List ℕ → Out Tree
list_in v d g l = group_in (formula_in v d) g l

abbrev pub whole_in : ℕ → List ℕ → Out Tree
whole_in v l = list_in v most_open group.Whole l
