-- What the functions of the reader tell: places in a text, and the numbers of nodes.
-- Assumes nothing: these are definitions.
use Rattle.std.specs.Prelude.{◌≡◌, Bool, false, cond, List, ℕ, ◌+◌, ◌^◌, ◌≤◌, ◌<◌, length, drop, Result, Ok, Err}
use Rattle.satfile.specs.Trees.{Tree, size_of, records_from}
use Rattle.satfile.specs.Inner.Reads.{Out, Read, Bad, skipped, Begin, Leaf, Open, is_whole}
use Rattle.satfile.specs.Inner.Stores.{Adds}
use Rattle.satfile.specs.declared.lead.Group.{Group}
use Rattle.satfile.specs.declared.lead.Numeral.{Numeral}
use Rattle.satfile.specs.declared.lead.Wrong.{Wrong}
use Rattle.satfile.specs.declared.lead.Lead.{Lead}
use Rattle.satfile.specs.declared.lead.Reader.{Reader}
use Rattle.satfile.specs.declared.lead.Lead.TheVariants as lead
use Rattle.satfile.specs.declared.nested.Part.{Part}

-- what a reader has from a place on, and the places that it has
abbrev pub text_from : Reader → ℕ → List ℕ
text_from x at = drop at x.text.now

abbrev pub Inside : Reader → ℕ → Type 0
Inside x at = at ≤ length x.text.now

-- the place behind white space
pub record Skipped (x : Reader) (at r : ℕ) : Type 0 where
  pub rest : text_from x r ≡ skipped (text_from x at)
  pub onward : at ≤ r
  pub within : Inside x r

-- a text that is wrong from a place on
pub record WrongAt {A : Type 0} (x : Reader) (o : Out A) (place : ℕ) : Type 0 where
  pub out : o ≡ Bad (text_from x place)
  pub within : Inside x place

-- a text that was read up to a place
pub record ReadTo {A : Type 0} (x : Reader) (o : Out A) (a : A) (from at : ℕ) : Type 0 where
  pub out : o ≡ Read a (text_from x at)
  pub onward : from ≤ at
  pub within : Inside x at

-- what reading a number from a place on tells, by what it is read as: it has at least `least` bytes
abbrev pub TellsNumber : ℕ → Reader → ℕ → (List ℕ → Out ℕ) → Result Numeral Wrong → Type 0
TellsNumber least x from f (Ok n) = ReadTo x (f (text_from x from)) n.value (from + least) n.at
TellsNumber least x from f (Err w) = WrongAt x (f (text_from x from)) w.place

-- the nodes of a symbol, negated or not. It has as many bytes, but of a negated one the first is its `-`
abbrev pub leaf_nodes : Bool → ℕ
leaf_nodes negated = cond negated 2 1

abbrev pub leaf_bytes : Bool → Bool → ℕ
leaf_bytes minus negated = cond minus 1 (leaf_nodes negated)

-- what the beginning of a formula tells: a symbol has at least `least` bytes; a group is opened only where a parenthesis may be
pub record OpenTo (x : Reader) (o : Out Begin) (g : Group) (from at d : ℕ) : Type 0 where
  pub to : ReadTo x o (Open g) from at
  pub deep : 0 < d

abbrev pub TellsBegin : (Bool → ℕ) → Reader → ℕ → ℕ → (List ℕ → Out Begin) → Result Lead Wrong → Type 0
TellsBegin least x from d f (Ok (lead.Symbol value negated at)) = ReadTo x (f (text_from x from)) (Leaf value negated) (from + least negated) at
TellsBegin least x from d f (Ok (lead.Open g at)) = OpenTo x (f (text_from x from)) g from at d
TellsBegin least x from d f (Err w) = WrongAt x (f (text_from x from)) w.place

-- a formula was read: the place behind it, and the number of the next node. It has no more nodes than bytes
pub record DoneTo (x : Reader) (before : List ℕ) (from i : ℕ) (o : Out Tree) (at next : ℕ) (after : List ℕ) : Type 0 where
  pub tree : Tree
  pub to : ReadTo x o tree from at
  pub few : next + from ≤ i + at
  pub adds : Adds (records_from i tree) (size_of tree) before i next after

pub record WrongTo (x : Reader) (before : List ℕ) (o : Out Tree) (place : ℕ) (after : List ℕ) : Type 0 where
  pub at : WrongAt x o place
  pub same : length after ≡ length before

-- what reading a formula or a group tells
abbrev pub Tells : Reader → List ℕ → ℕ → ℕ → (List ℕ → Out Tree) → Result Part Wrong → List ℕ → Type 0
Tells x before from i f (Ok p) after = DoneTo x before from i (f (text_from x from)) p.at p.next after
Tells x before from i f (Err w) after = WrongTo x before (f (text_from x from)) w.place after

-- what reading a formula asks: a place in the text, and no more nodes than bytes so far
pub record Readable (x : Reader) (at next : ℕ) : Type 0 where
  pub within : Inside x at
  pub few : next ≤ at

-- what passing the end of a group asks: a `)` can be passed
pub record Passing (g : Group) (at : ℕ) : Type 0 where
  pub last : is_whole g ≡ false → at + 1 < 2 ^ 64
