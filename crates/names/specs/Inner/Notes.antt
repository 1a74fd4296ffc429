-- Where names begin, as it is noted: each 32nd name, and the last one that was found.
-- Assumes nothing: these are definitions.
use Rattle.std.specs.Prelude.{true, cond, List, [], ◌∷◌, ◌≡◌, ℕ, ◌+◌, ◌-◌, ◌*◌, ◌/◌, ◌<◌, ◌≤◌, leb, length, get_or, take, replicate}
use denote.Ref.{Bor}
use Rattle.laws.specs.Lists.{up_to}
use Rattle.laws.specs.Inner.Stores.{pad_to}
use Rattle.text.specs.Texts.{parted}
use Rattle.names.specs.Names.{newline, right_names, name_of}
use Rattle.names.specs.declared.list.Names.{Names}
use Rattle.names.specs.declared.lookup.Voices.{Voices}

-- how many bytes pieces take, each with its newline
unfoldable pub lengths : List (List ℕ) → ℕ
lengths [] = 0
lengths (p ∷ ps) = length p + 1 + lengths ps

-- where name j begins
abbrev pub place_of : List ℕ → ℕ → ℕ
place_of list j = lengths (take j (parted newline list))

-- nothing is noted but that the first name begins at 0
abbrev pub no_notes : Bor (List ℕ) → Names
no_notes list = record { list = list; begins = replicate 1_022 0; last = 0; at = 0 }

-- each 32nd name up to n; the last one found is the first, which begins at 0
abbrev pub notes_of : Names → ℕ → Names
notes_of x n = record {
  list = x.list;
  begins = pad_to 1_022 0 (up_to (λ before j. place_of x.list.now (32 * j)) (n / 32 + 1));
  last = 0;
  at = 0;
}

-- name j was found
abbrev pub found_in : Names → ℕ → Names
found_in x j = record x { last = j; at = place_of x.list.now j }

-- a right list of no more names than there are notes for, and nothing noted
pub record Notable (x : Names) (n : ℕ) : Type 0 where
  pub right : right_names n x.list.now ≡ true
  pub few : n ≤ 32_000
  pub none : x ≡ no_notes x.list

-- a right list with its notes
pub record Noted (x : Names) (n : ℕ) : Type 0 where
  pub right : right_names n x.list.now ≡ true
  pub few : n ≤ 32_000
  pub size : length x.begins ≡ 1_022
  pub blocks : (j : ℕ) → 32 * j ≤ n → get_or x.begins j 0 ≡ place_of x.list.now (32 * j)
  pub number : x.last ≤ n
  pub place : x.at ≡ place_of x.list.now x.last

-- a list with its notes, and the number of one of its names
pub record Within (x : Names) (j : ℕ) : Type 0 where
  pub count : ℕ
  pub noted : Noted x count
  pub below : j < count

-- both lists, of which nothing is noted
abbrev pub unnoted : ℕ → Bor (List ℕ) → Bor (List ℕ) → Voices
unnoted v options helpers = record { options = v; option_names = no_notes options; helper_names = no_notes helpers }

-- how many names a right list has
abbrev pub name_count : List ℕ → ℕ
name_count list = length (parted newline list) - 1

-- both lists with their notes
pub record Known (x : Voices) : Type 0 where
  pub options : Noted x.option_names x.options
  pub helpers : Noted x.helper_names (name_count x.helper_names.list.now)

-- the same, and a number that has a name in one of them
pub record Findable (x : Voices) (n : ℕ) : Type 0 where
  pub known : Known x
  pub some : 0 < n
  pub most : n ≤ x.options + name_count x.helper_names.list.now

-- number n was looked up, in one of both lists
abbrev pub looked_up : Voices → ℕ → Voices
looked_up x n = cond (leb n x.options) (record x { option_names = found_in x.option_names (n - 1) })
    (record x { helper_names = found_in x.helper_names (n - x.options - 1) })

-- the name that was looked up, and both lists with their notes afterwards
pub record Looked (x : Voices) (n : ℕ) (found : List ℕ) (after : Voices) : Type 0 where
  pub name : found ≡ name_of x.option_names.list.now x.helper_names.list.now x.options n
  pub notes : after ≡ looked_up x n
