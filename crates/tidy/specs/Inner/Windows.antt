-- Windows of clauses: places, signatures and slots, and the numbers of the first clauses that have the same literals.
-- Assumes nothing: these are definitions.
use Rattle.std.specs.Prelude.{Bool, true, cond, ◌&&◌, List, [], ◌≡◌, ℕ, zero, suc, ◌+◌, ◌*◌, ◌%◌, ◌^◌, ◌<◌, ◌≤◌, eqb, length, get_or, replicate, Option, Some, None}
use Rattle.clausebytes.specs.Words.{words_of, clauses_of, closed_from, most_clauses}
use Rattle.bits.specs.Inner.Rows.{has_bit}
use Rattle.tidied.specs.Tidying.{same_literals}
use Rattle.tidied.specs.Inner.Firsts.{first_below}
use Rattle.sets.specs.Inner.Sets.{clause_from, end_from, sign_of, seeds, Numbered}
use Rattle.tidy.specs.declared.window.Spot.{Spot}
use Rattle.tidy.specs.declared.window.Firsts as declared

-- the place of the clause that is n clauses behind the one at place p, and of clause n
unfoldable pub place_after : List ℕ → ℕ → ℕ → ℕ
place_after bytes p zero = p
place_after bytes p (suc n) = end_from bytes (place_after bytes p n) + 1

abbrev pub place_of : List ℕ → ℕ → ℕ
place_of bytes n = place_after bytes 0 n

-- the most clauses of a window, the bytes of its slots, and the number of no clause
abbrev pub most : ℕ
most = 1_024

abbrev pub slot_bytes : ℕ
slot_bytes = 8_192

abbrev pub none : ℕ
none = 65_535

-- the slot of a signature
abbrev pub slot_of : ℕ → ℕ
slot_of sign = sign % 65_536

-- signatures are those of the clauses at the places
pub record Signed (bytes : List ℕ) (seed count : ℕ) (places signs : List ℕ) : Type 0 where
  pub few : count ≤ most
  pub seed_few : seed < seeds
  pub places_size : length places ≡ most
  pub signs_size : length signs ≡ most
  pub signs_are : (i : ℕ) → i < count → get_or signs i 0 ≡ sign_of seed (clause_from bytes (get_or places i 0))

-- a row of slots has those of the clauses for which a test holds
pub record Slotted (count : ℕ) (wanted : ℕ → Type 0) (signs slots : List ℕ) : Type 0 where
  pub small : (i : ℕ) → get_or slots i 0 < 256
  pub size : length slots ≡ slot_bytes
  pub there : (i : ℕ) → i < count → wanted i → has_bit slots (slot_of (get_or signs i 0)) ≡ true

-- clause i of a window has no number yet
abbrev pub Open : List ℕ → ℕ → Type 0
Open firsts i = get_or firsts i 0 ≡ none

-- what is given when a window is noted, and what is noted
pub record Notable (bytes : List ℕ) (place count seed : ℕ) (places signs slots : List ℕ) : Type 0 where
  pub numbered : Numbered bytes
  pub long : length bytes < 2 ^ 32
  pub start : place < 2 ^ 33
  pub few : count ≤ most
  pub seed_few : seed < seeds
  pub places_size : length places ≡ most
  pub signs_size : length signs ≡ most
  pub slots_empty : slots ≡ replicate slot_bytes 0

pub record Noted (bytes : List ℕ) (place count seed : ℕ) (places signs slots : List ℕ) : Type 0 where
  pub places_are : (i : ℕ) → i < count → get_or places i 0 ≡ place_after bytes place i
  pub signed : Signed bytes seed count places signs
  pub slotted : Slotted count (λ i. Unit {0}) signs slots

-- a clause of a window and the clause that is looked for, with their signatures
pub record Comparable (bytes : List ℕ) (place sign : ℕ) (spot : Spot) : Type 0 where
  pub numbered : Numbered bytes
  pub seed : ℕ
  pub sign_is : sign ≡ sign_of seed (clause_from bytes place)
  pub spot_is : spot.sign ≡ sign_of seed (clause_from bytes spot.place)

-- the number of clause i of a window, after a clause was looked for
abbrev pub first_after : ℕ → Bool → ℕ → ℕ
first_after first same number = cond (eqb first none && same) number first

-- what is given when a clause is looked for, and what is noted
pub record Scannable (bytes : List ℕ) (spot : Spot) (count : ℕ) (places signs firsts slots : List ℕ) : Type 0 where
  pub numbered : Numbered bytes
  pub seed : ℕ
  pub signed : Signed bytes seed count places signs
  pub sign_is : spot.sign ≡ sign_of seed (clause_from bytes spot.place)
  pub firsts_size : length firsts ≡ most
  pub slotted : Slotted count (Open firsts) signs slots

pub record Scanned (bytes : List ℕ) (spot : Spot) (count : ℕ) (places signs before firsts slots : List ℕ) : Type 0 where
  pub firsts_size : length firsts ≡ most
  pub firsts_are : (i : ℕ) → i < count → get_or firsts i 0
      ≡ first_after (get_or before i 0) (same_literals (clause_from bytes (get_or places i 0)) (clause_from bytes spot.place)) spot.number
  pub slotted : Slotted count (Open firsts) signs slots

-- what is given when the clauses of a window are looked for, and what is found; it is given up only under a limit
pub record Searchable (bytes : List ℕ) (start place count seed : ℕ) : Type 0 where
  pub numbered : Numbered bytes
  pub long : length bytes < 2 ^ 32
  pub closed : closed_from true (words_of bytes) ≡ true
  pub within : start + count ≤ length (clauses_of bytes)
  pub clauses : length (clauses_of bytes) ≤ most_clauses
  pub few : count ≤ most
  pub seed_few : seed < seeds
  pub place_is : place ≡ place_of bytes start

-- the first clause that has the same literals as clause n
abbrev pub first_of : List ℕ → ℕ → ℕ
first_of bytes n = first_below (clauses_of bytes) (get_or (clauses_of bytes) n []) n

abbrev pub Firsts : List ℕ → ℕ → ℕ → List ℕ → Type 0
Firsts bytes start count firsts = (i : ℕ) → i < count → get_or firsts i 0 ≡ first_of bytes (start + i)

abbrev pub Searched : List ℕ → ℕ → ℕ → ℕ → Option (List ℕ) → Type 0
Searched bytes start count limit None = limit < most * none
Searched bytes start count limit (Some firsts) = Firsts bytes start count firsts

pub record FirstsFound (bytes : List ℕ) (start count : ℕ) (found : declared.Firsts) : Type 0 where
  pub seed_few : found.seed < seeds
  pub firsts_are : Firsts bytes start count found.firsts
