-- R8, R22: the pass that puts nodes in, the pass that takes nodes out, and which of the two decides.
-- Assumes nothing: these are definitions.
use Rattle.std.specs.Prelude.{cond, Bool, ◌&&◌, ◌||◌, List, ℕ, zero, suc, ◌+◌, ◌-◌, ltb, leb, length, set, replicate}
use Rattle.laws.specs.Lists.{up_to}
use Rattle.formula.specs.declared.node.Node.{Node}
use Rattle.marks.specs.Sets.{may_rename}
use Rattle.clausal.specs.Clauses.{Renaming, renamed_below}
use Rattle.clausal.specs.Totals.{clause_ceiling, total_under}

-- how many nodes are in, and the set
pub record Choice : Type 0 where
  pub picks : ℕ
  pub chosen : List ℕ

-- R8.2, R22.3: the nodes below k are visited, the highest first
unfoldable pub visits_from : (ℕ → Choice → Choice) → ℕ → Choice → Choice
visits_from visit zero c = c
visits_from visit (suc k) c = visits_from visit k (visit k c)

-- node i is in too
abbrev pub taken : ℕ → Choice → Choice
taken i c = record { picks = c.picks + 1; chosen = set c.chosen i 1 }

-- R8.4: whether the total falls with it
abbrev pub falls : Renaming → List Node → ℕ → Choice → Bool
falls u ns i c = ltb (total_under u ns (taken i c).chosen) (total_under u ns c.chosen)

-- R8.2 to R8.4: whether node i goes in
abbrev pub goes_in : ℕ → Renaming → List Node → ℕ → Choice → Bool
goes_in allowance u ns i c = ltb c.picks allowance && (may_rename ns i && falls u ns i c)

abbrev pub visit : ℕ → Renaming → List Node → ℕ → Choice → Choice
visit allowance u ns i c = cond (goes_in allowance u ns i c) (taken i c) c

-- R8.2: at first no node is in
abbrev pub nothing : List Node → Choice
nothing ns = record { picks = 0; chosen = replicate (length ns) 0 }

abbrev pub first_pass : ℕ → Renaming → List Node → Choice
first_pass allowance u ns = visits_from (visit allowance u ns) (length ns) (nothing ns)

-- node i is in no more
abbrev pub dropped : ℕ → Choice → Choice
dropped i c = record { picks = c.picks - 1; chosen = set c.chosen i 0 }

-- R22.4: whether the total does not rise without it
abbrev pub no_higher : Renaming → List Node → ℕ → Choice → Bool
no_higher u ns i c = leb (total_under u ns (dropped i c).chosen) (total_under u ns c.chosen)

-- R22.3, R22.4: whether node i goes out
abbrev pub goes_out : Renaming → List Node → ℕ → Choice → Bool
goes_out u ns i c = may_rename ns i && no_higher u ns i c

abbrev pub revisit : Renaming → List Node → ℕ → Choice → Choice
revisit u ns i c = cond (goes_out u ns i c) (dropped i c) c

-- R22.2: at first every node that may be renamed is in
abbrev pub all_of : List Node → List ℕ
all_of ns = up_to (λ before i. cond (may_rename ns i) 1 0) (length ns)

abbrev pub everything : List Node → Choice
everything ns = record { picks = renamed_below (all_of ns) (length ns); chosen = all_of ns }

abbrev pub second_pass : Renaming → List Node → Choice
second_pass u ns = visits_from (revisit u ns) (length ns) (everything ns)

-- R22.1: whether the first pass decides: it ends below the ceiling, or fewer nodes are allowed than may be renamed
abbrev pub stands : ℕ → Renaming → List Node → Bool
stands allowance u ns =
    ltb (total_under u ns (first_pass allowance u ns).chosen) clause_ceiling || ltb allowance (everything ns).picks

-- R8, R22
abbrev pub choose : ℕ → Renaming → List Node → Choice
choose allowance u ns = cond (stands allowance u ns) (first_pass allowance u ns) (second_pass u ns)
