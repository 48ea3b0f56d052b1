-- A store of which every row is found with something counted in it, and which has what was put last in each.
use Rattle.std.specs.Prelude.{ℕ, ◌≡◌, ◌==◌, false, Bool, if◌then◌else◌, List, [], ◌∷◌, Option, Some, None, slice_get}
use Rattle.std.specs.List.{slice_index_or}
use Rattle.pfs_levels.specs.Calls.{Call, Adds, Rings, Reads, Loads, Draws, Takes, Puts, Frees, Sets, Enters, Leaves, Meets}
use Rattle.pfs_stat.specs.Stat.{stat_of_words}

-- each take found something counted
abbrev pub AllFound : List Call → Type 0
AllFound [] = Unit {0}
AllFound (Takes row version found ∷ calls) = ((stat_of_words found).count ≡ 1) × AllFound calls
AllFound (Adds row amount answer ∷ calls) = AllFound calls
AllFound (Rings row content answer ∷ calls) = AllFound calls
AllFound (Reads row seen ∷ calls) = AllFound calls
AllFound (Loads at version flags ∷ calls) = AllFound calls
AllFound (Draws kind ticket ∷ calls) = AllFound calls
AllFound (Meets versions ∷ calls) = AllFound calls
AllFound (Puts row content version ∷ calls) = AllFound calls
AllFound (Frees row version ∷ calls) = AllFound calls
AllFound (Sets at flags version ∷ calls) = AllFound calls
AllFound (Enters label labels ∷ calls) = AllFound calls
AllFound (Leaves ∷ calls) = AllFound calls

-- what was put in a row last; calls stand newest first
abbrev pub last_put : List Call → ℕ → Option (List ℕ)
last_put [] row = None
last_put (Puts at content version ∷ calls) row = if at == row then Some content else last_put calls row
last_put (Takes at version found ∷ calls) row = last_put calls row
last_put (Adds at amount answer ∷ calls) row = last_put calls row
last_put (Rings at content answer ∷ calls) row = last_put calls row
last_put (Reads at seen ∷ calls) row = last_put calls row
last_put (Loads at version flags ∷ calls) row = last_put calls row
last_put (Draws kind ticket ∷ calls) row = last_put calls row
last_put (Meets versions ∷ calls) row = last_put calls row
last_put (Frees at version ∷ calls) row = last_put calls row
last_put (Sets at flags version ∷ calls) row = last_put calls row
last_put (Enters label labels ∷ calls) row = last_put calls row
last_put (Leaves ∷ calls) row = last_put calls row

-- each row in which something was put has what was put there last
abbrev pub ArePut : List (List ℕ) → List Call → Type 0
ArePut contents calls = (row : ℕ) (words : List ℕ) → last_put calls row ≡ Some words → slice_get contents row ≡ Some words

-- such calls led to a store that has these contents
pub record AreCalls (contents : List (List ℕ)) (calls : List Call) : Type 0 where
  pub found : AllFound calls
  pub are_put : ArePut contents calls

-- a row in hand was taken at version 0
abbrev pub hand_at : List Bool → ℕ → Option ℕ
hand_at taken row = if slice_index_or taken row false then Some 0 else None
