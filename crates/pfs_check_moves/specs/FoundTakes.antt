-- What the takes of an action find, by the contents that are kept.
use Rattle.std.specs.Prelude.{ℕ, ◌≡◌, ◌-◌, ◌==◌, Bool, false, cond, List, [], ◌∷◌, Option, Some, None, unwrap_or}
use Rattle.std.specs.BTreeMap.{BTreeMap, get}
use Rattle.std.specs.Ordering.{nat_cmp}
use Rattle.pfs_event.specs.declared.entry.Entry.{Entry}
use Rattle.pfs_event.specs.declared.entry.Entry.TheVariants as says
use Rattle.pfs_check_contents.specs.declared.shelf.Shelf.{Shelf}
use Rattle.pfs_law_made.specs.MadeContents.{counts_at}

-- what an entry finds in a row, if it takes it
abbrev pub found_at : Shelf → Entry → ℕ → Option Bool
found_at shelf (says.Take at version) row = cond (at == row) (Some (counts_at shelf at (version - 1))) None
found_at shelf _ row = None

abbrev pub first_of : Option Bool → Option Bool → Option Bool
first_of None other = other
first_of (Some found) other = Some found

-- and what the first one does that takes it
abbrev pub found_in : Shelf → List Entry → ℕ → Option Bool
found_in shelf [] row = None
found_in shelf (entry ∷ entries) row = first_of (found_at shelf entry row) (found_in shelf entries row)

-- whether it found something; a row that isn't taken counts as one in which nothing is found
abbrev pub counted_by : Shelf → List Entry → ℕ → Bool
counted_by shelf entries row = unwrap_or (found_in shelf entries row) false

abbrev pub counted_in : BTreeMap ℕ Bool → ℕ → Bool
counted_in found row = unwrap_or (get nat_cmp found row) false

-- a take finds what is said of its row
abbrev pub FindsAs : Shelf → (ℕ → Bool) → Entry → Type 0
FindsAs shelf counted (says.Take row version) = counted row ≡ counts_at shelf row (version - 1)
FindsAs shelf counted entry = Unit {0}
