-- How a chain of changes is tested, change by change.
use Rattle.std.specs.Prelude.{ℕ, ◌≡◌, ◌<◌, ◌≤◌, ◌==◌, nat_lt, nat_le, not, Bool, ◌&&◌, List, length, take, drop, slice_get, Option, Some, None, unwrap_or}
use Rattle.std.specs.BTreeMap.{BTreeMap, get}
use Rattle.std.specs.declared.cmp.Ordering.{Ordering}
use Rattle.std.specs.Ordering.{nat_cmp, ordering_then}
use Rattle.pfs_model.specs.declared.changes.Change.{Change}
use Rattle.pfs_model.specs.Actions.{IsAmong}
use Rattle.pfs_model.specs.Chains.{Each, is_that, times}
use Rattle.pfs_check_versions.specs.declared.changes.Made.{Made}
use Rattle.pfs_check_versions.specs.declared.changes.PlacedChange.{PlacedChange}
use Rattle.pfs_check_versions.specs.declared.links.Links.{Links}

-- the order of changes: by the row, and then by the version
abbrev pub change_cmp : Change → Change → Ordering
change_cmp one other = ordering_then (nat_cmp one.row other.row) (nat_cmp one.version other.version)

-- it is of this row, and up to this phase
abbrev pub is_in_row : ℕ → PlacedChange → Bool
is_in_row row one = one.change.row == row

abbrev pub is_up_to : ℕ → ℕ → PlacedChange → Bool
is_up_to row phase one = (one.change.row == row) && nat_le one.phase phase

abbrev pub is_same : Change → PlacedChange → Bool
is_same change one = is_that change one.change

-- A change has a version that it may have: from 1 to as many as there are of its row up to its phase, and none of those
-- before has it.
pub record IsLinkedIn (all before : List PlacedChange) (one : PlacedChange) : Type 0 where
  pub above : 0 < one.change.version
  pub had : one.change.version ≤ times (is_up_to one.change.row one.phase) all
  pub first : times (is_same one.change) before ≡ 0

-- so the change at this place
abbrev pub LinkedAt : List PlacedChange → ℕ → Type 0
LinkedAt all place = (one : PlacedChange) → slice_get all place ≡ Some one → IsLinkedIn all (take place all) one

abbrev pub link_test : ℕ → Bool → ℕ → Bool
link_test count made version = nat_lt 0 version && (nat_le version count && not made)

abbrev pub made_of : PlacedChange → Made
made_of one = record { line = one.line; phase = one.phase; session = one.session }

abbrev pub made_at : Made → Change → PlacedChange
made_at made change = record { line = made.line; phase = made.phase; session = made.session; change = change }

-- it is known where a change stands, or that it stands nowhere
abbrev pub IsKept : List PlacedChange → Change → Option Made → Type 0
IsKept changes change None = times (is_same change) changes ≡ 0
IsKept changes change (Some made) = IsAmong (made_at made change) changes

pub record AreKept (made : BTreeMap Change Made) (changes : List PlacedChange) : Type 0 where
  pub each : (change : Change) → IsKept changes change (get change_cmp made change)

-- so many are linked from the first on, and it is known where these stand
pub record AreLinked (changes : List PlacedChange) (links : Links) : Type 0 where
  pub within : links.place ≤ length changes
  pub linked : (place : ℕ) → place < links.place → LinkedAt changes place
  pub broken : links.place < length changes → LinkedAt changes links.place → ⊥
  pub kept : AreKept links.made (take links.place changes)

-- how often a key was counted
abbrev pub count_in : BTreeMap ℕ ℕ → ℕ → ℕ
count_in counts key = unwrap_or (get nat_cmp counts key) 0

-- the changes of each row are counted
pub record AreCounted (counts : BTreeMap ℕ ℕ) (changes : List PlacedChange) : Type 0 where
  pub each : (row : ℕ) → count_in counts row ≡ times (is_in_row row) changes

-- it stands in this phase or before, or behind it
abbrev pub IsBy : ℕ → PlacedChange → Type 0
IsBy phase one = one.phase ≤ phase

abbrev pub IsBehind : ℕ → PlacedChange → Type 0
IsBehind phase one = phase < one.phase

-- all that stand up to a phase are counted, and these are the first ones
pub record IsCountedTo (counts : BTreeMap ℕ ℕ) (changes : List PlacedChange) (phase next : ℕ) : Type 0 where
  pub within : next ≤ length changes
  pub counted : AreCounted counts (take next changes)
  pub low : Each (IsBy phase) (take next changes)
  pub high : Each (IsBehind phase) (drop next changes)
