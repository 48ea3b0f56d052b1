-- What a line may name by what its session must have seen: the floors, and what was released below.
use Rattle.std.specs.Prelude.{ℕ, ◌≡◌, ◌/◌, ◌<◌, ◌≤◌, ◌==◌, nat_lt, nat_le, max, true, ◌&&◌, cond, List, [], ◌∷◌, ◌++◌}
use Rattle.pfs_event.specs.declared.entry.Entry.{Entry}
use Rattle.pfs_event.specs.declared.entry.Entry.TheVariants as says
use Rattle.pfs_model.specs.declared.changes.Change.{Change}
use Rattle.pfs_model.specs.EntryPlaces.{Placed, chosen, by_session, before_phase, up_to_phase}
use Rattle.pfs_model.specs.Chains.{Each, times, change_at, row_change, word_change, release_of, each_of, is_of, is_free_after}
use Rattle.pfs_model.specs.SetupFlags.{loads_of}

-- how an entry names a row at a version
pub data How : Type 0 where
  Changes : How
  Sees : How
  Frees : How

pub record Naming : Type 0 where
  pub how : How
  pub row : ℕ
  pub version : ℕ

abbrev pub naming : How → ℕ → ℕ → List Naming
naming how row version = record { how = how; row = row; version = version } ∷ []

abbrev pub namings_of : Entry → List Naming
namings_of (says.Add row version) = naming Changes row version
namings_of (says.Ring row version) = naming Changes row version
namings_of (says.Long row version ticket) = naming Changes row version
namings_of (says.Take row version) = naming Changes row version
namings_of (says.Give row version from) = naming Changes row version
namings_of (says.Tag row version) = naming Changes row version
namings_of (says.Seen row version) = naming Sees row version
namings_of (says.Free row version) = naming Frees row version
namings_of _ = []

-- the versions of rows that an entry shows its session to have seen: those that it names, and those of the words on a
-- `held` or `busy` line
abbrev pub rows_known : Entry → List Change
rows_known (says.Held row first second) = change_at row (first / 4) ∷ change_at row (second / 4) ∷ []
rows_known (says.Busy row first second) = change_at row (first / 4) ∷ change_at row (second / 4) ∷ []
rows_known (says.Seen row version) = change_at row version ∷ []
rows_known (says.Free row version) = change_at row version ∷ []
rows_known entry = row_change entry

-- the entries of actions numbered from 1 up to this one
abbrev pub by_actions : ℕ → List Placed → List Placed
by_actions number places = chosen (λ place. nat_lt 0 place.context.action && nat_le place.context.action number) places

-- the greatest version of a row among these; 0 without one
abbrev pub greatest : ℕ → List Change → ℕ
greatest row [] = 0
greatest row (change ∷ changes) = max (cond (change.row == row) change.version 0) (greatest row changes)

abbrev pub loads_in : List Placed → List Change
loads_in [] = []
loads_in (place ∷ places) = (loads_of place ++ word_change place.entry) ++ loads_in places

-- The floor of a row at a line: the greatest of its version at the phase's start, the versions that its session's
-- earlier lines show, and those that actions gave it up to the session's last one that has ended. `earlier` are the
-- entries before the line.
abbrev pub floor_of : List Placed → List Placed → Placed → ℕ → ℕ
floor_of all earlier place row =
    max (max (times (is_of row) (each_of row_change (before_phase place.phase all)))
    (greatest row (each_of rows_known (by_session place.session earlier))))
    (greatest row (each_of row_change (by_actions place.context.done all)))

-- and that of a switch word, where the session's own sets count among its lines
abbrev pub word_floor_of : List Placed → List Placed → Placed → ℕ → ℕ
word_floor_of all earlier place word =
    max (max (times (is_of word) (each_of word_change (before_phase place.phase all)))
    (greatest word (loads_in (by_session place.session earlier))))
    (greatest word (each_of word_change (by_actions place.context.done all)))

abbrev pub AllBelow : ℕ → ℕ → List Change → Type 0
AllBelow row version changes = Each (λ change. change.row ≡ row → change.version < version) changes

-- no release by an action up to the session's last one that has ended is at the version or above, nor did the row
-- stand FREE there as the phase began
pub record IsAboveReleases (all : List Placed) (place : Placed) (row version : ℕ) : Type 0 where
  pub released : AllBelow row version (each_of release_of (by_actions place.context.done all))
  pub stood : is_free_after (before_phase place.phase all) row ≡ true
      → times (is_of row) (each_of row_change (before_phase place.phase all)) < version

-- what the way of naming asks
abbrev pub KeepsAbove : List Placed → List Placed → Placed → How → ℕ → ℕ → Type 0
KeepsAbove all earlier place Changes row version =
    (floor_of all earlier place row < version) × IsAboveReleases all place row version
KeepsAbove all earlier place Sees row version =
    (floor_of all earlier place row ≤ version) × IsAboveReleases all place row version
KeepsAbove all earlier place Frees row version = floor_of all earlier place row ≤ version

-- each row at a version that it keeps above, and that the row had by the phase's end
abbrev pub NamingsKeep : List Placed → List Placed → Placed → List Naming → Type 0
NamingsKeep all earlier place [] = Unit {0}
NamingsKeep all earlier place (one ∷ others) =
    KeepsAbove all earlier place one.how one.row one.version
    × (one.version ≤ times (is_of one.row) (each_of row_change (up_to_phase place.phase all)))
    × NamingsKeep all earlier place others

-- and each switch word
abbrev pub LoadsKeep : List Placed → List Placed → Placed → List Change → Type 0
LoadsKeep all earlier place [] = Unit {0}
LoadsKeep all earlier place (load ∷ loads) =
    (word_floor_of all earlier place load.row ≤ load.version)
    × (load.version ≤ times (is_of load.row) (each_of word_change (up_to_phase place.phase all)))
    × LoadsKeep all earlier place loads

-- of all lines from here on, those before them in a list with the last first
abbrev pub AreFlooredBehind : List Placed → List Placed → List Placed → Type 0
AreFlooredBehind all earlier [] = Unit {0}
AreFlooredBehind all earlier (place ∷ places) =
    NamingsKeep all earlier place (namings_of place.entry)
    × LoadsKeep all earlier place (loads_of place ++ word_change place.entry)
    × AreFlooredBehind all (place ∷ earlier) places

abbrev pub AreFloored : List Placed → Type 0
AreFloored all = AreFlooredBehind all [] all

-- there are 14,242 rows and 160 switch words; a reading, a release and a load name one of them
abbrev pub IsThere : Entry → Type 0
IsThere (says.Seen row version) = row < 14242
IsThere (says.Free row version) = row < 14242
IsThere (says.Saw word version) = word < 160
IsThere entry = Unit {0}

abbrev pub AreThere : List Placed → Type 0
AreThere [] = Unit {0}
AreThere (place ∷ places) = IsThere place.entry × AreThere places
