-- What a `held`, a `busy`, a `late` or a `vacant` line shows: that another had the row in hand, or put the greater
-- ticket, or that the row stood FREE.
use Rattle.std.specs.Prelude.{ℕ, ◌≡◌, ◌≢◌, ◌⊎◌, ◌+◌, ◌*◌, ◌-◌, ◌/◌, ◌%◌, ◌<◌, ◌≤◌, ◌==◌, true, not, List, [], ◌∷◌}
use Rattle.pfs_event.specs.declared.entry.Entry.{Entry}
use Rattle.pfs_event.specs.declared.entry.Entry.TheVariants as says
use Rattle.pfs_model.specs.declared.changes.Change.{Change}
use Rattle.pfs_model.specs.EntryPlaces.{Placed, chosen, up_to_phase}
use Rattle.pfs_model.specs.Chains.{times, change_at, row_change, release_of, each_of, is_of, opens_free}
use Rattle.pfs_model.specs.Actions.{IsAmong}
use Rattle.pfs_model.specs.Floors.{floor_of}

-- the entries of the other sessions
abbrev pub by_others : ℕ → List Placed → List Placed
by_others session places = chosen (λ place. not (place.session == session)) places

-- A lock word: the version above, and the state in the two low bits: 0 FREE, 1 DIRTY, 2 ALLOCATED.
-- It is one, at or above the floor, at a version that the row had by the phase's end.
pub record IsWord (all earlier : List Placed) (place : Placed) (row word : ℕ) : Type 0 where
  pub state : word % 4 < 3
  pub floor : floor_of all earlier place row ≤ word / 4
  pub had : word / 4 ≤ times (is_of row) (each_of row_change (up_to_phase place.phase all))

-- the two words are one DIRTY word, or differ: the second isn't below the first, and isn't ALLOCATED at the same
-- version
abbrev pub AreBusy : ℕ → ℕ → Type 0
AreBusy first second =
    ((first % 4 ≡ 1) × (second ≡ first))
    ⊎ ((second ≢ first) × (first / 4 ≤ second / 4) × (second / 4 ≡ first / 4 → second % 4 ≢ 2))

-- a release of the row at this version stands, whoever made it
abbrev pub IsReleased : List Placed → Placed → ℕ → ℕ → Type 0
IsReleased all place row version = IsAmong (change_at row version) (each_of release_of (up_to_phase place.phase all))

-- another session made this change of the row
abbrev pub IsOthers : List Placed → Placed → ℕ → ℕ → Type 0
IsOthers all place row version =
    IsAmong (change_at row version) (each_of row_change (by_others place.session (up_to_phase place.phase all)))

-- a DIRTY word was put back by another's change, or by a release
abbrev pub IsHeldByOther : List Placed → Placed → ℕ → ℕ → Type 0
IsHeldByOther all place row word = word % 4 ≡ 1 → IsOthers all place row (word / 4 + 1)
    ⊎ IsReleased all place row (word / 4)

-- the cause of a `held` or a `busy` line of this row with these words
pub record IsCaused (all earlier : List Placed) (place : Placed) (row first second : ℕ) : Type 0 where
  pub first_is : IsWord all earlier place row first
  pub second_is : IsWord all earlier place row second
  pub words : AreBusy first second
  pub between : (version : ℕ) → first / 4 < version → version ≤ second / 4 → IsOthers all place row version
  pub first_held : IsHeldByOther all place row first
  pub second_held : IsHeldByOther all place row second
  pub freed : second % 4 ≡ 0 → IsReleased all place row (second / 4)

-- the row of a ticket: the long history of a kind has 1,000 places, and ticket q belongs to place q modulo 1,000
abbrev pub long_row : ℕ → ℕ → ℕ
long_row kind ticket = 10242 + 1000 * kind + ticket % 1000

abbrev pub kind_of_row : ℕ → ℕ
kind_of_row row = (row - 10242) / 1000

-- another session's entry put this ticket there at or above this version
abbrev pub PutsTicket : ℕ → ℕ → ℕ → Entry → Type 0
PutsTicket row greater floor (says.Long at version ticket) = (at ≡ row) × (ticket ≡ greater) × (floor ≤ version)
PutsTicket row greater floor _ = ⊥

abbrev pub SomePuts : ℕ → ℕ → ℕ → List Placed → Type 0
SomePuts row greater floor [] = ⊥
SomePuts row greater floor (place ∷ places) =
    PutsTicket row greater floor place.entry ⊎ SomePuts row greater floor places

-- the cause of a `late` line
pub record IsLate (all earlier : List Placed) (place : Placed) (row ticket greater : ℕ) : Type 0 where
  pub above : ticket < greater
  pub own : row ≡ long_row (kind_of_row row) ticket
  pub same : row ≡ long_row (kind_of_row row) greater
  pub put : SomePuts row greater (floor_of all earlier place row)
      (by_others place.session (up_to_phase place.phase all))

-- a release of the row at or above this version
abbrev pub SomeReleased : ℕ → ℕ → List Change → Type 0
SomeReleased row floor [] = ⊥
SomeReleased row floor (release ∷ releases) = ((release.row ≡ row) × (floor ≤ release.version))
    ⊎ SomeReleased row floor releases

-- a `vacant` line: at a version at or above the floor the row stood FREE
abbrev pub WasFree : List Placed → List Placed → Placed → ℕ → Type 0
WasFree all earlier place row =
    ((opens_free row ≡ true) × (floor_of all earlier place row ≡ 0))
    ⊎ SomeReleased row (floor_of all earlier place row) (each_of release_of (up_to_phase place.phase all))

-- what each such line shows
abbrev pub ShowsCause : List Placed → List Placed → Placed → Entry → Type 0
ShowsCause all earlier place (says.Held row first second) = IsCaused all earlier place row first second
ShowsCause all earlier place (says.Busy row first second) = IsCaused all earlier place row first second
ShowsCause all earlier place (says.Late row ticket greater) = IsLate all earlier place row ticket greater
ShowsCause all earlier place (says.Vacant row) = WasFree all earlier place row
ShowsCause all earlier place entry = Unit {0}

abbrev pub AreCausedBehind : List Placed → List Placed → List Placed → Type 0
AreCausedBehind all earlier [] = Unit {0}
AreCausedBehind all earlier (place ∷ places) =
    ShowsCause all earlier place place.entry × AreCausedBehind all (place ∷ earlier) places

abbrev pub AreCaused : List Placed → Type 0
AreCaused all = AreCausedBehind all [] all
