-- Deeds that fall: by an action of a lower number than what stands right before them in their row.
use Rattle.std.specs.Prelude.{ℕ, ◌≡◌, ◌<◌, ◌≤◌, List, map, Option, Some, None}
use Rattle.pfs_model.specs.Actions.{Deed, IsAmong, NeverFall}
use Rattle.pfs_check_faults.specs.ActionFaults.{IsPredecessor}
use Rattle.pfs_check_falls.specs.declared.falls.PlacedDeed.{PlacedDeed}

abbrev pub deed_of : PlacedDeed → Deed
deed_of one = record { action = one.action; row = one.row; version = one.version; releases = one.releases }

abbrev pub deeds_in : List PlacedDeed → List Deed
deeds_in deeds = map deed_of deeds

-- no immediate predecessor of a deed is by an action of a greater number
abbrev pub KeepsOrder : List Deed → Deed → Type 0
KeepsOrder deeds next = (first : Deed) → IsPredecessor deeds first next → first.action ≤ next.action

-- A deed at this place falls, and none at a lower place does.
pub record IsFirstFall (deeds : List PlacedDeed) (place : ℕ) : Type 0 where
  pub one : PlacedDeed
  pub there : IsAmong one deeds
  pub place_is : one.place ≡ place
  pub falls : KeepsOrder (deeds_in deeds) (deed_of one) → ⊥
  pub first : (other : PlacedDeed) → IsAmong other deeds → other.place < place
      → KeepsOrder (deeds_in deeds) (deed_of other)

abbrev pub IsFallFound : List PlacedDeed → Option ℕ → Type 0
IsFallFound deeds None = NeverFall (deeds_in deeds)
IsFallFound deeds (Some place) = IsFirstFall deeds place

-- Where none falls behind its predecessor, the actions never fall along a row, and the other way.
pub record FallLaw : Type 0 where
  pub kept : (deeds : List Deed) (next : Deed) → IsAmong next deeds → NeverFall deeds → KeepsOrder deeds next
  pub never : (deeds : List Deed) → ((next : Deed) → IsAmong next deeds → KeepsOrder deeds next) → NeverFall deeds
