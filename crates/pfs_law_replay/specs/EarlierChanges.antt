-- Which changes of a row stand below another: those of its session stand before it, and those of actions are by actions
-- of no greater number.
use Rattle.std.specs.Prelude.{◌≡◌, ◌<◌, ◌≤◌, List, [], ◌∷◌}
use Rattle.pfs_model.specs.declared.changes.Change.{Change}
use Rattle.pfs_model.specs.Actions.{Deed, IsAmong, NeverFall, deed_at, deeds_of}
use Rattle.pfs_model.specs.Chains.{row_change}
use Rattle.pfs_model.specs.EntryPlaces.{Placed}
use Rattle.pfs_model.specs.Floors.{NamingsKeep, namings_of}

-- A change stands above each earlier one of its session and its row.
abbrev pub RisesLaw : Type 0
RisesLaw = (all earlier : List Placed) (place other : Placed) (change before : Change)
    → NamingsKeep all earlier place (namings_of place.entry) → IsAmong other earlier → other.session ≡ place.session
    → row_change place.entry ≡ change ∷ [] → row_change other.entry ≡ before ∷ [] → before.row ≡ change.row
    → before.version < change.version

-- So what an action changes below another action's change of the same row is by an action of no greater number.
abbrev pub BelowLaw : Type 0
BelowLaw = (all : List Placed) (place other : Placed) (change before : Change) (of_place of_other : Deed)
    → NeverFall (deeds_of all) → IsAmong place all → IsAmong other all
    → row_change place.entry ≡ change ∷ [] → row_change other.entry ≡ before ∷ [] → before.row ≡ change.row
    → deed_at place.context.action place.entry ≡ of_place ∷ []
    → deed_at other.context.action other.entry ≡ of_other ∷ []
    → before.version < change.version → other.context.action ≤ place.context.action
