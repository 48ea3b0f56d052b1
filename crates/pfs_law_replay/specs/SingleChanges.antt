-- Each change of a row stands once.
use Rattle.std.specs.Prelude.{◌≡◌, List, [], ◌∷◌}
use Rattle.pfs_model.specs.declared.changes.Change.{Change}
use Rattle.pfs_model.specs.Actions.{IsAmong}
use Rattle.pfs_model.specs.Chains.{AreChained, row_change}
use Rattle.pfs_model.specs.EntryPlaces.{Placed}

-- two entries with the same change are the same
abbrev pub StandOnce : List Placed → Type 0
StandOnce all = (change : Change) (one other : Placed) → IsAmong one all → IsAmong other all
    → row_change one.entry ≡ change ∷ [] → row_change other.entry ≡ change ∷ [] → one ≡ other

-- Where the versions of each row are chained, each change stands once.
abbrev pub OnceLaw : Type 0
OnceLaw = (all : List Placed) → AreChained row_change all → StandOnce all
