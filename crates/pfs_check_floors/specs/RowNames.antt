-- What is known of rows and of switch words, and how entries name rows.
use Rattle.std.specs.Prelude.{List, []}
use Rattle.pfs_model.specs.declared.changes.Change.{Change}
use Rattle.pfs_model.specs.Chains.{each_of, row_change, word_change}
use Rattle.pfs_model.specs.EntryPlaces.{Placed}
use Rattle.pfs_model.specs.Floors.{Changes, Frees, Naming, Sees, loads_in, naming, rows_known}
use Rattle.pfs_check_floors.specs.declared.rows.Names.{Names}
use Rattle.pfs_check_floors.specs.declared.rows.Names.TheVariants as names
use Rattle.pfs_check_floors.specs.declared.rows.RowFloors.{RowFloors}
use Rattle.pfs_check_floors.specs.declared.sights.Sights.{Sights}
use Rattle.pfs_check_floors.specs.KnownFloors.{AreFloorsOf}
use Rattle.pfs_check_floors.specs.ReleasedRows.{AreReleasesOf}

abbrev pub naming_list : Names → List Naming
naming_list (names.Changed row version) = naming Changes row version
naming_list (names.Seen row version) = naming Sees row version
naming_list (names.Freed row version) = naming Frees row version
naming_list names.Nothing = []

-- what entries show of rows
abbrev pub rows_shown : List Placed → List Change
rows_shown places = each_of rows_known places

-- of all entries, and of those so far, the last first
pub record AreRowsOf (all earlier : List Placed) (rows : RowFloors) : Type 0 where
  pub floors : AreFloorsOf row_change rows_shown all earlier rows.floors
  pub releases : AreReleasesOf all rows.releases

pub record AreSightsOf (all earlier : List Placed) (sights : Sights) : Type 0 where
  pub rows : AreRowsOf all earlier sights.rows
  pub words : AreFloorsOf word_change loads_in all earlier sights.words
