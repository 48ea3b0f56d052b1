-- What is told of the contents of a report.
use Rattle.std.specs.Prelude.{List, Option, Some, None}
use Rattle.pfs_model.specs.Contents.{Given}
use Rattle.pfs_model.specs.EntryPlaces.{Placed}
use Rattle.pfs_check_contents.specs.declared.changes.RowChange.{RowChange}
use Rattle.pfs_check_contents.specs.declared.shelf.Shelf.{Shelf}
use Rattle.pfs_check_contents.specs.KeptContents.{IsShelfOf}
use Rattle.pfs_check_contents.specs.OrderlyChanges.{AreOrderly}
use Rattle.pfs_check_contents.specs.PlacedChanges.{AreMadeOf}

-- the contents of whatever entries the changes are of; None where the changes aren't orderly
abbrev pub AreContentsTold : List RowChange → Option Shelf → Type 0
AreContentsTold changes None = AreOrderly changes → ⊥
AreContentsTold changes (Some shelf) =
    (given : Given) → (all : List Placed) → AreMadeOf given all changes → IsShelfOf given all shelf
