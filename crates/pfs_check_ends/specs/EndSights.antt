-- What is known of the rows and the switch words of a report.
use Rattle.std.specs.Prelude.{◌<◌, ◌^◌, List, [], length}
use Rattle.pfs_check_floors.specs.RowNames.{AreSightsOf}
use Rattle.pfs_check_floors.specs.declared.sights.Sights.{Sights}
use Rattle.pfs_check_visits.specs.declared.visited.Visited.{Visited}
use Rattle.pfs_check_visits.specs.declared.visited.Visited.TheVariants.{Kept, Lacking}
use Rattle.pfs_model.specs.EntryPlaces.{Placed}

-- so few entries were visited that four times their number fits in 64 bits
abbrev pub IsFew : Visited → Type 0
IsFew (Kept count) = count < 2 ^ 62
IsFew (Lacking at) = Unit {0}

-- it is known of all entries, which are so few
pub record AreFewSights (all : List Placed) (sights : Sights) : Type 0 where
  pub sights_are : AreSightsOf all [] sights
  pub few : length all < 2 ^ 62
