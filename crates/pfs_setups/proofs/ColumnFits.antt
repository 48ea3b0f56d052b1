-- The rows of the two tables fit their columns.
use Rattle.std.proofs.Common.{◌≡◌, Bool, true, false, List, [], ◌∷◌, map, refl}
use Rattle.std.specs.Prelude.{All}
use Rattle.std.proofs.lemmas.List.Elements.{All-nil, All-cons}
use Rattle.pfs_catalogue.specs.declared.columns.ColumnKind.TheVariants as columns
use Rattle.pfs_matching.specs.declared.actor_rows.ActorRow.{ActorRow}
use Rattle.pfs_matching.specs.declared.object_rows.ObjectRow.{ObjectRow}
use Rattle.pfs_rows.specs.declared.table.Table.{Table}
use Rattle.pfs_rows.specs.declared.table.Table.TheVariants.{SetupActors, SetupObjects}
use Rattle.pfs_tables.specs.Fits.{fits, IsRowOf}
use Rattle.pfs_tables.specs.PlaceTables.{flag_value}
use Rattle.pfs_setups.specs.HeldRows.{actor_values, object_values, held_rows, FitsLaw}

flag_fits : (flag : Bool) → fits (flag_value flag) columns.Text ≡ true
flag_fits true = refl
flag_fits false = refl

actor_fits : (row : ActorRow) → IsRowOf SetupActors (actor_values row)
actor_fits row = (refl, (refl, (refl, (flag_fits row.enabled, (flag_fits row.history, tt)))))

object_fits : (row : ObjectRow) → IsRowOf SetupObjects (object_values row)
object_fits row = (refl, (refl, (refl, (flag_fits row.enabled, (flag_fits row.timed, tt)))))

actors_fit : (rows : List ActorRow) → All (IsRowOf SetupActors) (map actor_values rows)
actors_fit [] = All-nil (IsRowOf SetupActors)
actors_fit (row ∷ rows) = All-cons (IsRowOf SetupActors) (actor_values row) (map actor_values rows) (actor_fits row) (actors_fit rows)

objects_fit : (rows : List ObjectRow) → All (IsRowOf SetupObjects) (map object_values rows)
objects_fit [] = All-nil (IsRowOf SetupObjects)
objects_fit (row ∷ rows) = All-cons (IsRowOf SetupObjects) (object_values row) (map object_values rows) (object_fits row) (objects_fit rows)

pub all_fit : FitsLaw
all_fit SetupActors actors objects = actors_fit actors
all_fit SetupObjects actors objects = objects_fit objects
all_fit table actors objects = All-nil (IsRowOf table)
