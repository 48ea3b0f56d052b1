-- The rows of the two tables that the administration holds.
use Rattle.std.specs.Prelude.{List, [], ◌∷◌, All, map}
use Rattle.pfs_matching.specs.ObjectRules.{kind_name}
use Rattle.pfs_matching.specs.declared.actor_rows.ActorRow.{ActorRow}
use Rattle.pfs_matching.specs.declared.object_rows.ObjectRow.{ObjectRow}
use Rattle.pfs_rows.specs.declared.table.Table.{Table}
use Rattle.pfs_rows.specs.declared.table.Table.TheVariants.{SetupActors, SetupObjects}
use Rattle.pfs_tables.specs.Fits.{IsRowOf}
use Rattle.pfs_tables.specs.PlaceTables.{flag_value}
use Rattle.pfs_text.specs.declared.values.RowValue.{RowValue}
use Rattle.pfs_text.specs.declared.values.RowValue.TheVariants.{Text}

abbrev pub IsHeld : Table → Type 0
IsHeld SetupActors = Unit {0}
IsHeld SetupObjects = Unit {0}
IsHeld _ = ⊥

-- HOST, USER, ROLE, ENABLED and HISTORY
abbrev pub actor_values : ActorRow → List RowValue
actor_values actor = Text actor.host ∷ Text actor.user ∷ Text actor.role ∷ flag_value actor.enabled
    ∷ flag_value actor.history ∷ []

-- OBJECT_TYPE, OBJECT_SCHEMA, OBJECT_NAME, ENABLED and TIMED
abbrev pub object_values : ObjectRow → List RowValue
object_values object = Text (kind_name object.kind) ∷ Text object.schema ∷ Text object.name
    ∷ flag_value object.enabled ∷ flag_value object.timed ∷ []

-- in the order of their keys, in which the administration keeps them
abbrev pub held_rows : Table → List ActorRow → List ObjectRow → List (List RowValue)
held_rows SetupActors actors objects = map actor_values actors
held_rows SetupObjects actors objects = map object_values objects
held_rows _ actors objects = []

abbrev pub FitsLaw : Type 0
FitsLaw = (table : Table) (actors : List ActorRow) (objects : List ObjectRow)
    → All (IsRowOf table) (held_rows table actors objects)
