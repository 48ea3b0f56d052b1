-- How the switch words and the administration are at first.
use Rattle.std.specs.Prelude.{ℕ, ◌-◌, ◌==◌, nat_lt, if◌then◌else◌, List, [], ◌∷◌, ◌++◌, map, filter, length, Option, Some, None, slice_get}
use Rattle.std.specs.List.{range_with_len}
use Rattle.pfs_classes.specs.declared.classes.Class.{Class}
use Rattle.pfs_classes.specs.declared.setting.Setting.{Setting}
use Rattle.pfs_classes.specs.declared.setting.TableName.{TableName}
use Rattle.pfs_classes.specs.Registry.{Registry, class_at}
use Rattle.pfs_containers.specs.ContainerState.{opening}
use Rattle.pfs_matching.specs.declared.object_rows.ObjectRow.{ObjectRow}
use Rattle.pfs_matching.specs.ActorRules.{opening_actors}
use Rattle.pfs_matching.specs.ObjectRules.{table_flags as decided_flags, opening_objects}
use Rattle.pfs_levels.specs.PlainStore.{word}
use Rattle.pfs_readsets.specs.TablePlaces.{is_kind_cell}
use Rattle.pfs_rows.specs.declared.table.TableKind.{TableKind}
use Rattle.pfs_rows.specs.declared.table.TableKind.TheVariants.{Waits, Stages, Statements, Transactions}
use Rattle.pfs_setups.specs.SetupRows.{naming_of}
use Rattle.pfs_admin.specs.AdministrationStates.{State, KindCells, flags_of}

-- of a class that is registered, ENABLED and TIMED
abbrev pub class_flags : Option Class → ℕ
class_flags None = 0
class_flags (Some class) = flags_of (class.enabled, class.timed)

-- of a table that is there, what the objects decide
abbrev pub table_flags : List ObjectRow → Option TableName → ℕ
table_flags objects None = 0
table_flags objects (Some table) = flags_of (decided_flags objects table.schema table.name)

-- the consumers; then 32 threads, each off; then the classes by id; then the tables by number
abbrev pub word_flags : Setting → List ObjectRow → ℕ → ℕ
word_flags setting objects at =
    if at == 0 then setting.consumers
    else if nat_lt at 33 then 0
    else if nat_lt at 96 then class_flags (class_at setting.classes (at - 33))
    else table_flags objects (slice_get setting.tables (at - 96))

unfoldable pub opening_flags : Setting → List ObjectRow → List ℕ
opening_flags setting objects = map (word_flags setting objects) (range_with_len 0 160)

-- the cells of the registered classes, ascending: one for each, and two for `transaction`
abbrev pub cells_of : Registry → List ℕ
cells_of r = range_with_len 0 (length r.classes) ++ 62 ∷ 63 ∷ []

-- those of the classes of a kind
unfoldable pub cells_of_kind : Registry → TableKind → List ℕ
cells_of_kind r kind = filter (is_kind_cell r.classes kind) (range_with_len 0 64)

-- and of each kind, with the number of the setting's digest texts
unfoldable pub kinds_of : Setting → KindCells
kinds_of setting = record {
  waits = cells_of_kind setting.classes Waits;
  stages = cells_of_kind setting.classes Stages;
  statements = cells_of_kind setting.classes Statements;
  transactions = cells_of_kind setting.classes Transactions;
  digests = length setting.digests;
}

abbrev pub opened : Setting → State
opened setting = record {
  kept = opening setting.limits;
  words = map (word 0) (opening_flags setting opening_objects);
  actors = opening_actors;
  objects = opening_objects;
  names = setting.names;
  classes = (naming_of setting).classes;
  tables = setting.tables;
  cells = cells_of setting.classes;
  kinds = kinds_of setting;
  actions = 0;
}
