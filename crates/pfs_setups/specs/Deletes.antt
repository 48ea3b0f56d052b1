-- What a DELETE changes: the rows that are met go, and every table of the setting is decided by the others.
use Rattle.std.specs.Prelude.{ℕ, not, List, filter}
use Rattle.pfs_text.specs.declared.conditions.Test.{Test}
use Rattle.pfs_rows.specs.declared.table.Table.{Table}
use Rattle.pfs_rows.specs.declared.table.Table.TheVariants as tables
use Rattle.pfs_matching.specs.declared.actor_rows.ActorRow.{ActorRow}
use Rattle.pfs_matching.specs.declared.object_rows.ObjectRow.{ObjectRow}
use Rattle.pfs_setups.specs.SetupRows.{Naming, actor_meets, object_meets}
use Rattle.pfs_setups.specs.Updates.{redecided}

abbrev pub actors_left : Table → List Test → List ActorRow → List ActorRow
actors_left tables.SetupActors tests actors = filter (λ row. not (actor_meets tests row)) actors
actors_left _ tests actors = actors

abbrev pub objects_left : Table → List Test → List ObjectRow → List ObjectRow
objects_left tables.SetupObjects tests objects = filter (λ row. not (object_meets tests row)) objects
objects_left _ tests objects = objects

-- the flags of a word behind a change of the rows of a table, by those of `setup_objects` as they stand then; a change
-- of `setup_actors` changes no word
abbrev pub flags_by_rows : Naming → List ObjectRow → Table → ℕ → ℕ → ℕ
flags_by_rows n objects tables.SetupObjects word flags = redecided n objects word flags
flags_by_rows n objects _ word flags = flags
