-- What an UPDATE changes: of each row that is met the flags that are named become as asked, and others stay.
use Rattle.std.specs.Prelude.{ℕ, ◌+◌, ◌-◌, ◌^◌, Bool, true, false, ◌==◌, nat_le, if◌then◌else◌, List, map, fold, Option, Some, None, slice_get, bit_and, bit_or}
use Rattle.std.specs.Option.{option_map_or}
use Rattle.pfs_text.specs.declared.conditions.Test.{Test}
use Rattle.pfs_rows.specs.declared.table.Table.{Table}
use Rattle.pfs_rows.specs.declared.table.Table.TheVariants as tables
use Rattle.pfs_exec.specs.declared.changes.Update.{Update}
use Rattle.pfs_classes.specs.declared.setting.TableName.{TableName}
use Rattle.pfs_consumers.specs.declared.Consumer.{Consumer}
use Rattle.pfs_consumers.specs.Tree.{with_flag}
use Rattle.pfs_containers.specs.declared.containers.Connection.{Connection}
use Rattle.pfs_matching.specs.declared.actor_rows.ActorRow.{ActorRow}
use Rattle.pfs_matching.specs.declared.faults.FlagChange.{FlagChange}
use Rattle.pfs_matching.specs.declared.object_rows.ObjectRow.{ObjectRow}
use Rattle.pfs_matching.specs.ActorRules.{changed_actor}
use Rattle.pfs_matching.specs.ObjectRules.{changed_object, table_flags}
use Rattle.pfs_tables.specs.PlaceTables.{consumers}
use Rattle.pfs_setups.specs.SetupRows.{Naming, actor_meets, consumer_meets, is_met, object_meets, word_values}

-- a word with one of its flags as asked, and each other bit as it was
abbrev pub with_bit : ℕ → ℕ → Option Bool → ℕ
with_bit bit flags None = flags
with_bit bit flags (Some true) = bit_or flags (2 ^ bit)
with_bit bit flags (Some false) = bit_and flags (65535 - 2 ^ bit)

-- INSTRUMENTED or ENABLED is bit 0, HISTORY or TIMED bit 1
abbrev pub with_both : FlagChange → ℕ → ℕ
with_both change flags = with_bit 1 (with_bit 0 flags change.first) change.second

abbrev pub changed_if : FlagChange → ℕ → Bool → ℕ
changed_if change flags met = if met then with_both change flags else flags

-- a consumer's flag, where one is named
abbrev pub with_consumer : Option Bool → ℕ → Consumer → ℕ
with_consumer None flags consumer = flags
with_consumer (Some on) flags consumer = with_flag flags consumer on

-- which consumers are met goes by their flags before the update
abbrev pub consumer_step : List Test → Option Bool → ℕ → ℕ → Consumer → ℕ
consumer_step tests on before flags consumer =
    if consumer_meets tests before consumer then with_consumer on flags consumer else flags

unfoldable pub consumers_behind : List Test → Option Bool → ℕ → ℕ
consumers_behind tests on flags = fold (consumer_step tests on flags) flags consumers

abbrev pub consumer_word : List Test → Option Bool → ℕ → ℕ → ℕ
consumer_word tests on word flags = if word == 0 then consumers_behind tests on flags else flags

-- two flags in the two lowest bits
abbrev pub both_flags : Bool × Bool → ℕ
both_flags pair = (if pair.0 then 1 else 0) + (if pair.1 then 2 else 0)

abbrev pub flags_decided : List ObjectRow → TableName → ℕ
flags_decided objects table = both_flags (table_flags objects table.schema table.name)

-- the words from 96 on are those of the setting's tables, by their numbers
abbrev pub table_of_word : Naming → ℕ → Option TableName
table_of_word n word = if nat_le 96 word then slice_get n.tables (word - 96) else None

-- the flags of a word where every table of the setting is decided by these rows; a word of no table stays
unfoldable pub redecided : Naming → List ObjectRow → ℕ → ℕ → ℕ
redecided n objects word flags = option_map_or (flags_decided objects) (table_of_word n word) flags

-- the flags of a word behind an update of a table, by its flags before and by the rows of `setup_objects` as they stand
-- behind it; an update of `setup_actors` changes no word
unfoldable pub flags_on : Naming → List (Option Connection) → List ObjectRow → Table → FlagChange → List Test → ℕ → ℕ
    → ℕ
flags_on n threads objects tables.SetupConsumers change tests word flags =
    consumer_word tests change.first word flags
flags_on n threads objects tables.SetupInstruments change tests word flags =
    changed_if change flags (is_met tests (word_values n threads tables.SetupInstruments word flags))
flags_on n threads objects tables.Threads change tests word flags =
    changed_if change flags (is_met tests (word_values n threads tables.Threads word flags))
flags_on n threads objects tables.SetupObjects change tests word flags = redecided n objects word flags
flags_on n threads objects _ change tests word flags = flags

abbrev pub flags_behind : Naming → List (Option Connection) → List ObjectRow → Update → ℕ → ℕ → ℕ
flags_behind n threads objects update word flags =
    flags_on n threads objects update.table update.change update.tests word flags

-- the rows of the two rule tables behind it
abbrev pub updated_actor : List Test → FlagChange → ActorRow → ActorRow
updated_actor tests change row = if actor_meets tests row then changed_actor change row else row

abbrev pub updated_object : List Test → FlagChange → ObjectRow → ObjectRow
updated_object tests change row = if object_meets tests row then changed_object change row else row

abbrev pub actors_updated : Table → List Test → FlagChange → List ActorRow → List ActorRow
actors_updated tables.SetupActors tests change actors = map (updated_actor tests change) actors
actors_updated _ tests change actors = actors

abbrev pub objects_updated : Table → List Test → FlagChange → List ObjectRow → List ObjectRow
objects_updated tables.SetupObjects tests change objects = map (updated_object tests change) objects
objects_updated _ tests change objects = objects
