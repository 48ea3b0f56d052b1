-- The rows of the setup tables that stand in the switch words, with the values that a SELECT shows, and how many rows
-- meet conditions.
use Rattle.std.specs.Prelude.{ℕ, ◌-◌, Bool, false, ◌&&◌, nat_le, nat_lt, if◌then◌else◌, List, map, Option, Some, None, option_and_then, slice_get, count_by}
use Rattle.std.specs.List.{range_with_len, slice_index_or}
use Rattle.std.specs.Option.{option_map}
use Rattle.pfs_text.specs.declared.conditions.Test.{Test}
use Rattle.pfs_rows.specs.declared.table.Table.{Table}
use Rattle.pfs_rows.specs.declared.table.Table.TheVariants as tables
use Rattle.pfs_classes.specs.declared.classes.Class.{Class}
use Rattle.pfs_classes.specs.declared.setting.Setting.{Setting}
use Rattle.pfs_classes.specs.declared.setting.TableName.{TableName}
use Rattle.pfs_classes.specs.Registry.{Registry, class_at}
use Rattle.pfs_consumers.specs.declared.Consumer.{Consumer}
use Rattle.pfs_containers.specs.declared.containers.Connection.{Connection}
use Rattle.pfs_containers.specs.PlaceInfos.{thread_info_of}
use Rattle.pfs_matching.specs.declared.actor_rows.ActorRow.{ActorRow}
use Rattle.pfs_matching.specs.declared.object_rows.ObjectRow.{ObjectRow}
use Rattle.pfs_text.specs.declared.values.RowValue.{RowValue}
use Rattle.pfs_tables.specs.PlaceTables.{class_values, consumer_row, consumers, thread_values}
use Rattle.pfs_exec.specs.Selections.{meets_all}
use Rattle.pfs_setups.specs.HeldRows.{actor_values, object_values}

-- what a setting fixes of the rows: the names by id, of each class by id the id of its name, where it is registered,
-- and the tables by number
pub record Naming : Type 0 where
  pub names : List (List ℕ)
  pub classes : List (Option ℕ)
  pub tables : List TableName

abbrev pub name_of_class : Registry → ℕ → Option ℕ
name_of_class r id = option_map (λ (class : Class). class.name) (class_at r id)

-- class 62 is `transaction`, the last
unfoldable pub naming_of : Setting → Naming
naming_of setting = record {
  names = setting.names;
  classes = map (name_of_class setting.classes) (range_with_len 0 63);
  tables = setting.tables;
}

-- a consumer's row: its flag is one of word 0
abbrev pub consumer_values : ℕ → Consumer → List RowValue
consumer_values flags consumer = (consumer_row flags consumer).1

-- a class's row, where it is registered
abbrev pub class_named : Naming → ℕ → Option (List ℕ)
class_named n id = option_and_then (slice_get n.names) (slice_index_or n.classes id None)

abbrev pub instrument_values : Naming → ℕ → ℕ → Option (List RowValue)
instrument_values n flags id = option_map (class_values flags) (class_named n id)

-- a connected session's row
abbrev pub session_values : Naming → ℕ → Connection → Option (List RowValue)
session_values n flags x = option_and_then (λ user.
    option_map (thread_values (thread_info_of x) flags user) (slice_get n.names x.host_name))
    (slice_get n.names x.user_name)

abbrev pub slot_values : Naming → List (Option Connection) → ℕ → ℕ → Option (List RowValue)
slot_values n threads flags slot = option_and_then (session_values n flags) (slice_index_or threads slot None)

-- the row that a word's flags stand in, of a table with a row for each of its words: words 1 to 32 are those of the
-- thread slots, words 33 to 95 those of the classes
unfoldable pub word_values : Naming → List (Option Connection) → Table → ℕ → ℕ → Option (List RowValue)
word_values n threads tables.Threads word flags =
    if nat_le 1 word && nat_lt word 33 then slot_values n threads flags (word - 1) else None
word_values n threads tables.SetupInstruments word flags =
    if nat_le 33 word && nat_lt word 96 then instrument_values n flags (word - 33) else None
word_values n threads _ word flags = None

-- a row is met where it is there and each test meets its value
abbrev pub is_met : List Test → Option (List RowValue) → Bool
is_met tests None = false
is_met tests (Some row) = meets_all tests row

-- the row of a word is met, by the flags that the words have
abbrev pub is_word_met : Naming → List (Option Connection) → Table → List Test → List ℕ → ℕ → Bool
is_word_met n threads table tests flags word =
    is_met tests (word_values n threads table word (slice_index_or flags word 0))

abbrev pub consumer_meets : List Test → ℕ → Consumer → Bool
consumer_meets tests flags consumer = meets_all tests (consumer_values flags consumer)

abbrev pub actor_meets : List Test → ActorRow → Bool
actor_meets tests row = meets_all tests (actor_values row)

abbrev pub object_meets : List Test → ObjectRow → Bool
object_meets tests row = meets_all tests (object_values row)

-- how many of the rows that the administration holds meet the tests
unfoldable pub held_met : Table → List Test → List ActorRow → List ObjectRow → ℕ
held_met tables.SetupActors tests actors objects = count_by (actor_meets tests) actors
held_met tables.SetupObjects tests actors objects = count_by (object_meets tests) objects
held_met _ tests actors objects = 0

-- and of the rows that stand in the first words, by the flags that these have
abbrev pub met_up_to : Naming → List (Option Connection) → Table → List Test → List ℕ → ℕ → ℕ
met_up_to n threads table tests flags count =
    count_by (is_word_met n threads table tests flags) (range_with_len 0 count)

unfoldable pub words_met : Naming → List (Option Connection) → Table → List Test → List ℕ → ℕ
words_met n threads table tests flags = met_up_to n threads table tests flags 160

abbrev pub consumers_met : List Test → ℕ → ℕ
consumers_met tests flags = count_by (consumer_meets tests flags) consumers

-- how many rows of a table are met, whether or not a change would change them; other tables have no rows here
unfoldable pub rows_met : Naming → List (Option Connection) → List ActorRow → List ObjectRow → List ℕ → Table
    → List Test → ℕ
rows_met n threads actors objects flags tables.SetupConsumers tests = consumers_met tests (slice_index_or flags 0 0)
rows_met n threads actors objects flags tables.SetupInstruments tests =
    words_met n threads tables.SetupInstruments tests flags
rows_met n threads actors objects flags tables.Threads tests = words_met n threads tables.Threads tests flags
rows_met n threads actors objects flags table tests = held_met table tests actors objects
