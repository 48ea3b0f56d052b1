-- What the definitions of rows, flags and keys come to.
use Rattle.std.specs.Prelude.{◌≡◌, ◌≢◌, ◌↔◌, ◌⊎◌, ℕ, ◌+◌, ◌<◌, ◌≤◌, ◌==◌, Bool, true, if◌then◌else◌, List, map, Option, Some, None, Contains, slice_get, unwrap_or}
use Rattle.std.specs.Int.{bit_at}
use Rattle.std.specs.List.{slice_index_or}
use Rattle.std.specs.Option.{option_map}
use Rattle.pfs_text.specs.declared.conditions.Test.{Test}
use Rattle.pfs_rows.specs.declared.table.Table.TheVariants.{SetupActors, SetupObjects, SetupInstruments, SetupConsumers, Threads}
use Rattle.pfs_classes.specs.declared.setting.Setting.{Setting}
use Rattle.pfs_consumers.specs.declared.Consumer.{Consumer}
use Rattle.pfs_consumers.specs.Tree.{is_on}
use Rattle.pfs_containers.specs.declared.containers.Connection.{Connection}
use Rattle.pfs_containers.specs.PlaceInfos.{thread_info_of}
use Rattle.pfs_matching.specs.declared.actor_rows.ActorRow.{ActorRow}
use Rattle.pfs_matching.specs.declared.faults.FlagChange.{FlagChange}
use Rattle.pfs_matching.specs.declared.object_rows.ObjectRow.{ObjectRow}
use Rattle.pfs_matching.specs.ActorRules.{actor_key}
use Rattle.pfs_matching.specs.ObjectRules.{object_key}
use Rattle.pfs_text.specs.declared.values.RowValue.{RowValue}
use Rattle.pfs_tables.specs.TableOrders.{Keyed}
use Rattle.pfs_tables.specs.PlaceTables.{class_row, consumers, thread_row, word_rows}
use Rattle.pfs_setups.specs.Inserts.{has_key}
use Rattle.pfs_setups.specs.SetupRows.{Naming, consumer_meets, consumer_values, naming_of, word_values}
use Rattle.pfs_setups.specs.Updates.{consumers_behind, flags_on, with_both}

abbrev pub values_of : Keyed → List RowValue
values_of row = row.1

-- the rows that a change meets are those that a SELECT of the table shows, value by value: by a word of a class, by the
-- info and the word of a slot that somebody has, and by word 0
pub record AreSelected : Type 0 where
  pub instruments : (setting : Setting) (threads : List (Option Connection)) (word flags : ℕ) → word < 96
      → word_values (naming_of setting) threads SetupInstruments word flags
      ≡ option_map values_of (class_row setting word flags)
  pub sessions : (setting : Setting) (threads : List (Option Connection)) (slot flags : ℕ) (x : Connection) → slot < 32
      → slice_index_or threads slot None ≡ Some x
      → word_values (naming_of setting) threads Threads (1 + slot) flags
      ≡ option_map values_of (thread_row setting (1 + slot) flags (thread_info_of x))
  pub nobody : (setting : Setting) (threads : List (Option Connection)) (slot flags : ℕ)
      → slice_index_or threads slot None ≡ None
      → word_values (naming_of setting) threads Threads (1 + slot) flags ≡ None
  pub consumers : (setting : Setting) (flags : ℕ)
      → map values_of (word_rows setting SetupConsumers 0 flags) ≡ map (consumer_values flags) consumers

-- the flags that a change names become as asked, and each other bit stays
pub record SetsFlags (change : FlagChange) (flags : ℕ) : Type 0 where
  pub first : (bit_at (with_both change flags) 0 == 1) ≡ unwrap_or change.first (bit_at flags 0 == 1)
  pub second : (bit_at (with_both change flags) 1 == 1) ≡ unwrap_or change.second (bit_at flags 1 == 1)
  pub others : (bit : ℕ) → 2 ≤ bit → bit < 16 → bit_at (with_both change flags) bit ≡ bit_at flags bit

-- the flag of each consumer that is met becomes as asked, that of each other stays, and so does the last bit
pub record SetsConsumers (tests : List Test) (flags : ℕ) : Type 0 where
  pub each : (on : Bool) (consumer : Consumer) → is_on (consumers_behind tests (Some on) flags) consumer
      ≡ (if consumer_meets tests flags consumer then on else is_on flags consumer)
  pub last : (on : Bool) → bit_at (consumers_behind tests (Some on) flags) 15 ≡ bit_at flags 15
  pub unnamed : consumers_behind tests None flags ≡ flags

-- the test for a key is true exactly where a row has it
pub record KeysDecide : Type 0 where
  pub actors : (rows : List ActorRow) (row : ActorRow)
      → (has_key actor_key rows row ≡ true) ↔ Contains (map actor_key rows) (actor_key row)
  pub objects : (rows : List ObjectRow) (row : ObjectRow)
      → (has_key object_key rows row ≡ true) ↔ Contains (map object_key rows) (object_key row)

-- an update changes no word but those of its table's rows
pub record OtherWordsStay (n : Naming) (threads : List (Option Connection)) (objects : List ObjectRow)
    (change : FlagChange) (tests : List Test) (flags : ℕ) : Type 0 where
  pub actors : (word : ℕ) → flags_on n threads objects SetupActors change tests word flags ≡ flags
  pub consumers : (word : ℕ) → word ≢ 0 → flags_on n threads objects SetupConsumers change tests word flags ≡ flags
  pub sessions : (word : ℕ) → (word < 1) ⊎ (33 ≤ word)
      → flags_on n threads objects Threads change tests word flags ≡ flags
  pub nobody : (slot : ℕ) → slice_index_or threads slot None ≡ None
      → flags_on n threads objects Threads change tests (1 + slot) flags ≡ flags
  pub instruments : (word : ℕ) → (word < 33) ⊎ (96 ≤ word)
      → flags_on n threads objects SetupInstruments change tests word flags ≡ flags
  pub unregistered : (id : ℕ) → slice_index_or n.classes id None ≡ None
      → flags_on n threads objects SetupInstruments change tests (33 + id) flags ≡ flags
  pub before_tables : (word : ℕ) → word < 96 → flags_on n threads objects SetupObjects change tests word flags ≡ flags
  pub no_table : (number : ℕ) → slice_get n.tables number ≡ None
      → flags_on n threads objects SetupObjects change tests (96 + number) flags ≡ flags
