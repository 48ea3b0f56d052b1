-- The rows that a change meets are those that a SELECT shows.
use Rattle.std.proofs.Common.{◌≡◌, ℕ, ◌+◌, ◌-◌, ◌<◌, true, ltb, leb, List, map, Option, None, Some, inl, inr, refl, ap, ◌∙◌, arith, slice_get, slice_index_or, option_map, option_and_then}
use Rattle.std.proofs.lemmas.Bool.{cases_Bool}
use Rattle.std.proofs.lemmas.List.FromFn.{get_or-map-range_with_len}
use Rattle.pfs_classes.specs.declared.classes.Class.{Class}
use Rattle.pfs_classes.specs.declared.setting.Setting.{Setting}
use Rattle.pfs_classes.specs.Registry.{class_at}
use Rattle.pfs_containers.specs.declared.containers.Connection.{Connection}
use Rattle.pfs_containers.specs.PlaceInfos.{thread_info_of}
use Rattle.pfs_rows.specs.declared.table.Table.TheVariants.{SetupInstruments, SetupConsumers, Threads}
use Rattle.pfs_tables.specs.declared.orders.RowKey.{RowKey}
use Rattle.pfs_tables.specs.EventRows.{class_name}
use Rattle.pfs_tables.specs.TableOrders.{number_key}
use Rattle.pfs_tables.specs.PlaceTables.{class_row, class_values, consumer_rows, consumers, thread_row, thread_values, word_rows}
use Rattle.pfs_text.specs.declared.values.RowValue.{RowValue}
use Rattle.pfs_setups.specs.ChangeLaws.{AreSelected, values_of}
use Rattle.pfs_setups.specs.SetupRows.{class_named, consumer_values, name_of_class, naming_of, word_values}

named_by : (names : List (List ℕ)) (found : Option Class) → option_and_then (slice_get names) (option_map (λ (class : Class). class.name) found)
    ≡ option_and_then (λ (class : Class). slice_get names class.name) found
named_by names None = refl
named_by names (Some class) = refl

class_is : (setting : Setting) (id : ℕ) → id < 63 → class_named (naming_of setting) id ≡ class_name setting id
unfolding naming_of
class_is setting id small =
    ap (option_and_then (slice_get setting.names)) (get_or-map-range_with_len (name_of_class setting.classes) 0 63 id id None small (omega arith))
    ∙ named_by setting.names (class_at setting.classes id)

one_name : (key : RowKey) (values : List ℕ → List RowValue) (name : Option (List ℕ)) → option_map values name ≡ option_map values_of (option_map (λ name. (key, values name)) name)
one_name key values None = refl
one_name key values (Some name) = refl

two_names : (key : RowKey) (values : List ℕ → List ℕ → List RowValue) (user host : Option (List ℕ)) → option_and_then (λ user. option_map (values user) host) user
    ≡ option_map values_of (option_and_then (λ user. option_map (λ host. (key, values user host)) host) user)
two_names key values None host = refl
two_names key values (Some user) None = refl
two_names key values (Some user) (Some host) = refl

instruments_are : (setting : Setting) (threads : List (Option Connection)) (word flags : ℕ) → word < 96
    → word_values (naming_of setting) threads SetupInstruments word flags ≡ option_map values_of (class_row setting word flags)
unfolding word_values class_row
instruments_are setting threads word flags small = elim (cases_Bool (leb 33 word)) [
  | inl from ↦
      let below : ltb word 96 ≡ true = grind arith in
      let id : word - 33 < 63 = omega arith in
      rw (from, below) (ap (option_map (class_values flags)) (class_is setting (word - 33) id)
      ∙ one_name (number_key (word - 33) 0 word) (class_values flags) (class_name setting (word - 33)))
  | inr before ↦ rw before refl
]

sessions_are : (setting : Setting) (threads : List (Option Connection)) (slot flags : ℕ) (x : Connection) → slot < 32 → slice_index_or threads slot None ≡ Some x
    → word_values (naming_of setting) threads Threads (1 + slot) flags ≡ option_map values_of (thread_row setting (1 + slot) flags (thread_info_of x))
unfolding word_values thread_row naming_of
sessions_are setting threads slot flags x small there =
    let from : leb 1 (1 + slot) ≡ true = grind arith in
    let below : ltb (1 + slot) 33 ≡ true = grind arith in
    let back : (1 + slot) - 1 ≡ slot = omega arith in
    rw (from, below, back, there) (two_names (number_key x.number 0 (1 + slot)) (thread_values (thread_info_of x) flags) (slice_get setting.names x.user_name) (slice_get setting.names x.host_name))

nobody_there : (setting : Setting) (threads : List (Option Connection)) (slot flags : ℕ) → slice_index_or threads slot None ≡ None → word_values (naming_of setting) threads Threads (1 + slot) flags ≡ None
unfolding word_values
nobody_there setting threads slot flags there =
    let from : leb 1 (1 + slot) ≡ true = grind arith in
    let back : (1 + slot) - 1 ≡ slot = omega arith in
    elim (cases_Bool (ltb (1 + slot) 33)) [
      | inl below ↦ rw (from, below, back, there) refl
      | inr beyond ↦ rw (from, beyond) refl
    ]

consumers_are : (setting : Setting) (flags : ℕ) → map values_of (word_rows setting SetupConsumers 0 flags) ≡ map (consumer_values flags) consumers
unfolding consumer_rows
consumers_are setting flags = refl

pub are_selected : AreSelected
are_selected = record { instruments = instruments_are; sessions = sessions_are; nobody = nobody_there; consumers = consumers_are }
