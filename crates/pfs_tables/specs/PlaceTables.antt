-- The tables whose rows each show one place of the board or one switch word.
use Rattle.std.specs.Prelude.{ℕ, ◌-◌, Bool, true, false, ◌==◌, nat_le, if◌then◌else◌, List, [], ◌∷◌, map, find, Option, Some, None, option_and_then, slice_get, codes}
use Rattle.std.specs.Option.{option_map, option_map_or, option_to_list}
use Rattle.std.specs.List.{flat_map}
use Rattle.std.specs.Int.{bit_at}
use Rattle.pfs_rows.specs.declared.place.Place.{Place}
use Rattle.pfs_rows.specs.declared.place.Place.TheVariants.{ThreadInfo, AccountInfo, UserInfo, HostInfo, Ring, Long}
use Rattle.pfs_rows.specs.declared.table.Table.{Table}
use Rattle.pfs_rows.specs.declared.table.Table.TheVariants as tables
use Rattle.pfs_rows.specs.declared.table.TableKind.{TableKind}
use Rattle.pfs_rows.specs.declared.table.EventTable.{EventTable}
use Rattle.pfs_rows.specs.declared.table.EventTable.TheVariants.{Current, History, HistoryLong}
use Rattle.pfs_rows.specs.declared.table.Reading.{Reading}
use Rattle.pfs_rows.specs.declared.table.Reading.TheVariants.{Slot, Word}
use Rattle.pfs_rows.specs.declared.table.Seen.{Seen}
use Rattle.pfs_rows.specs.declared.table.Seen.TheVariants.{Whole, Free, Busy}
use Rattle.pfs_rows.specs.Rows.{place_at}
use Rattle.pfs_classes.specs.declared.setting.Setting.{Setting}
use Rattle.pfs_consumers.specs.declared.Consumer.{Consumer}
use Rattle.pfs_consumers.specs.declared.Consumer.TheVariants.{StagesCurrent, StagesHistory, StagesHistoryLong, StatementsCurrent, StatementsHistory, StatementsHistoryLong, TransactionsCurrent, TransactionsHistory, TransactionsHistoryLong, WaitsCurrent, WaitsHistory, WaitsHistoryLong, GlobalInstrumentation, ThreadInstrumentation, StatementsDigest}
use Rattle.pfs_consumers.specs.Tree.{bit_of, is_on, name_of}
use Rattle.pfs_containers.specs.declared.infos.ThreadInfo.{ThreadInfo as Thread}
use Rattle.pfs_containers.specs.declared.infos.AccountInfo.{AccountInfo as Account}
use Rattle.pfs_containers.specs.declared.infos.NameInfo.{NameInfo as Name}
use Rattle.pfs_containers.specs.InfoWords as infos
use Rattle.pfs_text.specs.declared.values.RowValue.{RowValue}
use Rattle.pfs_text.specs.declared.values.RowValue.TheVariants.{Number, Text}
use Rattle.pfs_tables.specs.EventRows.{Fields, event_in, event_values, class_name}
use Rattle.pfs_readsets.specs.TablePlaces.{has_ring, has_long}
use Rattle.pfs_tables.specs.declared.orders.RowKey.{RowKey}
use Rattle.pfs_tables.specs.TableOrders.{Keyed, put_rows, number_key, name_key}

-- a flag of a table
abbrev pub flag_value : Bool → RowValue
flag_value true = Text (codes "YES")
flag_value false = Text (codes "NO")

-- a bit of a word's flags
abbrev pub bit_value : ℕ → ℕ → RowValue
bit_value flags bit = flag_value (bit_at flags bit == 1)

-- the place in the order of an event's row: by thread and event, in the long history by ticket
abbrev pub event_key : EventTable → Fields → ℕ → RowKey
event_key Current event place = number_key event.session event.number place
event_key History event place = number_key event.session event.number place
event_key HistoryLong event place = number_key event.ticket 0 place

abbrev pub keyed_event : Setting → TableKind → EventTable → ℕ → Fields → Option Keyed
keyed_event setting kind table place event =
    option_map (λ values. (event_key table event place, values)) (event_values setting kind event)

unfoldable pub event_row : Setting → TableKind → EventTable → ℕ → List ℕ → Option Keyed
event_row setting kind table place words = option_and_then (keyed_event setting kind table place) (event_in words)

-- the flags that the first loading of a word found, 0 where it wasn't loaded
abbrev pub loads : ℕ → Reading → Bool
loads word (Slot row seen) = false
loads word (Word other version flags) = other == word

abbrev pub flags_in : Reading → ℕ
flags_in (Slot row seen) = 0
flags_in (Word word version flags) = flags

abbrev pub flags_at : List Reading → ℕ → ℕ
flags_at readings word = option_map_or flags_in (find (loads word) readings) 0

-- a thread's row: bit 0 of its word is INSTRUMENTED, bit 1 HISTORY
abbrev pub thread_values : Thread → ℕ → List ℕ → List ℕ → List RowValue
thread_values info flags user host =
    Number info.session ∷ Text user ∷ Text host ∷ bit_value flags 0 ∷ bit_value flags 1 ∷ []

-- with two names that the setting has, or none
abbrev pub with_names : {X : Type 0} → Setting → ℕ → ℕ → (List ℕ → List ℕ → X) → Option X
with_names setting user host then_of =
    option_and_then (λ name. option_map (then_of name) (slice_get setting.names host)) (slice_get setting.names user)

unfoldable pub thread_row : Setting → ℕ → ℕ → Thread → Option Keyed
thread_row setting place flags info =
    with_names setting info.user_name info.host_name (λ user host. (
      number_key info.session 0 place,
      thread_values info flags user host,
    ))

-- an account's row
abbrev pub account_values : Account → List ℕ → List ℕ → List RowValue
account_values info user host = Text user ∷ Text host ∷ Number info.current ∷ Number info.total ∷ []

unfoldable pub account_row : Setting → ℕ → Account → Option Keyed
account_row setting place info =
    with_names setting info.user_name info.host_name (λ user host. (
      name_key user host place,
      account_values info user host,
    ))

-- a user's or a host's row
abbrev pub name_values : Name → List ℕ → List RowValue
name_values info name = Text name ∷ Number info.current ∷ Number info.total ∷ []

unfoldable pub name_row : Setting → ℕ → Name → Option Keyed
name_row setting place info =
    option_map (λ name. (name_key name [] place, name_values info name)) (slice_get setting.names info.name)

-- the places that may give a row of a table
abbrev pub is_thread_info : Place → Bool
is_thread_info (ThreadInfo thread) = true
is_thread_info _ = false

abbrev pub is_account_info : Place → Bool
is_account_info (AccountInfo account) = true
is_account_info _ = false

abbrev pub is_user_info : Place → Bool
is_user_info (UserInfo user) = true
is_user_info _ = false

abbrev pub is_host_info : Place → Bool
is_host_info (HostInfo host) = true
is_host_info _ = false

abbrev pub is_event_place : Table → Place → Bool
is_event_place table (Ring thread place) = has_ring table place
is_event_place table (Long number place) = has_long table number
is_event_place table _ = false

abbrev pub may_show : Table → Place → Bool
may_show tables.Threads place = is_thread_info place
may_show tables.Accounts place = is_account_info place
may_show tables.Users place = is_user_info place
may_show tables.Hosts place = is_host_info place
may_show (tables.Events kind which) place = is_event_place (tables.Events kind which) place
may_show _ place = false

-- the row that such a place gives, where it was found Whole with these words
unfoldable pub words_row : Setting → Table → List Reading → ℕ → List ℕ → Option Keyed
words_row setting tables.Threads readings row words =
    thread_row setting row (flags_at readings row) (infos.thread_of words)
words_row setting tables.Accounts readings row words = account_row setting row (infos.account_of words)
words_row setting tables.Users readings row words = name_row setting row (infos.name_of words)
words_row setting tables.Hosts readings row words = name_row setting row (infos.name_of words)
words_row setting (tables.Events kind which) readings row words = event_row setting kind which row words
words_row setting _ readings row words = None

abbrev pub on_place : (Place → Bool) → Option Place → Bool
on_place test None = false
on_place test (Some place) = test place

-- the row of a reading: only what was found Whole gives one
unfoldable pub slot_row : Setting → Table → List Reading → ℕ → Seen → Option Keyed
slot_row setting table readings row (Whole version content) =
    if on_place (may_show table) (place_at row) then words_row setting table readings row content else None
slot_row setting table readings row (Free word) = None
slot_row setting table readings row (Busy first second) = None

-- the row of a class: word 33 + c has its flags, ENABLED and TIMED
abbrev pub class_values : ℕ → List ℕ → List RowValue
class_values flags name = Text name ∷ bit_value flags 0 ∷ bit_value flags 1 ∷ []

unfoldable pub class_row : Setting → ℕ → ℕ → Option Keyed
class_row setting word flags =
    if nat_le 33 word then option_map (λ name. (number_key (word - 33) 0 word, class_values flags name))
    (class_name setting (word - 33)) else None

-- the rows of the consumers: word 0 has their flags
abbrev pub consumers : List Consumer
consumers =
    StagesCurrent ∷ StagesHistory ∷ StagesHistoryLong ∷ StatementsCurrent ∷ StatementsHistory ∷ StatementsHistoryLong
    ∷ TransactionsCurrent ∷ TransactionsHistory ∷ TransactionsHistoryLong ∷ WaitsCurrent ∷ WaitsHistory
    ∷ WaitsHistoryLong
    ∷ GlobalInstrumentation ∷ ThreadInstrumentation ∷ StatementsDigest ∷ []

abbrev pub consumer_row : ℕ → Consumer → Keyed
consumer_row flags consumer =
    (number_key (bit_of consumer) 0 0, Text (name_of consumer) ∷ flag_value (is_on flags consumer) ∷ [])

unfoldable pub consumer_rows : ℕ → ℕ → List Keyed
consumer_rows word flags = if word == 0 then map (consumer_row flags) consumers else []

abbrev pub word_rows : Setting → Table → ℕ → ℕ → List Keyed
word_rows setting tables.SetupInstruments word flags = option_to_list (class_row setting word flags)
word_rows setting tables.SetupConsumers word flags = consumer_rows word flags
word_rows setting _ word flags = []

-- the rows that one of the readings gives
abbrev pub rows_of : Setting → Table → List Reading → Reading → List Keyed
rows_of setting table readings (Slot row seen) = option_to_list (slot_row setting table readings row seen)
rows_of setting table readings (Word word version flags) = word_rows setting table word flags

-- the rows that the readings give, in the order of their readings and in the order of the table's key
abbrev pub given_rows : Setting → Table → List Reading → List Keyed
given_rows setting table readings = flat_map (rows_of setting table readings) readings

abbrev pub sorted_rows : Setting → Table → List Reading → List Keyed
sorted_rows setting table readings = put_rows [] (given_rows setting table readings)

-- what the table shows by the readings
unfoldable pub plain_rows_of : Setting → Table → List Reading → List (List RowValue)
plain_rows_of setting table readings = map (λ (row : Keyed). row.1) (sorted_rows setting table readings)
