-- Worked rows of the tables whose rows each show one place or one word.
use Rattle.std.proofs.Common.{◌≡◌, List, [], ◌∷◌, Some, None, refl}
use Rattle.std.specs.Prelude.{codes}
use Rattle.pfs_classes.specs.declared.setting.Setting.{Setting}
use Rattle.pfs_containers.specs.InfoWords.{six_words, three_words}
use Rattle.pfs_rows.specs.declared.table.Reading.TheVariants.{Slot, Word}
use Rattle.pfs_rows.specs.declared.table.Seen.TheVariants.{Whole, Free, Busy}
use Rattle.pfs_rows.specs.declared.table.Table.TheVariants.{SetupInstruments, SetupConsumers, Threads, Accounts, Users, Hosts}
use Rattle.pfs_text.specs.declared.values.RowValue.TheVariants.{Number, Text}
use Rattle.pfs_tables.specs.EventRows.{class_name}
use Rattle.pfs_tables.specs.PlaceTables.{plain_rows_of, slot_row, words_row, thread_row, account_row, name_row, class_row, consumer_rows, flag_value}

-- a thread's flags are those of its word, 0 where none was loaded; a place that was free or in hand gives no row
pub example_threads : (setting : Setting) → setting.names ≡ codes "u" ∷ codes "h" ∷ []
    → plain_rows_of setting Threads (Slot 1 (Whole 1 (six_words 7 1 1 1 0 1)) ∷ Slot 2 (Free 4) ∷ Slot 3 (Busy 5 5) ∷ Slot 4 (Whole 2 (six_words 3 1 1 1 0 1)) ∷ Word 1 1 1 ∷ [])
    ≡ (Number 3 ∷ Text (codes "u") ∷ Text (codes "h") ∷ Text (codes "NO") ∷ Text (codes "NO") ∷ [])
    ∷ (Number 7 ∷ Text (codes "u") ∷ Text (codes "h") ∷ Text (codes "YES") ∷ Text (codes "NO") ∷ []) ∷ []
unfolding plain_rows_of slot_row words_row thread_row
example_threads setting e = rw e refl

-- an account whose name the setting doesn't have gives no row
pub example_accounts : (setting : Setting) → setting.names ≡ codes "u" ∷ codes "h" ∷ []
    → plain_rows_of setting Accounts (Slot 33 (Whole 3 (six_words 0 1 1 1 1 2)) ∷ Slot 34 (Whole 1 (six_words 9 1 1 1 1 1)) ∷ [])
    ≡ (Text (codes "u") ∷ Text (codes "h") ∷ Number 1 ∷ Number 2 ∷ []) ∷ []
unfolding plain_rows_of slot_row words_row account_row
example_accounts setting e = rw e refl

-- users stand by their names, and a host's place gives no user
pub example_users : (setting : Setting) → setting.names ≡ codes "u" ∷ codes "a" ∷ []
    → plain_rows_of setting Users (Slot 65 (Whole 1 (three_words 0 1 1)) ∷ Slot 66 (Whole 4 (three_words 1 0 2)) ∷ Slot 97 (Whole 1 (three_words 1 1 1)) ∷ [])
    ≡ (Text (codes "a") ∷ Number 0 ∷ Number 2 ∷ []) ∷ (Text (codes "u") ∷ Number 1 ∷ Number 1 ∷ []) ∷ []
unfolding plain_rows_of slot_row words_row name_row
example_users setting e = rw e refl

pub example_hosts : (setting : Setting) → setting.names ≡ codes "u" ∷ codes "h" ∷ []
    → plain_rows_of setting Hosts (Slot 97 (Whole 2 (three_words 1 1 3)) ∷ Slot 98 (Free 0) ∷ []) ≡ (Text (codes "h") ∷ Number 1 ∷ Number 3 ∷ []) ∷ []
unfolding plain_rows_of slot_row words_row name_row
example_hosts setting e = rw e refl

-- a class by the flags of its word; an id that names no class gives no row
pub example_instruments : (setting : Setting) → class_name setting 6 ≡ Some (codes "b") → class_name setting 61 ≡ None
    → plain_rows_of setting SetupInstruments (Word 39 5 1 ∷ Word 94 0 3 ∷ []) ≡ (Text (codes "b") ∷ Text (codes "YES") ∷ Text (codes "NO") ∷ []) ∷ []
unfolding plain_rows_of class_row
example_instruments setting e f = rw (e, f) refl

-- the fifteen consumers by the flags of word 0, in the order of their bits; another word gives none
pub example_consumers : (setting : Setting) → plain_rows_of setting SetupConsumers (Word 0 1 28888 ∷ Word 1 1 3 ∷ [])
    ≡ (Text (codes "events_stages_current") ∷ Text (codes "NO") ∷ []) ∷ (Text (codes "events_stages_history") ∷ Text (codes "NO") ∷ [])
    ∷ (Text (codes "events_stages_history_long") ∷ Text (codes "NO") ∷ []) ∷ (Text (codes "events_statements_current") ∷ Text (codes "YES") ∷ [])
    ∷ (Text (codes "events_statements_history") ∷ Text (codes "YES") ∷ []) ∷ (Text (codes "events_statements_history_long") ∷ Text (codes "NO") ∷ [])
    ∷ (Text (codes "events_transactions_current") ∷ Text (codes "YES") ∷ []) ∷ (Text (codes "events_transactions_history") ∷ Text (codes "YES") ∷ [])
    ∷ (Text (codes "events_transactions_history_long") ∷ Text (codes "NO") ∷ []) ∷ (Text (codes "events_waits_current") ∷ Text (codes "NO") ∷ [])
    ∷ (Text (codes "events_waits_history") ∷ Text (codes "NO") ∷ []) ∷ (Text (codes "events_waits_history_long") ∷ Text (codes "NO") ∷ [])
    ∷ (Text (codes "global_instrumentation") ∷ Text (codes "YES") ∷ []) ∷ (Text (codes "thread_instrumentation") ∷ Text (codes "YES") ∷ [])
    ∷ (Text (codes "statements_digest") ∷ Text (codes "YES") ∷ []) ∷ []
unfolding plain_rows_of consumer_rows
example_consumers setting = refl
