-- Every table shows rows that a report can have, whatever is read of it.
use Rattle.std.proofs.Common.{ℕ, ◌≡◌, ◌-◌, Bool, true, false, cond, List, [], ◌∷◌, map, refl}
use Rattle.std.specs.Prelude.{◌==◌, nat_le, option_map}
use Rattle.std.specs.List.{All, AllByRecursion, list_all}
use Rattle.std.specs.Option.{IfSome}
use Rattle.std.specs.Int.{bit_at}
use Rattle.std.specs.Map.{values_of}
use Rattle.std.proofs.lemmas.List.Elements.{All-from_recursion}
use Rattle.pfs_classes.specs.declared.setting.DigestText.{DigestText}
use Rattle.pfs_classes.specs.declared.setting.Setting.{Setting}
use Rattle.pfs_classes.specs.Registry.{class_at}
use Rattle.pfs_consumers.specs.declared.Consumer.{Consumer}
use Rattle.pfs_consumers.specs.declared.Consumer.TheVariants.{StagesCurrent}
use Rattle.pfs_consumers.specs.Tree.{is_on, name_of}
use Rattle.pfs_journal.specs.Reports.{IsRow, IsText, IsValue, is_text_byte}
use Rattle.pfs_rows.specs.declared.table.Reading.{Reading}
use Rattle.pfs_rows.specs.declared.table.Table.{Table}
use Rattle.pfs_rows.specs.declared.table.Table.TheVariants.{SetupActors, SetupObjects, SetupInstruments, SetupConsumers, Threads, Accounts, Users, Hosts, Events, Summary, DigestSummary}
use Rattle.pfs_summaries.proofs.PutOrder.{weaker}
use Rattle.pfs_tables.specs.EventRows.{class_name}
use Rattle.pfs_tables.specs.TableOrders.{number_key}
use Rattle.pfs_tables.specs.PlaceTables.{class_row, class_values, consumer_row, consumer_rows, consumers, words_row}
use Rattle.pfs_tables.specs.ListedRows.{listed_rows}
use Rattle.pfs_text.specs.declared.values.RowValue.{RowValue}
use Rattle.pfs_law_report.proofs.FinalTables.{IsLegible, IsLegibleRow, IsPlainGood, accounts, class_named, digests_good, events, flag_text, hosts, listed, mapped_if, passed, plain_good, summary_good, tested, threads, users}
use Rattle.pfs_law_report.specs.ReportableRuns.{IsNamedTable}

-- the name of a consumer
consumer_tested : (consumer : Consumer) → list_all is_text_byte (name_of consumer) ≡ true
consumer_tested StagesCurrent = refl
consumer_tested _ = refl

consumer_text : (consumer : Consumer) → IsText (name_of consumer)
consumer_text consumer = passed is_text_byte (name_of consumer) (consumer_tested consumer)

each_consumer_good : (flags : ℕ) (which : List Consumer)
    → AllByRecursion IsLegible (values_of (map (consumer_row flags) which))
each_consumer_good flags [] = tt
each_consumer_good flags (consumer ∷ which) = (
  (
    consumer_text consumer,
    (flag_text (is_on flags consumer), tt),
  ),
  each_consumer_good flags which,
)

consumers_good : (word flags : ℕ) → AllByRecursion IsLegible (values_of (consumer_rows word flags))
unfolding consumer_rows
consumers_good word flags = at (word == 0)
  where
    at : (first : Bool) → AllByRecursion IsLegible (values_of (cond first (map (consumer_row flags) consumers) []))
    at true = each_consumer_good flags consumers
    at false = tt

module _ (setting : Setting) (all : All IsText setting.names)
    (texts : All (λ (digest : DigestText). IsText digest.text) setting.digests)
    (named : All IsNamedTable setting.tables) where
  class_good : (word flags : ℕ) → IfSome (class_row setting word flags) IsLegibleRow
  unfolding class_row
  class_good word flags =
      tested IsLegibleRow (nat_le 33 word) (option_map
      (λ name. (number_key (word - 33) 0 word, class_values flags name)) (class_name setting (word - 33)))
      (mapped_if IsText IsLegibleRow (λ name. (number_key (word - 33) 0 word, class_values flags name))
      (class_name setting (word - 33)) (class_named setting all texts named
      (class_at setting.classes (word - 33)))
      (λ name n. (n, (flag_text (bit_at flags 0 == 1), (flag_text (bit_at flags 1 == 1), tt)))))

  setup_instruments : IsPlainGood setting all SetupInstruments
  unfolding words_row
  setup_instruments = record {
    words = λ readings row words. tt;
    loads = λ word flags. listed IsLegible
        (class_row setting word flags) (class_good word flags);
  }

  setup_consumers : IsPlainGood setting all SetupConsumers
  unfolding words_row
  setup_consumers = record { words = λ readings row words. tt; loads = λ word flags. consumers_good word flags }

  -- no reading gives a row of the rule tables
  setup_actors : IsPlainGood setting all SetupActors
  unfolding words_row
  setup_actors = record { words = λ readings row words. tt; loads = λ word flags. tt }

  setup_objects : IsPlainGood setting all SetupObjects
  unfolding words_row
  setup_objects = record { words = λ readings row words. tt; loads = λ word flags. tt }

  listed_legible : (table : Table) (readings : List Reading)
      → AllByRecursion IsLegible (listed_rows setting table readings)
  listed_legible (Summary kind which) readings = summary_good setting all kind which readings
  listed_legible DigestSummary readings = digests_good setting texts readings
  listed_legible SetupActors readings = plain_good setting all SetupActors setup_actors readings
  listed_legible SetupObjects readings = plain_good setting all SetupObjects setup_objects readings
  listed_legible SetupInstruments readings = plain_good setting all SetupInstruments setup_instruments readings
  listed_legible SetupConsumers readings = plain_good setting all SetupConsumers setup_consumers readings
  listed_legible Threads readings = plain_good setting all Threads (threads setting all) readings
  listed_legible Accounts readings = plain_good setting all Accounts (accounts setting all) readings
  listed_legible Users readings = plain_good setting all Users (users setting all) readings
  listed_legible Hosts readings = plain_good setting all Hosts (hosts setting all) readings
  listed_legible (Events kind which) readings = plain_good setting all (Events kind which)
      (events setting all texts named kind which) readings

-- values that are so one by one are so together
pub rows_good : (rows : List (List RowValue)) → AllByRecursion IsLegible rows → All IsRow rows
rows_good rows legible = All-from_recursion IsRow rows
    (weaker IsLegible IsRow (All-from_recursion IsValue) rows legible)

pub listed_good : (setting : Setting) → All IsText setting.names
    → All (λ (digest : DigestText). IsText digest.text) setting.digests → All IsNamedTable setting.tables
    → (table : Table) (readings : List Reading)
    → All IsRow (listed_rows setting table readings)
listed_good setting all texts named table readings = rows_good (listed_rows setting table readings)
    (listed_legible setting all texts named table readings)
