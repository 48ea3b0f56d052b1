-- The tables at a phase's end.
use Rattle.std.specs.Prelude.{◌≡◌, ℕ, ◌==◌, not, Bool, true, false, if◌then◌else◌, List, [], ◌∷◌, ◌++◌, All, filter, length, map, slice_index_or}
use Rattle.std.specs.List.{flat_map}
use Rattle.pfs_rows.specs.declared.table.Reading.{Reading}
use Rattle.pfs_rows.specs.declared.table.EventTable.TheVariants.{Current, History, HistoryLong}
use Rattle.pfs_rows.specs.declared.table.SummaryTable.{SummaryTable}
use Rattle.pfs_rows.specs.declared.table.SummaryTable.TheVariants.{ByThread, ByAccount, ByUser, ByHost, Global}
use Rattle.pfs_rows.specs.declared.table.Table.{Table}
use Rattle.pfs_rows.specs.declared.table.Table.TheVariants.{SetupActors, SetupObjects, SetupInstruments, SetupConsumers, Threads, Accounts, Users, Hosts, Events, Summary, DigestSummary}
use Rattle.pfs_rows.specs.declared.table.TableKind.{TableKind}
use Rattle.pfs_rows.specs.declared.table.TableKind.TheVariants.{Waits, Stages, Statements, Transactions}
use Rattle.pfs_rows.specs.Tables.{table_name}
use Rattle.pfs_classes.specs.declared.setting.Setting.{Setting}
use Rattle.pfs_journal.specs.declared.values.TableReport.{TableReport}
use Rattle.pfs_levels.specs.Calls.{Call, Goes, Opening}
use Rattle.pfs_reader.specs.Readings.{calls_of, IsFront}
use Rattle.pfs_readsets.specs.TablePlaces.{scope_of}
use Rattle.pfs_readsets.specs.ReadSets.{IsReadSet}
use Rattle.pfs_tables.specs.ListedRows.{listed_rows}
use Rattle.pfs_text.specs.declared.values.RowValue.{RowValue}
use Rattle.pfs_text.specs.declared.values.RowValue.TheVariants.{Null, Number, Text}

-- the tables that a report may show, in its order: a kind's event tables stand together, then a kind's summaries, and
-- that of digests is the last
abbrev pub events_of : TableKind → List Table
events_of kind = Events kind Current ∷ Events kind History ∷ Events kind HistoryLong ∷ []

abbrev pub summaries_of : TableKind → List Table
summaries_of kind =
    Summary kind ByThread ∷ Summary kind ByAccount ∷ Summary kind ByUser ∷ Summary kind ByHost ∷ Summary kind Global
    ∷ []

abbrev pub final_order : List Table
final_order =
    Threads ∷ Accounts ∷ Users ∷ Hosts ∷ []
    ++ (events_of Waits ++ (events_of Stages ++ (events_of Statements ++ (events_of Transactions
    ++ (summaries_of Waits ++ (summaries_of Stages ++ (summaries_of Statements
    ++ (summaries_of Transactions ++ DigestSummary ∷ []))))))))

-- where a summary's rows have COUNT_STAR: behind whose row it is and the class's name
abbrev pub count_place : SummaryTable → ℕ
count_place ByThread = 2
count_place ByAccount = 3
count_place ByUser = 2
count_place ByHost = 2
count_place Global = 1

abbrev pub is_zero : RowValue → Bool
is_zero Null = false
is_zero (Number number) = number == 0
is_zero (Text text) = false

abbrev pub is_zero_at : List RowValue → ℕ → Bool
is_zero_at row place = is_zero (slice_index_or row place Null)

-- a row of a summary stands but where its COUNT_STAR is 0; COUNT_STAR of a digest stands behind three texts
abbrev pub is_shown : Table → List RowValue → Bool
is_shown (Summary kind which) row = not (is_zero_at row (count_place which))
is_shown DigestSummary row = not (is_zero_at row 3)
is_shown SetupActors row = true
is_shown SetupObjects row = true
is_shown SetupInstruments row = true
is_shown SetupConsumers row = true
is_shown Threads row = true
is_shown Accounts row = true
is_shown Users row = true
is_shown Hosts row = true
is_shown (Events kind which) row = true

-- the rows of a table in a report, by the readings of it
abbrev pub shown_rows : Setting → Table → List Reading → List (List RowValue)
shown_rows setting table readings = filter (is_shown table) (listed_rows setting table readings)

-- a table stands where it has rows
abbrev pub table_if : Table → List (List RowValue) → List TableReport
table_if table rows = if length rows == 0 then [] else record { name = table_name table; rows = rows } ∷ []

-- a table and what was read of it
pub record TableRead : Type 0 where
  pub table : Table
  pub readings : List Reading

abbrev pub table_read : Table → List Reading → TableRead
table_read table readings = record { table = table; readings = readings }

abbrev pub table_report : Setting → TableRead → List TableReport
table_report setting read = table_if read.table (shown_rows setting read.table read.readings)

-- all readings, table after table
abbrev pub all_readings : List TableRead → List Reading
all_readings reads = flat_map (λ (read : TableRead). read.readings) reads

-- a table was read and, where it has rows, put behind the others
pub record IsPut (setting : Setting) (table : Table) (old new : List TableReport) (was now : Opening → List Call
    → Type 0) : Type 0 where
  pub readings : List Reading
  pub read : IsReadSet (scope_of setting) table readings
  pub calls : Goes was now (calls_of readings)
  pub put : new ≡ old ++ table_report setting (table_read table readings)

-- the tables of this order were read one after another, each its read set, and no more was asked of the store; and
-- these are those that have rows
pub record AreShown (setting : Setting) (order : List Table) (tables : List TableReport) (was now : Opening → List Call
    → Type 0) : Type 0 where
  pub reads : List TableRead
  pub order_is : map (λ (read : TableRead). read.table) reads ≡ order
  pub each : All (λ (read : TableRead). IsReadSet (scope_of setting) read.table read.readings) reads
  pub calls : Goes was now (calls_of (all_readings reads))
  pub tables_are : tables ≡ flat_map (table_report setting) reads

-- and so of those at a phase's end
abbrev pub AreFinal : Setting → List TableReport → (Opening → List Call → Type 0) → (Opening → List Call → Type 0)
    → Type 0
AreFinal setting tables was now = AreShown setting final_order tables was now

-- of a table some of the first readings were made, maybe all, and no more was asked of the store
abbrev pub IsReadInPart : Setting → Table → (Opening → List Call → Type 0) → (Opening → List Call → Type 0) → Type 0
IsReadInPart setting table was now =
    (readings : List Reading) × IsFront (scope_of setting) table readings × Goes was now (calls_of readings)

-- the tables before one of this order were read, and that one in part, and no more was asked of the store
pub record AreReadInPart (setting : Setting) (order : List Table) (was now : Opening → List Call → Type 0) : Type 0 where
  pub reads : List TableRead
  pub table : Table
  pub behind : List Table
  pub readings : List Reading
  pub order_is : order ≡ map (λ (read : TableRead). read.table) reads ++ table ∷ behind
  pub each : All (λ (read : TableRead). IsReadSet (scope_of setting) read.table read.readings) reads
  pub front : IsFront (scope_of setting) table readings
  pub calls : Goes was now (calls_of (all_readings reads ++ readings))
