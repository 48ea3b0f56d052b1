-- What any table shows.
use Rattle.std.specs.Prelude.{List}
use Rattle.pfs_rows.specs.declared.table.Table.{Table}
use Rattle.pfs_rows.specs.declared.table.Table.TheVariants.{SetupActors, SetupObjects, SetupInstruments, SetupConsumers, Threads, Accounts, Users, Hosts, Events, Summary, DigestSummary}
use Rattle.pfs_rows.specs.declared.table.Reading.{Reading}
use Rattle.pfs_classes.specs.declared.setting.Setting.{Setting}
use Rattle.pfs_summaries.specs.DigestRows.{digests_of}
use Rattle.pfs_summaries.specs.Summaries.{summary_rows_of}
use Rattle.pfs_tables.specs.PlaceTables.{plain_rows_of}
use Rattle.pfs_text.specs.declared.values.RowValue.{RowValue}

-- What the table shows by the readings. The rows of actors and objects are shown as they stand at their action, and
-- come from no reading
abbrev pub listed_rows : Setting → Table → List Reading → List (List RowValue)
listed_rows setting (Summary kind which) readings = summary_rows_of setting kind which readings
listed_rows setting DigestSummary readings = digests_of setting readings
listed_rows setting SetupActors readings = plain_rows_of setting SetupActors readings
listed_rows setting SetupObjects readings = plain_rows_of setting SetupObjects readings
listed_rows setting SetupInstruments readings = plain_rows_of setting SetupInstruments readings
listed_rows setting SetupConsumers readings = plain_rows_of setting SetupConsumers readings
listed_rows setting Threads readings = plain_rows_of setting Threads readings
listed_rows setting Accounts readings = plain_rows_of setting Accounts readings
listed_rows setting Users readings = plain_rows_of setting Users readings
listed_rows setting Hosts readings = plain_rows_of setting Hosts readings
listed_rows setting (Events kind which) readings = plain_rows_of setting (Events kind which) readings
