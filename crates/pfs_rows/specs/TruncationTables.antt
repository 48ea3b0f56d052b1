-- The tables that are truncated.
use Rattle.std.specs.Prelude.{◌≡◌, Option, Some, None}
use Rattle.pfs_rows.specs.declared.table.Table.{Table}
use Rattle.pfs_rows.specs.declared.table.Table.TheVariants as tables
use Rattle.pfs_rows.specs.declared.truncations.Truncation.{Truncation}
use Rattle.pfs_rows.specs.declared.truncations.Truncation.TheVariants.{Events, Summary, DigestSummary, Accounts, Users, Hosts, SetupActors, SetupObjects}

abbrev pub table_of : Truncation → Table
table_of (Events kind table) = tables.Events kind table
table_of (Summary kind table) = tables.Summary kind table
table_of DigestSummary = tables.DigestSummary
table_of Accounts = tables.Accounts
table_of Users = tables.Users
table_of Hosts = tables.Hosts
table_of SetupActors = tables.SetupActors
table_of SetupObjects = tables.SetupObjects

-- the truncation of a table, none where it isn't truncated
abbrev pub truncation_on : Table → Option Truncation
truncation_on (tables.Summary kind table) = Some (Summary kind table)
truncation_on (tables.Events kind table) = Some (Events kind table)
truncation_on tables.DigestSummary = Some DigestSummary
truncation_on tables.Accounts = Some Accounts
truncation_on tables.Users = Some Users
truncation_on tables.Hosts = Some Hosts
truncation_on tables.SetupActors = Some SetupActors
truncation_on tables.SetupObjects = Some SetupObjects
truncation_on tables.SetupInstruments = None
truncation_on tables.SetupConsumers = None
truncation_on tables.Threads = None

-- the truncation of a table is the one whose table it is: it has no other, and each truncation is its table's
pub record TableLaw : Type 0 where
  pub its_table : (table : Table) (what : Truncation) → truncation_on table ≡ Some what → table_of what ≡ table
  pub found : (table : Table) (what : Truncation) → table_of what ≡ table → truncation_on table ≡ Some what
