-- The truncation of a table is the one whose table it is.
use Rattle.std.proofs.Common.{◌≡◌, Option, Some, refl, sym, ap, ◌∙◌}
use Rattle.pfs_rows.specs.declared.table.Table.{Table}
use Rattle.pfs_rows.specs.declared.table.Table.TheVariants as tables
use Rattle.pfs_rows.specs.TruncationTables.{TableLaw, table_of, truncation_on}
use Rattle.pfs_rows.specs.declared.truncations.Truncation.{Truncation}
use Rattle.pfs_rows.specs.declared.truncations.Truncation.TheVariants.{Events, Summary, DigestSummary, Accounts, Users, Hosts, SetupActors, SetupObjects}

-- each truncation is the one of its table
of_its_table : (what : Truncation) → truncation_on (table_of what) ≡ Some what
of_its_table (Events kind table) = refl
of_its_table (Summary kind table) = refl
of_its_table DigestSummary = refl
of_its_table Accounts = refl
of_its_table Users = refl
of_its_table Hosts = refl
of_its_table SetupActors = refl
of_its_table SetupObjects = refl

one_table : (a b : Truncation) → ◌≡◌ {A = Option Truncation} (Some a) (Some b) → table_of a ≡ table_of b
one_table a b e = let same : a ≡ b = cc in ap table_of same

its_table : (table : Table) (what : Truncation) → truncation_on table ≡ Some what → table_of what ≡ table
its_table (tables.Summary kind table) what e = sym (one_table (Summary kind table) what e)
its_table (tables.Events kind table) what e = sym (one_table (Events kind table) what e)
its_table tables.DigestSummary what e = sym (one_table DigestSummary what e)
its_table tables.Accounts what e = sym (one_table Accounts what e)
its_table tables.Users what e = sym (one_table Users what e)
its_table tables.Hosts what e = sym (one_table Hosts what e)
its_table tables.SetupActors what e = sym (one_table SetupActors what e)
its_table tables.SetupObjects what e = sym (one_table SetupObjects what e)
its_table tables.SetupInstruments what e = absurd cc
its_table tables.SetupConsumers what e = absurd cc
its_table tables.Threads what e = absurd cc

pub law : TableLaw
law = record { its_table = its_table; found = λ table what e. ap truncation_on (sym e) ∙ of_its_table what }
