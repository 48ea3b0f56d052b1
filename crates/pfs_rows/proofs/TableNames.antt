-- A table is found by its name among all tables, so different tables have different names.
use Rattle.std.proofs.Common.{◌≡◌, ℕ, List, [], ◌∷◌, Option, Some, refl, sym, ap, ◌∙◌}
use Rattle.std.specs.List.{find}
use Rattle.std.specs.Str.{bytes_eq}
use Rattle.std.proofs.lemmas.Option.{same_Some}
use Rattle.pfs_rows.specs.declared.table.TableKind.TheVariants.{Waits, Stages, Statements, Transactions}
use Rattle.pfs_rows.specs.declared.table.EventTable.TheVariants.{Current, History, HistoryLong}
use Rattle.pfs_rows.specs.declared.table.SummaryTable.TheVariants.{ByThread, ByAccount, ByUser, ByHost, Global}
use Rattle.pfs_rows.specs.declared.table.Table.{Table}
use Rattle.pfs_rows.specs.declared.table.Table.TheVariants.{SetupActors, SetupObjects, SetupInstruments, SetupConsumers, Threads, Accounts, Users, Hosts, Events, Summary, DigestSummary}
use Rattle.pfs_rows.specs.Tables.{table_name}

abbrev pub all_tables : List Table
all_tables =
    SetupActors ∷
    SetupObjects ∷
    SetupInstruments ∷
    SetupConsumers ∷
    Threads ∷
    Accounts ∷
    Users ∷
    Hosts ∷
    Events Waits Current ∷
    Events Waits History ∷
    Events Waits HistoryLong ∷
    Events Stages Current ∷
    Events Stages History ∷
    Events Stages HistoryLong ∷
    Events Statements Current ∷
    Events Statements History ∷
    Events Statements HistoryLong ∷
    Events Transactions Current ∷
    Events Transactions History ∷
    Events Transactions HistoryLong ∷
    Summary Waits ByThread ∷
    Summary Waits ByAccount ∷
    Summary Waits ByUser ∷
    Summary Waits ByHost ∷
    Summary Waits Global ∷
    Summary Stages ByThread ∷
    Summary Stages ByAccount ∷
    Summary Stages ByUser ∷
    Summary Stages ByHost ∷
    Summary Stages Global ∷
    Summary Statements ByThread ∷
    Summary Statements ByAccount ∷
    Summary Statements ByUser ∷
    Summary Statements ByHost ∷
    Summary Statements Global ∷
    Summary Transactions ByThread ∷
    Summary Transactions ByAccount ∷
    Summary Transactions ByUser ∷
    Summary Transactions ByHost ∷
    Summary Transactions Global ∷
    DigestSummary ∷
    []

abbrev pub named : List ℕ → Option Table
named name = find (λ table. bytes_eq (table_name table) name) all_tables

named_back : (table : Table) → named (table_name table) ≡ Some table
named_back SetupActors = refl
named_back SetupObjects = refl
named_back SetupInstruments = refl
named_back SetupConsumers = refl
named_back Threads = refl
named_back Accounts = refl
named_back Users = refl
named_back Hosts = refl
named_back (Events Waits Current) = refl
named_back (Events Waits History) = refl
named_back (Events Waits HistoryLong) = refl
named_back (Events Stages Current) = refl
named_back (Events Stages History) = refl
named_back (Events Stages HistoryLong) = refl
named_back (Events Statements Current) = refl
named_back (Events Statements History) = refl
named_back (Events Statements HistoryLong) = refl
named_back (Events Transactions Current) = refl
named_back (Events Transactions History) = refl
named_back (Events Transactions HistoryLong) = refl
named_back (Summary Waits ByThread) = refl
named_back (Summary Waits ByAccount) = refl
named_back (Summary Waits ByUser) = refl
named_back (Summary Waits ByHost) = refl
named_back (Summary Waits Global) = refl
named_back (Summary Stages ByThread) = refl
named_back (Summary Stages ByAccount) = refl
named_back (Summary Stages ByUser) = refl
named_back (Summary Stages ByHost) = refl
named_back (Summary Stages Global) = refl
named_back (Summary Statements ByThread) = refl
named_back (Summary Statements ByAccount) = refl
named_back (Summary Statements ByUser) = refl
named_back (Summary Statements ByHost) = refl
named_back (Summary Statements Global) = refl
named_back (Summary Transactions ByThread) = refl
named_back (Summary Transactions ByAccount) = refl
named_back (Summary Transactions ByUser) = refl
named_back (Summary Transactions ByHost) = refl
named_back (Summary Transactions Global) = refl
named_back DigestSummary = refl

pub names_differ : (a b : Table) → table_name a ≡ table_name b → a ≡ b
names_differ a b e = same_Some a b (sym (named_back a) ∙ (ap named e ∙ named_back b))
