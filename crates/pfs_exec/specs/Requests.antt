-- What a text of SQL asks for: it is read, planned on its table, and refused with the first reason that holds.
use Rattle.std.specs.Prelude.{ℕ, zero, suc, if◌then◌else◌, List, [], ◌∷◌, drop, length, Option, Some, None}
use Rattle.std.specs.List.{find, list_all, prefix_len}
use Rattle.pfs_catalogue.specs.LetterCases.{is_same_name, without_schema}
use Rattle.pfs_catalogue.specs.declared.tables.TheConstants.{TABLES}
use Rattle.pfs_exec.specs.declared.changes.Change.{Change}
use Rattle.pfs_exec.specs.declared.changes.Change.TheVariants.{Truncate, Update, Insert, Delete}
use Rattle.pfs_exec.specs.Plans.{fault_of, plan_of, table_text}
use Rattle.pfs_exec.specs.declared.query.Plan.{Plan}
use Rattle.pfs_exec.specs.declared.query.Plan.TheVariants.{Select as PlanSelect, Change as PlanChange}
use Rattle.pfs_exec.specs.declared.query.Select.{Select}
use Rattle.pfs_rows.specs.Tables.{table_name}
use Rattle.pfs_rows.specs.declared.table.Table.{Table}
use Rattle.pfs_rows.specs.declared.table.Table.TheVariants as tables
use Rattle.pfs_sql.specs.TextCuts.{token_of}
use Rattle.pfs_sql.specs.Errors.{number_of}
use Rattle.pfs_sql.specs.TokenReaders.{◌>>=◌, command_of}
use Rattle.pfs_sql.specs.Tokens.{is_blank}
use Rattle.pfs_sql.specs.declared.command.Command.{Command}
use Rattle.pfs_sql.specs.declared.faults.SqlError.{SqlError}
use Rattle.pfs_sql.specs.declared.faults.SqlError.TheVariants.{Parse, NoSuchTable}
use Rattle.pfs_sql.specs.declared.token.Token.{Token}
use Rattle.pfs_rows.specs.TruncationTables.{truncation_on}
use Rattle.pfs_rows.specs.declared.truncations.Truncation.{Truncation}
use Rattle.pfs_exec.specs.declared.requests.Request.{Request}
use Rattle.pfs_exec.specs.declared.requests.Request.TheVariants as requests

-- a text behind its blanks
abbrev pub skip : List ℕ → List ℕ
skip text = drop (prefix_len is_blank text) text

-- the tokens of a text, where it is made of tokens and blanks alone: of fewer than so many
unfoldable pub tokens_from : ℕ → List ℕ → Option (List Token)
tokens_from zero text = None
tokens_from (suc n) text = if list_all is_blank text then Some []
    else token_of (skip text) >>= λ x. tokens_from n x.1 >>= λ tokens. Some (x.0 ∷ tokens)

-- the command that a text says
unfoldable pub command_in : List ℕ → Option Command
command_in text = tokens_from (suc (length text)) text >>= command_of

-- the table of a name, with its schema or without
unfoldable pub table_in : List ℕ → Option Table
table_in name = find (λ table. is_same_name (table_name table) (without_schema name)) TABLES

abbrev pub refused : SqlError → Request
refused error = requests.Refused (number_of error)

abbrev pub truncating : Option Truncation → Request
truncating None = refused Parse
truncating (Some what) = requests.Truncate what

abbrev pub asks_change : Change → Request
asks_change (Truncate table) = truncating (truncation_on table)
asks_change (Update update) = requests.Update update
asks_change (Insert insert) = requests.Insert insert
asks_change (Delete delete) = requests.Delete delete

-- the rows of the two rule tables are the administration's own, those of every other table are read of the store
abbrev pub asks_rows : Table → Select → Request
asks_rows tables.SetupActors select = requests.Show select
asks_rows tables.SetupObjects select = requests.Show select
asks_rows _ select = requests.Query select

abbrev pub asks_plan : Plan → Request
asks_plan (PlanSelect select) = asks_rows select.table select
asks_plan (PlanChange change) = asks_change change

abbrev pub unless : Option SqlError → Table → Command → Request
unless (Some error) table command = refused error
unless None table command = asks_plan (plan_of table command)

abbrev pub asks_on : Option Table → Command → Request
asks_on None command = refused NoSuchTable
asks_on (Some table) command = unless (fault_of table command) table command

abbrev pub asks_for : Option Command → Request
asks_for None = refused Parse
asks_for (Some command) = asks_on (table_in (table_text command)) command

-- what a text asks for
unfoldable pub request_of : List ℕ → Request
request_of text = asks_for (command_in text)
