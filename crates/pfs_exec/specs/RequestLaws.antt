-- What texts ask for, in words of the grammar, of the catalogue and of the plan.
use Rattle.std.specs.Prelude.{◌≡◌, ◌≢◌, ℕ, ◌⊎◌, List, Some, None, All, Contains, is_some}
use Rattle.pfs_catalogue.specs.TableCommands.{is_allowed}
use Rattle.pfs_catalogue.specs.LetterCases.{IsTableName}
use Rattle.pfs_catalogue.specs.declared.commands.CommandKind.TheVariants as kinds
use Rattle.pfs_exec.specs.declared.changes.Change.TheVariants.{Truncate, Update, Insert, Delete}
use Rattle.pfs_exec.specs.declared.changes.Delete.{Delete as DeleteChange}
use Rattle.pfs_exec.specs.declared.changes.Insert.{Insert as InsertChange}
use Rattle.pfs_exec.specs.declared.changes.NewRow.{NewRow}
use Rattle.pfs_exec.specs.declared.changes.NewRow.TheVariants.{Actor, Object}
use Rattle.pfs_exec.specs.declared.changes.Update.{Update as UpdateChange}
use Rattle.pfs_exec.specs.Plans.{IsUnknownTable, fault_of, plan_of, table_text}
use Rattle.pfs_exec.specs.declared.query.Plan.{Plan}
use Rattle.pfs_exec.specs.declared.query.Plan.TheVariants.{Select as PlanSelect, Change as PlanChange}
use Rattle.pfs_exec.specs.declared.query.Select.{Select}
use Rattle.pfs_rows.specs.declared.table.Table.{Table}
use Rattle.pfs_rows.specs.declared.table.Table.TheVariants.{SetupActors, SetupObjects}
use Rattle.pfs_sql.specs.Errors.{number_of}
use Rattle.pfs_sql.specs.Grammar.{Says}
use Rattle.pfs_sql.specs.declared.command.Command.{Command}
use Rattle.pfs_sql.specs.declared.faults.SqlError.{SqlError}
use Rattle.pfs_sql.specs.declared.faults.SqlError.TheVariants.{Parse, NoSuchTable}
use Rattle.pfs_rows.specs.TruncationTables.{table_of, truncation_on}
use Rattle.pfs_rows.specs.declared.truncations.Truncation.{Truncation}
use Rattle.pfs_exec.specs.Requests.{request_of, table_in}
use Rattle.pfs_exec.specs.declared.requests.Request.TheVariants as requests

-- the catalogue allows a TRUNCATE of just the tables that have a truncation
abbrev pub TruncatedLaw : Type 0
TruncatedLaw = (table : Table) → is_allowed table kinds.Truncate ≡ is_some (truncation_on table)

-- the table that is found by a name is the one that has it, and it is found wherever there is one
pub record NamedLaw : Type 0 where
  pub named : (name : List ℕ) (table : Table) → table_in name ≡ Some table → IsTableName table name
  pub found : (name : List ℕ) (table : Table) → IsTableName table name → table_in name ≡ Some table

-- the text says a command on this table that has no fault and is planned so
pub record Plans (text : List ℕ) (table : Table) (plan : Plan) : Type 0 where
  pub command : Command
  pub said : Says text command
  pub named : IsTableName table (table_text command)
  pub faultless : fault_of table command ≡ None
  pub planned : plan_of table command ≡ plan

-- what each text asks for
pub record RequestsLaw : Type 0 where
  -- a text that says no command is refused: it can't be read
  pub unread : (text : List ℕ) → ((command : Command) → ¬ Says text command)
      → request_of text ≡ requests.Refused (number_of Parse)
  -- one whose table there isn't: there is no such table
  pub unknown : (text : List ℕ) (command : Command) → Says text command → IsUnknownTable command
      → request_of text ≡ requests.Refused (number_of NoSuchTable)
  -- one with a fault on its table: by the fault's number
  pub faulty : (text : List ℕ) (command : Command) (table : Table) (error : SqlError) → Says text command
      → IsTableName table (table_text command) → fault_of table command ≡ Some error
      → request_of text ≡ requests.Refused (number_of error)
  -- one that is planned as a truncation truncates the table that it names
  pub truncates : (text : List ℕ) (table emptied : Table) → Plans text table (PlanChange (Truncate emptied))
      → (what : Truncation) × (request_of text ≡ requests.Truncate what) × (table_of what ≡ table)
  -- a SELECT on one of the rule tables is shown
  pub shows : (text : List ℕ) (table : Table) (select : Select) → Plans text table (PlanSelect select)
      → (table ≡ SetupActors) ⊎ (table ≡ SetupObjects) → request_of text ≡ requests.Show select
  -- a SELECT on any other table is read of the store
  pub queries : (text : List ℕ) (table : Table) (select : Select) → Plans text table (PlanSelect select)
      → table ≢ SetupActors → table ≢ SetupObjects → request_of text ≡ requests.Query select
  -- an UPDATE, an INSERT and a DELETE are those of the plan
  pub updates : (text : List ℕ) (table : Table) (update : UpdateChange)
      → Plans text table (PlanChange (Update update)) → request_of text ≡ requests.Update update
  pub inserts : (text : List ℕ) (table : Table) (insert : InsertChange)
      → Plans text table (PlanChange (Insert insert)) → request_of text ≡ requests.Insert insert
  pub deletes : (text : List ℕ) (table : Table) (delete : DeleteChange)
      → Plans text table (PlanChange (Delete delete)) → request_of text ≡ requests.Delete delete

-- the fact holds of each text of a new row; the kind of an object is no text
abbrev pub EachText : (List ℕ → Type 0) → NewRow → Type 0
EachText P (Actor row) = P row.host × P row.user × P row.role
EachText P (Object row) = P row.schema × P row.name

-- each byte of a new row's texts is a byte of the text that asks for it, or `%`
abbrev pub RowLaw : Type 0
RowLaw = (text : List ℕ) (insert : InsertChange) → request_of text ≡ requests.Insert insert
    → EachText (All (λ b. Contains text b ⊎ (b ≡ 37))) insert.row
