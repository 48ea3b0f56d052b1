-- What a text asks for, by the command that it says.
use Rattle.std.proofs.Common.{◌≡◌, ◌≢◌, ◌⊎◌, ℕ, Bool, true, false, not, cond, List, Option, Some, None, refl, sym, ap, ◌∙◌, inl, inr}
use Rattle.std.specs.Prelude.{is_some}
use Rattle.pfs_catalogue.specs.TableCommands.{is_allowed}
use Rattle.pfs_catalogue.specs.LetterCases.{IsTableName}
use Rattle.pfs_catalogue.specs.declared.commands.CommandKind.TheVariants as kinds
use Rattle.pfs_exec.specs.declared.changes.Change.TheVariants as changes
use Rattle.pfs_exec.specs.Plans.{IsUnknownTable, fault_of, plan_of, table_text}
use Rattle.pfs_exec.specs.declared.query.Plan.{Plan}
use Rattle.pfs_exec.specs.declared.query.Plan.TheVariants.{Select as PlanSelect, Change as PlanChange}
use Rattle.pfs_exec.specs.declared.query.Select.{Select as Query}
use Rattle.pfs_rows.specs.declared.table.Table.{Table}
use Rattle.pfs_rows.specs.declared.table.Table.TheVariants as tables
use Rattle.pfs_sql.specs.Grammar.{Says}
use Rattle.pfs_sql.specs.declared.command.Command.{Command}
use Rattle.pfs_sql.specs.declared.command.Command.TheVariants.{Select, Update, Insert, Delete, Truncate}
use Rattle.pfs_sql.specs.declared.faults.SqlError.{SqlError}
use Rattle.pfs_sql.specs.declared.faults.SqlError.TheVariants.{Parse, NoSuchTable, CommandDenied}
use Rattle.pfs_rows.specs.TruncationTables.{table_of, truncation_on}
use Rattle.pfs_rows.specs.declared.truncations.Truncation.{Truncation}
use Rattle.pfs_rows.proofs.TableTruncations.{law}
use Rattle.pfs_exec.specs.RequestLaws.{Plans, RequestsLaw, TruncatedLaw}
use Rattle.pfs_exec.specs.Requests.{asks_on, asks_plan, asks_rows, refused, request_of, truncating, unless}
use Rattle.pfs_exec.specs.declared.requests.Request.TheVariants as requests
use Rattle.pfs_exec.proofs.PlanRequests.{OneTable, no_table, not_said, on_table, said}

pub truncated : TruncatedLaw
truncated tables.SetupActors = refl
truncated tables.SetupObjects = refl
truncated tables.SetupInstruments = refl
truncated tables.SetupConsumers = refl
truncated tables.Threads = refl
truncated tables.Accounts = refl
truncated tables.Users = refl
truncated tables.Hosts = refl
truncated (tables.Events kind table) = refl
truncated (tables.Summary kind table) = refl
truncated tables.DigestSummary = refl

-- what is planned is asked for
planned_asked : OneTable → (text : List ℕ) (table : Table) (plan : Plan) → Plans text table plan → request_of text ≡ asks_plan plan
planned_asked one text table plan p =
    sym (on_table one text p.command table p.said p.named)
    ∙ (ap (λ o. unless o table p.command) p.faultless ∙ ap asks_plan p.planned)

-- the rows that a SELECT reads are those of its table
select_table : (table : Table) (command : Command) (select : Query) → plan_of table command ≡ PlanSelect select → select.table ≡ table
select_table table (Select c) select e = ap table_planned (sym e) where
  table_planned : Plan → Table
  table_planned (PlanSelect select) = select.table
  table_planned (PlanChange change) = table
select_table table (Update c) select e = absurd cc
select_table table (Insert c) select e = absurd cc
select_table table (Delete c) select e = absurd cc
select_table table (Truncate c) select e = absurd cc

selected : OneTable → (text : List ℕ) (table : Table) (select : Query) → Plans text table (PlanSelect select) → request_of text ≡ asks_rows table select
selected one text table select p =
    planned_asked one text table (PlanSelect select) p
    ∙ ap (λ t. asks_rows t select) (select_table table p.command select p.planned)

shown : (table : Table) (select : Query) → (table ≡ tables.SetupActors) ⊎ (table ≡ tables.SetupObjects) → asks_rows table select ≡ requests.Show select
shown table select (inl e) = ap (λ t. asks_rows t select) e
shown table select (inr e) = ap (λ t. asks_rows t select) e

queried : (table : Table) (select : Query) → table ≢ tables.SetupActors → table ≢ tables.SetupObjects → asks_rows table select ≡ requests.Query select
queried tables.SetupActors select a b = absurd (a refl)
queried tables.SetupObjects select a b = absurd (b refl)
queried tables.SetupInstruments select a b = refl
queried tables.SetupConsumers select a b = refl
queried tables.Threads select a b = refl
queried tables.Accounts select a b = refl
queried tables.Users select a b = refl
queried tables.Hosts select a b = refl
queried (tables.Events kind table) select a b = refl
queried (tables.Summary kind table) select a b = refl
queried tables.DigestSummary select a b = refl

-- a truncation that is planned is allowed, and of the command's table
allowed : (b : Bool) (rest : Option SqlError) → cond (not b) (Some CommandDenied) rest ≡ None → b ≡ true
allowed true rest e = refl
allowed false rest e = absurd cc

emptied_table : (table : Table) (command : Command) (emptied : Table) → fault_of table command ≡ None → plan_of table command ≡ PlanChange (changes.Truncate emptied)
    → (is_allowed table kinds.Truncate ≡ true) × (emptied ≡ table)
emptied_table table (Truncate c) emptied faultless e = (allowed (is_allowed table kinds.Truncate) _ faultless, cc)
emptied_table table (Select c) emptied faultless e = absurd cc
emptied_table table (Update c) emptied faultless e = absurd cc
emptied_table table (Insert c) emptied faultless e = absurd cc
emptied_table table (Delete c) emptied faultless e = absurd cc

some_truncation : (o : Option Truncation) → is_some o ≡ true → (what : Truncation) × (o ≡ Some what)
some_truncation None e = absurd cc
some_truncation (Some what) e = (what, refl)

truncates : OneTable → (text : List ℕ) (table emptied : Table) → Plans text table (PlanChange (changes.Truncate emptied))
    → (what : Truncation) × (request_of text ≡ requests.Truncate what) × (table_of what ≡ table)
truncates one text table emptied p =
    let t = emptied_table table p.command emptied p.faultless p.planned in
    let some = some_truncation (truncation_on table) (sym (truncated table) ∙ t.0) in (
      some.0,
      planned_asked one text table (PlanChange (changes.Truncate emptied)) p ∙ (ap (λ z. truncating (truncation_on z)) t.1 ∙ ap truncating some.1),
      law.its_table table some.0 some.1,
    )

unknown : (text : List ℕ) (command : Command) → Says text command → IsUnknownTable command → request_of text ≡ refused NoSuchTable
unknown text command s none = sym (said text command s) ∙ ap (λ o. asks_on o command) (no_table (table_text command) none)

faulty : OneTable → (text : List ℕ) (command : Command) (table : Table) (error : SqlError) → Says text command → IsTableName table (table_text command)
    → fault_of table command ≡ Some error → request_of text ≡ refused error
faulty one text command table error s is e = sym (on_table one text command table s is) ∙ ap (λ o. unless o table command) e

pub asked : OneTable → RequestsLaw
asked one = record {
  unread = λ text none. sym (not_said text Parse refl none);
  unknown = unknown;
  faulty = faulty one;
  truncates = truncates one;
  shows = λ text table select p rules. selected one text table select p ∙ shown table select rules;
  queries = λ text table select p actors objects. selected one text table select p ∙ queried table select actors objects;
  updates = λ text table update. planned_asked one text table (PlanChange (changes.Update update));
  inserts = λ text table insert. planned_asked one text table (PlanChange (changes.Insert insert));
  deletes = λ text table delete. planned_asked one text table (PlanChange (changes.Delete delete));
}
