-- What is planned of a command is what its text asks for.
use Rattle.std.proofs.Common.{◌≡◌, ℕ, List, Option, Some, None, Ok, Err, refl, sym, ap, subst, ◌∙◌, inl, inr}
use Rattle.std.specs.Prelude.{MatchOption}
use Rattle.pfs_catalogue.proofs.TableLookups.{table_found}
use Rattle.pfs_catalogue.specs.LetterCases.{IsTableName}
use Rattle.pfs_exec.specs.Plans.{IsPlanned, fault_of, table_text}
use Rattle.pfs_exec.specs.declared.query.Plan.{Plan}
use Rattle.pfs_rows.specs.declared.table.Table.{Table}
use Rattle.pfs_sql.specs.Grammar.{Says}
use Rattle.pfs_sql.specs.declared.command.Command.{Command}
use Rattle.pfs_sql.specs.declared.faults.SqlError.{SqlError}
use Rattle.pfs_sql.specs.declared.faults.SqlError.TheVariants.{Parse, NoSuchTable}
use Rattle.pfs_sql.specs.declared.faults.SqlFault.TheVariants.{Error as Refused}
use Rattle.pfs_exec.specs.RequestLaws.{NamedLaw}
use Rattle.pfs_exec.specs.Requests.{asks_for, asks_on, asks_plan, refused, request_of, table_in, unless}
use Rattle.pfs_exec.proofs.CommandTexts.{command_said, none_said}

abbrev pub OneTable : Type 0
OneTable = (a b : Table) (name : List ℕ) → IsTableName a name → IsTableName b name → a ≡ b

found : (name : List ℕ) → MatchOption (table_in name) ((table : Table) → ¬ IsTableName table name) (λ table. IsTableName table name)
unfolding table_in
found name = table_found name (table_in name) refl

table_is : OneTable → (name : List ℕ) (table : Table) → IsTableName table name → table_in name ≡ Some table
table_is one name table is = on (table_in name) (found name) where
  on : (o : Option Table) → MatchOption o ((table : Table) → ¬ IsTableName table name) (λ table. IsTableName table name) → o ≡ Some table
  on None none = absurd (none table is)
  on (Some other) same = ap (λ z. Some z) (one other table name same is)

pub no_table : (name : List ℕ) → ((table : Table) → ¬ IsTableName table name) → table_in name ≡ None
no_table name none = on (table_in name) (found name) where
  on : (o : Option Table) → MatchOption o ((table : Table) → ¬ IsTableName table name) (λ table. IsTableName table name) → o ≡ None
  on None unknown = refl
  on (Some other) same = absurd (none other same)

named_so : (name : List ℕ) (o : Option Table) → MatchOption o ((table : Table) → ¬ IsTableName table name) (λ table. IsTableName table name)
    → (table : Table) → o ≡ Some table → IsTableName table name
named_so name None h table e = absurd cc
named_so name (Some other) h table e = let same : other ≡ table = cc in subst (λ t. IsTableName t name) same h

-- the table that is found is the one that has the name
pub named : OneTable → NamedLaw
named one = record { named = λ name table. named_so name (table_in name) (found name) table; found = table_is one }

pub not_said : (text : List ℕ) (error : SqlError) → error ≡ Parse → ((command : Command) → ¬ Says text command) → refused error ≡ request_of text
unfolding request_of
not_said text error e none = ap refused e ∙ sym (ap asks_for (none_said text none))

pub said : (text : List ℕ) (command : Command) → Says text command → asks_on (table_in (table_text command)) command ≡ request_of text
unfolding request_of
said text command s = sym (ap asks_for (command_said text command s))

pub on_table : OneTable → (text : List ℕ) (command : Command) (table : Table) → Says text command → IsTableName table (table_text command)
    → unless (fault_of table command) table command ≡ request_of text
on_table one text command table s is = sym (ap (λ o. asks_on o command) (table_is one (table_text command) table is)) ∙ said text command s

pub planned : OneTable → (text : List ℕ) (command : Command) (plan : Plan) → Says text command → IsPlanned command (Ok plan) → asks_plan plan ≡ request_of text
planned one text command plan s (inl none) = absurd cc
planned one text command plan s (inr p) =
    ap asks_plan p.2.1 ∙ (sym (ap (λ o. unless o p.0 command) p.2.0) ∙ on_table one text command p.0 s p.1)

pub not_planned : OneTable → (text : List ℕ) (command : Command) (error : SqlError) → Says text command → IsPlanned command (Err (Refused error)) → refused error ≡ request_of text
not_planned one text command error s (inl none) =
    let same : error ≡ NoSuchTable = cc in
    ap refused same ∙ (sym (ap (λ o. asks_on o command) (no_table (table_text command) none.0)) ∙ said text command s)
not_planned one text command error s (inr p) = sym (ap (λ o. unless o p.0 command) p.2) ∙ on_table one text command p.0 s p.1
