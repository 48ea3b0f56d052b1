-- The lines of a script as the journals of its sessions go by them.
use Rattle.std.specs.Prelude.{ℕ, ◌-◌, ◌%◌, ◌^◌, List, [], ◌∷◌, ◌++◌, map, slice_get, Option, Some, None, unwrap_or}
use Rattle.std.specs.List.{flat_map, slice_index_or}
use Rattle.pfs_admin.specs.declared.changes.Change.{Change}
use Rattle.pfs_admin.specs.declared.changes.Change.TheVariants as changes
use Rattle.pfs_admin.specs.declared.changes.SetupStatement.TheVariants as statements
use Rattle.pfs_board.specs.declared.view.Label.{Label}
use Rattle.pfs_classes.specs.declared.classes.ClassRef.{ClassRef}
use Rattle.pfs_classes.specs.declared.classes.ClassRef.TheVariants as refs
use Rattle.pfs_event.specs.declared.kind.EventKind.TheVariants as kinds
use Rattle.pfs_model.specs.Contents.{Facts}
use Rattle.pfs_model.specs.declared.lines.Line.{Line}
use Rattle.pfs_model.specs.declared.lines.Line.TheVariants as told
use Rattle.pfs_model.specs.declared.lines.Subject.{Subject}
use Rattle.pfs_exec.specs.Requests.{request_of}
use Rattle.pfs_exec.specs.declared.requests.Request.{Request}
use Rattle.pfs_exec.specs.declared.requests.Request.TheVariants as requests
use Rattle.pfs_script.specs.declared.blocks.Access.{Access}
use Rattle.pfs_script.specs.declared.blocks.Access.TheVariants.{ReadWrite, ReadOnly}
use Rattle.pfs_script.specs.declared.blocks.Block.{Block}
use Rattle.pfs_script.specs.declared.blocks.BlockLine.{BlockLine}
use Rattle.pfs_script.specs.declared.blocks.BlockLine.TheVariants as said
use Rattle.pfs_script.specs.declared.blocks.Connect.{Connect}
use Rattle.pfs_script.specs.declared.blocks.Phase.{Phase}
use Rattle.pfs_script.specs.Events.{blocks_for, events_for, Event, plain_subject}
use Rattle.pfs_script.specs.Events.{Subject as Said}
use Rattle.pfs_script.specs.Marks.{written_out}

-- the id of a class that isn't lost
abbrev pub class_in : ClassRef → Option ℕ
class_in (refs.Class id) = Some id
class_in (refs.Lost kind) = None

-- the cell of a slot in which events of a class count; those of a lost class count in none
abbrev pub class_cell : Option ℕ → ℕ
class_cell None = 0
class_cell (Some class) = class

-- a READ ONLY transaction counts in the last of the 64 cells
abbrev pub cell_in : Option Access → Option ℕ → ℕ
cell_in None class = class_cell class
cell_in (Some ReadWrite) class = class_cell class
cell_in (Some ReadOnly) class = 63

-- what a line starts
abbrev pub subject_in : Said → Subject
subject_in one = record {
  kind = one.kind;
  class = class_in one.class;
  cell = cell_in one.access (class_in one.class);
  table = one.table;
  digest = one.digest;
}

abbrev pub wait_on : ClassRef → Option ℕ → Subject
wait_on class table = subject_in (record {
  kind = kinds.Wait;
  class = class;
  table = table;
  digest = None;
  access = None;
})

abbrev pub statement_on : ClassRef → Option ℕ → Subject
statement_on class digest = subject_in (record {
  kind = kinds.Statement;
  class = class;
  table = None;
  digest = digest;
  access = None;
})

-- a transaction is of the class 62
abbrev pub transaction_on : Access → Subject
transaction_on access = subject_in (record {
  kind = kinds.Transaction;
  class = refs.Class 62;
  table = None;
  digest = None;
  access = Some access;
})

abbrev pub stage_on : ClassRef → Subject
stage_on class = subject_in (plain_subject kinds.Stage class)

-- a text that is refused is no action, and neither is a SELECT whose rows are read of the store
abbrev pub sql_line : Request → Line
sql_line (requests.Refused error) = told.Refused error
sql_line (requests.Truncate what) = told.Change
sql_line (requests.Update update) = told.Change
sql_line (requests.Insert insert) = told.Change
sql_line (requests.Delete delete) = told.Change
sql_line (requests.Query select) = told.Query
sql_line (requests.Show select) = told.Show

-- a line of a block, repeats written out. The lines that begin and end a repeat stand nowhere among lines that are
-- written out: these ask for nothing
abbrev pub line_in : BlockLine → Line
line_in (said.Wait class) = told.Start (wait_on class None)
line_in (said.TableWait class table) = told.Start (wait_on class (Some table))
line_in (said.Statement class digest) = told.Start (statement_on class digest)
line_in (said.Transaction access) = told.Start (transaction_on access)
line_in (said.Stage class) = told.Stage (stage_on class)
line_in said.StageEnd = told.StageEnd
line_in (said.Spend time) = told.Spend
line_in said.End = told.End
line_in (said.EndStatement numbers) = told.End
line_in said.Quit = told.Quit
line_in (said.Sql text) = sql_line (request_of text)
line_in (said.Repeat times) = told.Spend
line_in said.Done = told.Spend

-- a session's first block connects it
abbrev pub connect_lines : Option Connect → List Line
connect_lines None = []
connect_lines (Some names) = told.Connect ∷ []

-- all lines of a block, and its end
abbrev pub lines_in : Block → List Line
lines_in block = connect_lines block.connect ++ (map line_in (written_out block.lines) ++ told.Close ∷ [])

-- the administration lines of a block: its connect, its actions by SQL and a quit; a SELECT on the administration's own
-- tables changes nothing, and has its place among the actions
abbrev pub connect_changes : Option Connect → List Change
connect_changes None = []
connect_changes (Some names) = changes.Connect names.user names.host ∷ []

abbrev pub sql_changes : Request → List Change
sql_changes (requests.Truncate what) = changes.Truncate what ∷ []
sql_changes (requests.Update update) = changes.Setup (statements.Update update) ∷ []
sql_changes (requests.Insert insert) = changes.Setup (statements.Insert insert) ∷ []
sql_changes (requests.Delete delete) = changes.Setup (statements.Delete delete) ∷ []
sql_changes (requests.Refused error) = []
sql_changes (requests.Query select) = []
sql_changes (requests.Show select) = changes.Setup statements.Show ∷ []

abbrev pub changes_on : BlockLine → List Change
changes_on said.Quit = changes.Quit ∷ []
changes_on (said.Sql text) = sql_changes (request_of text)
changes_on _ = []

abbrev pub changes_in : Block → List Change
changes_in block = connect_changes block.connect ++ flat_map changes_on (written_out block.lines)

-- the change of a label: the session's administration line of that number, counted from 1 over all phases
abbrev pub change_in : List Phase → Label → Change
change_in phases label =
    slice_index_or (flat_map changes_in (blocks_for label.session phases)) (label.line - 1) (changes.Setup statements.Show)

-- what the script says of an event: the clock and how long it took, modulo 2^64, and a statement's numbers. One that
-- isn't closed has taken no time
abbrev pub facts_of : Event → Facts
facts_of event = record {
  start = event.clock % 2 ^ 64;
  duration = unwrap_or event.lasted 0 % 2 ^ 64;
  lock = event.numbers.lock;
  errors = event.numbers.errors;
  warnings = event.numbers.warnings;
  affected = event.numbers.affected;
  sent = event.numbers.sent;
  examined = event.numbers.examined;
}

abbrev pub no_facts : Facts
no_facts = record {
  start = 0;
  duration = 0;
  lock = 0;
  errors = 0;
  warnings = 0;
  affected = 0;
  sent = 0;
  examined = 0;
}

abbrev pub facts_if : Option Event → Facts
facts_if None = no_facts
facts_if (Some event) = facts_of event

-- the facts of a session's events, in the order of their openings
abbrev pub facts_in : List Phase → ℕ → ℕ → Facts
facts_in phases session index = facts_if (slice_get (events_for session phases) index)
